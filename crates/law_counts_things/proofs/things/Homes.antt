-- Mutexes stand at the server of their number.
use Rattle.std.proofs.Common.{◌≡◌, ℕ, ◌+◌, ◌-◌, ◌==◌, ◌&&◌, nat_lt, ◌^◌, Bool, true, false, if◌then◌else◌, List, [], ◌∷◌, ◌++◌, Option, Some, None, refl, sym, ap, subst, ◌∙◌, arith}
use Rattle.std.specs.List.{AllByRecursion}
use Rattle.std.proofs.lemmas.Bool.{eq-eqb}
use Rattle.std.proofs.lemmas.Bool.Decides.{nat_tests}
use Rattle.law_counts_sums.specs.Below.fr_base.declared.name.MutexNo.{MutexNo}
use Rattle.law_counts_sums.specs.Below.heap_partition.declared.value.Owned.{Owned}
use Rattle.law_counts_sums.specs.Below.mutex_home.Mutexes.{Mutex, Mutexes, mutex_in, put_mutex, end_mutex, asked_of, asked_in, ask, back_to, back_out, back_in, give_back, more_in, more, last_less, less_of, less_in, less}
use Rattle.law_counts_sums.specs.Below.mutex_home.declared.answers.Back.{Back}
use Rattle.law_counts_sums.specs.Below.server_msgs.declared.message.Message.{Message}
use Rattle.law_counts_sums.specs.Below.journal.View.{EntryView}
use Rattle.law_counts_sums.specs.Below.server_model.declared.event.Event.{Event}
use Rattle.law_counts_sums.specs.Below.server_model.Servers.{Rest, Server, Cluster, server_at}
use Rattle.law_counts_sums.specs.Below.server_model.Events.{enabled}
use Rattle.law_counts_sums.specs.Below.server_model.Clusters.{done_at, act_at}
use Rattle.law_counts_sums.specs.Below.coherent_memory.Names.{tot, other}
use Rattle.law_counts_sums.specs.Below.coherent_memory.Things.{things_at, content_things, queue_things, mutex_things, standing_things, waiting_things, leaving_things, message_things, task_things, server_things, things_of}
use Rattle.law_counts_sums.specs.Below.coherent_memory.Sight.{Sight, sight}
use Rattle.law_counts_sums.specs.Below.coherent_memory.Sharing.{elsewhere}
use Rattle.law_counts_sums.specs.Below.coherent_memory.Naming.{servers_wrong, pinned_parcel}
use Rattle.law_counts_sums.specs.Below.coherent_memory.Walking.{sum_threads}
use Rattle.law_counts_sums.specs.Below.coherent_memory.Coherent.{IsSound, at_their_home}
use Rattle.law_counts_sums.proofs.Below.coherent_memory.Names.{left_none}
use Rattle.law_counts_sums.proofs.Below.coherent_memory.Sums.{tot-append, server_parts}
use Rattle.law_counts_sums.specs.Laws.{Gives, FewEvents}
use Rattle.law_counts_sums.proofs.Results.{then_gives, over_gives, test_gives}
use Rattle.law_counts_sums.proofs.Known.{all_append}
use Rattle.law_counts_sums.proofs.Unseen.{Unseen, none_at, thread_alone, content_none, result_none, partition_none, copies_none}
use Rattle.law_counts_sums.proofs.Events.{tot-server}
use Rattle.law_counts_sums.proofs.Applied.{handed_on}
use Rattle.law_counts_sums.proofs.Sending.{each_event_sends}
use Rattle.law_counts_things.specs.things.Laws.{EachEventKeeps}
use Rattle.law_counts_things.proofs.things.Handed.{all_none, none_all}
use Rattle.law_counts_things.proofs.things.Rests.{Parts, rests}
use Rattle.law_counts_things.proofs.things.MutexLists.{found, put_all, ends_all, given}

-- MUTEXES OF ONE HOME

-- the home is n, and so is that of each mutex that is there
pub record AtHome (n : ℕ) (ms : Mutexes) : Type 0 where
  pub home : ms.home ≡ n
  pub there : AllByRecursion (λ (x : Mutex). x.number.home ≡ n) ms.there

module _ (n : ℕ) where
  abbrev Own : Mutex → Type 0
  Own x = x.number.home ≡ n

  puts : (ms : Mutexes) (x : Mutex) → Own x → AtHome n ms → AtHome n (put_mutex ms x)
  puts ms x p a = record { home = a.home; there = put_all Own ms.there x a.there p }

  ends : (ms : Mutexes) (m : MutexNo) → AtHome n ms → AtHome n (end_mutex ms m)
  ends ms m a = record { home = a.home; there = ends_all Own ms.there m a.there }

  -- what is left is there
  abbrev Left : {X : Type 0} → Mutexes × X → Type 0
  Left p = AtHome n p.0

  asks : (ms : Mutexes) (m : MutexNo) (s t : ℕ) → AtHome n ms → Gives Left (ask ms m s t)
  asks ms m s t a = by (mutex_in ms.there m) (found Own ms.there m a.there)
    where
      of : (x : Mutex) (c : Option Owned) → Own x → Left (asked_of ms s t c x)
      of x None p = puts ms (record x { queue = x.queue ++ (s, t) ∷ [] }) p a
      of x (Some v) p = puts ms (record x { content = None }) p a

      by : (o : Option Mutex) → Gives Own o → Gives Left (asked_in ms s t o)
      by None p = tt
      by (Some x) p = of x x.content p

  backs : (ms : Mutexes) (m : MutexNo) (v : Owned) → AtHome n ms → Gives Left (give_back ms m v)
  backs ms m v a = by (mutex_in ms.there m) (found Own ms.there m a.there)
    where
      alone : (x : Mutex) (b : Bool) → Own x → Left (if b then (end_mutex ms x.number, Rattle.law_counts_sums.specs.Below.mutex_home.declared.answers.Back.TheVariants.Ended v) else (put_mutex ms (record x { content = Some v }), Rattle.law_counts_sums.specs.Below.mutex_home.declared.answers.Back.TheVariants.Kept))
      alone x true p = ends ms x.number a
      alone x false p = puts ms (record x { content = Some v }) p a

      queue : (x : Mutex) (l : List (ℕ × ℕ)) → Own x → Left (back_to ms v x l)
      queue x [] p = alone x (x.shares == 0) p
      queue x (first ∷ rest) p = puts ms (record x { queue = rest }) p a

      content : (x : Mutex) (c : Option Owned) → Own x → Gives Left (back_out ms v x c)
      content x None p = queue x x.queue p
      content x (Some u) p = tt

      by : (o : Option Mutex) → Gives Own o → Gives Left (back_in ms v o)
      by None p = tt
      by (Some x) p = content x x.content p

  mores : (ms : Mutexes) (m : MutexNo) → AtHome n ms → Gives (AtHome n) (more ms m)
  mores ms m a = by (mutex_in ms.there m) (found Own ms.there m a.there)
    where
      by : (o : Option Mutex) → Gives Own o → Gives (AtHome n) (more_in ms o)
      by None p = tt
      by (Some x) p = test_gives (AtHome n) (nat_lt 0 x.shares && nat_lt x.shares (2 ^ 64 - 1)) _ (λ z. puts ms (record x { shares = x.shares + 1 }) p a)

  lesses : (ms : Mutexes) (m : MutexNo) → AtHome n ms → Gives Left (less ms m)
  lesses ms m a = by (mutex_in ms.there m) (found Own ms.there m a.there)
    where
      last : (x : Mutex) (c : Option Owned) → Own x → Left (last_less ms x c)
      last x None p = puts ms (record x { shares = 0 }) p a
      last x (Some v) p = ends ms x.number a

      one : (x : Mutex) (b : Bool) → Own x → Left (if b then last_less ms x x.content else (put_mutex ms (record x { shares = x.shares - 1 }), None))
      one x true p = last x x.content p
      one x false p = puts ms (record x { shares = x.shares - 1 }) p a

      by : (o : Option Mutex) → Gives Own o → Gives Left (less_in ms o)
      by None p = tt
      by (Some x) p = test_gives Left (nat_lt 0 x.shares) (Some (less_of ms x)) (λ z. one x (x.shares == 1) p)

-- IN A CLUSTER

same_number : (a b : ℕ) → other (a == b) ≡ 0 → a ≡ b
same_number a b z = by (a == b) refl z
  where
    by : (c : Bool) → (a == b) ≡ c → other c ≡ 0 → a ≡ b
    by true e z = grind (arith, nat_tests, e)
    by false e z = absurd (cc z)

unseen : (n : ℕ) → Unseen elsewhere n
unseen n = record { held = λ p v. refl; shared = λ l r. refl; borrowed = λ l r. refl; locked = λ l m. refl; live = λ a c. refl; free = λ a m. refl; old = λ a. refl; copy = λ s c. refl; used = λ s x. refl }

mutex_alone : (n i : ℕ) (m : Mutex) → tot elsewhere (mutex_things n i m) ≡ other (m.number.home == n)
mutex_alone n i m =
    omega (arith, content_none elsewhere n (unseen n) m, none_at elsewhere n (unseen n) (queue_things m.number) (λ j x. refl) 0 m.queue, tot-append elsewhere (content_things m.number m.content) (things_at (queue_things m.number) 0 m.queue))

message_none : (n : ℕ) (m : Message) → tot elsewhere (message_things n m) ≡ 0
message_none n (Rattle.law_counts_sums.specs.Below.server_msgs.declared.message.Message.TheVariants.Start t) = omega (arith, thread_alone elsewhere n (unseen n) n true t)
message_none n (Rattle.law_counts_sums.specs.Below.server_msgs.declared.message.Message.TheVariants.Migrate t) = omega (arith, thread_alone elsewhere n (unseen n) n true t)
message_none n _ = refl

-- of a server it sees the mutexes
mutexes_alone : (s : Server) → tot elsewhere (server_things s) ≡ tot elsewhere (things_at (mutex_things s.rest.number) 0 s.rest.mutexes.there)
mutexes_alone s =
    let n = s.rest.number in
    omega (
      arith,
      server_parts elsewhere s,
      partition_none elsewhere n (unseen n) s.rest.partition,
      copies_none elsewhere n (unseen n) n s.rest.cache,
      none_at elsewhere n (unseen n) (task_things n) (λ i x. omega (arith, result_none elsewhere n (unseen n) x.thread x.state)) 0 s.rest.tasks,
      none_at elsewhere n (unseen n) (standing_things n) (λ i x. omega (arith, thread_alone elsewhere n (unseen n) n false x)) 0 s.threads,
      none_at elsewhere n (unseen n) (waiting_things n) (λ i x. message_none n x) 0 s.rest.inbox,
      none_at elsewhere n (unseen n) leaving_things (λ i x. message_none x.target x.message) 0 s.rest.outbox,
    )

-- the list of mutexes at a server of the run is that of its number
listed_at : (q : Sight) (m n : ℕ) (ss : List Server) (s : Server) → servers_wrong q m ss ≡ 0 → server_at ss n ≡ Some s → s.rest.mutexes.home ≡ s.rest.number
listed_at q m n [] s z h = absurd (cc h)
listed_at q m n (x ∷ ss) s z h =
    let numbered : x.rest.number ≡ m = same_number x.rest.number m (omega (arith, z)) in
    let listed : x.rest.mutexes.home ≡ m = same_number x.rest.mutexes.home m (omega (arith, z)) in
    by (x.rest.number == n) (λ g. listed_at q (m + 1) n ss s (omega (arith, z)) g) h (listed ∙ sym numbered)
  where
    by : (b : Bool) → (server_at ss n ≡ Some s → s.rest.mutexes.home ≡ s.rest.number) → (if b then Some x else server_at ss n) ≡ Some s → x.rest.mutexes.home ≡ x.rest.number → s.rest.mutexes.home ≡ s.rest.number
    by true go e own = let same : x ≡ s = cc in subst (λ (y : Server). y.rest.mutexes.home ≡ y.rest.number) same own
    by false go e own = go e

abbrev AllHome : Cluster → Type 0
AllHome c = tot elsewhere (things_of c) ≡ 0

-- a server has its number, and its mutexes are at home
abbrev Numbered : ℕ → Rest → Type 0
Numbered n r = (r.number ≡ n) × AtHome n r.mutexes

-- each change of a server leaves it so
homes : (n : ℕ) → Parts (Numbered n)
homes n = record {
  sent = λ t m r a. by (t == r.number) t m r a;
  received = λ i r a. a;
  stores = λ w v r e a. a;
  frees = λ w o c r e a. a;
  makes = λ c r e a. a;
  renews = λ w r e a. a;
  pins = λ w r e a. a;
  unpins = λ w r e a. a;
  unpins_all = λ ws cs r e a. a;
  fills = λ w c r e a. a;
  evicts = λ w r e a. a;
  mutex = λ v r e a. let own : AtHome n r.mutexes = a.1 in (a.0, record { home = own.home; there = all_append (Own n) r.mutexes.there _ own.there (own.home, tt) });
  asked = λ m s t r p e a. (a.0, given (Left n) (ask r.mutexes m s t) p (asks n r.mutexes m s t a.1) e);
  given = λ m v r p e a. (a.0, given (Left n) (give_back r.mutexes m v) p (backs n r.mutexes m v a.1) e);
  shared = λ m r ms e a. (a.0, given (AtHome n) (more r.mutexes m) ms (mores n r.mutexes m a.1) e);
  less_shared = λ m r p e a. (a.0, given (Left n) (less r.mutexes m) p (lesses n r.mutexes m a.1) e);
  began = λ r e a. a;
  pair = λ parent r e a. a;
  counted = λ r a. a;
  joined = λ u s b r p e a. a;
  let_go = λ u r p e a. a;
  over = λ u v r p e a. a;
}
  where
    by : (b : Bool) (t : ℕ) (m : Message) (r : Rest) → Numbered n r → Numbered n (if b then record r { inbox = r.inbox ++ m ∷ [] } else record r { outbox = r.outbox ++ record { target = t; message = m } ∷ [] })
    by true t m r a = a
    by false t m r a = a

self_none : (n : ℕ) → other (n == n) ≡ 0
self_none n = ap other (eq-eqb n n refl)

acted : (k : Cluster) (e : Event) → IsSound k → FewEvents k → Gives (λ (d : Cluster × EntryView). AllHome d.0) (act_at k e)
acted k e sound few =
    let run : servers_wrong (sight k) 0 k.servers ≡ 0 = left_none (servers_wrong (sight k) 0 k.servers) (sum_threads (sight k) pinned_parcel) sound.parts.parts_are_typed in
    let all : tot elsewhere (things_of k) ≡ 0 = sound.mutexes_and_tasks.at_their_home in
    then_gives (λ (d : Cluster × EntryView). AllHome d.0) (server_at k.servers e.server) _ (λ s here.
    let n = s.rest.number in
    let before : tot elsewhere (things_at (mutex_things n) 0 s.rest.mutexes.there) ≡ 0 = omega (arith, all, (tot-server elsewhere k.servers e.server s s here).0, mutexes_alone s) in
    let start : Numbered n s.rest = (
      refl,
      record {
        home = listed_at (sight k) 0 e.server k.servers s run here;
        there = all_none elsewhere (mutex_things n) (λ (x : Mutex). x.number.home ≡ n) (λ i x z. same_number x.number.home n (omega (arith, z, mutex_alone n i x))) 0 s.rest.mutexes.there before;
      },
    ) in
    over_gives (λ (r : Server × EntryView). Numbered n r.0.rest) (λ (d : Cluster × EntryView). AllHome d.0) (done_at k e.what s) _
    (test_gives (λ (r : Server × EntryView). Numbered n r.0.rest) (enabled k.options s e.what) _ (λ on. rests (homes n) k.code k.options s e.what start))
    (λ r u.
    let m = r.0.rest.number in
    let own : AtHome n r.0.rest.mutexes = u.1 in
    let there : AllByRecursion (λ (x : Mutex). x.number.home ≡ m) r.0.rest.mutexes.there = subst (λ i. AllByRecursion (λ (x : Mutex). x.number.home ≡ i) r.0.rest.mutexes.there) (sym u.0) own.there in
    let after = none_all elsewhere (mutex_things m) (λ (x : Mutex). x.number.home ≡ m) (λ i x z. omega (arith, mutex_alone m i x, subst (λ j. other (j == m) ≡ 0) (sym z) (self_none m))) 0 r.0.rest.mutexes.there there in
    omega (arith, all, (tot-server elsewhere k.servers e.server s r.0 here).0, (tot-server elsewhere k.servers e.server s r.0 here).1, mutexes_alone r.0, after)))

pub homes_stay : EachEventKeeps at_their_home
homes_stay k e sound few = handed_on AllHome (λ c a b same z. omega (arith, z, same elsewhere)) k e (each_event_sends k e sound few) (acted k e sound few)
