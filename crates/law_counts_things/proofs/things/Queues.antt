-- What each mutex keeps at its home: nobody waits for a content that is in, and without a share the content is out.
use Rattle.std.proofs.Common.{◌≡◌, ℕ, ◌+◌, ◌-◌, ◌==◌, ◌&&◌, nat_lt, ◌^◌, Bool, true, false, if◌then◌else◌, List, [], ◌∷◌, ◌++◌, Option, Some, None, refl, ap, ◌∙◌, arith}
use Rattle.std.specs.List.{AllByRecursion}
use Rattle.std.proofs.lemmas.Bool.Decides.{nat_tests}
use Rattle.law_counts_sums.specs.Below.fr_base.declared.name.MutexNo.{MutexNo}
use Rattle.law_counts_sums.specs.Below.heap_partition.declared.value.Owned.{Owned}
use Rattle.law_counts_sums.specs.Below.mutex_home.Mutexes.{Mutex, Mutexes, mutex_in, put_mutex, end_mutex, asked_of, asked_in, ask, back_to, back_out, back_in, give_back, more_in, more, last_less, less_of, less_in, less}
use Rattle.law_counts_sums.specs.Below.mutex_home.declared.answers.Back.{Back}
use Rattle.law_counts_sums.specs.Below.server_msgs.declared.message.Message.{Message}
use Rattle.law_counts_sums.specs.Below.journal.View.{EntryView}
use Rattle.law_counts_sums.specs.Below.server_model.declared.event.Event.{Event}
use Rattle.law_counts_sums.specs.Below.server_model.Servers.{Rest, Server, Cluster, server_at}
use Rattle.law_counts_sums.specs.Below.server_model.Events.{enabled}
use Rattle.law_counts_sums.specs.Below.server_model.Clusters.{done_at, act_at, apply}
use Rattle.law_counts_sums.specs.Below.coherent_memory.Things.{things_at, content_things, queue_things, mutex_things, standing_things, waiting_things, leaving_things, message_things, task_things, server_things, things_of}
use Rattle.law_counts_sums.proofs.Below.coherent_memory.Sums.{tot-append, server_parts}
use Rattle.law_counts_sums.specs.Laws.{Gives, FewEvents}
use Rattle.law_counts_sums.proofs.Results.{then_gives, over_gives, test_gives, weaker}
use Rattle.law_counts_sums.proofs.Known.{all_append}
use Rattle.law_counts_sums.proofs.Unseen.{Unseen, none_at, thread_alone, content_none, result_none, partition_none, copies_none}
use Rattle.law_counts_sums.proofs.Events.{tot-server}
use Rattle.law_counts_sums.proofs.Applied.{handed_on}
use Rattle.law_counts_sums.proofs.Sending.{each_event_sends}
use Rattle.law_counts_things.specs.things.Laws.{EachEventKeeps}
use Rattle.law_counts_things.proofs.things.Handed.{all_none, none_all}
use Rattle.law_counts_things.proofs.things.Rests.{Parts, rests}
use Rattle.law_counts_things.proofs.things.MutexLists.{found, put_all, ends_all, given}
use Rattle.law_counts_sums.specs.Below.coherent_memory.Names.{tot, one, if_so}
use Rattle.law_counts_sums.specs.Below.coherent_memory.Things.{Thing, at_home}
use Rattle.law_counts_sums.specs.Below.coherent_memory.Sharing.{queued_inside, kept_for_none}
use Rattle.law_counts_sums.specs.Below.coherent_memory.Coherent.{IsSound, queue_while_out, content_without_shares}
use Rattle.std.specs.Prelude.{is_some, length}

-- nobody waits where the content is in, and where it is in there is a share
pub record Calm (m : Mutex) : Type 0 where
  pub quiet : if_so (is_some m.content) (length m.queue) ≡ 0
  pub shared : one (m.shares == 0 && is_some m.content) ≡ 0

calm_out : (m : Mutex) → m.content ≡ None → Calm m
calm_out m e = record { quiet = ap (λ c. if_so (is_some c) (length m.queue)) e; shared = ap (λ c. one (m.shares == 0 && is_some c)) e ∙ by (m.shares == 0) }
  where
    by : (b : Bool) → one (b && false) ≡ 0
    by true = refl
    by false = refl

calm_in : (m : Mutex) → length m.queue ≡ 0 → (m.shares == 0) ≡ false → Calm m
calm_in m q e = record { quiet = by (is_some m.content) (length m.queue) q; shared = ap (λ b. one (b && is_some m.content)) e }
  where
    by : (b : Bool) (n : ℕ) → n ≡ 0 → if_so b n ≡ 0
    by true n e = e
    by false n e = refl

calm_shared : (m : Mutex) (n : ℕ) → (n == 0) ≡ false → Calm m → Calm (record m { shares = n })
calm_shared m n e a = record { quiet = a.quiet; shared = ap (λ b. one (b && is_some m.content)) e }

abbrev All : Mutexes → Type 0
All ms = AllByRecursion Calm ms.there

abbrev Left : {X : Type 0} → Mutexes × X → Type 0
Left p = All p.0

asks : (ms : Mutexes) (m : MutexNo) (s t : ℕ) → All ms → Gives Left (ask ms m s t)
asks ms m s t a = by (mutex_in ms.there m)
  where
    of : (x : Mutex) (c : Option Owned) → x.content ≡ c → Left (asked_of ms s t c x)
    of x None e = put_all Calm ms.there (record x { queue = x.queue ++ (s, t) ∷ [] }) a (calm_out (record x { queue = x.queue ++ (s, t) ∷ [] }) e)
    of x (Some v) e = put_all Calm ms.there (record x { content = None }) a (calm_out (record x { content = None }) refl)

    by : (o : Option Mutex) → Gives Left (asked_in ms s t o)
    by None = tt
    by (Some x) = of x x.content refl

backs : (ms : Mutexes) (m : MutexNo) (v : Owned) → All ms → Gives Left (give_back ms m v)
backs ms m v a = by (mutex_in ms.there m)
  where
    alone : (x : Mutex) (b : Bool) → (x.shares == 0) ≡ b → x.queue ≡ [] → Left (if b then (end_mutex ms x.number, Rattle.law_counts_sums.specs.Below.mutex_home.declared.answers.Back.TheVariants.Ended v) else (put_mutex ms (record x { content = Some v }), Rattle.law_counts_sums.specs.Below.mutex_home.declared.answers.Back.TheVariants.Kept))
    alone x true e q = ends_all Calm ms.there x.number a
    alone x false e q = put_all Calm ms.there (record x { content = Some v }) a (calm_in (record x { content = Some v }) (ap length q) e)

    queue : (x : Mutex) (l : List (ℕ × ℕ)) → x.queue ≡ l → x.content ≡ None → Left (back_to ms v x l)
    queue x [] q e = alone x (x.shares == 0) refl q
    queue x (first ∷ rest) q e = put_all Calm ms.there (record x { queue = rest }) a (calm_out (record x { queue = rest }) e)

    content : (x : Mutex) (c : Option Owned) → x.content ≡ c → Gives Left (back_out ms v x c)
    content x None e = queue x x.queue refl e
    content x (Some u) e = tt

    by : (o : Option Mutex) → Gives Left (back_in ms v o)
    by None = tt
    by (Some x) = content x x.content refl

one_more : (n : ℕ) → (n + 1 == 0) ≡ false
one_more n = grind (arith, nat_tests)

one_less : (n : ℕ) → nat_lt 0 n ≡ true → (n == 1) ≡ false → (n - 1 == 0) ≡ false
one_less n l e = grind (arith, nat_tests, l, e)

mores : (ms : Mutexes) (m : MutexNo) → All ms → Gives All (more ms m)
mores ms m a = by (mutex_in ms.there m) (found Calm ms.there m a)
  where
    by : (o : Option Mutex) → Gives Calm o → Gives All (more_in ms o)
    by None p = tt
    by (Some x) p = test_gives All (nat_lt 0 x.shares && nat_lt x.shares (2 ^ 64 - 1)) _ (λ z. put_all Calm ms.there (record x { shares = x.shares + 1 }) a (calm_shared x (x.shares + 1) (one_more x.shares) p))

lesses : (ms : Mutexes) (m : MutexNo) → All ms → Gives Left (less ms m)
lesses ms m a = by (mutex_in ms.there m) (found Calm ms.there m a)
  where
    last : (x : Mutex) (c : Option Owned) → x.content ≡ c → Left (last_less ms x c)
    last x None e = put_all Calm ms.there (record x { shares = 0 }) a (calm_out (record x { shares = 0 }) e)
    last x (Some v) e = ends_all Calm ms.there x.number a

    one_of : (x : Mutex) (b : Bool) → (x.shares == 1) ≡ b → nat_lt 0 x.shares ≡ true → Calm x → Left (if b then last_less ms x x.content else (put_mutex ms (record x { shares = x.shares - 1 }), None))
    one_of x true e l p = last x x.content refl
    one_of x false e l p = put_all Calm ms.there (record x { shares = x.shares - 1 }) a (calm_shared x (x.shares - 1) (one_less x.shares l e) p)

    by : (o : Option Mutex) → Gives Calm o → Gives Left (less_in ms o)
    by None p = tt
    by (Some x) p = test_gives Left (nat_lt 0 x.shares) (Some (less_of ms x)) (λ z. one_of x (x.shares == 1) refl z p)

abbrev R : Rest → Type 0
R r = All r.mutexes

calms : Parts R
calms = record {
  sent = λ t m r a. by (t == r.number) t m r a;
  received = λ i r a. a;
  stores = λ w v r e a. a;
  frees = λ w o c r e a. a;
  makes = λ c r e a. a;
  renews = λ w r e a. a;
  pins = λ w r e a. a;
  unpins = λ w r e a. a;
  unpins_all = λ ws cs r e a. a;
  fills = λ w c r e a. a;
  evicts = λ w r e a. a;
  mutex = λ v r e a. all_append Calm r.mutexes.there _ a (record { quiet = refl; shared = refl }, tt);
  asked = λ m s t r p e a. given Left (ask r.mutexes m s t) p (asks r.mutexes m s t a) e;
  given = λ m v r p e a. given Left (give_back r.mutexes m v) p (backs r.mutexes m v a) e;
  shared = λ m r ms e a. given All (more r.mutexes m) ms (mores r.mutexes m a) e;
  less_shared = λ m r p e a. given Left (less r.mutexes m) p (lesses r.mutexes m a) e;
  began = λ r e a. a;
  pair = λ parent r e a. a;
  counted = λ r a. a;
  joined = λ u s b r p e a. a;
  let_go = λ u r p e a. a;
  over = λ u v r p e a. a;
}
  where
    by : (b : Bool) (t : ℕ) (m : Message) (r : Rest) → R r → R (if b then record r { inbox = r.inbox ++ m ∷ [] } else record r { outbox = r.outbox ++ record { target = t; message = m } ∷ [] })
    by true t m r a = a
    by false t m r a = a

-- IN A CLUSTER

-- both of a mutex at its home
abbrev restless : Thing → ℕ
restless (at_home s m) = if_so (is_some m.content) (length m.queue) + one (m.shares == 0 && is_some m.content)
restless x = 0

both : (b : List Thing) → tot restless b ≡ tot queued_inside b + tot kept_for_none b
both [] = refl
both (at_home s m ∷ b) = omega (arith, both b)
both (_ ∷ b) = omega (arith, both b)

unseen : (n : ℕ) → Unseen restless n
unseen n = record { held = λ p v. refl; shared = λ l r. refl; borrowed = λ l r. refl; locked = λ l m. refl; live = λ a c. refl; free = λ a m. refl; old = λ a. refl; copy = λ s c. refl; used = λ s x. refl }

mutex_alone : (n i : ℕ) (m : Mutex) → tot restless (mutex_things n i m) ≡ if_so (is_some m.content) (length m.queue) + one (m.shares == 0 && is_some m.content)
mutex_alone n i m =
    omega (arith, content_none restless n (unseen n) m, none_at restless n (unseen n) (queue_things m.number) (λ j x. refl) 0 m.queue, tot-append restless (content_things m.number m.content) (things_at (queue_things m.number) 0 m.queue))

message_none : (n : ℕ) (m : Message) → tot restless (message_things n m) ≡ 0
message_none n (Rattle.law_counts_sums.specs.Below.server_msgs.declared.message.Message.TheVariants.Start t) = omega (arith, thread_alone restless n (unseen n) n true t)
message_none n (Rattle.law_counts_sums.specs.Below.server_msgs.declared.message.Message.TheVariants.Migrate t) = omega (arith, thread_alone restless n (unseen n) n true t)
message_none n _ = refl

mutexes_alone : (s : Server) → tot restless (server_things s) ≡ tot restless (things_at (mutex_things s.rest.number) 0 s.rest.mutexes.there)
mutexes_alone s =
    let n = s.rest.number in
    omega (
      arith,
      server_parts restless s,
      partition_none restless n (unseen n) s.rest.partition,
      copies_none restless n (unseen n) n s.rest.cache,
      none_at restless n (unseen n) (task_things n) (λ i x. omega (arith, result_none restless n (unseen n) x.thread x.state)) 0 s.rest.tasks,
      none_at restless n (unseen n) (standing_things n) (λ i x. omega (arith, thread_alone restless n (unseen n) n false x)) 0 s.threads,
      none_at restless n (unseen n) (waiting_things n) (λ i x. message_none n x) 0 s.rest.inbox,
      none_at restless n (unseen n) leaving_things (λ i x. message_none x.target x.message) 0 s.rest.outbox,
    )

abbrev AllCalm : Cluster → Type 0
AllCalm c = tot restless (things_of c) ≡ 0

acted : (k : Cluster) (e : Event) → IsSound k → FewEvents k → Gives (λ (d : Cluster × EntryView). AllCalm d.0) (act_at k e)
acted k e sound few =
    let queues : tot queued_inside (things_of k) ≡ 0 = sound.mutexes_and_tasks.queue_while_out in
    let kept : tot kept_for_none (things_of k) ≡ 0 = sound.mutexes_and_tasks.content_without_shares in
    let all : tot restless (things_of k) ≡ 0 = omega (arith, both (things_of k), queues, kept) in
    then_gives (λ (d : Cluster × EntryView). AllCalm d.0) (server_at k.servers e.server) _ (λ s here.
    let n = s.rest.number in
    let before : tot restless (things_at (mutex_things n) 0 s.rest.mutexes.there) ≡ 0 = omega (arith, all, (tot-server restless k.servers e.server s s here).0, mutexes_alone s) in
    let start : R s.rest = all_none restless (mutex_things n) Calm (λ i x z. record { quiet = omega (arith, z, mutex_alone n i x); shared = omega (arith, z, mutex_alone n i x) }) 0 s.rest.mutexes.there before in
    over_gives (λ (r : Server × EntryView). R r.0.rest) (λ (d : Cluster × EntryView). AllCalm d.0) (done_at k e.what s) _
    (test_gives (λ (r : Server × EntryView). R r.0.rest) (enabled k.options s e.what) _ (λ on. rests calms k.code k.options s e.what start))
    (λ r u.
    let m = r.0.rest.number in
    let after = none_all restless (mutex_things m) Calm (λ i x z. omega (arith, mutex_alone m i x, z.quiet, z.shared)) 0 r.0.rest.mutexes.there u in
    omega (arith, all, (tot-server restless k.servers e.server s r.0 here).0, (tot-server restless k.servers e.server s r.0 here).1, mutexes_alone r.0, after)))

calm_kept : (k : Cluster) (e : Event) → IsSound k → FewEvents k → Gives (λ (d : Cluster × EntryView). AllCalm d.0) (apply k e)
calm_kept k e sound few = handed_on AllCalm (λ c a b same z. omega (arith, z, same restless)) k e (each_event_sends k e sound few) (acted k e sound few)

pub queues_kept : EachEventKeeps queue_while_out
queues_kept k e sound few = weaker (λ (d : Cluster × EntryView). AllCalm d.0) (λ (d : Cluster × EntryView). tot queued_inside (things_of d.0) ≡ 0) (apply k e) (calm_kept k e sound few) (λ d z. omega (arith, z, both (things_of d.0)))

pub shares_kept : EachEventKeeps content_without_shares
shares_kept k e sound few = weaker (λ (d : Cluster × EntryView). AllCalm d.0) (λ (d : Cluster × EntryView). tot kept_for_none (things_of d.0) ≡ 0) (apply k e) (calm_kept k e sound few) (λ d z. omega (arith, z, both (things_of d.0)))
