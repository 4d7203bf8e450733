-- A weight of threads that each thread of a server keeps at nothing is nothing over the cluster, once the messages are handed over.
use Rattle.std.proofs.Common.{◌≡◌, ℕ, ◌+◌, true, false, List, [], ◌∷◌, Some, refl, sym, subst, append-nil, arith}
use Rattle.std.specs.List.{AllByRecursion}
use Rattle.law_counts_sums.specs.Below.fr_base.declared.instruction.Instr.{Instr}
use Rattle.law_counts_sums.specs.Below.thread_state.View.{ThreadState}
use Rattle.law_counts_sums.specs.Below.server_msgs.declared.message.Message.{Message}
use Rattle.law_counts_sums.specs.Below.server_msgs.declared.message.Message.TheVariants as message
use Rattle.law_counts_sums.specs.Below.journal.View.{EntryView}
use Rattle.law_counts_sums.specs.Below.server_model.declared.event.Event.{Event}
use Rattle.law_counts_sums.specs.Below.server_model.Servers.{Sent, Server, Cluster, server_at}
use Rattle.law_counts_sums.specs.Below.server_model.Work.{thread_in}
use Rattle.law_counts_sums.specs.Below.server_model.Events.{enabled}
use Rattle.law_counts_sums.specs.Below.server_model.Clusters.{done_at, act_at, apply}
use Rattle.law_counts_sums.specs.Below.coherent_memory.Names.{tot}
use Rattle.law_counts_sums.specs.Below.coherent_memory.Things.{Thing, things_at, waiting_things, leaving_things, standing_things, message_things, server_things, things_of}
use Rattle.law_counts_sums.specs.Below.coherent_memory.Follow.{Standing, threads_in}
use Rattle.law_counts_sums.specs.Below.coherent_memory.Coherent.{IsSound}
use Rattle.law_counts_sums.proofs.Below.coherent_memory.Sums.{tot-append}
use Rattle.law_counts_sums.specs.Laws.{Gives, FewEvents}
use Rattle.law_counts_sums.proofs.Results.{then_gives, map_gives, over_gives, test_gives, both_give, weaker}
use Rattle.law_counts_sums.proofs.KnownSound.{on_standing, sum_standing}
use Rattle.law_counts_sums.proofs.Unseen.{Unseen, Unnoted, thread_alone, seen_of}
use Rattle.law_counts_sums.proofs.Events.{tot-server}
use Rattle.law_counts_sums.proofs.Applied.{handed_on}
use Rattle.law_counts_sums.proofs.Sending.{each_event_sends}
use Rattle.law_counts_sums.proofs.StandsHere.{found_none}
use Rattle.law_counts_sums.proofs.ThreadThere.{thread_there}
use Rattle.law_counts_things.proofs.things.Mail.{Mailed}
use Rattle.law_counts_things.proofs.things.Threads.{Parcel, Ways, Control, ways, Held, doing}

-- what each of a list has, by a sum over its things
pub all_none : (f : Thing → ℕ) {X : Type 0} (g : ℕ → X → List Thing) (P : X → Type 0) → ((i : ℕ) (x : X) → tot f (g i x) ≡ 0 → P x) → (i : ℕ) (xs : List X) → tot f (things_at g i xs) ≡ 0 → AllByRecursion P xs
all_none f g P go i [] z = tt
all_none f g P go i (x ∷ xs) z =
    let a = tot-append f (g i x) (things_at g (i + 1) xs) in
    (go i x (omega (arith, z, a)), all_none f g P go (i + 1) xs (omega (arith, z, a)))

pub none_all : (f : Thing → ℕ) {X : Type 0} (g : ℕ → X → List Thing) (P : X → Type 0) → ((i : ℕ) (x : X) → P x → tot f (g i x) ≡ 0) → (i : ℕ) (xs : List X) → AllByRecursion P xs → tot f (things_at g i xs) ≡ 0
none_all f g P go i [] a = refl
none_all f g P go i (x ∷ xs) a = omega (arith, go i x a.0, none_all f g P go (i + 1) xs a.1, tot-append f (g i x) (things_at g (i + 1) xs))

module _ (f : Standing → ℕ) where
  abbrev w : Thing → ℕ
  w = on_standing f

  unseen : (n : ℕ) → Unseen w n
  unseen n = record { held = λ p v. refl; shared = λ l r. refl; borrowed = λ l r. refl; locked = λ l m. refl; live = λ a c. refl; free = λ a m. refl; old = λ a. refl; copy = λ s c. refl; used = λ s x. refl }

  unnoted : Unnoted w
  unnoted = record { mutex = λ s m. refl; queue = λ m s t. refl; note = λ s t. refl }

  -- it weighs nothing where it stands at that server; in a parcel there
  abbrev pub Stood : ℕ → ThreadState → Type 0
  Stood n y = f (record { server = n; packed = false; thread = y }) ≡ 0

  abbrev pub InParcel : ℕ → ThreadState → Type 0
  InParcel n y = f (record { server = n; packed = true; thread = y }) ≡ 0

  parcel_from : (n : ℕ) (m : Message) → tot w (message_things n m) ≡ 0 → Parcel InParcel n m
  parcel_from n (message.Start t) z = omega (arith, z, thread_alone w n (unseen n) n true t)
  parcel_from n (message.Migrate t) z = omega (arith, z, thread_alone w n (unseen n) n true t)
  parcel_from n (message.Fetch v b r t) z = tt
  parcel_from n (message.Fetched v c t) z = tt
  parcel_from n (message.Move v b r t) z = tt
  parcel_from n (message.Moved v c t) z = tt
  parcel_from n (message.Drop v b) z = tt
  parcel_from n (message.Lock m r t) z = tt
  parcel_from n (message.Granted m v t) z = tt
  parcel_from n (message.Unlock m v) z = tt
  parcel_from n (message.Dup m r t) z = tt
  parcel_from n (message.Dupped m t) z = tt
  parcel_from n (message.Release x) z = tt
  parcel_from n (message.Join u r t) z = tt
  parcel_from n (message.Joined u v t) z = tt
  parcel_from n (message.Finished u v) z = tt

  parcel_to : (n : ℕ) (m : Message) → Parcel InParcel n m → tot w (message_things n m) ≡ 0
  parcel_to n (message.Start t) z = omega (arith, z, thread_alone w n (unseen n) n true t)
  parcel_to n (message.Migrate t) z = omega (arith, z, thread_alone w n (unseen n) n true t)
  parcel_to n (message.Fetch v b r t) z = refl
  parcel_to n (message.Fetched v c t) z = refl
  parcel_to n (message.Move v b r t) z = refl
  parcel_to n (message.Moved v c t) z = refl
  parcel_to n (message.Drop v b) z = refl
  parcel_to n (message.Lock m r t) z = refl
  parcel_to n (message.Granted m v t) z = refl
  parcel_to n (message.Unlock m v) z = refl
  parcel_to n (message.Dup m r t) z = refl
  parcel_to n (message.Dupped m t) z = refl
  parcel_to n (message.Release x) z = refl
  parcel_to n (message.Join u r t) z = refl
  parcel_to n (message.Joined u v t) z = refl
  parcel_to n (message.Finished u v) z = refl

  pub from_server : (s : Server) → tot w (server_things s) ≡ 0 → Held (Stood s.rest.number) InParcel s.rest.number s.rest.outbox s
  from_server s z =
      let n = s.rest.number in
      let parts = seen_of w n (unseen n) unnoted s refl in record {
        standing = all_none w (standing_things n) (Stood n) (λ i x y. omega (arith, y, thread_alone w n (unseen n) n false x)) 0 s.threads (omega (arith, z, parts));
        mail = record {
          numbered = refl;
          waiting = all_none w (waiting_things n) (Parcel InParcel n) (λ i m y. parcel_from n m y) 0 s.rest.inbox (omega (arith, z, parts));
          leaving = all_none w leaving_things (λ (x : Sent). Parcel InParcel x.target x.message) (λ i x y. parcel_from x.target x.message y) 0 s.rest.outbox (omega (arith, z, parts));
          more = [];
          appended = sym (append-nil s.rest.outbox);
        };
      }

  pub to_server : (n : ℕ) (old : List Sent) (s : Server) → Held (Stood n) InParcel n old s → tot w (server_things s) ≡ 0
  to_server n old s held =
      let m = s.rest.number in
      let mail : Mailed (Parcel InParcel) n old s.rest = held.mail in
      let threads : AllByRecursion (Stood m) s.threads = subst (λ i. AllByRecursion (Stood i) s.threads) (sym mail.numbered) held.standing in
      let waiting : AllByRecursion (Parcel InParcel m) s.rest.inbox = subst (λ i. AllByRecursion (Parcel InParcel i) s.rest.inbox) (sym mail.numbered) mail.waiting in
      omega (
        arith,
        seen_of w m (unseen m) unnoted s refl,
        none_all w (standing_things m) (Stood m) (λ i x y. omega (arith, y, thread_alone w m (unseen m) m false x)) 0 s.threads threads,
        none_all w (waiting_things m) (Parcel InParcel m) (λ i x y. parcel_to m x y) 0 s.rest.inbox waiting,
        none_all w leaving_things (λ (x : Sent). Parcel InParcel x.target x.message) (λ i x y. parcel_to x.target x.message y) 0 s.rest.outbox mail.leaving,
      )

-- THE CLUSTER

-- a weight of threads that an event keeps at nothing at its server is nothing over the cluster, once its messages are handed over
module _ (f : Standing → ℕ) (k : Cluster) (e : Event) (sound : IsSound k) (few : FewEvents k) (none : tot f (threads_in (things_of k)) ≡ 0)
    (go : (s : Server) → server_at k.servers e.server ≡ Some s → Ways k.code k.options.servers s e.what (Stood f s.rest.number) (InParcel f)) where
  abbrev Weightless : Cluster → Type 0
  Weightless c = tot (on_standing f) (things_of c) ≡ 0

  acted : Gives (λ (d : Cluster × EntryView). Weightless d.0) (act_at k e)
  acted =
      let g = on_standing f in
      let all : tot g (things_of k) ≡ 0 = omega (arith, sum_standing f (things_of k), none) in
      then_gives (λ (d : Cluster × EntryView). Weightless d.0) (server_at k.servers e.server) _ (λ s here.
      let before : tot g (server_things s) ≡ 0 = omega (arith, all, (tot-server g k.servers e.server s s here).0) in
      over_gives (λ (r : Server × EntryView). Held (Stood f s.rest.number) (InParcel f) s.rest.number s.rest.outbox r.0) (λ (d : Cluster × EntryView). Weightless d.0) (done_at k e.what s) _
      (test_gives (λ (r : Server × EntryView). Held (Stood f s.rest.number) (InParcel f) s.rest.number s.rest.outbox r.0) (enabled k.options s e.what) _ (λ on.
      doing k.code k.options s e.what (Stood f s.rest.number) (InParcel f) (go s here) (from_server f s before) on))
      (λ r held. omega (arith, all, (tot-server g k.servers e.server s r.0 here).0, (tot-server g k.servers e.server s r.0 here).1, to_server f s.rest.number s.rest.outbox r.0 held)))

  pub threads_go : Gives (λ (d : Cluster × EntryView). tot f (threads_in (things_of d.0)) ≡ 0) (apply k e)
  threads_go =
      weaker (λ (d : Cluster × EntryView). Weightless d.0) (λ (d : Cluster × EntryView). tot f (threads_in (things_of d.0)) ≡ 0) (apply k e)
      (handed_on Weightless (λ c a b same g. omega (arith, g, same (on_standing f))) k e (each_event_sends k e sound few) acted) (λ d g. omega (arith, g, sum_standing f (things_of d.0)))

-- a weight of threads, by the code, that each thread of such a cluster keeps at nothing by how it goes on
pub record ThreadsKeep (Pre : Cluster → Type 0) (f : List Instr → Standing → ℕ) : Type 0 where
  pub before : (k : Cluster) → Pre k → tot (f k.code) (threads_in (things_of k)) ≡ 0
  pub control : (k : Cluster) (number : ℕ) (s : Server) → Pre k → FewEvents k → server_at k.servers number ≡ Some s → Control k.code s (Stood (f k.code) s.rest.number) (InParcel (f k.code))

-- an event leaves the code
same_code : (k : Cluster) (e : Event) → Gives (λ (d : Cluster × EntryView). d.0.code ≡ k.code) (apply k e)
same_code k e =
    then_gives (λ (d : Cluster × EntryView). d.0.code ≡ k.code) (server_at k.servers e.server) _ (λ s here. map_gives (λ (d : Cluster × EntryView). d.0.code ≡ k.code) (done_at k e.what s) _ (λ r q. refl))

pub threads_keep : (Pre : Cluster → Type 0) → ((k : Cluster) → Pre k → IsSound k) → (f : List Instr → Standing → ℕ) → ThreadsKeep Pre f → (k : Cluster) (e : Event) → Pre k → FewEvents k
    → Gives (λ (d : Cluster × EntryView). tot (f d.0.code) (threads_in (things_of d.0)) ≡ 0) (apply k e)
threads_keep Pre is_sound f keeps k e pre few =
    both_give (λ (d : Cluster × EntryView). d.0.code ≡ k.code) (λ (d : Cluster × EntryView). tot (f k.code) (threads_in (things_of d.0)) ≡ 0) (λ (d : Cluster × EntryView). tot (f d.0.code) (threads_in (things_of d.0)) ≡ 0) (apply k e) (same_code k e)
    (threads_go (f k.code) k e (is_sound k pre) few (keeps.before k pre) (λ s here. ways k.options.servers e.what (keeps.control k e.server s pre few here)))
    (λ d c z. subst (λ (code : List Instr). tot (f code) (threads_in (things_of d.0)) ≡ 0) (sym c) z)

-- WHAT IS KNOWN OF A THREAD

module _ (k : Cluster) (sound : IsSound k) (number : ℕ) (s : Server) (here : server_at k.servers number ≡ Some s) (t : ℕ) (y : ThreadState) (there : thread_in s.threads t ≡ Some y) where
  -- the thread that is found at its server
  abbrev pub standing : Standing
  standing = record { server = s.rest.number; packed = false; thread = y }

  -- what no thread breaks it doesn't
  pub known : (f : Standing → ℕ) → tot f (threads_in (things_of k)) ≡ 0 → f standing ≡ 0
  known f z = found_none f t (threads_in (things_of k)) standing z (thread_there k sound number s here t y there)
