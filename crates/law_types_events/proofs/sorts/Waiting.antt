-- Who waits for a pair goes on to wait, with the slots that it has, where another thread steps.
use Rattle.std.proofs.Common.{◌≡◌, ◌≤◌, ℕ, ◌+◌, ◌==◌, ◌||◌, Bool, true, false, List, [], ◌∷◌, length, take, drop, Some, refl, ap, ◌∙◌, arith}
use Rattle.law_types_still.specs.Below.fr_base.declared.name.ObjNo.{ObjNo}
use Rattle.law_types_still.specs.Below.thread_state.View.{ThreadState}
use Rattle.law_types_still.specs.Below.thread_state.declared.phase.Phase.{Phase}
use Rattle.law_types_still.specs.Below.thread_state.declared.phase.Phase.TheVariants as phase
use Rattle.law_types_still.specs.Below.journal.View.{EntryView}
use Rattle.law_types_still.specs.Below.server_msgs.declared.message.Message.{Message}
use Rattle.law_types_still.specs.Below.server_msgs.declared.message.Message.TheVariants as message
use Rattle.law_types_still.specs.Below.server_model.declared.event.Event.{Event}
use Rattle.law_types_still.specs.Below.server_model.Servers.{Sent, Server, Cluster, server_at}
use Rattle.law_types_still.specs.Below.server_model.Events.{is_ready, enabled, does}
use Rattle.law_types_still.specs.Below.server_model.Clusters.{with_server, done_at, apply}
use Rattle.law_types_still.specs.Below.coherent_memory.Names.{tot, other, if_so}
use Rattle.law_types_still.specs.Below.coherent_memory.Things.{Thing, stands, things_at, message_things, standing_things, waiting_things, leaving_things, server_things, things_of}
use Rattle.law_types_still.specs.Below.coherent_memory.Follow.{Standing}
use Rattle.law_types_still.specs.Below.coherent_memory.Sight.{sight}
use Rattle.law_types_still.specs.Below.coherent_memory.Walking.{busy_parcel}
use Rattle.law_types_still.specs.Below.coherent_memory.Coherent.{IsSound}
use Rattle.law_types_still.proofs.Below.coherent_memory.Sums.{tot-append}
use Rattle.law_types_still.specs.Below.coherent_types.ClusterTypes.{refers_to, parent_sees}
use Rattle.law_types_still.specs.Below.law_counts_sums.Laws.{Gives, GoTo, FewEvents}
use Rattle.law_types_still.proofs.Below.law_counts_sums.Results.{then_gives, over_gives, both_give, test_gives}
use Rattle.law_types_still.proofs.Below.law_counts_sums.Events.{tot-server}
use Rattle.law_types_still.proofs.Below.law_counts_sums.Applied.{go_with}
use Rattle.law_types_still.proofs.Below.law_counts_sums.Handing.{hand_over_newer_law}
use Rattle.law_types_still.proofs.Below.law_counts_sums.Sending.{each_event_sends}
use Rattle.law_types_still.proofs.Below.law_counts_sums.KnownSound.{on_standing, sum_standing}
use Rattle.law_types_still.proofs.Below.law_counts_sums.Unseen.{Unseen, Unnoted, thread_alone, seen_of}

-- LIFTING

-- where an event of that sort leaves so much more of a weight at its server, it does in the cluster
module _ (f : Thing → ℕ) (m : ℕ) (Sort : EntryView → Type 0) where
  abbrev pub More : Server → Server × EntryView → Type 0
  More s r = Sort r.1 → tot f (server_things s) + m ≤ tot f (server_things r.0)

  abbrev pub LeavesMore : Cluster → Cluster × EntryView → Type 0
  LeavesMore k d = Sort d.1 → tot f (things_of k) + m ≤ tot f (things_of d.0)

  abbrev Goes : Cluster → Event → Server → Server × EntryView → Type 0
  Goes k e s r = GoTo (with_server k.servers e.server r.0) (drop (length s.rest.outbox) r.0.rest.outbox)

  pub lifted_more : (k : Cluster) (e : Event) → IsSound k → FewEvents k
      → ((s : Server) → server_at k.servers e.server ≡ Some s → enabled k.options s e.what ≡ true → Gives (More s) (does k.code k.options s e.what)) → Gives (LeavesMore k) (apply k e)
  lifted_more k e sound few go =
      then_gives (LeavesMore k) (server_at k.servers e.server) _ (λ s here.
      over_gives (λ r. Goes k e s r × More s r) (LeavesMore k) (done_at k e.what s) _
      (both_give (Goes k e s) (More s) (λ r. Goes k e s r × More s r) (done_at k e.what s) (each_event_sends k e sound few s here)
      (test_gives (More s) (enabled k.options s e.what) (does k.code k.options s e.what) (λ on. go s here on)) (λ r a b. (a, b)))
      (λ r u sort.
      let older = length s.rest.outbox in
      let t = tot-server f k.servers e.server s r.0 here in
      let goes = go_with k.servers e.server r.0 (take older r.0.rest.outbox) (drop older r.0.rest.outbox) u.0 in
      omega (arith, hand_over_newer_law f e.server older s r.0 k.servers here goes, t.0, t.1, u.1 sort)))

-- PARENTS AT SERVERS

abbrev pub waits_for : ℕ → Phase → Bool
waits_for t (phase.WaitPar a b) = (a == t) || (b == t)
waits_for t p = false

-- what a parent that waits for t refers to
abbrev pub sees_by : ℕ → ObjNo → ThreadState → ℕ
sees_by t o y = if_so (waits_for t y.phase) (refers_to o y.slots)

-- of those that stand at servers
abbrev standing_only : Bool → ℕ → ℕ
standing_only true n = 0
standing_only false n = n

abbrev pub stands_by : ℕ → ObjNo → Thing → ℕ
stands_by t o (stands r p y) = standing_only p (sees_by t o y)
stands_by t o x = 0

module _ (t : ℕ) (o : ObjNo) where
  abbrev f : Thing → ℕ
  f = stands_by t o

  unseen : (n : ℕ) → Unseen f n
  unseen n = record { held = λ p v. refl; shared = λ l r. refl; borrowed = λ l r. refl; locked = λ l m. refl; live = λ a c. refl; free = λ a m. refl; old = λ a. refl; copy = λ s c. refl; used = λ s x. refl }

  unnoted : Unnoted f
  unnoted = record { mutex = λ s m. refl; queue = λ m s u. refl; note = λ s u. refl }

  message_none : (n : ℕ) (m : Message) → tot f (message_things n m) ≡ 0
  message_none n (message.Start y) = omega (arith, thread_alone f n (unseen n) n true y)
  message_none n (message.Migrate y) = omega (arith, thread_alone f n (unseen n) n true y)
  message_none n (message.Fetch v b r u) = refl
  message_none n (message.Fetched v c u) = refl
  message_none n (message.Move v b r u) = refl
  message_none n (message.Moved v c u) = refl
  message_none n (message.Drop v b) = refl
  message_none n (message.Lock m r u) = refl
  message_none n (message.Granted m v u) = refl
  message_none n (message.Unlock m v) = refl
  message_none n (message.Dup m r u) = refl
  message_none n (message.Dupped m u) = refl
  message_none n (message.Release x) = refl
  message_none n (message.Join u r b) = refl
  message_none n (message.Joined u v b) = refl
  message_none n (message.Finished u v) = refl

  each_at : {X : Type 0} (p : ℕ → X → List Thing) (h : X → ℕ) → ((i : ℕ) (x : X) → tot f (p i x) ≡ h x) → (i : ℕ) (xs : List X) → tot f (things_at p i xs) ≡ tot h xs
  each_at p h e i [] = refl
  each_at p h e i (x ∷ xs) = omega (arith, e i x, each_at p h e (i + 1) xs, tot-append f (p i x) (things_at p (i + 1) xs))

  no_at : {X : Type 0} (p : ℕ → X → List Thing) → ((i : ℕ) (x : X) → tot f (p i x) ≡ 0) → (i : ℕ) (xs : List X) → tot f (things_at p i xs) ≡ 0
  no_at p e i [] = refl
  no_at p e i (x ∷ xs) = omega (arith, e i x, no_at p e (i + 1) xs, tot-append f (p i x) (things_at p (i + 1) xs))

  -- a server weighs what its threads do
  pub server_sum : (s : Server) → tot f (server_things s) ≡ tot (sees_by t o) s.threads
  server_sum s =
      let n = s.rest.number in
      omega (
        arith,
        seen_of f n (unseen n) unnoted s refl,
        each_at (standing_things n) (sees_by t o) (λ i y. omega (arith, thread_alone f n (unseen n) n false y)) 0 s.threads,
        no_at (waiting_things n) (λ i m. message_none n m) 0 s.rest.inbox,
        no_at leaving_things (λ i (x : Sent). message_none x.target x.message) 0 s.rest.outbox,
      )

  -- ALL THREADS

  ready_waits : (p : Phase) → other (is_ready p) ≡ 0 → waits_for t p ≡ false
  ready_waits phase.Ready e = refl
  ready_waits p e = absurd cc

  -- it is what is counted of a parent
  sees_same : (x : Standing) → parent_sees t o x ≡ sees_by t o x.thread
  sees_same x = by x.thread.phase
    where
      by : (p : Phase) → parent_sees t o (record x { thread = record x.thread { phase = p } }) ≡ if_so (waits_for t p) (refers_to o x.thread.slots)
      by (phase.WaitPar a b) = refl
      by phase.Ready = refl
      by (phase.WaitCell w) = refl
      by phase.Got = refl
      by (phase.Taken w) = refl
      by (phase.WaitLock m) = refl
      by (phase.WaitDup m) = refl
      by (phase.WaitJoin u) = refl
      by (phase.GotPar a b) = refl
      by phase.Over = refl

  -- no parcel waits
  at_most : (b : List Thing) → tot (on_standing busy_parcel) b ≡ 0 → tot (on_standing (parent_sees t o)) b ≤ tot f b
  at_most [] z = omega arith
  at_most (stands r p y ∷ b) z = let rest = at_most b (omega (arith, z)) in let one = by p (omega (arith, z)) in let same = sees_same (record { server = r; packed = p; thread = y }) in omega (arith, rest, one, same)
    where
      by : (q : Bool) → if_so q (other (is_ready y.phase)) ≡ 0 → sees_by t o y ≤ standing_only q (sees_by t o y)
      by false e = omega arith
      by true e = let w = ready_waits y.phase e in let none : sees_by t o y ≡ 0 = ap (λ c. if_so c (refers_to o y.slots)) w in omega (arith, none)
  at_most (_ ∷ b) z = let rest = at_most b (omega (arith, z)) in omega (arith, rest)

  at_least : (b : List Thing) → tot f b ≤ tot (on_standing (parent_sees t o)) b
  at_least [] = omega arith
  at_least (stands r p y ∷ b) = let rest = at_least b in let one = by p in let same = sees_same (record { server = r; packed = p; thread = y }) in omega (arith, rest, one, same)
    where
      by : (q : Bool) → standing_only q (sees_by t o y) ≤ sees_by t o y
      by false = omega arith
      by true = omega arith
  at_least (_ ∷ b) = let rest = at_least b in omega (arith, rest)

  -- before the event they weigh what all do, and afterwards at most that
  pub before_most : (k : Cluster) → IsSound k → tot (parent_sees t o) (sight k).ground.threads ≤ tot f (things_of k)
  before_most k sound =
      let busy : tot (on_standing busy_parcel) (things_of k) ≡ 0 = sum_standing busy_parcel (things_of k) ∙ sound.walks.parcels_ready in
      omega (arith, at_most (things_of k) busy, sum_standing (parent_sees t o) (things_of k))

  pub after_least : (z : Cluster) → tot f (things_of z) ≤ tot (parent_sees t o) (sight z).ground.threads
  after_least z = omega (arith, at_least (things_of z), sum_standing (parent_sees t o) (things_of z))
