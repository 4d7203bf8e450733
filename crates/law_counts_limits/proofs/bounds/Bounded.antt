-- No count of a coherent cluster is above sixteen times the number of its events, whatever event is done.
use Rattle.std.proofs.Common.{◌≡◌, ◌≤◌, ℕ, ◌+◌, ◌*◌, Bool, true, false, if◌then◌else◌, List, [], ◌∷◌, ◌++◌, length, Option, Some, None, refl, sym, subst, arith}
use Rattle.law_counts_things.specs.Below.fr_base.declared.name.MutexNo.{MutexNo}
use Rattle.law_counts_things.specs.Below.heap_partition.declared.value.Cell.{Cell}
use Rattle.law_counts_things.specs.Below.heap_partition.declared.value.Owned.{Owned}
use Rattle.law_counts_things.specs.Below.mut_borrow.declared.shared.SharedRef.{SharedRef}
use Rattle.law_counts_things.specs.Below.mutex_home.Mutexes.{Mutex}
use Rattle.law_counts_things.specs.Below.join_home.Tasks.{TaskState, kept}
use Rattle.law_counts_things.specs.Below.thread_state.View.{ThreadState}
use Rattle.law_counts_things.specs.Below.thread_state.declared.value.Value.{Value}
use Rattle.law_counts_things.specs.Below.thread_state.declared.value.Value.TheVariants as value
use Rattle.law_counts_things.specs.Below.server_msgs.declared.message.Message.{Message}
use Rattle.law_counts_things.specs.Below.server_msgs.declared.message.Message.TheVariants.{Moved, Granted, Unlock, Joined, Finished, Start, Migrate}
use Rattle.law_counts_things.specs.Below.journal.View.{EntryView}
use Rattle.law_counts_things.specs.Below.server_model.declared.event.Event.{Event}
use Rattle.law_counts_things.specs.Below.server_model.Servers.{Sent, Server, Cluster, server_at}
use Rattle.law_counts_things.specs.Below.server_model.Events.{enabled, begin_work, does}
use Rattle.law_counts_things.specs.Below.server_model.Clusters.{with_server, done_at, act_at}
use Rattle.law_counts_things.specs.Below.coherent_memory.Names.{tot}
use Rattle.law_counts_things.specs.Below.coherent_memory.Things.{Thing, counts, copied, at_home, uses, retired, Location, Spot, things_at, pin_things, value_things, slot_things, temp_things, gift_things, walk_things, thread_things, standing_things, message_things, waiting_things, leaving_things, is_free, cell_things, free_things, copy_things, content_things, queue_things, mutex_things, result_things, task_things, server_things, servers_things, things_of}
use Rattle.law_counts_things.specs.Below.coherent_memory.Naming.{event_count, above, large_counts}
use Rattle.law_counts_things.specs.Below.coherent_memory.Coherent.{IsSound, counts_bounded}
use Rattle.law_counts_things.proofs.Below.coherent_memory.Sums.{tot-append, server_parts}
use Rattle.law_counts_things.specs.Below.law_counts_sums.Laws.{Gives, FewEvents}
use Rattle.law_counts_things.proofs.Below.law_counts_sums.Results.{then_gives, over_gives, both_give, test_gives}
use Rattle.law_counts_things.proofs.Below.law_counts_sums.Boxes.{tot_le}
use Rattle.law_counts_things.proofs.Below.law_counts_sums.Each.{at_most}
use Rattle.law_counts_things.proofs.Below.law_counts_sums.Events.{tot-server}
use Rattle.law_counts_things.proofs.Below.law_counts_sums.Applied.{handed_on}
use Rattle.law_counts_things.proofs.Below.law_counts_sums.Sending.{each_event_sends}
use Rattle.law_counts_things.specs.Below.coherent_types.ClusterTypes.{IsCoherent}
use Rattle.law_counts_things.specs.things.Laws.{EachCoherentEventKeeps}
use Rattle.law_counts_things.proofs.things.Handed.{all_none, none_all}
use Rattle.law_counts_things.proofs.names.Counts.{counts_at, counts_alone}
use Rattle.law_counts_things.proofs.names.Named.{below_limit, above_less, more_events, events_plain}
use Rattle.law_counts_limits.proofs.bounds.Few.{FewUsers, FewShares, Few}
use Rattle.law_counts_limits.proofs.bounds.Raised.{Raised, raises}
use Rattle.law_counts_limits.proofs.bounds.Short.{follows_short}

-- WHAT IS COUNTED OF A SERVER

abbrev Large : ℕ → List Thing → ℕ
Large n b = tot (large_counts n) b

module _ (n : ℕ) where
  -- what weighs nothing one by one weighs nothing together
  all_small : {X : Type 0} (g : ℕ → X → List Thing) → ((i : ℕ) (x : X) → Large n (g i x) ≡ 0) → (i : ℕ) (xs : List X) → Large n (things_at g i xs) ≡ 0
  all_small g z i [] = refl
  all_small g z i (x ∷ xs) = omega (arith, z i x, all_small g z (i + 1) xs, tot-append (large_counts n) (g i x) (things_at g (i + 1) xs))

  -- nothing but counts, copies and mutexes is counted: a pin, a value, a gift, a thread, a message, a cell, a result, a content
  pin_small : (s : ℕ) (q : SharedRef) → Large n (pin_things s q) ≡ 0
  pin_small s q = by q.pinned
    where
      by : (b : Bool) → Large n (if b then uses s q.word ∷ [] else []) ≡ 0
      by true = refl
      by false = refl

  value_small : (s : ℕ) (p : Spot) (l : Location) (v : Value) → Large n (value_things s p l v) ≡ 0
  value_small s p l value.Gone = refl
  value_small s p l (value.Own v) = refl
  value_small s p l (value.SharedSlot i) = refl
  value_small s p l (value.MutSlot i) = refl
  value_small s p l (value.Shared q) = omega (arith, pin_small s q)
  value_small s p l (value.Mut r) = refl
  value_small s p l (value.Held m) = refl

  gift_small : (t : ℕ) (g : Option Owned) → Large n (gift_things t g) ≡ 0
  gift_small t None = refl
  gift_small t (Some v) = refl

  thread_small : (s : ℕ) (p : Bool) (t : ThreadState) → Large n (thread_things s p t) ≡ 0
  thread_small s p t =
      let f = large_counts n in
      let gift = gift_things t.number t.gift in
      let walk = things_at (walk_things s) 0 t.walk in
      let slots = things_at (slot_things s t.number) 0 t.slots in
      let temps = things_at (temp_things s t.number) 0 t.temps in
      omega (
        arith,
        tot-append f (gift ++ walk ++ slots) temps,
        tot-append f (gift ++ walk) slots,
        tot-append f gift walk,
        gift_small t.number t.gift,
        all_small (walk_things s) (λ i w. refl) 0 t.walk,
        all_small (slot_things s t.number) (λ i v. value_small s _ _ v) 0 t.slots,
        all_small (temp_things s t.number) (λ i v. value_small s _ _ v) 0 t.temps,
      )

  message_small : (s : ℕ) (m : Message) → Large n (message_things s m) ≡ 0
  message_small s (Moved w c t) = refl
  message_small s (Granted m v t) = refl
  message_small s (Unlock m v) = refl
  message_small s (Joined t v by) = refl
  message_small s (Finished t v) = refl
  message_small s (Start t) = omega (arith, thread_small s true t)
  message_small s (Migrate t) = omega (arith, thread_small s true t)
  message_small s _ = refl

  cell_small : (s : ℕ) (free : List (ℕ × ℕ)) (a : ℕ) (c : Option Cell) → Large n (cell_things s free a c) ≡ 0
  cell_small s free a (Some c) = refl
  cell_small s free a None = by (is_free a free)
    where
      by : (b : Bool) → Large n (if b then [] else retired s a ∷ []) ≡ 0
      by true = refl
      by false = refl

  result_small : (t : ℕ) (x : TaskState) → Large n (result_things t x) ≡ 0
  result_small t (kept v) = refl
  result_small t _ = refl

  content_small : (m : MutexNo) (c : Option Owned) → Large n (content_things m c) ≡ 0
  content_small m None = refl
  content_small m (Some v) = refl

  -- of a mutex its shares are counted
  mutex_large : (s i : ℕ) (m : Mutex) → Large n (mutex_things s i m) ≡ above (16 * n) m.shares
  mutex_large s i m =
      omega (arith, tot-append (large_counts n) (content_things m.number m.content) (things_at (queue_things m.number) 0 m.queue), content_small m.number m.content, all_small (queue_things m.number) (λ j x. refl) 0 m.queue)

  -- of a server its counts, its copies and its mutexes
  server_large : (s : Server)
      → Large n (server_things s) ≡ large_counts n (counts_at s) + Large n (things_at (copy_things s.rest.number) 0 s.rest.cache) + Large n (things_at (mutex_things s.rest.number) 0 s.rest.mutexes.there)
  server_large s =
      let f = large_counts n in
      let m = s.rest.number in
      let p = s.rest.partition in
      omega (
        arith,
        server_parts f s,
        tot-append f (things_at (cell_things m p.free) 0 p.cells) (things_at (free_things m) 0 p.free),
        all_small (cell_things m p.free) (cell_small m p.free) 0 p.cells,
        all_small (free_things m) (λ j q. refl) 0 p.free,
        all_small (task_things m) (λ j x. omega (arith, result_small x.thread x.state)) 0 s.rest.tasks,
        all_small (standing_things m) (λ j y. thread_small m false y) 0 s.threads,
        all_small (waiting_things m) (λ j q. message_small m q) 0 s.rest.inbox,
        all_small leaving_things (λ j (q : Sent). message_small q.target q.message) 0 s.rest.outbox,
      )

  -- where nothing is large, counts are few, and the other way round
  few_from : (s : Server) → Large n (server_things s) ≡ 0 → Few (16 * n) (16 * n) (16 * n) s.rest
  few_from s z =
      let all = server_large s in record {
        next_few = at_most (length s.rest.partition.cells) (16 * n) (omega (arith, all, z));
        old_few = at_most s.rest.partition.retired (16 * n) (omega (arith, all, z));
        users_few = all_none (large_counts n) (copy_things s.rest.number) (FewUsers (16 * n)) (λ i c y. at_most c.users (16 * n) (omega (arith, y))) 0 s.rest.cache (omega (arith, all, z));
        shares_few = all_none (large_counts n) (mutex_things s.rest.number) (FewShares (16 * n)) (λ i m y. at_most m.shares (16 * n) (omega (arith, y, mutex_large s.rest.number i m))) 0 s.rest.mutexes.there (omega (arith, all, z));
      }

  -- and the other way round
  few_to : (s : Server) → Few (16 * n) (16 * n) (16 * n) s.rest → Large n (server_things s) ≡ 0
  few_to s g =
      omega (
        arith,
        server_large s,
        below_limit (length s.rest.partition.cells) (16 * n) g.next_few,
        below_limit s.rest.partition.retired (16 * n) g.old_few,
        none_all (large_counts n) (copy_things s.rest.number) (FewUsers (16 * n)) (λ i c l. omega (arith, below_limit c.users (16 * n) l)) 0 s.rest.cache g.users_few,
        none_all (large_counts n) (mutex_things s.rest.number) (FewShares (16 * n)) (λ i m l. omega (arith, mutex_large s.rest.number i m, below_limit m.shares (16 * n) l)) 0 s.rest.mutexes.there g.shares_few,
      )

-- IN THE CLUSTER

-- an event later no other count is large
large_less : (n : ℕ) (x : Thing) → large_counts (n + 1) x ≤ large_counts n x
large_less n (counts r next old started made events) = omega (arith, above_less next (16 * n) (16 * (n + 1)) (omega arith), above_less old (16 * n) (16 * (n + 1)) (omega arith))
large_less n (copied r c) = above_less c.users (16 * n) (16 * (n + 1)) (omega arith)
large_less n (at_home r m) = above_less m.shares (16 * n) (16 * (n + 1)) (omega arith)
large_less n _ = omega arith

abbrev events : List Thing → ℕ
events b = tot event_count b

-- no count is large
abbrev AllFew : Cluster → Type 0
AllFew c = Large (events (things_of c)) (things_of c) ≡ 0

-- at its server the event leaves no count large
acted : (k : Cluster) (e : Event) → IsCoherent k → FewEvents k → Gives (λ (d : Cluster × EntryView). AllFew d.0) (act_at k e)
acted k e coherent few =
    let sound : IsSound k = coherent.sound in
    let n = events (things_of k) in
    let all : Large n (things_of k) ≡ 0 = sound.names.counts_bounded in
    then_gives (λ (d : Cluster × EntryView). AllFew d.0) (server_at k.servers e.server) _ (λ s here.
    let start : Few (16 * n) (16 * n) (16 * n) s.rest = few_from n s (omega (arith, all, (tot-server (large_counts n) k.servers e.server s s here).0)) in
    let b : ℕ = 16 * n in
    over_gives (λ (r : Server × EntryView). Raised b b b k.code k.options s (λ t y i there at. follows_short k coherent e.server s here t y there (begin_work s.rest) i at) start r × (r.0.events ≡ s.events + 1)) (λ (d : Cluster × EntryView). AllFew d.0) (done_at k e.what s) _
    (test_gives (λ (r : Server × EntryView). Raised b b b k.code k.options s (λ t y i there at. follows_short k coherent e.server s here t y there (begin_work s.rest) i at) start r × (r.0.events ≡ s.events + 1)) (enabled k.options s e.what) _ (λ on.
    both_give (Raised b b b k.code k.options s (λ t y i there at. follows_short k coherent e.server s here t y there (begin_work s.rest) i at) start) (λ (r : Server × EntryView). r.0.events ≡ s.events + 1) _ (does k.code k.options s e.what)
    (raises b b b k.code k.options s (λ t y i there at. follows_short k coherent e.server s here t y there (begin_work s.rest) i at) start e.what) (more_events k.code k.options s e.what) (λ r p q. (p, q))))
    (λ r u.
    let f = large_counts (n + 1) in
    let counted = tot-server event_count k.servers e.server s r.0 here in
    let more : events (servers_things (with_server k.servers e.server r.0)) ≡ n + 1 = omega (arith, counted.0, counted.1, counts_alone event_count events_plain s, counts_alone event_count events_plain r.0, u.1) in
    let fine : Few (16 * (n + 1)) (16 * (n + 1)) (16 * (n + 1)) r.0.rest = subst (λ m. Few m m m r.0.rest) (sixteen n) u.0 in
    let parts = tot-server f k.servers e.server s r.0 here in
    let old = tot_le f (large_counts n) (large_less n) (things_of k) in
    let none : Large (n + 1) (servers_things (with_server k.servers e.server r.0)) ≡ 0 = omega (arith, all, old, parts.0, parts.1, few_to (n + 1) r.0 fine) in
    subst (λ m. Large m (servers_things (with_server k.servers e.server r.0)) ≡ 0) (sym more) none))
  where
    sixteen : (m : ℕ) → 16 * m + 16 ≡ 16 * (m + 1)
    sixteen m = omega arith

-- with its messages handed over
pub bounds_kept : EachCoherentEventKeeps counts_bounded
bounds_kept k e coherent few =
    handed_on AllFew (λ c a b same z. subst (λ m. Large m (servers_things b) ≡ 0) (same event_count) (omega (arith, z, same (large_counts (events (servers_things a)))))) k e (each_event_sends k e coherent.sound few) (acted k e coherent few)
