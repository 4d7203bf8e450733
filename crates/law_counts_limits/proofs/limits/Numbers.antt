-- The events of a cluster are those of its servers: nothing else counts any.
use Rattle.std.proofs.Common.{◌≡◌, ℕ, ◌+◌, Bool, true, false, if◌then◌else◌, List, [], ◌∷◌, ◌++◌, Option, Some, None, refl, arith}
use Rattle.law_counts_things.specs.Below.heap_partition.declared.value.Cell.{Cell}
use Rattle.law_counts_things.specs.Below.heap_partition.declared.value.Owned.{Owned}
use Rattle.law_counts_things.specs.Below.fr_base.declared.name.MutexNo.{MutexNo}
use Rattle.law_counts_things.specs.Below.thread_state.View.{ThreadState}
use Rattle.law_counts_things.specs.Below.thread_state.declared.value.Value.{Value}
use Rattle.law_counts_things.specs.Below.thread_state.declared.value.Value.TheVariants as value
use Rattle.law_counts_things.specs.Below.mut_borrow.declared.shared.SharedRef.{SharedRef}
use Rattle.law_counts_things.specs.Below.mutex_home.Mutexes.{Mutex}
use Rattle.law_counts_things.specs.Below.join_home.Tasks.{Task, TaskState, kept}
use Rattle.law_counts_things.specs.Below.server_msgs.declared.message.Message.{Message}
use Rattle.law_counts_things.specs.Below.server_msgs.declared.message.Message.TheVariants.{Moved, Granted, Unlock, Joined, Finished, Start, Migrate}
use Rattle.law_counts_things.specs.Below.server_model.Servers.{Server, Sent}
use Rattle.law_counts_things.specs.Below.coherent_memory.Names.{tot}
use Rattle.law_counts_things.specs.Below.coherent_memory.Things.{Thing, uses, retired, Location, Spot, things_at, pin_things, value_things, slot_things, temp_things, gift_things, walk_things, thread_things, standing_things, message_things, waiting_things, leaving_things, is_free, cell_things, free_things, partition_things, copy_things, content_things, queue_things, mutex_things, result_things, task_things, server_things, servers_things}
use Rattle.law_counts_things.specs.Below.coherent_memory.Naming.{event_count}
use Rattle.law_counts_things.proofs.Below.coherent_memory.Sums.{tot-append}
use Rattle.law_counts_limits.specs.limits.Counts.{events_in}

abbrev None_in : List Thing → Type 0
None_in b = tot event_count b ≡ 0

all_none : {A : Type 0} (f : ℕ → A → List Thing) → ((i : ℕ) (x : A) → None_in (f i x)) → (i : ℕ) (xs : List A) → None_in (things_at f i xs)
all_none f h i [] = refl
all_none f h i (x ∷ xs) = omega (arith, tot-append event_count (f i x) (things_at f (i + 1) xs), h i x, all_none f h (i + 1) xs)

pin_none : (s : ℕ) (r : SharedRef) → None_in (pin_things s r)
pin_none s r = by r.pinned
  where
    by : (b : Bool) → None_in (if b then uses s r.word ∷ [] else [])
    by true = refl
    by false = refl

value_none : (s : ℕ) (p : Spot) (l : Location) (v : Value) → None_in (value_things s p l v)
value_none s p l value.Gone = refl
value_none s p l (value.Own v) = refl
value_none s p l (value.SharedSlot i) = refl
value_none s p l (value.MutSlot i) = refl
value_none s p l (value.Shared r) = omega (arith, pin_none s r)
value_none s p l (value.Mut r) = refl
value_none s p l (value.Held m) = refl

gift_none : (t : ℕ) (g : Option Owned) → None_in (gift_things t g)
gift_none t None = refl
gift_none t (Some v) = refl

thread_none : (s : ℕ) (p : Bool) (t : ThreadState) → None_in (thread_things s p t)
thread_none s p t =
    let gift = gift_things t.number t.gift in
    let walk = things_at (walk_things s) 0 t.walk in
    let slots = things_at (slot_things s t.number) 0 t.slots in
    let temps = things_at (temp_things s t.number) 0 t.temps in
    omega (
      arith,
      tot-append event_count (gift ++ walk ++ slots) temps,
      tot-append event_count (gift ++ walk) slots,
      tot-append event_count gift walk,
      gift_none t.number t.gift,
      all_none (walk_things s) (λ i w. refl) 0 t.walk,
      all_none (slot_things s t.number) (λ i v. value_none s _ _ v) 0 t.slots,
      all_none (temp_things s t.number) (λ i v. value_none s _ _ v) 0 t.temps,
    )

message_none : (s : ℕ) (m : Message) → None_in (message_things s m)
message_none s (Moved w c t) = refl
message_none s (Granted m v t) = refl
message_none s (Unlock m v) = refl
message_none s (Joined t v by) = refl
message_none s (Finished t v) = refl
message_none s (Start t) = omega (arith, thread_none s true t)
message_none s (Migrate t) = omega (arith, thread_none s true t)
message_none s _ = refl

cell_none : (s : ℕ) (free : List (ℕ × ℕ)) (a : ℕ) (c : Option Cell) → None_in (cell_things s free a c)
cell_none s free a (Some c) = refl
cell_none s free a None = by (is_free a free)
  where
    by : (b : Bool) → None_in (if b then [] else retired s a ∷ [])
    by true = refl
    by false = refl

content_none : (m : MutexNo) (c : Option Owned) → None_in (content_things m c)
content_none m None = refl
content_none m (Some v) = refl

mutex_none : (s i : ℕ) (m : Mutex) → None_in (mutex_things s i m)
mutex_none s i m = omega (arith, tot-append event_count (content_things m.number m.content) (things_at (queue_things m.number) 0 m.queue), content_none m.number m.content, all_none (queue_things m.number) (λ i x. refl) 0 m.queue)

task_none : (s i : ℕ) (t : Task) → None_in (task_things s i t)
task_none s i t = omega (arith, by t.state)
  where
    by : (x : TaskState) → None_in (result_things t.thread x)
    by (kept v) = refl
    by _ = refl

-- of one server
server_events : (s : Server) → tot event_count (server_things s) ≡ s.events
server_events s =
    let n = s.rest.number in
    let cells = things_at (cell_things n s.rest.partition.free) 0 s.rest.partition.cells in
    let free = things_at (free_things n) 0 s.rest.partition.free in
    let p = partition_things n s.rest.partition in
    let c = things_at (copy_things n) 0 s.rest.cache in
    let m = things_at (mutex_things n) 0 s.rest.mutexes.there in
    let t = things_at (task_things n) 0 s.rest.tasks in
    let x = things_at (standing_things n) 0 s.threads in
    let i = things_at (waiting_things n) 0 s.rest.inbox in
    let o = things_at leaving_things 0 s.rest.outbox in
    omega (
      arith,
      tot-append event_count cells free,
      tot-append event_count (p ++ c ++ m ++ t ++ x ++ i) o,
      tot-append event_count (p ++ c ++ m ++ t ++ x) i,
      tot-append event_count (p ++ c ++ m ++ t) x,
      tot-append event_count (p ++ c ++ m) t,
      tot-append event_count (p ++ c) m,
      tot-append event_count p c,
      all_none (cell_things n s.rest.partition.free) (cell_none n s.rest.partition.free) 0 s.rest.partition.cells,
      all_none (free_things n) (λ j q. refl) 0 s.rest.partition.free,
      all_none (copy_things n) (λ j q. refl) 0 s.rest.cache,
      all_none (mutex_things n) (mutex_none n) 0 s.rest.mutexes.there,
      all_none (task_things n) (task_none n) 0 s.rest.tasks,
      all_none (standing_things n) (λ j y. thread_none n false y) 0 s.threads,
      all_none (waiting_things n) (λ j q. message_none n q) 0 s.rest.inbox,
      all_none leaving_things (λ j (q : Sent). message_none q.target q.message) 0 s.rest.outbox,
    )

-- of all
pub all_events : (ss : List Server) → tot event_count (servers_things ss) ≡ events_in ss
all_events [] = refl
all_events (s ∷ ss) = omega (arith, tot-append event_count (server_things s) (servers_things ss), server_events s, all_events ss)
