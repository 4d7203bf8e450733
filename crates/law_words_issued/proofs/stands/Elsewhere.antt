-- Addresses are things of partitions alone; a weight that sees live addresses with their objects, free ones and retired ones is the same for the same addresses.
use Rattle.std.proofs.Common.{◌≡◌, ℕ, ◌+◌, Bool, true, false, if◌then◌else◌, List, [], ◌∷◌, ◌++◌, length, Option, Some, None, refl, ap, ◌∙◌, arith}
use Rattle.std.specs.Prelude.{map}
use Rattle.std.specs.List.{AllByRecursion}
use Rattle.std.specs.Bool.{⊤}
use Rattle.law_walks_own.specs.Below.fr_base.declared.name.MutexNo.{MutexNo}
use Rattle.law_walks_own.specs.Below.heap_partition.declared.value.Cell.{Cell}
use Rattle.law_walks_own.specs.Below.heap_partition.declared.value.Owned.{Owned}
use Rattle.law_walks_own.specs.Below.mut_borrow.declared.shared.SharedRef.{SharedRef}
use Rattle.law_walks_own.specs.Below.law_walks_others.Below.owner_box.View.{PartitionState}
use Rattle.law_walks_own.specs.Below.law_walks_others.Below.mutex_home.Mutexes.{Mutex}
use Rattle.law_walks_own.specs.Below.law_walks_others.Below.join_home.Tasks.{Task, TaskState, kept}
use Rattle.law_walks_own.specs.Below.thread_state.View.{ThreadState}
use Rattle.law_walks_own.specs.Below.thread_state.declared.value.Value.{Value}
use Rattle.law_walks_own.specs.Below.thread_state.declared.value.Value.TheVariants as value
use Rattle.law_walks_own.specs.Below.server_msgs.declared.message.Message.{Message}
use Rattle.law_walks_own.specs.Below.server_msgs.declared.message.Message.TheVariants as message
use Rattle.law_walks_own.specs.Below.server_model.Servers.{Server}
use Rattle.law_walks_own.specs.Below.coherent_memory.Names.{tot}
use Rattle.law_walks_own.specs.Below.coherent_memory.Things.{Location, Spot, Thing, lies, vacant, retired, uses, things_at, is_free, pin_things, value_things, slot_things, temp_things, gift_things, walk_things, thread_things, standing_things, message_things, waiting_things, leaving_things, cell_things, free_things, partition_things, copy_things, content_things, queue_things, mutex_things, task_things, result_things, server_things}
use Rattle.law_walks_own.proofs.Below.coherent_memory.Sums.{tot-append, server_parts}
use Rattle.law_walks_own.proofs.Below.law_counts_sums.Known.{all_append}
use Rattle.law_words_issued.proofs.stands.Addresses.{object_in, SameAddresses}

-- it isn't an address
abbrev pub NoAddress : Thing → Type 0
NoAddress (lies s a c) = ⊥
NoAddress (vacant s a n) = ⊥
NoAddress (retired s a) = ⊥
NoAddress x = ⊤

abbrev None_of : List Thing → Type 0
None_of b = AllByRecursion NoAddress b

both : (a b : List Thing) → None_of a → None_of b → None_of (a ++ b)
both a b = all_append NoAddress a b

each : {X : Type 0} (g : ℕ → X → List Thing) → ((i : ℕ) (x : X) → None_of (g i x)) → (i : ℕ) (xs : List X) → None_of (things_at g i xs)
each g f i [] = tt
each g f i (x ∷ xs) = both (g i x) (things_at g (i + 1) xs) (f i x) (each g f (i + 1) xs)

-- THREADS

pins : (s : ℕ) (r : SharedRef) → None_of (pin_things s r)
pins s r = by r.pinned
  where
    by : (b : Bool) → None_of (if b then uses s r.word ∷ [] else [])
    by true = (tt, tt)
    by false = tt

values : (s : ℕ) (p : Spot) (l : Location) (v : Value) → None_of (value_things s p l v)
values s p l value.Gone = tt
values s p l (value.Own v) = (tt, tt)
values s p l (value.SharedSlot i) = tt
values s p l (value.MutSlot i) = tt
values s p l (value.Shared r) = (tt, pins s r)
values s p l (value.Mut r) = (tt, tt)
values s p l (value.Held m) = (tt, tt)

gifts : (t : ℕ) (v : Option Owned) → None_of (gift_things t v)
gifts t None = tt
gifts t (Some v) = (tt, tt)

threads : (n : ℕ) (packed : Bool) (t : ThreadState) → None_of (thread_things n packed t)
threads n packed t =
    let gift = gift_things t.number t.gift in
    let walk = things_at (walk_things n) 0 t.walk in
    let slots = things_at (slot_things n t.number) 0 t.slots in
    let temps = things_at (temp_things n t.number) 0 t.temps in (
      tt,
      both (gift ++ walk ++ slots) temps (both (gift ++ walk) slots (both gift walk (gifts t.number t.gift) (each (walk_things n) (λ i w. (tt, tt)) 0 t.walk)) (each (slot_things n t.number) (λ i v. values n _ _ v) 0 t.slots))
          (each (temp_things n t.number) (λ i v. values n _ _ v) 0 t.temps),
    )

-- MESSAGES

messages : (n : ℕ) (m : Message) → None_of (message_things n m)
messages n (message.Start t) = (tt, threads n true t)
messages n (message.Migrate t) = (tt, threads n true t)
messages n (message.Moved w c t) = (tt, (tt, tt))
messages n (message.Granted m v t) = (tt, (tt, tt))
messages n (message.Unlock m v) = (tt, (tt, tt))
messages n (message.Joined u v t) = (tt, (tt, tt))
messages n (message.Finished u v) = (tt, (tt, tt))
messages n m = (tt, tt)

-- MUTEXES AND TASKS

contents : (m : MutexNo) (v : Option Owned) → None_of (content_things m v)
contents m None = tt
contents m (Some v) = (tt, tt)

mutexes : (n i : ℕ) (m : Mutex) → None_of (mutex_things n i m)
mutexes n i m = (tt, both (content_things m.number m.content) (things_at (queue_things m.number) 0 m.queue) (contents m.number m.content) (each (queue_things m.number) (λ j x. (tt, tt)) 0 m.queue))

results : (t : ℕ) (s : TaskState) → None_of (result_things t s)
results t (kept v) = (tt, tt)
results t s = tt

tasks : (n i : ℕ) (x : Task) → None_of (task_things n i x)
tasks n i x = (tt, results x.thread x.state)

-- A WEIGHT OF ADDRESSES

-- it sees addresses alone, and of a live one the object
pub record SeesAddresses (f : Thing → ℕ) : Type 0 where
  pub nothing : (x : Thing) → NoAddress x → f x ≡ 0
  pub object : (s a : ℕ) (c d : Cell) → c.object ≡ d.object → f (lies s a c) ≡ f (lies s a d)

module _ (f : Thing → ℕ) (sees : SeesAddresses f) where
  none : (b : List Thing) → None_of b → tot f b ≡ 0
  none [] h = refl
  none (x ∷ b) h = omega (arith, sees.nothing x h.0, none b h.1)

  -- of a server it sees the partition
  pub partition_alone : (s : Server) → tot f (server_things s) ≡ tot f (partition_things s.rest.number s.rest.partition)
  partition_alone s =
      let n = s.rest.number in
      omega (
        arith,
        server_parts f s,
        sees.nothing (Rattle.law_walks_own.specs.Below.coherent_memory.Things.counts n (length s.rest.partition.cells) s.rest.partition.retired s.rest.started s.rest.mutexes.made s.events) tt,
        none (things_at (copy_things n) 0 s.rest.cache) (each (copy_things n) (λ i c. (tt, tt)) 0 s.rest.cache),
        none (things_at (mutex_things n) 0 s.rest.mutexes.there) (each (mutex_things n) (mutexes n) 0 s.rest.mutexes.there),
        none (things_at (task_things n) 0 s.rest.tasks) (each (task_things n) (tasks n) 0 s.rest.tasks),
        none (things_at (standing_things n) 0 s.threads) (each (standing_things n) (λ i t. threads n false t) 0 s.threads),
        none (things_at (waiting_things n) 0 s.rest.inbox) (each (waiting_things n) (λ i m. messages n m) 0 s.rest.inbox),
        none (things_at leaving_things 0 s.rest.outbox) (each leaving_things (λ i x. messages x.target x.message) 0 s.rest.outbox),
      )

  -- the same addresses weigh the same
  cells_same : (n : ℕ) (free : List (ℕ × ℕ)) (i : ℕ) (xs ys : List (Option Cell)) → map object_in ys ≡ map object_in xs → tot f (things_at (cell_things n free) i ys) ≡ tot f (things_at (cell_things n free) i xs)
  cells_same n free i [] [] e = refl
  cells_same n free i [] (y ∷ ys) e = absurd (cc e)
  cells_same n free i (x ∷ xs) [] e = absurd (cc e)
  cells_same n free i (x ∷ xs) (y ∷ ys) e =
      omega (
        arith,
        one x y (let h : object_in y ≡ object_in x = cc in h),
        cells_same n free (i + 1) xs ys (let r : map object_in ys ≡ map object_in xs = cc in r),
        tot-append f (cell_things n free i x) (things_at (cell_things n free) (i + 1) xs),
        tot-append f (cell_things n free i y) (things_at (cell_things n free) (i + 1) ys),
      )
    where
      one : (x y : Option Cell) → object_in y ≡ object_in x → tot f (cell_things n free i y) ≡ tot f (cell_things n free i x)
      one None None h = refl
      one None (Some y) h = absurd (cc h)
      one (Some x) None h = absurd (cc h)
      one (Some x) (Some y) h = let o : y.object ≡ x.object = cc in omega (arith, sees.object n i y x o)

  pub same_weight : (n : ℕ) (p q : PartitionState) → SameAddresses p q → tot f (partition_things n q) ≡ tot f (partition_things n p)
  same_weight n p q s =
      let cells : tot f (things_at (cell_things n q.free) 0 q.cells) ≡ tot f (things_at (cell_things n p.free) 0 p.cells) = ap (λ l. tot f (things_at (cell_things n l) 0 q.cells)) s.free ∙ cells_same n p.free 0 p.cells q.cells s.cells in
      let free : tot f (things_at (free_things n) 0 q.free) ≡ tot f (things_at (free_things n) 0 p.free) = ap (λ l. tot f (things_at (free_things n) 0 l)) s.free in
      omega (arith, cells, free, tot-append f (things_at (cell_things n q.free) 0 q.cells) (things_at (free_things n) 0 q.free), tot-append f (things_at (cell_things n p.free) 0 p.cells) (things_at (free_things n) 0 p.free))
