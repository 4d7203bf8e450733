-- The plain machine's state as a typed store: a thread's slots, the temporary value of its running term, and the heap,
-- beside what other threads have (this project's rule).
use Rattle.std.specs.Prelude.{◌≡◌, ◌≢◌, ℕ, ◌<◌, ◌≤◌, ⊤, Bool, true, false, List, [], ◌∷◌, length, Option, Some, None}
use Rattle.fr_plain.specs.Below.fr_base.declared.label.Plain.{Plain}
use Rattle.fr_plain.specs.Below.fr_base.declared.label.Plain.TheVariants as plain
use Rattle.fr_plain.specs.Below.fr_base.declared.name.ObjNo.{ObjNo}
use Rattle.fr_plain.specs.Below.fr_base.declared.name.MutexNo.{MutexNo}
use Rattle.fr_plain.specs.Below.fr_typing.Kinds.{Owned, unit, Kind}
use Rattle.fr_plain.specs.Below.fr_typing.Places.{Env}
use Rattle.fr_store.specs.Keys.{Key, slot_k, hand_k}
use Rattle.fr_store.specs.Store.{Location, at_key, at_object, Val, gone_v, unit_v, int_v, box_v, mutex_v, task_v, ref_v, Store, value_at}
use Rattle.fr_store.specs.ListState.{store_beside, nothing}
use Rattle.fr_store.specs.Typed.{Tree, hole, owns, KeyTypes}
use Rattle.fr_store.specs.Below.{tree_of}
use Rattle.fr_store.specs.Local.{thread_of, IsLocal}
use Rattle.fr_store.specs.Thread.{ThreadTyped}
use Rattle.fr_plain.specs.declared.value.Value.{Value}
use Rattle.fr_plain.specs.declared.value.Value.TheVariants.{Own, ToSlot, ToObject, Held}
use Rattle.fr_plain.specs.Heap.{Heap, made_by, cell_at}
use Rattle.fr_plain.specs.State.{State, Spot, in_slot, in_cell}

-- the type of each thread's result, whether it has ended or not, and of each mutex's content, wherever that stands
pub record Gives : Type 0 where
  pub result : ℕ → Owned
  pub mutex : MutexNo → Owned

-- what a thread's state stands beside: the types of results and contents, the threads whose tasks are there, and what stands at other
-- threads' keys, with its exact types
pub record Beside : Type 0 where
  pub gives : Gives
  pub owed : ℕ → Bool
  pub at : Key → Val
  pub types : KeyTypes

-- a thread that runs alone: there is no task
abbrev pub lone : Beside
lone = record { gives = record { result = λ t. unit; mutex = λ m. unit }; owed = λ t. false; at = nothing; types = λ k. owns hole }

abbrev pub owned_val : Gives → Plain → Val
owned_val g plain.Nothing = gone_v
owned_val g plain.Unit = unit_v
owned_val g (plain.Int n) = int_v n
owned_val g (plain.Box o) = box_v o
owned_val g (plain.Mutex m) = mutex_v m (tree_of (g.mutex m))
owned_val g (plain.Task t) = task_v t (tree_of (g.result t))

-- a value of that thread
abbrev pub val_of : Gives → ℕ → Value → Val
val_of g t (Own v) = owned_val g v
val_of g t (ToSlot i) = ref_v (at_key (slot_k t i))
val_of g t (ToObject o) = ref_v (at_object o)
val_of g t (Held m) = gone_v

abbrev pub vals : Gives → ℕ → List Value → List Val
vals g t [] = []
vals g t (v ∷ vs) = val_of g t v ∷ vals g t vs

abbrev pub hand_of : Gives → ℕ → Option Value → Val
hand_of g t None = gone_v
hand_of g t (Some v) = val_of g t v

abbrev pub seen_cell : Gives → Option Plain → Option Val
seen_cell g None = None
seen_cell g (Some v) = Some (owned_val g v)

abbrev pub heap_of : Gives → Heap → ObjNo → Option Val
heap_of g h = λ o. seen_cell g (cell_at h o)

-- the state, with the temporary value of the running term
abbrev pub seen : Beside → State → Option Value → Store
seen b st h = store_beside b.at st.thread (vals b.gives st.thread st.slots) (hand_of b.gives st.thread h) (heap_of b.gives st.heap)

abbrev pub location_of : ℕ → Spot → Location
location_of t (in_slot i) = at_key (slot_k t i)
location_of t (in_cell o) = at_object o

-- slots rank by their numbers, and below the hands
abbrev pub rank_of : ℕ → Key → ℕ
rank_of high (slot_k t i) = i
rank_of high (hand_k t) = high
rank_of high _ = 0

-- a value that may stand somewhere: a box is of an object that was made, and a task of a thread whose task is there
abbrev pub IsKnown : (ℕ → Bool) → Heap → Val → Type 0
IsKnown owed h (box_v o) = o.count < length (made_by h o.thread)
IsKnown owed h (task_v t r) = owed t ≡ true
IsKnown owed h _ = ⊤

-- a thread's task stands at one place
abbrev pub OneTask : Store → Type 0
OneTask s = (l m : Location) (t : ℕ) (a b : Tree) → value_at s l ≡ Some (task_v t a) → value_at s m ≡ Some (task_v t b) → l ≡ m

-- each value may stand where it stands, and each task stands at one place
pub record AreKnown (P : Val → Type 0) (s : Store) : Type 0 where
  pub each : (l : Location) (v : Val) → value_at s l ≡ Some v → P v
  pub once : OneTask s

-- nobody has the thread's task
abbrev pub HasNone : ℕ → Store → Type 0
HasNone t s = (l : Location) (r : Tree) → value_at s l ≡ Some (task_v t r) → ⊥

-- the exact types are those of others at all keys but the thread's, and threads share no memory
pub record IsBeside (b : Beside) (t : ℕ) (E : KeyTypes) : Type 0 where
  pub others : (k : Key) → thread_of k ≢ Some t → E k ≡ b.types k
  pub own : IsLocal E

-- the state is typed by the environment, and its temporary value by the type
pub record Holds (b : Beside) (e : Env) (o : Option Kind) (h : Option Value) (st : State) : Type 0 where
  pub high : ℕ
  pub low : length e ≤ high
  pub types : KeyTypes
  pub thread : ThreadTyped (slot_k st.thread) (rank_of high) (hand_k st.thread) e types (seen b st h) o
  pub slots : length st.slots ≡ length e
  pub known : AreKnown (IsKnown b.owed st.heap) (seen b st h)
  pub beside : IsBeside b st.thread types
