-- TYPED STATES of the plain machine, name by name (Featherweight Rust's valid states, with this project's threads, mutexes and views). P is the
-- place of a thread in its program; `knows` is what typing knows at a place, and `temps` gives the temporary values there, the last one first.
use Rattle.std.specs.Prelude.{◌≡◌, ◌≢◌, ◌⊎◌, ℕ, suc, ◌<◌, ⊤, Bool, true, false, not, ◌==◌, is_some, List, [], ◌∷◌, length, Option, Some, None, if◌then◌else◌, slice_get}
use Rattle.fr_plain.specs.Below.fr_base.declared.name.ObjNo.{ObjNo}
use Rattle.fr_plain.specs.Below.fr_base.declared.name.MutexNo.{MutexNo}
use Rattle.fr_plain.specs.Below.fr_base.declared.label.Plain.{Plain}
use Rattle.fr_plain.specs.Below.fr_typing.Kinds.{Owned, unit, box, Kind, own, shared, mutable, view, Piece, whole, gone, boxed, map_some}
use Rattle.fr_plain.specs.Below.fr_typing.Places.{Slot, Env}
use Rattle.fr_store.specs.Keys.{Key, slot_k, temp_k, content_k, result_k, hand_k}
use Rattle.fr_store.specs.Store.{Location, at_key, at_object, Val, gone_v, box_v, mutex_v, task_v, ref_v, Store, value_at, Place, below_location, below_key}
use Rattle.fr_store.specs.Typed.{Tree, int_tree, owns, refers, KeyTypes, Typed, Unnamed}
use Rattle.fr_store.specs.Below.{tree_of}
use Rattle.fr_store.specs.Thread.{ThreadKeys, ThreadTyped, Asleep}
use Rattle.fr_plain.specs.declared.value.Value.{Value}
use Rattle.fr_plain.specs.declared.value.Value.TheVariants.{Own, ToSlot, ToObject, Held}
use Rattle.fr_plain.specs.State.{slot_at}
use Rattle.fr_plain.specs.MachineThreads.{Life, alive, over, owing, loose, ended, Shared}
use Rattle.fr_plain.specs.PlainState.{Running, PlainState, place_in}
use Rattle.fr_sound.specs.Seen.{Gives, owned_val, val_of, seen_cell, OneTask}
use Rattle.fr_sound.specs.Entries.{Entry}

-- what the types of a state tell beside what is known at places
pub record Typing : Type 0 where
  -- one type for each thread's result and each mutex's content
  pub gives : Gives
  -- one exact type for each key, which stands below that of its environment, and the order of the keys
  pub exact : KeyTypes
  pub rank : Key → ℕ
  -- where the mutex stands of which a slot of a thread is the mark
  pub marks : ℕ → ℕ → Location
  -- how many parents wait above a thread
  pub order : ℕ → ℕ

-- THE STATE AS A STORE

-- a value of that thread; the mark of a lock is seen as a reference to where the mutex stands
abbrev seen_val : Gives → ℕ → Val → Option Value → Val
seen_val g t mark None = gone_v
seen_val g t mark (Some (Held m)) = mark
seen_val g t mark (Some (Own v)) = owned_val g v
seen_val g t mark (Some (ToSlot i)) = ref_v (at_key (slot_k t i))
seen_val g t mark (Some (ToObject o)) = ref_v (at_object o)

abbrev plain_val : Gives → Option Plain → Val
plain_val g None = gone_v
plain_val g (Some v) = owned_val g v

abbrev pub content_val : Gives → Option Shared → Val
content_val g None = gone_v
content_val g (Some x) = plain_val g x.content

module _ {P : Type 0} (temps : P → List Value) where
  abbrev pub slot_val : Typing → ℕ → ℕ → Option (Running P) → Val
  slot_val y t i None = gone_v
  slot_val y t i (Some x) = seen_val y.gives t (ref_v (y.marks t i)) (slot_at x.slots i)

  abbrev pub temp_val : Typing → ℕ → ℕ → Option (Running P) → Val
  temp_val y t i None = gone_v
  temp_val y t i (Some x) = seen_val y.gives t gone_v (slot_at (temps x.place) i)

  abbrev pub result_val : Typing → ℕ → Option (Life (Running P)) → Val
  result_val y t (Some (ended v)) = val_of y.gives t v
  result_val y t (Some over) = gone_v
  result_val y t (Some (alive x)) = gone_v
  result_val y t (Some (owing x)) = gone_v
  result_val y t (Some (loose x)) = gone_v
  result_val y t None = gone_v

  abbrev pub key_val : Typing → PlainState P → Key → Val
  key_val y a (slot_k t i) = slot_val y t i (place_in (a.thread t))
  key_val y a (temp_k t i) = temp_val y t i (place_in (a.thread t))
  key_val y a (content_k h c) = content_val y.gives (a.mutex (record { home = h; count = c }))
  key_val y a (result_k t) = result_val y t (a.thread t)
  key_val y a (hand_k t) = gone_v

  -- what stands in the state: slots, temporary values, contents that are in, results, and objects
  abbrev pub store_of : Typing → PlainState P → Store
  store_of y a = record { at = key_val y a; heap = λ o. seen_cell y.gives (a.object o) }

-- SLOTS OF AN ENVIRONMENT

abbrev pub env_at : Env → ℕ → Option Slot
env_at [] i = None
env_at (s ∷ e) i = if i == length e then Some s else env_at e i

abbrev pub part_of : Option Slot → Option Piece
part_of None = None
part_of (Some s) = Some s.part

abbrev pub part_at : Env → ℕ → Option Piece
part_at e i = part_of (env_at e i)

-- the owned type that a kind is
abbrev pub owned_kind : Kind → Option Owned
owned_kind (own o) = Some o
owned_kind k = None

-- the owned type of which a part is, whatever has moved away
abbrev pub owned_part : Piece → Option Owned
owned_part (whole k) = owned_kind k
owned_part (gone k) = owned_kind k
owned_part (boxed p) = map_some box (owned_part p)

abbrev owned_of : Option Piece → Option Owned
owned_of None = None
owned_of (Some p) = owned_part p

-- a reference, and no view
abbrev pub is_reference : Option Piece → Bool
is_reference (Some (whole (shared us))) = true
is_reference (Some (whole (mutable us))) = true
is_reference p = false

-- the slot has no name: it is the hidden one of a lock
abbrev pub is_hidden : Option Slot → Bool
is_hidden None = false
is_hidden (Some s) = not (is_some s.name)

abbrev pub is_held : Option Value → Bool
is_held (Some (Held m)) = true
is_held v = false

-- WHERE REFERENCES LEAD

-- a slot reaches the objects that it owns, the object that a view in it leads to, and what that owns
pub data Reaches (s : Store) (e : Env) (t : ℕ) : ℕ → ObjNo → Type 0 where
  by_boxes : {i : ℕ} {o : ObjNo} (n : ℕ) → below_key s (slot_k t i) (suc n) ≡ Some (at_object o) → Reaches s e t i o
  by_view : {i : ℕ} {o : ObjNo} (x : Owned) (q : ObjNo) (n : ℕ) → part_at e i ≡ Some (whole (view x)) → s.at (slot_k t i) ≡ ref_v (at_object q) → below_location s (at_object q) n ≡ Some (at_object o) → Reaches s e t i o

-- the location is a lower slot of the thread, or an object that a lower slot reaches
abbrev pub IsLower : Store → Env → ℕ → ℕ → Location → Type 0
IsLower s e t i (at_key (slot_k u j)) = (u ≡ t) × (j < i)
IsLower s e t i (at_key (temp_k u j)) = ⊥
IsLower s e t i (at_key (content_k h c)) = ⊥
IsLower s e t i (at_key (result_k u)) = ⊥
IsLower s e t i (at_key (hand_k u)) = ⊥
IsLower s e t i (at_object o) = (j : ℕ) × (j < i) × Reaches s e t j o

-- THREADS

-- the temporary value on top is the one at hand; those below it are left operands
abbrev pub hand_key : ℕ → List Kind → Key
hand_key t [] = temp_k t 0
hand_key t (k ∷ ts) = temp_k t (length ts)

abbrev pub hand_kind : List Kind → Option Kind
hand_kind [] = None
hand_kind (k ∷ ts) = Some k

abbrev pub operands : List Kind → ℕ
operands [] = 0
operands (k ∷ ts) = length ts

-- a thread whose slots and hand have these types; while its branches go on, views may name its slots
abbrev pub IsThread : Bool → (ℕ → Key) → (Key → ℕ) → Key → Env → KeyTypes → Store → Option Kind → Type 0
IsThread true key rank hand e exact s k = Asleep key rank hand e exact k
IsThread false key rank hand e exact s k = ThreadTyped key rank hand e exact s k

-- the slot is the mark of a lock of the mutex: a value of it stands where the mark leads, no type names the mark, and the slot above is the one for
-- the content, whole or in part gone
pub record IsLock (y : Typing) (s : Store) (e : Env) (t i : ℕ) (m : MutexNo) : Type 0 where
  pub leads : value_at s (y.marks t i) ≡ Some (mutex_v m (tree_of (y.gives.mutex m)))
  pub unnamed : Unnamed y.exact (slot_k t i)
  pub content : owned_of (part_at e (suc i)) ≡ Some (y.gives.mutex m)

-- a thread that goes on, and waits for these two or for none: what typing knows at its place types its slots and temporary values
pub record RunningTyped {P : Type 0} (knows : P → Entry → Type 0) (temps : P → List Value) (y : Typing) (s : Store) (t : ℕ) (pair : Option (ℕ × ℕ)) (x : Running P) : Type 0 where
  pub entry : Entry
  pub known : knows x.place entry
  -- it ends with the type that its task has
  pub gives : entry.gives ≡ y.gives.result t
  pub keys : ThreadKeys (slot_k t) y.rank (hand_key t entry.temps)
  pub thread : IsThread entry.forked (slot_k t) y.rank (hand_key t entry.temps) entry.env y.exact s (hand_kind entry.temps)
  pub waiting : (i : ℕ) → i < operands entry.temps → y.exact (temp_k t i) ≡ owns int_tree
  pub all_slots : length x.slots ≡ length entry.env
  pub all_temps : length (temps x.place) ≡ length entry.temps
  -- a reference kept in a slot leads to a lower slot or to an object that a lower slot reaches
  pub lower : (i : ℕ) (l : Location) → is_reference (part_at entry.env i) ≡ true → s.at (slot_k t i) ≡ ref_v l → IsLower s entry.env t i l
  -- between a par and its end it waits for two threads, and nowhere else
  pub forks : entry.forked ≡ is_some pair
  -- the slots without a name are the marks of locks
  pub hidden : (i : ℕ) → is_hidden (env_at entry.env i) ≡ is_held (slot_at x.slots i)
  pub marked : (i : ℕ) (m : MutexNo) → slot_at x.slots i ≡ Some (Held m) → IsLock y s entry.env t i m

-- WHO WAITS FOR WHOM

-- the thread waits for two, of which one is t
pub record WaitsFor {P : Type 0} (a : PlainState P) (parent t : ℕ) : Type 0 where
  pub first : ℕ
  pub second : ℕ
  pub pair : a.pair parent ≡ Some (first, second)
  pub one : (t ≡ first) ⊎ (t ≡ second)

-- or for one that waits for t, and so on
pub data WaitsAbove {P : Type 0} (a : PlainState P) : ℕ → ℕ → Type 0 where
  directly : {p t : ℕ} → WaitsFor a p t → WaitsAbove a p t
  through : {p q t : ℕ} → WaitsFor a p q → WaitsAbove a q t → WaitsAbove a p t

-- the thread that has a value at the key
abbrev pub thread_of_key : Key → Option ℕ
thread_of_key (slot_k t i) = Some t
thread_of_key (temp_k t i) = Some t
thread_of_key (hand_k t) = Some t
thread_of_key (content_k h c) = None
thread_of_key (result_k t) = None

-- the place starts at a slot of the key's own thread, or of one that waits for it at a par
pub record IsNear {P : Type 0} (a : PlainState P) (k : Key) (u : Place) : Type 0 where
  pub thread : ℕ
  pub of : thread_of_key k ≡ Some thread
  pub owner : ℕ
  pub slot : ℕ
  pub is : u.key ≡ slot_k owner slot
  pub near : (owner ≡ thread) ⊎ WaitsAbove a owner thread

-- the thread is not main, and it goes on and wasn't let go, or its result is kept
abbrev pub IsKept : {P : Type 0} → Option (Life P) → Type 0
IsKept None = ⊥
IsKept (Some (alive x)) = ⊥
IsKept (Some over) = ⊥
IsKept (Some (owing x)) = ⊤
IsKept (Some (loose x)) = ⊥
IsKept (Some (ended v)) = ⊤

-- a thread for which that parent waits, which is alone in that; it ends with unit
pub record IsBranch {P : Type 0} (y : Typing) (a : PlainState P) (parent t : ℕ) : Type 0 where
  pub kept : IsKept (a.thread t)
  pub gives : y.gives.result t ≡ unit
  pub only : (q : ℕ) → WaitsFor a q t → q ≡ parent
  -- going from a branch to its parent comes to an end
  pub below : y.order parent < y.order t

-- MUTEXES AND TASKS

-- so many locations are these, each one once
pub record AreSoMany (Is : Location → Type 0) (n : ℕ) : Type 0 where
  pub places : List Location
  pub each : (i : ℕ) (l : Location) → slice_get places i ≡ Some l → Is l
  pub all : (l : Location) → Is l → (i : ℕ) × (slice_get places i ≡ Some l)
  pub once : (i j : ℕ) (l : Location) → slice_get places i ≡ Some l → slice_get places j ≡ Some l → i ≡ j
  pub count : length places ≡ n

-- a value of the mutex stands there
abbrev pub IsShare : Store → MutexNo → Location → Type 0
IsShare s m l = (content : Tree) × (value_at s l ≡ Some (mutex_v m content))

-- the thread holds the mutex: that slot is its mark
pub record IsMark {P : Type 0} (a : PlainState P) (m : MutexNo) (t i : ℕ) : Type 0 where
  pub thread : Running P
  pub goes_on : place_in (a.thread t) ≡ Some thread
  pub mark : slot_at thread.slots i ≡ Some (Held m)

-- it has one mark
pub record HasOneMark {P : Type 0} (a : PlainState P) (m : MutexNo) : Type 0 where
  pub thread : ℕ
  pub slot : ℕ
  pub is : IsMark a m thread slot
  pub only : (t i : ℕ) → IsMark a m t i → (t ≡ thread) × (i ≡ slot)

-- a mutex that is there has as many shares as values; its content is out with the one thread that holds it, or it is in, whole and of its type
pub record MutexTyped {P : Type 0} (y : Typing) (a : PlainState P) (s : Store) (m : MutexNo) (x : Shared) : Type 0 where
  pub given : a.is_given m ≡ true
  pub shares : AreSoMany (IsShare s m) x.shares
  pub needed : 0 < x.shares
  pub out : x.content ≡ None → HasOneMark a m
  pub unheld : (v : Plain) → x.content ≡ Some v → (t i : ℕ) → IsMark a m t i → ⊥
  pub content : (v : Plain) → x.content ≡ Some v → y.exact (content_k m.home m.count) ≡ owns (tree_of (y.gives.mutex m))

-- somebody is owed the thread's task: it is kept, and nobody waits for it at a par
pub record IsOwed {P : Type 0} (a : PlainState P) (t : ℕ) : Type 0 where
  pub free : (p : ℕ) → WaitsFor a p t → ⊥
  pub kept : IsKept (a.thread t)

-- THE STATE

-- the state is typed. The exact types stand below the environments: each reference names there the one place that it leads to, and no variable is
-- named by a mutable reference and another one. Ranks order the keys
pub record StateTypes {P : Type 0} (knows : P → Entry → Type 0) (temps : P → List Value) (y : Typing) (a : PlainState P) : Type 0 where
  pub typed : Typed y.rank y.exact (store_of temps y a)
  pub threads : (t : ℕ) (x : Running P) → place_in (a.thread t) ≡ Some x → RunningTyped knows temps y (store_of temps y a) t (a.pair t) x
  -- a result is whole, of its thread's type
  pub results : (t : ℕ) (v : Value) → a.thread t ≡ Some (ended v) → y.exact (result_k t) ≡ owns (tree_of (y.gives.result t))
  -- an exact reference names a slot of its own thread, or of an ancestor that waits at its par
  pub near : (k : Key) (m : Bool) (u : Place) → y.exact k ≡ refers m u → IsNear a k u
  -- the two threads of a pair differ, and each is a branch of its parent alone
  pub pairs : (p b c : ℕ) → a.pair p ≡ Some (b, c) → (b ≢ c) × IsBranch y a p b × IsBranch y a p c
  -- who waits for a pair goes on
  pub parents : (p b c : ℕ) → a.pair p ≡ Some (b, c) → (x : Running P) × (place_in (a.thread p) ≡ Some x)
  -- each mutex of which a value stands somewhere is there
  pub there : (l : Location) (m : MutexNo) → IsShare (store_of temps y a) m l → (x : Shared) × (a.mutex m ≡ Some x)
  pub mutexes : (m : MutexNo) (x : Shared) → a.mutex m ≡ Some x → MutexTyped y a (store_of temps y a) m x
  -- a task stands in one place, and exactly that of a thread whose task somebody is owed
  pub one_task : OneTask (store_of temps y a)
  pub tasks_owed : (l : Location) (t : ℕ) (r : Tree) → value_at (store_of temps y a) l ≡ Some (task_v t r) → IsOwed a t
  pub owed_stand : (t : ℕ) → IsOwed a t → (l : Location) × (r : Tree) × (value_at (store_of temps y a) l ≡ Some (task_v t r))
  -- a box that stands somewhere has its object, and each object has an owner, and its thread counted it
  pub objects_there : (l : Location) (o : ObjNo) → value_at (store_of temps y a) l ≡ Some (box_v o) → (v : Plain) × (a.object o ≡ Some v)
  pub objects_owned : (o : ObjNo) (v : Plain) → a.object o ≡ Some v → (l : Location) × (value_at (store_of temps y a) l ≡ Some (box_v o))
  pub objects_made : (o : ObjNo) (v : Plain) (x : Running P) → a.object o ≡ Some v → place_in (a.thread o.thread) ≡ Some x → o.count < a.made o.thread
