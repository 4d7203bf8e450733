-- The store of Featherweight Rust, with this project's keys: one value stands at each key, and objects stand in one heap.
use Rattle.std.specs.Prelude.{◌≡◌, ℕ, zero, suc, ℤ, Option, Some, None, if◌then◌else◌}
use Rattle.fr_base.specs.declared.name.ObjNo.{ObjNo}
use Rattle.fr_base.specs.declared.name.MutexNo.{MutexNo}
use Rattle.fr_store.specs.Keys.{Key, same_key, same_object}
use Rattle.fr_store.specs.Trees.{Tree}

-- a location (Featherweight Rust): where a value stands
pub data Location : Type 0 where
  at_key : (k : Key) → Location
  at_object : (o : ObjNo) → Location

-- a value (Featherweight Rust; mutexes and tasks are this project's). Gone is what a value leaves that has moved away; a
-- value of a mutex tells the tree of its content, and a task that of the result that its thread will have
pub data Val : Type 0 where
  gone_v : Val
  unit_v : Val
  int_v : (n : ℤ) → Val
  box_v : (o : ObjNo) → Val
  mutex_v : (m : MutexNo) (content : Tree) → Val
  task_v : (t : ℕ) (result : Tree) → Val
  ref_v : (l : Location) → Val

-- a store (Featherweight Rust): what stands at each key, and the objects that are there
pub record Store : Type 0 where
  pub at : Key → Val
  pub heap : ObjNo → Option Val

-- what stands at a location; nothing where the object isn't there
abbrev pub value_at : Store → Location → Option Val
value_at s (at_key k) = Some (s.at k)
value_at s (at_object o) = s.heap o

-- the same value stands at each location
abbrev pub Alike : Store → Store → Type 0
Alike s s2 = (l : Location) → value_at s2 l ≡ value_at s l

-- WHERE A PLACE LEADS (Featherweight Rust's `loc`)

-- a place: a key under so many stars
pub record Place : Type 0 where
  pub key : Key
  pub depth : ℕ

-- a further step from a location, where there is one
abbrev pub then_location : Option Location → (Location → Option Location) → Option Location
then_location None f = None
then_location (Some l) f = f l

-- one star: a box leads to its object, a reference to what it refers to
abbrev pub star_target : Option Val → Option Location
star_target (Some (box_v o)) = Some (at_object o)
star_target (Some (ref_v l)) = Some l
star_target _ = None

-- one star from a location
abbrev pub star_hop : Store → Location → Option Location
star_hop s l = star_target (value_at s l)

-- so many stars from a location, the first one first
abbrev pub walk : Store → ℕ → Location → Option Location
walk s zero l = Some l
walk s (suc d) l = then_location (star_hop s l) (walk s d)

-- what a place leads to
abbrev pub locate : Store → Place → Option Location
locate s w = walk s w.depth (at_key w.key)

-- CHAINS OF BOXES (this project's rule)

-- the object of a box
abbrev pub box_target : Option Val → Option Location
box_target (Some (box_v o)) = Some (at_object o)
box_target _ = None

-- one box from a location
abbrev pub box_hop : Store → Location → Option Location
box_hop s l = box_target (value_at s l)

-- so many boxes below a location, the last one last
abbrev pub below_location : Store → Location → ℕ → Option Location
below_location s l zero = Some l
below_location s l (suc n) = then_location (below_location s l n) (box_hop s)

-- so many boxes below a key
abbrev pub below_key : Store → Key → ℕ → Option Location
below_key s k n = below_location s (at_key k) n

-- a sum that is taken apart by cases on its first number
abbrev pub add : ℕ → ℕ → ℕ
add zero e = e
add (suc d) e = suc (add d e)

-- CHANGES OF A STORE

-- a location gets another value (Featherweight Rust's `write`)
abbrev pub put_value : Store → Location → Val → Store
put_value s (at_key k) v = record s { at = λ j. if same_key j k then v else s.at j }
put_value s (at_object o) v = record s { heap = λ q. if same_object q o then Some v else s.heap q }

-- a value that is there, else gone
abbrev pub or_gone : Option Val → Val
or_gone (Some v) = v
or_gone None = gone_v

-- the value of key h and the value at a location change places (this project's rule): moving out, writing, a new slot
abbrev pub swap : Store → Key → Location → Store
swap s h l = put_value (put_value s l (s.at h)) (at_key h) (or_gone (value_at s l))

-- an object leaves the heap, and key h has its value (this project's rule): one link of a drop
abbrev pub unbox : Store → Key → ObjNo → Store
unbox s h o = record {
  at = λ j. if same_key j h then or_gone (s.heap o) else s.at j;
  heap = λ q. if same_object q o then None else s.heap q;
}

-- a new object has the value of key h, and key h has its box (Featherweight Rust's `box`)
abbrev pub make : Store → Key → ObjNo → Store
make s h o = record {
  at = λ j. if same_key j h then box_v o else s.at j;
  heap = λ q. if same_object q o then Some (s.at h) else s.heap q;
}

-- one link: a box opens and the rest goes on; any other value ends
abbrev pub drop_link : (Store → Store) → Store → Key → Val → Store
drop_link go s h (box_v o) = go (unbox s h o)
drop_link go s h _ = put_value s (at_key h) gone_v

-- the value of key h is dropped (Featherweight Rust's `drop`): a box takes its object along, and what that held.
-- The number bounds the objects in one another; a value with fewer is dropped whole
abbrev pub drop_value : ℕ → Key → Store → Store
drop_value zero h s = s
drop_value (suc n) h s = drop_link (drop_value n h) s h (s.at h)
