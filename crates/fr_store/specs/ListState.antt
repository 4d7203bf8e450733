-- The store of one thread (Featherweight Rust's state): its slots as a list, the newest first, the value in its running term,
-- and the heap. Other threads may have values beside it (this project's rule).
use Rattle.std.specs.Prelude.{◌≡◌, ◌<◌, ℕ, zero, suc, ◌==◌, List, [], ◌∷◌, length, Option, Some, None, if◌then◌else◌}
use Rattle.fr_base.specs.declared.name.ObjNo.{ObjNo}
use Rattle.fr_store.specs.Keys.{Key, slot_k, temp_k, content_k, result_k, hand_k, same_object}
use Rattle.fr_store.specs.Store.{at_key, at_object, Location, Val, gone_v, box_v, Store, or_gone}

-- the objects that are there
abbrev pub Objects : Type 0
Objects = ObjNo → Option Val

-- the value of the slot of that number, which is the number of slots before it; gone where there is none
abbrev pub slot_value : List Val → ℕ → Val
slot_value [] n = gone_v
slot_value (v ∷ vs) n = if n == length vs then v else slot_value vs n

-- the slots with another value in the slot of that number
abbrev pub put_slot : List Val → ℕ → Val → List Val
put_slot [] n w = []
put_slot (v ∷ vs) n w = if n == length vs then w ∷ vs else v ∷ put_slot vs n w

-- what stands at a key: one of the slots, the value in the term, or what others have there
abbrev pub key_value : (Key → Val) → ℕ → List Val → Val → Key → Val
key_value rest thread vs v (slot_k t n) = if t == thread then slot_value vs n else rest (slot_k t n)
key_value rest thread vs v (temp_k t n) = rest (temp_k t n)
key_value rest thread vs v (content_k h n) = rest (content_k h n)
key_value rest thread vs v (result_k t) = rest (result_k t)
key_value rest thread vs v (hand_k t) = if t == thread then v else rest (hand_k t)

-- the store: the slots at the thread's slot keys, the value in the term at its hand (gone where there is none), and what
-- others have at other keys
abbrev pub store_beside : (Key → Val) → ℕ → List Val → Val → Objects → Store
store_beside rest thread vs v heap = record { at = key_value rest thread vs v; heap = heap }

-- others have nothing
abbrev pub nothing : Key → Val
nothing k = gone_v

-- the store of a thread that runs alone
abbrev pub store_of : ℕ → List Val → Val → Objects → Store
store_of thread vs v heap = store_beside nothing thread vs v heap

-- the heap with another value in an object
abbrev pub put_object : Objects → ObjNo → Val → Objects
put_object heap o v = λ q. if same_object q o then Some v else heap q

-- the heap without an object
abbrev pub without_object : Objects → ObjNo → Objects
without_object heap o = λ q. if same_object q o then None else heap q

-- the heap after a value is dropped (Featherweight Rust's `drop`): its object goes, and what that held is dropped.
-- The number bounds the objects in one another
abbrev pub drop_objects : ℕ → Val → Objects → Objects
drop_objects zero v heap = heap
drop_objects (suc n) (box_v o) heap = drop_objects n (or_gone (heap o)) (without_object heap o)
drop_objects (suc n) v heap = heap

-- what such a drop ends with, after so many objects
abbrev pub drop_last : ℕ → Val → Objects → Val
drop_last zero v heap = v
drop_last (suc n) (box_v o) heap = drop_last n (or_gone (heap o)) (without_object heap o)
drop_last (suc n) v heap = v

-- what is left to drop after so many objects: nothing where the number is large enough
abbrev pub drop_rest : ℕ → Val → Objects → Val
drop_rest zero v heap = v
drop_rest (suc n) (box_v o) heap = drop_rest n (or_gone (heap o)) (without_object heap o)
drop_rest (suc n) v heap = gone_v

-- a location of the thread: an object, or a slot that is there
abbrev pub IsIn : ℕ → List Val → Location → Type 0
IsIn thread vs (at_object o) = Unit {0}
IsIn thread vs (at_key (slot_k t n)) = (t ≡ thread) × (n < length vs)
IsIn thread vs (at_key (temp_k t n)) = ⊥
IsIn thread vs (at_key (content_k h n)) = ⊥
IsIn thread vs (at_key (result_k t)) = ⊥
IsIn thread vs (at_key (hand_k t)) = ⊥

-- the slots with another value at such a location
abbrev pub put_in_slots : Location → Val → List Val → List Val
put_in_slots (at_object o) w vs = vs
put_in_slots (at_key (slot_k t n)) w vs = put_slot vs n w
put_in_slots (at_key (temp_k t n)) w vs = vs
put_in_slots (at_key (content_k h n)) w vs = vs
put_in_slots (at_key (result_k t)) w vs = vs
put_in_slots (at_key (hand_k t)) w vs = vs

-- and the heap
abbrev pub put_in_heap : Location → Val → Objects → Objects
put_in_heap (at_object o) w heap = put_object heap o w
put_in_heap (at_key k) w heap = heap
