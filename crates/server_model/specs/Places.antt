-- Where a place leads inside a server, and how the pointer there gets another word (this project's rules).
use Rattle.std.specs.Prelude.{if◌then◌else◌, ℕ, Bool, true, false, nat_lt, List, [], ◌∷◌, ◌++◌, length, Option, Some, None, slice_get, slice_set}
use Rattle.fr_base.specs.declared.label.Label.{Label}
use Rattle.fr_base.specs.declared.label.Label.TheVariants as label
use Rattle.place_walk.specs.Below.heap_partition.Plain.{plain_of}
use Rattle.place_walk.specs.Below.heap_partition.declared.value.BoxPtr.{BoxPtr}
use Rattle.place_walk.specs.Below.heap_partition.declared.value.Cell.{Cell}
use Rattle.place_walk.specs.Below.heap_partition.declared.value.Owned.{Owned}
use Rattle.place_walk.specs.Below.heap_partition.declared.value.Owned.TheVariants as owned
use Rattle.owner_box.specs.Partition.{stored}
use Rattle.place_walk.specs.Below.read_cache.Cache.{hit}
use Rattle.mut_borrow.specs.declared.mutable.MutRef.{MutRef}
use Rattle.place_walk.specs.Below.thread_state.declared.value.Value.{Value}
use Rattle.place_walk.specs.Below.thread_state.declared.value.Value.TheVariants as value
use Rattle.migration.specs.Packing.{unpinned}
use Rattle.server_model.specs.NewWords.{NewWord}
use Rattle.server_model.specs.Work.{Hand, with_partition, look, leads_here, working, with_slots, with_temps, last_of, front_of, then_some, label_all}

-- where a value stands that a thread follows: in a slot; on top of its temporary values; in a cell that lies here, under the word
-- that led to it, with the slot of the mutable reference where one led straight to it; in a cached copy. `nowhere` is for what
-- follows no place
pub data Spot : Type 0 where
  in_slot : (slot : ℕ) → Spot
  on_top : Spot
  in_cell : (word : ℕ) → (through : Option ℕ) → Spot
  in_copy : (word : ℕ) → Spot
  nowhere : Spot

-- the cell at a spot, or the copy of one
abbrev pub cell_at : Hand → Spot → Option Cell
cell_at h (in_cell w through) = look h.work.rest.partition w
cell_at h (in_copy w) = hit h.work.rest.cache w
cell_at h s = None

-- the value of a cell
abbrev pub value_in : Option Cell → Option Value
value_in None = None
value_in (Some c) = Some (value.Own c.value)

-- the value at a spot
abbrev pub value_at : Hand → Spot → Option Value
value_at h (in_slot i) = slice_get h.thread.slots i
value_at h on_top = last_of h.thread.temps
value_at h s = value_in (cell_at h s)

-- COPIES OF VALUES

-- it has no part of the heap, of a mutex or of a thread's result
abbrev pub owns_nothing : Owned → Bool
owns_nothing (owned.Box p) = false
owns_nothing (owned.Mutex m) = false
owns_nothing (owned.Task t) = false
owns_nothing v = true

-- a second value like this one, which pins nothing; None where there may be no second one
abbrev pub second_of : Value → Option Value
second_of (value.Own v) = if owns_nothing v then Some (value.Own v) else None
second_of (value.SharedSlot i) = Some (value.SharedSlot i)
second_of (value.Shared r) = Some (unpinned (value.Shared r))
second_of v = None

-- LOADS

-- the load of a cell
abbrev pub load_of : Option Cell → List Label
load_of None = []
load_of (Some c) = label.Load c.object (plain_of c.value) ∷ []

-- reading a cell or a copy is a load, reading a slot is none
abbrev pub load_at : Spot → Hand → Hand
load_at s h = working (label_all (load_of (cell_at h s))) h

-- PUTTING VALUES

-- a mutable reference that was written through
abbrev pub written : Value → Value
written (value.Mut r) = value.Mut (record r { dirty = true })
written v = v

-- the reference in that slot was written through
abbrev pub note_slot : List Value → ℕ → Option Value → List Value
note_slot slots i None = slots
note_slot slots i (Some v) = slice_set slots i (written v)

-- a write to a cell is noted on the mutable reference that led straight to it
abbrev pub note_write : Option ℕ → Hand → Hand
note_write None h = h
note_write (Some i) h = with_slots (note_slot h.thread.slots i (slice_get h.thread.slots i)) h

-- the cell gets a value
abbrev pub put_cell : ℕ → Option ℕ → Owned → Hand → Option Hand
put_cell w through v h =
    if leads_here h.work.rest.partition w then Some (note_write through (working (with_partition (stored h.work.rest.partition w v)) h)) else None

-- a slot gets a value
abbrev pub put_slot : ℕ → Value → Hand → Option Hand
put_slot i v h = if nat_lt i (length h.thread.slots) then Some (with_slots (slice_set h.thread.slots i v) h) else None

-- a value at a spot; a cell takes owned values alone, and a copy is never written
abbrev pub put_at : Spot → Value → Hand → Option Hand
put_at (in_slot i) v h = put_slot i v h
put_at on_top v h = Some (with_temps (front_of h.thread.temps ++ v ∷ []) h)
put_at (in_cell w through) (value.Own v) h = put_cell w through v h
put_at s v h = None

-- POINTERS

-- the word and the object of a pointer to an object
abbrev pub pointer_of : Value → Option BoxPtr
pointer_of (value.Own (owned.Box p)) = Some p
pointer_of (value.Shared r) = Some (record { word = r.word; object = r.object })
pointer_of (value.Mut r) = Some (record { word = r.word; object = r.object })
pointer_of v = None

-- a mutable reference that takes its object's new word is clean
abbrev pub took : MutRef → ℕ → MutRef
took r w = record r { word = w; dirty = false }

-- a box or a mutable reference with another word
abbrev pub with_word : ℕ → Value → Option Value
with_word w (value.Own (owned.Box p)) = Some (value.Own (owned.Box (record p { word = w })))
with_word w (value.Mut r) = Some (value.Mut (took r w))
with_word w v = None

-- the pointer at a spot gets its object's new word
abbrev pub set_pointer : Spot → ℕ → Hand → Option Hand
set_pointer s w h = then_some (value_at h s) (λ v. then_some (with_word w v) (λ new. put_at s new h))

-- the same with a word that was just issued
abbrev pub put_word : Spot → NewWord → Hand → Option Hand
put_word s n h = set_pointer s n.word (record h { work = n.work })

-- the slot of a reference that stands in one
abbrev pub slot_in : Spot → Option ℕ
slot_in (in_slot i) = Some i
slot_in s = None
