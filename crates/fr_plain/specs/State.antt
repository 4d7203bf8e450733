-- One thread's slots and the heap: what a place leads to, and reading, writing and dropping there (Featherweight Rust),
-- with the labels that show it (this project's rule).
use Rattle.std.specs.Prelude.{ℕ, zero, suc, ◌==◌, List, [], ◌∷◌, ◌++◌, length, Option, Some, None, if◌then◌else◌}
use Rattle.fr_base.specs.declared.label.Plain.{Plain}
use Rattle.fr_base.specs.declared.label.Plain.TheVariants as plain
use Rattle.fr_base.specs.declared.label.Label.{Label}
use Rattle.fr_base.specs.declared.label.Label.TheVariants as label
use Rattle.fr_base.specs.declared.name.ObjNo.{ObjNo}
use Rattle.fr_base.specs.declared.place.Lval.{Lval}
use Rattle.fr_plain.specs.declared.value.Value.{Value}
use Rattle.fr_plain.specs.declared.value.Value.TheVariants.{Own, ToSlot, ToObject}
use Rattle.fr_plain.specs.Heap.{Heap, cell_at, with_cell, dropped}

-- the slots of a thread, the newest first, and the heap
pub record State : Type 0 where
  pub thread : ℕ
  pub slots : List Value
  pub heap : Heap

abbrev pub gone : Value
gone = Own plain.Nothing

-- a slot's number is the number of slots below it
abbrev pub slot_at : List Value → ℕ → Option Value
slot_at [] i = None
slot_at (v ∷ vs) i = if i == length vs then Some v else slot_at vs i

abbrev pub with_slot : List Value → ℕ → Value → List Value
with_slot [] i new = []
with_slot (v ∷ vs) i new = if i == length vs then new ∷ vs else v ∷ with_slot vs i new

-- where a value stands
pub data Spot : Type 0 where
  in_slot : (i : ℕ) → Spot
  in_cell : (o : ObjNo) → Spot

abbrev pub owned : Option Plain → Option Value
owned None = None
owned (Some v) = Some (Own v)

abbrev pub value_at : State → Spot → Option Value
value_at s (in_slot i) = slot_at s.slots i
value_at s (in_cell o) = owned (cell_at s.heap o)

-- a cell holds owned values alone
abbrev pub cell_of : Value → Option Plain
cell_of (Own v) = Some v
cell_of _ = None

abbrev pub with_value : State → Spot → Value → State
with_value s (in_slot i) v = record s { slots = with_slot s.slots i v }
with_value s (in_cell o) v = record s { heap = with_cell s.heap o (cell_of v) }

-- a cell that is read is labelled, a slot is not
abbrev pub loads : Spot → Value → List Label
loads (in_cell o) (Own v) = label.Load o v ∷ []
loads _ v = []

abbrev pub stores : Spot → Value → List Label
stores (in_cell o) (Own v) = label.Store o v ∷ []
stores _ v = []

-- the pointer that is dropped, where the value is one
abbrev pub drops : Value → List Label
drops (Own (plain.Box o)) = label.Drop o ∷ []
drops _ = []

-- where a place leads, and the loads on the way
pub record Reached : Type 0 where
  pub spot : Spot
  pub passed : List Label

abbrev pub then_reached : {A : Type 0} → Option Reached → (Reached → Option A) → Option A
then_reached None go = None
then_reached (Some r) go = go r

-- one star more: a box or a reference leads on
abbrev pub led : Reached → Option Value → Option Reached
led r None = None
led r (Some (Own (plain.Box o))) = Some (record { spot = in_cell o; passed = r.passed ++ loads r.spot (Own (plain.Box o)) })
led r (Some (ToSlot i)) = Some (record { spot = in_slot i; passed = r.passed })
led r (Some (ToObject o)) = Some (record { spot = in_cell o; passed = r.passed })
led r (Some v) = None

abbrev pub stars : State → ℕ → ℕ → Option Reached
stars s slot zero = Some (record { spot = in_slot slot; passed = [] })
stars s slot (suc n) = then_reached (stars s slot n) (λ r. led r (value_at s r.spot))

abbrev pub locate : State → Lval → Option Reached
locate s w = stars s w.slot w.depth

-- the heap after a value is dropped: references and gone values drop nothing
abbrev pub without : Heap → Value → Heap
without h (Own v) = dropped h v
without h _ = h

abbrev pub drop_value : State → Value → State
drop_value s v = record s { heap = without s.heap v }
