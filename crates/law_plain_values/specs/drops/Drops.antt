-- A DROP (Featherweight Rust's `drop`, with this project's threads and mutexes): the value that is dropped stands in the one slot of a thread of its own,
-- its carrier, which is in no program. Where such a state is typed, so is the state that the drop leaves.
use Rattle.std.specs.Prelude.{◌≡◌, ℕ, [], ◌∷◌, Some, None}
use Rattle.fr_base.specs.declared.label.Plain.{Plain}
use Rattle.fr_typing.specs.Kinds.{Owned, Piece}
use Rattle.fr_plain.specs.declared.value.Value.TheVariants.{Own}
use Rattle.fr_plain.specs.MachineThreads.{loose, Thread, Whole, thread_at, dropped}
use Rattle.fr_plain.specs.PlainState.{Running, plain_state}
use Rattle.fr_sound.specs.Entries.{going}
use Rattle.fr_sound.specs.States.{Typing}
use Rattle.law_plain_values.specs.acts.Positions.{Position, PositionTypes}

-- its position: one slot, of which that part is the type, and no temporary value
abbrev pub carrier : Piece → Owned → Position
carrier p g = record { entry = going (record { name = Some (0 ∷ []); part = p } ∷ []) [] g; temps = [] }

-- with its slot
abbrev pub carries : Piece → Owned → Plain → Running Position
carries p g v = record { place = carrier p g; slots = Own v ∷ [] }

abbrev pub carrying : ℕ → Piece → Owned → Plain → Thread Position
carrying u p g v = record { number = u; life = loose (carrier p g); slots = Own v ∷ [] }

-- a state beside such a thread
abbrev pub with_carrier : Whole Position → ℕ → Piece → Owned → Plain → Whole Position
with_carrier s u p g v = record s { threads = carrying u p g v ∷ s.threads }

-- where the state is typed with a carrier of the value, under a name that isn't in use, it is typed once the value is dropped, and mutexes and results have
-- the types that they had
abbrev pub DropKeeps : Type 0
DropKeeps = (y : Typing) (s : Whole Position) (u : ℕ) (p : Piece) (g : Owned) (v : Plain) → thread_at s.threads u ≡ None → PositionTypes y (plain_state (with_carrier s u p g v)) → (z : Typing) × PositionTypes z (plain_state (dropped s v)) × (z.gives ≡ y.gives)
