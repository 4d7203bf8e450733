-- A thread's place as typing sees it: what is known there, and the temporary values (this project's rule). Running terms and places in code are
-- seen as such, so what is shown of positions holds of both.
use Rattle.std.specs.Prelude.{◌≡◌, List, [], Option}
use Rattle.fr_plain.specs.declared.value.Value.{Value}
use Rattle.fr_plain.specs.MachineThreads.{Now, Move, Moves}
use Rattle.fr_plain.specs.PlainState.{PlainState}
use Rattle.fr_sound.specs.Entries.{Entry}
use Rattle.fr_sound.specs.States.{Typing, StateTypes}

-- what is known at a place, and its temporary values, the last one first
pub record Position : Type 0 where
  pub entry : Entry
  pub temps : List Value

abbrev pub Knows : Position → Entry → Type 0
Knows p x = p.entry ≡ x

abbrev pub temps_of : Position → List Value
temps_of p = p.temps

-- a state of threads at positions is typed
abbrev pub PositionTypes : Typing → PlainState Position → Type 0
PositionTypes y a = StateTypes Knows temps_of y a

-- positions that move so; nothing vanishes without a step
abbrev pub moves_by : (Position → Now) → (Position → Option (Move Position Position)) → Moves Position
moves_by now move = record { now = now; move = move; settle = λ p. p }

-- a new thread starts there without a temporary value
abbrev pub StartsAs : Position → Entry → Type 0
StartsAs p x = (p.entry ≡ x) × (p.temps ≡ [])
