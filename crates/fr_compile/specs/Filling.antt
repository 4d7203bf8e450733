-- Pieces of code whose threads get their places one after another, and where the others wait for theirs (this project's rule).
use Rattle.std.specs.Prelude.{ℕ, ◌+◌, Bool, true, false, List, [], ◌∷◌}
use Rattle.fr_base.specs.declared.instruction.Instr.{Instr}
use Rattle.fr_base.specs.declared.instruction.Instr.TheVariants as instr
use Rattle.fr_base.specs.Code.{with_body, with_other}
use Rattle.fr_plain.specs.Run.{Run}
use Rattle.law_plain_table.specs.CodeOf.{Piece, does, starts, starts_two, slots}

-- the first place of some, or none yet
abbrev pub next_place : List ℕ → ℕ
next_place [] = 0
next_place (n ∷ ns) = n

abbrev pub later_places : List ℕ → List ℕ
later_places [] = []
later_places (n ∷ ns) = ns

-- the instructions, where the threads that they start have these places, of a pair the first one first; those for which there is none have 0
abbrev pub filled : List ℕ → List Piece → List Instr
filled ns [] = []
filled ns (does i ∷ ps) = i ∷ filled ns ps
filled ns (starts cs r ∷ ps) = instr.Spawn (slots cs) (next_place ns) ∷ filled (later_places ns) ps
filled ns (starts_two cs a ds b ∷ ps) = instr.Par (slots cs) (next_place ns) (slots ds) (next_place (later_places ns)) ∷ filled (later_places (later_places ns)) ps

-- a thread whose code is still to come: where the instruction stands that starts it, whether it is the second one of a pair, and its term
pub record Wait : Type 0 where
  pub start : ℕ
  pub is_second : Bool
  pub run : Run

-- the threads that these pieces start, which stand from that place on
abbrev pub waits : ℕ → List Piece → List Wait
waits p [] = []
waits p (does i ∷ ps) = waits (p + 1) ps
waits p (starts cs r ∷ ps) = record { start = p; is_second = false; run = r } ∷ waits (p + 1) ps
waits p (starts_two cs a ds b ∷ ps) = record { start = p; is_second = false; run = a } ∷ record { start = p; is_second = true; run = b } ∷ waits (p + 1) ps

-- the thread's code stands there, which the instruction at that place starts
abbrev pub with_place : Bool → List Instr → ℕ → ℕ → List Instr
with_place false code at to = with_body code at to
with_place true code at to = with_other code at to
