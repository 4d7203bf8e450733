-- The text that is written for an order (this project's rule): neighbouring steps of one thread that take no name share a line.
use Rattle.std.specs.Prelude.{◌≡◌, ℕ, nat_lt, Bool, true, false, ◌&&◌, ◌==◌, List, [], ◌∷◌, ◌++◌, length, codes, Option, Some, None, ⊤}
use Rattle.std.specs.List.{flat_map, AllByRecursion}
use Rattle.std.specs.Fmt.{decimal}
use Rattle.fr_base.specs.declared.step.Fresh.{Fresh}
use Rattle.fr_base.specs.declared.step.Fresh.TheVariants as fresh
use Rattle.journal.specs.declared.order.OrderLine.{OrderLine}
use Rattle.journal.specs.declared.writing.LastLine.{LastLine}
use Rattle.journal.specs.OrderText.{thread_text, spell, IsLine, ArePlaced, IsOrder, steps_of}

abbrev pub takes_none : Fresh → Bool
takes_none fresh.None = true
takes_none names = false

-- steps of the second line could stand in the first
abbrev pub goes_on : OrderLine → OrderLine → Bool
goes_on l m = l.thread == m.thread && takes_none l.fresh && takes_none m.fresh && nat_lt l.steps 1000000000

abbrev pub AreApartAfter : OrderLine → List OrderLine → Type 0
AreApartAfter l [] = ⊤
AreApartAfter l (m ∷ ms) = (goes_on l m ≡ false) × AreApartAfter m ms

-- no step of a line could stand in the line before it
abbrev pub AreApart : List OrderLine → Type 0
AreApart [] = ⊤
AreApart (l ∷ ls) = AreApartAfter l ls

-- these bytes are the text of lines that spell these steps, each line with as many as it can have
pub record IsOrderText (steps : List (ℕ × Fresh)) (bytes : List ℕ) : Type 0 where
  pub lines : List OrderLine
  pub text : IsOrder 0 bytes lines
  pub spelled : steps_of lines ≡ steps
  pub apart : AreApart lines

-- WHILE IT IS WRITTEN

abbrev pub line_from : ℕ → LastLine → OrderLine
line_from place l = record { place = place; thread = l.thread; steps = l.steps; fresh = fresh.None }

-- the last line, that more steps may join, behind the text so far
abbrev pub last_line : ℕ → Option LastLine → List OrderLine
last_line place None = []
last_line place (Some l) = line_from place l ∷ []

-- and its text
abbrev pub last_text : Option LastLine → List ℕ
last_text None = []
last_text (Some l) = thread_text l.thread ++ codes " " ++ decimal l.steps ++ codes "\n"

-- one step as a line of its own
abbrev pub one_step : ℕ → ℕ → Fresh → OrderLine
one_step place thread names = record { place = place; thread = thread; steps = 1; fresh = names }

-- the step can stand in the last line
abbrev pub joins : Option LastLine → ℕ → Fresh → Bool
joins None thread names = false
joins (Some l) thread names = goes_on (line_from 0 l) (one_step 0 thread names)

-- these bytes are the text of lines that, with the last one, spell these steps, each with as many as it can have; a step that
-- can't stand in the last line may follow
pub record IsWritten (steps : List (ℕ × Fresh)) (bytes : List ℕ) (last : Option LastLine) : Type 0 where
  pub lines : List OrderLine
  pub text : bytes ≡ flat_map spell lines
  pub each : AllByRecursion IsLine (lines ++ last_line (length bytes) last)
  pub places : ArePlaced 0 (lines ++ last_line (length bytes) last)
  pub spelled : steps_of (lines ++ last_line (length bytes) last) ≡ steps
  pub apart : AreApart (lines ++ last_line (length bytes) last)
  pub next : (m : OrderLine) → joins last m.thread m.fresh ≡ false → AreApart (lines ++ last_line (length bytes) last ++ m ∷ [])
