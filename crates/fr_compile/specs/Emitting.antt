-- What the compiler adds to a code (this project's rule): the pieces of a term, where the threads that they start have no place yet; these threads wait
-- behind those that waited before.
use Rattle.std.specs.Prelude.{◌≡◌, ⊤, ℕ, zero, suc, ◌<◌, Bool, List, [], ◌∷◌, ◌++◌, length}
use Rattle.fr_base.specs.declared.instruction.Operand.{Operand}
use Rattle.fr_base.specs.declared.instruction.Operand.TheVariants as operand
use Rattle.fr_base.specs.declared.instruction.Instr.{Instr}
use Rattle.fr_base.specs.declared.instruction.Instr.TheVariants as instr
use Rattle.fr_plain.specs.Run.{Run, block, Parts, last}
use Rattle.fr_forms.specs.declared.forms.Form.{Form}
use Rattle.fr_forms.specs.FormTerms.{term_of}
use Rattle.fr_code.specs.StandsFor.{operand_of, operand_of_last}
use Rattle.law_plain_table.specs.Bare.{bare}
use Rattle.law_plain_table.specs.CodeOf.{Piece, pieces, pieces_in, thread}
use Rattle.fr_compile.specs.declared.waiting.Waiting.{Waiting}
use Rattle.fr_compile.specs.Filling.{filled, Wait, waits, with_place}

abbrev pub waits_at : ℕ → Bool → ℕ → ℕ → Waiting
waits_at start is_second body drops = record { start = start; is_second = is_second; body = body; drops = drops }

-- the term of a thread that waits: the body, and the drops of its slots
abbrev pub wait_of : List Form → Waiting → Wait
wait_of forms w = record { start = w.start; is_second = w.is_second; run = block w.drops (last (term_of forms w.body)) }

abbrev pub waits_of : List Form → List Waiting → List Wait
waits_of forms [] = []
waits_of forms (w ∷ ws) = wait_of forms w ∷ waits_of forms ws

-- there is a form for each of their bodies
abbrev pub AllInside : ℕ → List Waiting → Type 0
AllInside n [] = ⊤
AllInside n (w ∷ ws) = (w.body < n) × AllInside n ws

-- these pieces were added to the code, and their threads to those that wait
pub record IsAdded (forms : List Form) (a f : List Instr) (before after : List Waiting) (ps : List Piece) : Type 0 where
  pub code : bare f ≡ bare a ++ filled [] ps
  pub queue : waits_of forms after ≡ waits_of forms before ++ waits (length a) ps
  pub inside : AllInside (length forms) before → AllInside (length forms) after

-- the term's pieces were added, and its value is found there
abbrev pub IsEmitted : List Form → List Instr → List Instr → List Waiting → List Waiting → Operand → Run → Type 0
IsEmitted forms a f before after o r = (o ≡ operand_of r) × IsAdded forms a f before after (pieces r)

-- those of a block's items
abbrev pub ArePartsEmitted : List Form → List Instr → List Instr → List Waiting → List Waiting → Operand → Parts → Type 0
ArePartsEmitted forms a f before after o is = (o ≡ operand_of_last is) × IsAdded forms a f before after (pieces_in is)

-- a thread's place was put into the instruction that starts it, and its code was added there
abbrev pub IsPlaced : List Form → List Instr → List Instr → List Waiting → List Waiting → Waiting → Type 0
IsPlaced forms a f before after w = IsAdded forms (with_place w.is_second a w.start (length a)) f before after (thread (wait_of forms w).run)

-- a value before a `;` is given up
abbrev pub IsDiscarded : List Instr → Operand → List Instr → Type 0
IsDiscarded a operand.Pop f = f ≡ a ++ instr.Discard ∷ []
IsDiscarded a (operand.Const n) f = f ≡ a
IsDiscarded a operand.Unit f = f ≡ a

abbrev pub drop_slots : ℕ → List Instr
drop_slots zero = []
drop_slots (suc k) = instr.DropSlot ∷ drop_slots k
