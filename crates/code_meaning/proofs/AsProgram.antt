-- Where a cluster is left by the code of a program, the program runs as its journal tells.
use Rattle.std.proofs.Common.{◌≡◌, List, Option, Some, None, ap, ◌∙◌}
use Rattle.std.specs.Prelude.{take}
use Rattle.fr_base.specs.declared.instruction.Instr.{Instr}
use Rattle.fr_base.specs.declared.label.Label.{Label}
use Rattle.fr_plain.specs.Run.{Run}
use Rattle.fr_plain.specs.Whole as term
use Rattle.fr_plain.specs.Whole.{Turn}
use Rattle.fr_plain.proofs.Printing.{Output, run_output}
use Rattle.fr_code.specs.Steps.{code_moves}
use Rattle.fr_code.specs.Machine.{CodeState, CodeStepped, code_start}
use Rattle.fr_code.specs.StandsFor.{IsCodeOf}
use Rattle.fr_code.specs.Laws.{SameSteps}
use Rattle.fr_code.proofs.Wholes.{runs_alike}
use Rattle.journal.specs.Journals.{order, labels, printed}
use Rattle.code_meaning.specs.Runs.{run}
use Rattle.code_meaning.specs.OneHeap.{in_plain}
use Rattle.code_meaning.specs.Laws.{IsRunWith, RunsAsProgram}
use Rattle.code_meaning.proofs.Printing.{labels_of}

-- the term's run and the code's, which have the same labels and output
both_run : (code : List Instr) (x : Option term.Stepped) (d : Option CodeStepped) (p : CodeState) (ls : List Label) → SameSteps code x d → Output code_start d → in_plain d ≡ Some (p, ls) → IsRunWith x ls
both_run code None None p ls h o e = absurd cc
both_run code None (Some d) p ls h o e = absurd h
both_run code (Some x) None p ls h o e = absurd h
both_run code (Some x) (Some d) p ls h o e = let same : d.labels ≡ ls = ap labels_of e in (h.0 ∙ same, h.1.output ∙ o ∙ ap printed same)

-- under any order of which the code's run has these labels
pub alike : (code : List Instr) (r : Run) → IsCodeOf code r → (ts : List Turn) (p : CodeState) (ls : List Label) → in_plain (run code ts) ≡ Some (p, ls) → IsRunWith (term.plain r ts) ls
alike code r c ts p ls e = both_run code (term.plain r ts) (run code ts) p ls (runs_alike code r c ts) (run_output (code_moves code) ts code_start) e

pub runs_as_program : RunsAsProgram
runs_as_program k es r c l = record {
  whole = alike k.code r c (order es) l.plain.state (labels es) l.plain.runs;
  beginning = λ n. alike k.code r c (order (take n es)) (l.labelled n).state (labels (take n es)) (l.labelled n).runs;
}
