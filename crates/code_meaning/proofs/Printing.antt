-- A run of code printed the prints in its labels.
use Rattle.std.proofs.Common.{◌≡◌, List, [], Option, Some, None, ap, ◌∙◌, subst}
use Rattle.fr_base.specs.declared.label.Label.{Label}
use Rattle.fr_plain.proofs.Printing.{Output, run_output}
use Rattle.fr_code.specs.Steps.{code_moves}
use Rattle.fr_code.specs.Machine.{CodeState, CodeStepped, code_start}
use Rattle.journal.specs.Journals.{order, labels, printed}
use Rattle.code_meaning.specs.Runs.{run}
use Rattle.code_meaning.specs.OneHeap.{in_plain}
use Rattle.code_meaning.specs.Laws.{PrintsAreLabelled, HasPrinted, PrintsAlike}

pub prints_are_labelled : PrintsAreLabelled
prints_are_labelled code turns d e = subst (λ x. Output code_start x) e (run_output (code_moves code) turns code_start)

-- a run with these labels has printed their prints
abbrev pub labels_of : Option (CodeState × List Label) → List Label
labels_of None = []
labels_of (Some p) = p.1

has_printed : (d : Option CodeStepped) → Output code_start d → (p : CodeState) (ls : List Label) → in_plain d ≡ Some (p, ls) → HasPrinted d (printed ls)
has_printed None h p ls e = absurd cc
has_printed (Some d) h p ls e = h ∙ ap (λ x. printed (labels_of x)) e

pub prints_alike : PrintsAlike
prints_alike k es l = has_printed (run k.code (order es)) (run_output (code_moves k.code) (order es) code_start) l.plain.state (labels es) l.plain.runs
