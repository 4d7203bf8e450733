-- The start of any code is left by it, and what a run printed (this project's rule).
use Rattle.std.specs.Prelude.{◌≡◌, ℕ, ℤ, ◌≤◌, List, [], take, Option, Some, None}
use Rattle.fr_base.specs.declared.instruction.Instr.{Instr}
use Rattle.fr_base.specs.declared.settings.Options.{Options}
use Rattle.fr_base.specs.declared.label.Label.{Label}
use Rattle.fr_plain.specs.Run.{Run}
use Rattle.fr_plain.specs.Whole as term
use Rattle.fr_plain.specs.Whole.{Turn}
use Rattle.fr_code.specs.Machine.{CodeStepped}
use Rattle.fr_code.specs.StandsFor.{IsCodeOf}
use Rattle.journal.specs.View.{EntryView}
use Rattle.journal.specs.Journals.{order, labels, printed, prints}
use Rattle.server_model.specs.Servers.{Cluster, start_of}
use Rattle.code_meaning.specs.Runs.{run}
use Rattle.code_meaning.specs.LeftByItsCode.{LeftByItsCode}

-- the start of any code, under any options with a server, is left by the empty journal
abbrev pub StartsLeft : Type 0
StartsLeft = (code : List Instr) (o : Options) → 1 ≤ o.servers → LeftByItsCode (start_of code o) []

-- what a run printed are the prints in its labels
abbrev pub PrintsAreLabelled : Type 0
PrintsAreLabelled = (code : List Instr) (turns : List Turn) (d : CodeStepped) → run code turns ≡ Some d → d.state.output ≡ printed d.labels

-- so the plain run that a cluster is left by is there, and printed what the cluster's journal prints
abbrev pub HasPrinted : Option CodeStepped → List ℤ → Type 0
HasPrinted None ns = ⊥
HasPrinted (Some d) ns = d.state.output ≡ ns

abbrev pub PrintsAlike : Type 0
PrintsAlike = (k : Cluster) (es : List EntryView) → LeftByItsCode k es → HasPrinted (run k.code (order es)) (prints es)

-- a plain run of a term that is there, with these labels and their prints
abbrev pub IsRunWith : Option term.Stepped → List Label → Type 0
IsRunWith None ls = ⊥
IsRunWith (Some x) ls = (x.labels ≡ ls) × (x.state.output ≡ printed ls)

-- where the code is that of a program, the program's own plain run under the journal's order is there, with the journal's
-- labels and prints; and so is that under each beginning of the journal
pub record RunsAlike (r : Run) (es : List EntryView) : Type 0 where
  pub whole : IsRunWith (term.plain r (order es)) (labels es)
  pub beginning : (n : ℕ) → IsRunWith (term.plain r (order (take n es))) (labels (take n es))

abbrev pub RunsAsProgram : Type 0
RunsAsProgram = (k : Cluster) (es : List EntryView) (r : Run) → IsCodeOf k.code r → LeftByItsCode k es → RunsAlike r es
