-- HOW LONG A DRIVEN RUN OF CODE GETS (this project's rule): a hundred entries at most for each plain step and each thread.
use Rattle.std.specs.Prelude.{◌≡◌, ◌≤◌, ◌<◌, ◌+◌, ◌*◌, ◌^◌, true, List, length}
use Rattle.law_runs_whole.specs.Below.law_counts_things.Below.fr_base.declared.instruction.Instr.{Instr}
use Rattle.law_runs_whole.specs.Below.law_counts_things.Below.fr_base.declared.settings.Options.{Options}
use Rattle.law_runs_whole.specs.Below.law_counts_things.Below.fr_code.CodeTypes.{Table}
use Rattle.law_runs_whole.specs.Below.law_counts_things.Below.fr_code.CodeTable.{IsTable}
use Rattle.law_runs_whole.specs.Below.journal.View.{EntryView}
use Rattle.law_runs_whole.specs.Below.coloured_heap.Driven.{is_driven}
use Rattle.law_runs_whole.specs.Below.server_model.declared.event.Event.{Event}
use Rattle.law_runs_whole.specs.Below.server_model.Servers.{Cluster, start_of}
use Rattle.law_runs_whole.specs.Below.coherent_memory.Naming.{options_out}
use Rattle.law_runs_whole.specs.Below.law_counts_sums.Laws.{Gives}
use Rattle.law_runs_whole.specs.runs.Runs.{run_of, EachKeepsCoherence}
use Rattle.law_length_runs.specs.worth.Driving.{plain_steps}
use Rattle.law_length_runs.specs.asked.Resting.{threads_in}
use Rattle.law_length_runs.specs.asked.Asking.{AsksLeft}

-- if each event keeps coherence, and each thread asks at most twenty times before its step is done, which is told of single events
abbrev pub DrivenRunsOfCodeAreShort : Type 0
DrivenRunsOfCodeAreShort =
    EachKeepsCoherence → AsksLeft 20 → (code : List Instr) (table : Table) (o : Options) (es : List Event) → IsTable code table → options_out o ≡ 0 → length es < 2 ^ 31
    → Gives (λ (d : Cluster × List EntryView). is_driven o d.1 ≡ true → length d.1 ≤ 100 * (plain_steps d.1 + threads_in d.1)) (run_of (start_of code o) es)
