-- HOW LONG A DRIVEN RUN GETS (this project's rule): a hundred entries at most for each plain step and each thread, main among them.
use Rattle.std.specs.Prelude.{◌≡◌, ◌≤◌, ◌<◌, ◌+◌, ◌*◌, ◌^◌, true, List, length}
use Rattle.law_length_runs.specs.Below.law_counts_things.Below.fr_base.declared.instruction.Instr.{Instr}
use Rattle.law_length_runs.specs.Below.law_counts_things.Below.fr_base.declared.settings.Options.{Options}
use Rattle.law_length_runs.specs.Below.law_counts_things.Below.fr_code.CodeTypes.{Table}
use Rattle.law_length_runs.specs.Below.law_counts_things.Below.fr_code.CodeTable.{IsTable}
use Rattle.law_length_runs.specs.Below.law_runs_whole.Below.journal.View.{EntryView}
use Rattle.law_length_runs.specs.Below.law_runs_whole.Below.coloured_heap.Driven.{is_driven}
use Rattle.law_length_runs.specs.Below.law_runs_whole.Below.server_model.declared.event.Event.{Event}
use Rattle.law_length_runs.specs.Below.law_runs_whole.Below.server_model.Servers.{Cluster, start_of}
use Rattle.law_length_runs.specs.Below.law_runs_whole.Below.coherent_memory.Naming.{options_out}
use Rattle.law_length_runs.specs.Below.law_runs_whole.Below.law_counts_sums.Laws.{Gives}
use Rattle.law_length_runs.specs.Below.law_runs_whole.runs.Runs.{run_of}
use Rattle.law_length_runs.specs.Below.law_runs_whole.programs.Programs.{Given}
use Rattle.law_length_runs.specs.worth.Driving.{plain_steps}
use Rattle.law_length_runs.specs.asked.Resting.{threads_in}

-- of code with a table, on however many servers
abbrev pub RunsOfCodeAreShort : Type 0
RunsOfCodeAreShort =
    (code : List Instr) (table : Table) (o : Options) (es : List Event) → IsTable code table → options_out o ≡ 0 → length es < 2 ^ 31
    → Gives (λ (d : Cluster × List EntryView). is_driven o d.1 ≡ true → length d.1 ≤ 100 * (plain_steps d.1 + threads_in d.1)) (run_of (start_of code o) es)

-- of a typed program
abbrev pub RunsOfProgramsAreShort : Type 0
RunsOfProgramsAreShort =
    (g : Given) (es : List Event) → length es < 2 ^ 31
    → Gives (λ (d : Cluster × List EntryView). is_driven g.options d.1 ≡ true → length d.1 ≤ 100 * (plain_steps d.1 + threads_in d.1)) (run_of (start_of g.code g.options) es)
