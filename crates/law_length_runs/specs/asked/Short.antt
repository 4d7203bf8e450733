-- HOW LONG A DRIVEN RUN OF A PROGRAM GETS (this project's rule): a hundred entries at most for each plain step and each thread.
use Rattle.std.specs.Prelude.{◌≡◌, ◌≤◌, ◌<◌, ◌+◌, ◌*◌, ◌^◌, true, List, length}
use Rattle.law_runs_whole.specs.Below.journal.View.{EntryView}
use Rattle.law_runs_whole.specs.Below.coloured_heap.Driven.{is_driven}
use Rattle.law_runs_whole.specs.Below.server_model.declared.event.Event.{Event}
use Rattle.law_runs_whole.specs.Below.server_model.Servers.{Cluster, start_of}
use Rattle.law_runs_whole.specs.Below.law_counts_sums.Laws.{Gives}
use Rattle.law_runs_whole.specs.programs.Programs.{Given}
use Rattle.law_runs_whole.specs.runs.Runs.{run_of}
use Rattle.law_length_runs.specs.worth.Driving.{plain_steps}
use Rattle.law_length_runs.specs.asked.Resting.{threads_in}
use Rattle.law_length_runs.specs.asked.Asking.{AsksLeft}

-- of a typed program, where each thread asks at most twenty times before its step is done, which is told of single events
abbrev pub DrivenRunsOfProgramsAreShort : Type 0
DrivenRunsOfProgramsAreShort =
    AsksLeft 20 → (g : Given) (es : List Event) → length es < 2 ^ 31
    → Gives (λ (d : Cluster × List EntryView). is_driven g.options d.1 ≡ true → length d.1 ≤ 100 * (plain_steps d.1 + threads_in d.1)) (run_of (start_of g.code g.options) es)
