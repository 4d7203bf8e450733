-- THE JOURNAL OF A RUN IN ROUNDS IS DRIVEN (this project's rule): what its driver chooses keeps to what is asked of drivers.
use Rattle.std.specs.Prelude.{◌≡◌, ◌<◌, ◌^◌, true, List, length}
use Rattle.law_length_runs.specs.Below.law_counts_things.Below.fr_base.declared.instruction.Instr.{Instr}
use Rattle.law_length_runs.specs.Below.law_counts_things.Below.fr_base.declared.settings.Options.{Options}
use Rattle.law_length_runs.specs.Below.law_counts_things.Below.fr_code.CodeTypes.{Table}
use Rattle.law_length_runs.specs.Below.law_counts_things.Below.fr_code.CodeTable.{IsTable}
use Rattle.law_length_runs.specs.Below.law_counts_things.Below.journal.View.{EntryView}
use Rattle.law_length_runs.specs.Below.law_counts_things.Below.coloured_heap.Driven.{is_driven}
use Rattle.law_length_runs.specs.Below.law_counts_things.Below.server_model.declared.event.Event.{Event}
use Rattle.law_length_runs.specs.Below.law_counts_things.Below.server_model.Servers.{Cluster, start_of}
use Rattle.law_length_runs.specs.Below.law_counts_things.Below.coherent_memory.Naming.{options_out}
use Rattle.law_length_runs.specs.Below.law_counts_things.Below.law_counts_sums.Laws.{Gives}
use Rattle.law_length_runs.specs.Below.law_runs_whole.runs.Runs.{run_of, EachEventIsRight}
use Rattle.drive_model.specs.Rounds.{Run}
use Rattle.law_runs_rounds.specs.rounds.Choosing.{AreChosen}
use Rattle.law_runs_rounds.specs.rounds.UnderWay.{IsUnderWay}

-- where each event is right, few events from the start of a code with a table that a driver chooses, one after another, have a driven journal
abbrev pub ChosenRunsAreDriven : Type 0
ChosenRunsAreDriven =
    EachEventIsRight → (code : List Instr) (table : Table) (o : Options) (es : List Event) → IsTable code table → options_out o ≡ 0 → length es < 2 ^ 31 → AreChosen es (start_of code o)
    → Gives (λ (d : Cluster × List EntryView). is_driven o d.1 ≡ true) (run_of (start_of code o) es)

-- and so has each run in rounds under way
abbrev pub RunsInRoundsAreDriven : Type 0
RunsInRoundsAreDriven = EachEventIsRight → (r : Run) → IsUnderWay r → is_driven r.cluster.options r.journal ≡ true
