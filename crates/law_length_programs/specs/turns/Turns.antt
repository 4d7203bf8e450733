-- A RUN IN ROUNDS OF A PROGRAM COMES TO AN END (this project's rules): its steps and threads are at most twice the nodes of its tree, and with a hundred turns for each of them no turn is wanting.
use Rattle.std.specs.Prelude.{◌≡◌, ◌≤◌, ◌<◌, ◌+◌, ◌*◌, ◌^◌, true, false, List, [], length, Some}
use Rattle.law_plain_table.specs.Below.fr_base.declared.instruction.Instr.{Instr}
use Rattle.law_plain_table.specs.Below.fr_base.declared.settings.Options.{Options}
use Rattle.law_plain_table.specs.Below.fr_terms.Terms.{Term, block_t, IsBlock}
use Rattle.law_plain_table.specs.Below.fr_terms.Limits.{HasShortPlaces}
use Rattle.law_plain_table.specs.Below.fr_typing.Kinds.{Kind}
use Rattle.law_plain_table.specs.Below.fr_typing.Places.{Env}
use Rattle.law_plain_table.specs.Below.fr_typing.Typing.{Types}
use Rattle.law_plain_table.specs.Below.fr_plain.Resolve.{program}
use Rattle.law_plain_table.specs.Bare.{bare}
use Rattle.law_plain_table.specs.CodeOf.{code_of}
use Rattle.law_length_programs.specs.sizes.Size.{nodes_of, HasBlocks, HaveBlocks}
use Rattle.law_runs_right.specs.Below.law_runs_whole.Below.journal.View.{EntryView}
use Rattle.law_runs_right.specs.Below.law_runs_whole.Below.coloured_heap.Driven.{is_driven}
use Rattle.law_runs_right.specs.Below.law_runs_whole.Below.server_model.declared.event.Event.{Event}
use Rattle.law_runs_right.specs.Below.law_runs_whole.Below.server_model.Servers.{Cluster, start_of}
use Rattle.law_runs_right.specs.Below.law_runs_whole.Below.coherent_memory.Naming.{options_out}
use Rattle.law_runs_right.specs.Below.law_runs_whole.Below.law_counts_sums.Laws.{Gives}
use Rattle.law_runs_right.specs.Below.law_runs_whole.runs.Runs.{run_of}
use Rattle.drive_model.specs.Ending.{ending, is_going}
use Rattle.drive_model.specs.Rounds.{Run, rounds}
use Rattle.law_runs_right.specs.Below.law_runs_whole.programs.Programs.{Given}
use Rattle.law_runs_right.specs.Below.law_length_runs.worth.Driving.{plain_steps}
use Rattle.law_runs_right.specs.Below.law_length_runs.asked.Resting.{threads_in}

-- whatever events from the start of a typed program leave a driven journal: its plain steps and threads, main among them, are at most twice the nodes of the program's tree
abbrev pub StepsAndThreadsAreFew : Type 0
StepsAndThreadsAreFew =
    (g : Given) (es : List Event) → HaveBlocks g.items → length es + 1 < 2 ^ 31
    → Gives (λ (d : Cluster × List EntryView). is_driven g.options d.1 ≡ true → plain_steps d.1 + threads_in d.1 ≤ 2 * nodes_of (block_t g.at g.items)) (run_of (start_of g.code g.options) es)

-- so the journal has at most a hundred entries for each of them
abbrev pub JournalsAreShort : Type 0
JournalsAreShort =
    (g : Given) (es : List Event) → HaveBlocks g.items → length es + 1 < 2 ^ 31
    → Gives (λ (d : Cluster × List EntryView). is_driven g.options d.1 ≡ true → length d.1 ≤ 100 * (2 * nodes_of (block_t g.at g.items))) (run_of (start_of g.code g.options) es)

-- so no run in rounds of whatever code of a typed program of n nodes, with at least 100 * (2 * n + 1) turns, goes on at its end
abbrev pub RunsInRoundsComeToAnEnd : Type 0
RunsInRoundsComeToAnEnd =
    (t : Term) (code : List Instr) (o : Options) (kind : Kind) (env : Env) (r : Run) → IsBlock t → HasBlocks t → HasShortPlaces t → Types [] t kind env → bare code ≡ code_of (program t) → options_out o ≡ 0
    → 100 * (2 * nodes_of t + 1) ≤ o.turns → rounds code o ≡ Some r → is_going (ending r.cluster) ≡ false
