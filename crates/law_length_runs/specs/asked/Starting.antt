-- HOW MANY THREADS A RUN STARTS (this project's rule): at most two with each plain step, and none else.
use Rattle.std.specs.Prelude.{◌≤◌, ◌+◌, ◌*◌, is_some, List}
use Rattle.law_runs_whole.specs.Below.law_counts_things.Below.fr_base.Lists.{one}
use Rattle.law_runs_whole.specs.Below.law_counts_things.Below.fr_base.declared.instruction.Instr.{Instr}
use Rattle.law_runs_whole.specs.Below.law_counts_things.Below.fr_base.declared.settings.Options.{Options}
use Rattle.law_runs_whole.specs.Below.journal.View.{EntryView}
use Rattle.law_runs_whole.specs.Below.server_model.declared.event.Event.{Event}
use Rattle.law_runs_whole.specs.Below.server_model.Servers.{Cluster, start_of}
use Rattle.law_runs_whole.specs.Below.server_model.Clusters.{apply}
use Rattle.law_runs_whole.specs.Below.law_counts_sums.Laws.{Gives}
use Rattle.law_length_runs.specs.worth.Credit.{begun}
use Rattle.law_length_runs.specs.worth.Spending.{After, after_all}
use Rattle.law_length_runs.specs.worth.Driving.{plain_steps}

-- whatever the event and the cluster
abbrev pub PlainStepsStartTwo : Type 0
PlainStepsStartTwo = (k : Cluster) (e : Event) → Gives (λ (d : Cluster × EntryView). begun d.0 ≤ begun k + 2 * one (is_some d.1.done)) (apply k e)

-- so a run from the start has started at most twice as many as it has plain steps
abbrev pub RunsStartFew : Type 0
RunsStartFew = (code : List Instr) (o : Options) (es : List Event) → Gives (λ (x : After). begun x.cluster ≤ 2 * plain_steps x.journal) (after_all es (start_of code o))
