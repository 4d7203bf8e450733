-- RUNS GO ON (this project's rule): by steps of threads and deliveries, until they are finished or deadlocked.
use Rattle.std.specs.Prelude.{◌≡◌, ◌+◌, ◌<◌, ◌^◌, true, List, [], length, IsSome}
use Rattle.law_runs_whole.specs.Below.fr_base.declared.instruction.Instr.{Instr}
use Rattle.law_runs_whole.specs.Below.fr_base.declared.settings.Options.{Options}
use Rattle.law_runs_whole.specs.Below.fr_base.declared.step.Ending3.TheVariants.{Going, Finished}
use Rattle.law_runs_whole.specs.Below.fr_code.CodeTypes.{Table}
use Rattle.law_runs_whole.specs.Below.fr_code.CodeTable.{IsTable}
use Rattle.law_runs_whole.specs.Below.journal.View.{EntryView}
use Rattle.law_runs_whole.specs.Below.server_model.declared.event.Event.{Event}
use Rattle.law_runs_whole.specs.Below.server_model.Servers.{Cluster, start_of}
use Rattle.law_runs_whole.specs.Below.server_model.Clusters.{apply, outboxes}
use Rattle.law_runs_whole.specs.Below.drive_model.Ending.{ending}
use Rattle.law_runs_whole.specs.Below.coherent_memory.Naming.{options_out}
use Rattle.law_runs_coherent.specs.Below.coherent_types.ClusterTypes.{IsCoherent}
use Rattle.law_runs_whole.specs.Below.law_counts_sums.Laws.{Gives, FewEvents}
use Rattle.law_runs_whole.specs.ends.Going.{goes_on}
use Rattle.law_runs_whole.specs.ends.Left.{NothingLeft}
use Rattle.law_runs_whole.specs.runs.Runs.{run_of, EachKeepsCoherence}

-- a step or a delivery that has a result, its messages handed over
pub record HasNext (k : Cluster) : Type 0 where
  pub event : Event
  pub kind : goes_on event.what ≡ true
  pub result : IsSome (apply k event)

-- a coherent cluster in which few events were done, without a message in an outbox, that is going
abbrev pub GoingHasResult : Type 0
GoingHasResult = (k : Cluster) → IsCoherent k → FewEvents k → outboxes k.servers ≡ [] → ending k ≡ Going → HasNext k

-- no event leaves a message in an outbox
abbrev pub OutboxesStayEmpty : Type 0
OutboxesStayEmpty = (k : Cluster) (e : Event) → outboxes k.servers ≡ [] → Gives (λ (d : Cluster × EntryView). outboxes d.0.servers ≡ []) (apply k e)

-- where a run comes to
pub record IsOnItsWay (k : Cluster) : Type 0 where
  -- no message stands in an outbox
  pub sent : outboxes k.servers ≡ []
  -- where it is going, it goes on
  pub next : ending k ≡ Going → HasNext k
  -- where it is finished, nothing is left
  pub left : ending k ≡ Finished → NothingLeft k

-- where each event keeps coherence, few events from the start of a code with a table, under options in their ranges, lead to a cluster on its way
abbrev pub RunsGoOn : Type 0
RunsGoOn =
    EachKeepsCoherence → (code : List Instr) (table : Table) (o : Options) (es : List Event) → IsTable code table → options_out o ≡ 0 → length es + 1 < 2 ^ 31
    → Gives (λ (d : Cluster × List EntryView). IsOnItsWay d.0) (run_of (start_of code o) es)
