-- WHAT A RUN LEADS TO, BUT FOR THE ORDER IN WHICH MESSAGES WAIT (this project's rule).
use Rattle.std.specs.Prelude.{List}
use Rattle.law_runs_whole.specs.Below.journal.View.{EntryView}
use Rattle.law_runs_whole.specs.Below.server_model.Servers.{Cluster}
use Rattle.law_runs_whole.specs.Below.law_counts_sums.Laws.{FewEvents}
use Rattle.law_runs_whole.specs.Below.code_meaning.LeftByItsCode.{LeftByItsCode}
use Rattle.law_runs_whole.specs.programs.Programs.{Given, RunsRight}
use Rattle.law_runs_whole.specs.Below.law_runs_coherent.Below.coherent_types.ClusterTypes.{IsCoherent}
use Rattle.law_runs_order.specs.Below.law_runs_rounds.rounds.Order.{IsSameCluster}

-- where few events were done, a cluster to which a right run of the program under a journal leads is one in whatever order its messages wait
abbrev pub RightInAnyOrder : Type 0
RightInAnyOrder = (g : Given) (k z : Cluster) (es : List EntryView) → IsSameCluster k z → FewEvents z → RunsRight g (z, es) → RunsRight g (k, es)

-- and a coherent one that the journal leaves is left by it
abbrev pub LeftInAnyOrder : Type 0
LeftInAnyOrder = (k z : Cluster) (es : List EntryView) → IsSameCluster k z → IsCoherent z → LeftByItsCode z es → LeftByItsCode k es
