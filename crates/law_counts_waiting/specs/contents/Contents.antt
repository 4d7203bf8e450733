-- CONTENTS: each mutex's content stands in exactly one place, its home, a `granted` or `unlock` message, the slot above a lock's mark or the gift of a thread at a
-- lock (this project's rule). An event leaves it so.
use Rattle.law_counts_waiting.specs.Below.journal.View.{EntryView}
use Rattle.law_counts_waiting.specs.Below.server_model.declared.event.Event.{Event}
use Rattle.law_counts_waiting.specs.Below.server_model.Servers.{Cluster}
use Rattle.law_counts_waiting.specs.Below.server_model.Clusters.{apply}
use Rattle.law_counts_waiting.specs.Below.coherent_memory.Things.{things_of}
use Rattle.law_counts_waiting.specs.Below.coherent_memory.Sight.{sight}
use Rattle.law_counts_waiting.specs.Below.coherent_memory.Balances.{Agree}
use Rattle.law_counts_waiting.specs.Below.coherent_memory.Weights.{is_home_of}
use Rattle.law_counts_waiting.specs.Below.coherent_memory.Sharing.{contents}
use Rattle.law_counts_waiting.specs.Below.law_counts_sums.Laws.{Gives, FewEvents}
use Rattle.law_counts_waiting.specs.Below.coherent_types.ClusterTypes.{IsCoherent}

-- as many places of each mutex's content as homes of it
abbrev pub OneContent : Cluster → Type 0
OneContent c = Agree (contents (sight c)) is_home_of (things_of c)

-- from a coherent cluster in which few events were done, an event of whatever kind, with its messages handed over, leaves it so
abbrev pub EachEventLeavesOneContent : Type 0
EachEventLeavesOneContent = (k : Cluster) (e : Event) → IsCoherent k → FewEvents k → Gives (λ (d : Cluster × EntryView). OneContent d.0) (apply k e)
