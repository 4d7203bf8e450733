-- WHAT EVENTS LEAVE OF THE ASKS OF A THREAD (this project's rule): only its own steps that are done give it more.
use Rattle.std.specs.Prelude.{◌≡◌, ◌≤◌, ℕ}
use Rattle.law_length_asks.specs.Below.law_walks_others.Below.journal.View.{EntryView}
use Rattle.law_length_asks.specs.Below.law_walks_others.Below.server_model.declared.event.Event.{Event}
use Rattle.law_length_asks.specs.Below.law_walks_others.Below.server_model.declared.event.What.TheVariants.{Step}
use Rattle.law_length_asks.specs.Below.law_walks_others.Below.server_model.Servers.{Cluster}
use Rattle.law_length_asks.specs.Below.law_walks_others.Below.server_model.Clusters.{apply}
use Rattle.law_length_asks.specs.Below.law_walks_others.Below.coherent_types.ClusterTypes.{IsCoherent}
use Rattle.law_length_asks.specs.Below.law_walks_others.Below.law_counts_sums.Laws.{Gives, FewEvents}
use Rattle.law_length_asks.specs.left.Left.{left}

-- after an event that is no step of the thread, from a coherent cluster to a coherent one
abbrev pub EventsLeaveAsks : Type 0
EventsLeaveAsks = (k : Cluster) (e : Event) (t : ℕ) → (e.what ≡ Step t → ⊥) → IsCoherent k → FewEvents k → Gives (λ (d : Cluster × EntryView). IsCoherent d.0 → left d.0 t ≤ left k t) (apply k e)
