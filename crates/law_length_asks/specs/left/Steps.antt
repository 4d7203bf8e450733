-- WHAT STEPS MAKE OF THE ASKS THAT ARE LEFT (this project's rule): a step that asks takes one, and the steps of other threads put none.
use Rattle.std.specs.Prelude.{◌≡◌, ◌≤◌, ℕ, ◌+◌, None}
use Rattle.law_length_asks.specs.Below.law_walks_others.Below.journal.View.{EntryView}
use Rattle.law_length_asks.specs.Below.law_walks_others.Below.server_model.declared.event.Event.{Event}
use Rattle.law_length_asks.specs.Below.law_walks_others.Below.server_model.declared.event.What.TheVariants.{Step}
use Rattle.law_length_asks.specs.Below.law_walks_others.Below.server_model.Servers.{Cluster}
use Rattle.law_length_asks.specs.Below.law_walks_others.Below.server_model.Clusters.{apply}
use Rattle.law_length_asks.specs.Below.law_walks_others.Below.coherent_types.ClusterTypes.{IsCoherent}
use Rattle.law_length_asks.specs.Below.law_walks_others.Below.law_counts_sums.Laws.{Gives, FewEvents}
use Rattle.law_length_asks.specs.left.Left.{left}

-- whatever the cluster
abbrev pub AtMostTwenty : Type 0
AtMostTwenty = (k : Cluster) (t : ℕ) → left k t ≤ 20

-- a step of the thread from a coherent cluster to a coherent one, that isn't done
abbrev pub AsksTakeOne : Type 0
AsksTakeOne = (k : Cluster) (e : Event) (t : ℕ) → e.what ≡ Step t → IsCoherent k → FewEvents k → Gives (λ (d : Cluster × EntryView). IsCoherent d.0 → d.1.done ≡ None → left d.0 t + 1 ≤ left k t) (apply k e)

-- a step of another thread, done or not
abbrev pub OthersStepsLeaveAsks : Type 0
OthersStepsLeaveAsks =
    (k : Cluster) (e : Event) (u t : ℕ) → e.what ≡ Step u → (t ≡ u → ⊥) → IsCoherent k → FewEvents k → Gives (λ (d : Cluster × EntryView). IsCoherent d.0 → left d.0 t ≤ left k t) (apply k e)
