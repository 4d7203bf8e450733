-- WHAT TYPES SAY OF THREADS, and that it stays where no plain step is done (this project's rule).
use Rattle.std.specs.Prelude.{◌≡◌, None}
use Rattle.law_heap_still.specs.Below.journal.View.{EntryView}
use Rattle.law_heap_still.specs.Below.server_model.declared.event.Event.{Event}
use Rattle.law_heap_still.specs.Below.server_model.Servers.{Cluster}
use Rattle.law_heap_still.specs.Below.server_model.Clusters.{apply}
use Rattle.law_heap_still.specs.Below.coherent_memory.Sight.{sight}
use Rattle.law_heap_still.specs.Below.coherent_types.Names.{names_of}
use Rattle.law_heap_still.specs.Below.coherent_types.ClusterTypes.{Types, IsCoherent, forms_wrong, locked_wrong, leads_wrong, views_wrong, ends_wrong}
use Rattle.law_heap_still.specs.Below.law_counts_sums.Laws.{Gives, FewEvents}

-- what the types of a cluster say of threads is true of another one
pub record TypesThreads (k : Cluster) (c : Types k) (z : Cluster) : Type 0 where
  pub forms : forms_wrong c.table (names_of c.object c.typing.gives) (sight z) ≡ 0
  pub locked : locked_wrong c.table (names_of c.object c.typing.gives) (sight z) ≡ 0
  pub lead : leads_wrong c.typing.exact (sight z) ≡ 0
  pub views : views_wrong c.table (sight z) ≡ 0
  pub ends : ends_wrong c.table (names_of c.object c.typing.gives) (sight z) ≡ 0

-- each event of a coherent cluster, in which few were done, leads to such a one, where its entry has no `done`
abbrev pub UndoneKeepsThreadTypes : Type 0
UndoneKeepsThreadTypes = (k : Cluster) (e : Event) (co : IsCoherent k) → FewEvents k → Gives (λ (d : Cluster × EntryView). d.1.done ≡ None → TypesThreads k co.types d.0) (apply k e)
