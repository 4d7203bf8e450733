-- WHERE THE TYPES OF NAMES AGREE WITH WHAT STANDS FOR THEM, none owns itself (this project's rule): what a value owns has a type of fewer levels.
use Rattle.std.specs.Prelude.{◌≡◌}
use Rattle.coherent_memory.specs.Below.journal.View.{EntryView}
use Rattle.coherent_memory.specs.Below.server_model.declared.event.Event.{Event}
use Rattle.coherent_memory.specs.Below.server_model.Servers.{Cluster}
use Rattle.coherent_memory.specs.Below.server_model.Clusters.{apply}
use Rattle.coherent_memory.specs.Sight.{sight}
use Rattle.coherent_memory.specs.Coherent.{Holds, IsSound, none_owns_itself}
use Rattle.law_counts_sums.specs.Laws.{Gives, FewEvents, NumbersDiffer}
use Rattle.law_counts_things.specs.Below.coherent_types.Names.{NameTypes}
use Rattle.law_counts_things.specs.Below.coherent_types.ClusterTypes.{misfits}

-- each cell, content and result agrees with the type of its name, by some types of names
pub record Agrees (k : Cluster) : Type 0 where
  pub names : NameTypes
  pub agree : misfits names (sight k) ≡ 0

-- going from an object, a mutex or a result to what it owns comes to an end then, where no two threads have one number
abbrev pub AgreeingEnd : Type 0
AgreeingEnd = (k : Cluster) → NumbersDiffer k → Agrees k → Holds k none_owns_itself

-- so after each event of a sound cluster in which few were done, its messages handed over, that leaves types of names which agree
abbrev pub EventsThatAgreeEnd : Type 0
EventsThatAgreeEnd = (k : Cluster) (e : Event) → IsSound k → FewEvents k → Gives (λ (d : Cluster × EntryView). Agrees d.0 → Holds d.0 none_owns_itself) (apply k e)
