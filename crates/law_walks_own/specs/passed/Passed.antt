-- WHAT IS PASSED HAS NO COPY (this project's rule): of a box that a thread's write has passed none is made.
use Rattle.std.specs.Prelude.{◌≡◌, ℕ, ◌<◌, false, Some}
use Rattle.law_copies_kept.specs.Below.journal.View.{EntryView}
use Rattle.law_copies_kept.specs.Below.server_model.declared.event.Event.{Event}
use Rattle.law_copies_kept.specs.Below.server_model.Servers.{Cluster}
use Rattle.law_copies_kept.specs.Below.server_model.Clusters.{apply}
use Rattle.law_copies_kept.specs.Below.coherent_memory.Names.{tot}
use Rattle.law_copies_kept.specs.Below.coherent_memory.Things.{things_of}
use Rattle.law_copies_kept.specs.Below.coherent_memory.Sight.{sight, issued}
use Rattle.law_copies_kept.specs.Below.coherent_memory.Weights.{copies}
use Rattle.law_copies_kept.specs.Below.coherent_memory.Coherent.{IsSound}
use Rattle.law_copies_kept.specs.Below.coherent_memory.Follow.{Standing, hop_at}
use Rattle.law_copies_kept.specs.Below.coherent_memory.Paths.{written_place}
use Rattle.law_copies_kept.specs.Below.coherent_memory.Walking.{path}
use Rattle.law_copies_kept.specs.Below.fr_base.declared.place.Lval.{Lval}
use Rattle.law_copies_kept.specs.Below.heap_partition.declared.value.BoxPtr.{BoxPtr}
use Rattle.law_copies_kept.specs.Below.heap_partition.declared.value.Owned.TheVariants as owned
use Rattle.law_copies_kept.specs.Below.thread_state.declared.value.Value.TheVariants as value
use Rattle.law_copies_kept.specs.Below.coherent_types.ClusterTypes.{IsCoherent}
use Rattle.law_copies_kept.specs.Below.law_words_paths.paths.HeapStore.{GoesOn}
use Rattle.law_copies_kept.specs.Below.law_counts_sums.Laws.{Gives, FewEvents}

-- the thread's write has passed that box
pub record HasPassed (k : Cluster) (x : Standing) (p : BoxPtr) : Type 0 where
  pub goes : GoesOn k x
  pub place : Lval
  pub writes : written_place (path (sight k) x) ≡ Some place
  pub hop : ℕ
  pub passed : hop < x.thread.passed
  pub stands : hop_at (sight k).ground x.thread.number place hop ≡ Some (value.Own (owned.Box p))

-- after whatever event from a coherent cluster in which few were done, with its messages handed over, no copy is under the word of such a box
abbrev pub PassedStayUncopied : Type 0
PassedStayUncopied = (k : Cluster) (e : Event) → IsCoherent k → FewEvents k → (x : Standing) (p : BoxPtr) → HasPassed k x p → Gives (λ (d : Cluster × EntryView). tot (copies p.word) (things_of d.0) ≡ 0) (apply k e)

-- nor is one under a word that wasn't issued before
abbrev pub NewStayUncopied : Type 0
NewStayUncopied = (k : Cluster) (e : Event) → IsSound k → FewEvents k → (w : ℕ) → issued (sight k) w ≡ false → Gives (λ (d : Cluster × EntryView). tot (copies w) (things_of d.0) ≡ 0) (apply k e)
