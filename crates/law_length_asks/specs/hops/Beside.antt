-- WHAT HAPPENS BESIDE A THREAD (this project's rule): no event but its own step and an object that comes to it changes how many hops are ahead of it.
use Rattle.std.specs.Prelude.{◌≡◌, ℕ}
use Rattle.law_walks_own.specs.Below.heap_partition.declared.value.Cell.{Cell}
use Rattle.law_walks_own.specs.Below.server_msgs.declared.message.Message.TheVariants.{Moved}
use Rattle.law_walks_own.specs.Below.server_model.declared.event.Event.{Event}
use Rattle.law_walks_own.specs.Below.server_model.declared.event.What.TheVariants.{Step}
use Rattle.law_walks_own.specs.Below.server_model.Servers.{Cluster}
use Rattle.law_walks_own.specs.Below.server_model.Clusters.{apply}
use Rattle.law_walks_own.specs.Below.coherent_memory.Follow.{Standing}
use Rattle.law_walks_own.specs.Below.coherent_types.ClusterTypes.{IsCoherent}
use Rattle.law_walks_own.specs.Below.law_words_paths.paths.HeapStore.{GoesOn}
use Rattle.law_walks_own.specs.Below.law_words_paths.words.Unmoved.{Delivers}
use Rattle.law_walks_own.specs.Below.law_counts_sums.Laws.{Gives, FewEvents}
use Rattle.law_length_asks.specs.ahead.Ahead.{SameAhead}

-- an event that is neither a step of that thread nor brings it an object
pub record IsBeside (k : Cluster) (e : Event) (t : ℕ) : Type 0 where
  pub no_step : e.what ≡ Step t → ⊥
  pub no_object : (old : ℕ) (c : Cell) → Delivers k e (Moved old c t) → ⊥

-- after such an event from a coherent cluster in which few were done, with its messages handed over, as many hops are ahead of the thread, as it stands, as were before
abbrev pub EventsBesideLeaveAhead : Type 0
EventsBesideLeaveAhead = (k : Cluster) (e : Event) → IsCoherent k → FewEvents k → (x : Standing) → GoesOn k x → IsBeside k e x.thread.number → Gives (SameAhead k x) (apply k e)
