-- A cluster in which main waits at its par, and both branches have a view of what its reference leads to.
use Rattle.std.specs.Prelude.{◌≡◌, false, [], ◌∷◌, ◌++◌, Some}
use Rattle.coherent_memory.specs.Below.global_addr.Words.{word_of}
use Rattle.coherent_memory.specs.Below.thread_state.View.{ThreadState, new_thread}
use Rattle.coherent_memory.specs.Below.thread_state.declared.value.Value.{Value}
use Rattle.coherent_memory.specs.Below.thread_state.declared.value.Value.TheVariants as value
use Rattle.coherent_memory.specs.Below.thread_state.declared.phase.Phase.TheVariants as phase
use Rattle.coherent_memory.specs.Below.join_home.Tasks.{in_pair}
use Rattle.coherent_memory.specs.Below.server_model.Servers.{Server, Cluster}
use Rattle.coherent_memory.specs.Below.server_model.Figures.{run, steps_of, deliver}
use Rattle.coherent_memory.specs.Below.server_model.Programs.{with_servers, read_by_pairs}
use Rattle.sample_clusters.specs.Clusters.{cell, int, box, object, task}
use Rattle.coherent_types.specs.ClusterTypes.{Types}
use Rattle.coherent_types.specs.Typed.{cluster_of}

abbrev pub seen : Value
seen = value.Shared (record { word = word_of 0 0 0; object = object 0; pinned = false })

abbrev pub parent : ThreadState
parent = record (new_thread 0 5 (value.Own (box (word_of 0 0 0) 0) ∷ seen ∷ [])) { phase = phase.WaitPar 1 2; made = 1 }

abbrev pub paired_server : Server
paired_server = record {
  rest = record {
    number = 0;
    partition = record { server = 0; limit = 65536; cells = cell 0 (int 1) ∷ []; free = []; retired = 0 };
    cache = [];
    mutexes = record { home = 0; made = 0; there = [] };
    tasks = task 1 (in_pair 0 false) ∷ task 2 (in_pair 0 false) ∷ [];
    inbox = [];
    outbox = [];
    started = 2;
  };
  threads = parent ∷ new_thread 1 15 (seen ∷ []) ∷ new_thread 2 19 (seen ∷ []) ∷ [];
  events = 7;
}

abbrev pub paired_cluster : Cluster
paired_cluster = record { code = read_by_pairs; options = with_servers 1 65536; servers = paired_server ∷ [] }

pub record PairHasTypes : Type 0 where
  pub reached : cluster_of (run read_by_pairs (with_servers 1 65536) (steps_of 0 0 5 ++ deliver 0 0 ++ deliver 0 0)) ≡ Some paired_cluster
  pub typed : Types paired_cluster
