-- Clusters that have types: the start of each code that has a table, and the run of a code after two events.
use Rattle.std.specs.Prelude.{◌≡◌, ◌≤◌, List, [], ◌∷◌, Option, Some, None}
use Rattle.coherent_memory.specs.Below.fr_base.declared.instruction.Instr.{Instr}
use Rattle.coherent_memory.specs.Below.fr_base.declared.settings.Options.{Options}
use Rattle.coherent_memory.specs.Below.global_addr.Words.{word_of}
use Rattle.coherent_memory.specs.Below.thread_state.View.{ThreadState, new_thread}
use Rattle.coherent_memory.specs.Below.thread_state.declared.value.Value.TheVariants as value
use Rattle.coherent_memory.specs.Below.server_model.Servers.{Server, Cluster, start_of}
use Rattle.coherent_memory.specs.Below.server_model.Figures.{Ran, run, steps_of}
use Rattle.coherent_memory.specs.Below.fr_code.CodeTypes.{Table}
use Rattle.coherent_memory.specs.Below.fr_code.CodeTable.{IsTable}
use Rattle.sample_clusters.specs.Clusters.{boxed_code, options, cell, int, box}
use Rattle.coherent_types.specs.ClusterTypes.{Types}

-- main has a box in its slot, and stands at the assignment
abbrev pub boxed_main : ThreadState
boxed_main = record (new_thread 0 2 (value.Own (box (word_of 0 0 0) 0) ∷ [])) { made = 1 }

abbrev pub boxed_server : Server
boxed_server = record {
  rest = record {
    number = 0;
    partition = record { server = 0; limit = 4; cells = cell 0 (int 1) ∷ []; free = []; retired = 0 };
    cache = [];
    mutexes = record { home = 0; made = 0; there = [] };
    tasks = [];
    inbox = [];
    outbox = [];
    started = 0;
  };
  threads = boxed_main ∷ [];
  events = 2;
}

abbrev pub boxed_cluster : Cluster
boxed_cluster = record { code = boxed_code; options = options 1; servers = boxed_server ∷ [] }

abbrev pub cluster_of : Option Ran → Option Cluster
cluster_of None = None
cluster_of (Some r) = Some r.cluster

-- the start of a code that has a table, whatever the options and however many servers
abbrev pub StartHasTypes : Type 0
StartHasTypes = (code : List Instr) (table : Table) (o : Options) → IsTable code table → 1 ≤ o.servers → Types (start_of code o)

pub record TypesCompute : Type 0 where
  pub starts : Types (start_of boxed_code (options 1))
  pub reached : cluster_of (run boxed_code (options 1) (steps_of 0 0 2)) ≡ Some boxed_cluster
  pub boxed : Types boxed_cluster
