-- A cluster in which main holds a mutex: the hidden slot of the lock is its mark, and the slot above has its content.
use Rattle.std.specs.Prelude.{◌≡◌, pos, List, [], ◌∷◌, ◌++◌, Some, None}
use Rattle.coherent_memory.specs.Below.thread_state.View.{ThreadState, new_thread}
use Rattle.coherent_memory.specs.Below.thread_state.declared.value.Value.TheVariants as value
use Rattle.coherent_memory.specs.Below.heap_partition.declared.value.Owned.TheVariants as owned
use Rattle.coherent_memory.specs.Below.server_model.Servers.{Server, Cluster}
use Rattle.coherent_memory.specs.Below.server_model.Figures.{run, steps_of, deliver}
use Rattle.coherent_memory.specs.Below.server_model.Programs.{with_servers, locked_twice}
use Rattle.coherent_memory.specs.Below.fr_typing.Kinds.{unit, int, mutex, own, shared, whole}
use Rattle.coherent_memory.specs.Below.fr_typing.Places.{Slot, Env}
use Rattle.sample_clusters.specs.Clusters.{place, the_mutex}
use Rattle.coherent_memory.specs.Below.fr_code.CodeTypes.{Entry, Table, table_of, going}
use Rattle.coherent_memory.specs.Below.fr_code.CodeTable.{IsTable}
use Rattle.coherent_types.specs.ClusterTypes.{Types}
use Rattle.coherent_types.specs.Tables.{x_name, r_name, c_name, slot}
use Rattle.coherent_types.specs.Typed.{cluster_of}

abbrev mark_slot : Slot
mark_slot = record { name = None; part = whole (shared (place 0 0 ∷ [])) }

abbrev pub unlocked_slots : Env
unlocked_slots = slot x_name (whole (own (mutex int))) ∷ []

abbrev pub once_locked : Env
once_locked = slot r_name (whole (own int)) ∷ mark_slot ∷ unlocked_slots

abbrev pub twice_locked : Env
twice_locked = slot c_name (whole (own int)) ∷ mark_slot ∷ once_locked

abbrev pub twice_entries : List Entry
twice_entries =
    going [] [] unit ∷ going [] (own (mutex int) ∷ []) unit ∷ going unlocked_slots [] unit ∷ going once_locked [] unit ∷ going twice_locked [] unit
    ∷ going twice_locked (own int ∷ []) unit ∷ going twice_locked [] unit ∷ going once_locked [] unit ∷ going unlocked_slots [] unit ∷ going [] [] unit
    ∷ []

abbrev pub twice_table : Table
twice_table = table_of twice_entries

abbrev pub locking_main : ThreadState
locking_main = new_thread 0 3 (value.Own (owned.Mutex the_mutex) ∷ value.Held the_mutex ∷ value.Own (owned.Int (pos 1)) ∷ [])

abbrev pub locking_server : Server
locking_server = record {
  rest = record {
    number = 0;
    partition = record { server = 0; limit = 65536; cells = []; free = []; retired = 0 };
    cache = [];
    mutexes = record { home = 0; made = 1; there = record { number = the_mutex; content = None; shares = 1; queue = [] } ∷ [] };
    tasks = [];
    inbox = [];
    outbox = [];
    started = 0;
  };
  threads = locking_main ∷ [];
  events = 6;
}

abbrev pub locking_cluster : Cluster
locking_cluster = record { code = locked_twice; options = with_servers 1 65536; servers = locking_server ∷ [] }

pub record LockHasTypes : Type 0 where
  pub reached : cluster_of (run locked_twice (with_servers 1 65536) (steps_of 0 0 3 ++ deliver 0 0 ++ deliver 0 0 ++ steps_of 0 0 1)) ≡ Some locking_cluster
  pub table : IsTable locked_twice twice_table
  pub typed : Types locking_cluster
