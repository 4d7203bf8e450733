-- The state of a server and of a cluster, as the servers' code is seen (in the manner of DRust, OSDI 2024; homes, tasks and
-- mutexes are this project's). Room that was made before isn't part of it.
use Rattle.std.specs.Prelude.{ℕ, zero, suc, ◌+◌, ◌==◌, List, [], ◌∷◌, Option, Some, None, if◌then◌else◌}
use Rattle.fr_base.specs.declared.instruction.Instr.{Instr}
use Rattle.fr_base.specs.declared.settings.Options.{Options}
use Rattle.owner_box.specs.View.{PartitionState}
use Rattle.owner_box.specs.Partition.{started}
use Rattle.place_walk.specs.Below.read_cache.Cache.{Copy}
use Rattle.mutex_home.specs.Mutexes.{Mutexes}
use Rattle.join_home.specs.Tasks.{Task}
use Rattle.place_walk.specs.Below.thread_state.View.{ThreadState, new_thread}
use Rattle.server_msgs.specs.declared.message.Message.{Message}

-- a message under way to a server
pub record Sent : Type 0 where
  pub target : ℕ
  pub message : Message

-- what the step of a thread can touch of its server: all but the list of threads
pub record Rest : Type 0 where
  pub number : ℕ
  -- its part of the heap
  pub partition : PartitionState
  -- its cached copies, the oldest first
  pub cache : List Copy
  pub mutexes : Mutexes
  -- the threads that it started, by rising number, until their results are gone
  pub tasks : List Task
  -- the messages that wait here, the oldest first
  pub inbox : List Message
  -- those for other servers, the oldest first
  pub outbox : List Sent
  -- how many threads it has started
  pub started : ℕ

pub record Server : Type 0 where
  pub rest : Rest
  -- the threads that stand here, by rising number; those that are over stay
  pub threads : List ThreadState
  -- how many events it has done
  pub events : ℕ

pub record Cluster : Type 0 where
  pub code : List Instr
  pub options : Options
  -- by rising number, from 0
  pub servers : List Server

abbrev pub no_mutexes : ℕ → Mutexes
no_mutexes s = record { home = s; made = 0; there = [] }

-- a server without a thread
abbrev pub empty_server : Options → ℕ → Server
empty_server o s = record {
  rest = record {
    number = s;
    partition = started s o.colours;
    cache = [];
    mutexes = no_mutexes s;
    tasks = [];
    inbox = [];
    outbox = [];
    started = 0;
  };
  threads = [];
  events = 0;
}

-- so many servers without a thread, from this number on
abbrev pub empty_servers : Options → ℕ → ℕ → List Server
empty_servers o s zero = []
empty_servers o s (suc n) = empty_server o s ∷ empty_servers o (s + 1) n

-- the main thread, at its first instruction without a slot
abbrev pub main_thread : ThreadState
main_thread = new_thread 0 0 []

abbrev pub with_main : List Server → List Server
with_main [] = []
with_main (s ∷ ss) = record s { threads = main_thread ∷ [] } ∷ ss

-- the start of a program: main at server 0, and nothing else anywhere
abbrev pub start_of : List Instr → Options → Cluster
start_of code o = record { code = code; options = o; servers = with_main (empty_servers o 0 o.servers) }

-- the server of that number
abbrev pub server_at : List Server → ℕ → Option Server
server_at [] n = None
server_at (s ∷ ss) n = if s.rest.number == n then Some s else server_at ss n
