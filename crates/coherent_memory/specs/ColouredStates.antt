-- States that aren't the coloured heap of a cluster: each differs from it in one thing.
use Rattle.std.specs.Prelude.{ℕ, ◌==◌, true, false, List, [], ◌∷◌, map, Option, Some, None, if◌then◌else◌}
use Rattle.server_model.specs.Servers.{Cluster, start_of}
use Rattle.server_model.specs.Figures.{Ran, run}
use Rattle.server_model.specs.Programs.{with_servers, written_box, read_elsewhere, locked_twice}
use Rattle.server_model.specs.Rows.{reading_elsewhere, locking_twice}
use Rattle.coloured_heap.specs.Heap.{Running, Guarded, Coloured, start}
use Rattle.coloured_heap.specs.Legal.{journal_after}
use Rattle.coherent_memory.specs.Colours.{StandsColoured}

-- a run's cluster and the state that its journal leaves
pub record Left : Type 0 where
  pub cluster : Cluster
  pub state : Coloured

abbrev nothing_left : Left
nothing_left = record { cluster = start_of written_box (with_servers 1 65536); state = start }

abbrev left_with : Ran → Option Coloured → Left
left_with r None = nothing_left
left_with r (Some c) = record { cluster = r.cluster; state = c }

abbrev left_of : Option Ran → Left
left_of None = nothing_left
left_of (Some r) = left_with r (journal_after r.cluster.options r.journal)

-- thread 0.1 has ended; a thread waits for a mutex that it holds
abbrev read_far : Left
read_far = left_of (run read_elsewhere (with_servers 2 65536) reading_elsewhere)

abbrev locked : Left
locked = left_of (run locked_twice (with_servers 1 65536) locking_twice)

abbrev marked : ℕ → Running → Running
marked t r = if r.thread == t then record r { has_ended = true } else r

abbrev unmarked : Running → Running
unmarked r = record r { has_ended = false }

-- the state with other threads, and with other mutexes
abbrev with_threads : (List Running → List Running) → Left → Type 0
with_threads f l = StandsColoured l.cluster (record l.state { threads = f l.state.threads })

abbrev with_mutexes : (List Guarded → List Guarded) → Left → Type 0
with_mutexes f l = StandsColoured l.cluster (record l.state { mutexes = f l.state.mutexes })

pub record StatesAreTold : Type 0 where
  -- that a thread has ended is forgotten, or told of main
  pub forgets_an_end : with_threads (map unmarked) read_far → ⊥
  pub ends_main : with_threads (map (marked 0)) read_far → ⊥
  -- a mutex stands there that wasn't made, or one is missing
  pub makes_a_mutex : with_mutexes (λ ms. record { mutex = record { home = 0; count = 2 }; holder = None } ∷ ms) locked → ⊥
  pub loses_a_mutex : with_mutexes (λ ms. []) locked → ⊥
