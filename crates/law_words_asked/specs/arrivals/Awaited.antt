-- WHAT COMES IS AWAITED (this project's rule): the object that a message brings to a thread is that of the pointer that the thread waits at in turn.
use Rattle.std.specs.Prelude.{◌≡◌, ℕ, false, true, Some, slice_get}
use Rattle.law_results_events.specs.Below.heap_partition.declared.value.Cell.{Cell}
use Rattle.law_results_events.specs.Below.thread_state.View.{ThreadState}
use Rattle.law_results_events.specs.Below.thread_state.declared.phase.Phase.TheVariants as phase
use Rattle.law_results_events.specs.Below.server_msgs.declared.message.Message.TheVariants.{Moved}
use Rattle.law_results_events.specs.Below.server_model.Servers.{Server, Cluster, server_at}
use Rattle.law_results_events.specs.Below.server_model.Work.{thread_in}
use Rattle.law_results_events.specs.Below.coherent_memory.Follow.{Standing}
use Rattle.law_results_events.specs.Below.coherent_memory.Sight.{sight}
use Rattle.law_results_events.specs.Below.coherent_memory.Paths.{Awaited}
use Rattle.law_results_events.specs.Below.coherent_memory.Turn.{InTurn}
use Rattle.law_results_events.specs.Below.coherent_memory.Walking.{path}
use Rattle.law_results_events.specs.Below.coherent_memory.Coherent.{IsSound}

-- what the thread waits for in turn is that object, under that word, and comes to its server
pub record Awaits (k : Cluster) (x : Standing) (old : ℕ) (c : Cell) : Type 0 where
  pub awaited : Awaited
  pub turn : InTurn (sight k) x old awaited (path (sight k) x)
  pub word : awaited.word ≡ old
  pub object : awaited.object ≡ c.object
  pub comes : awaited.comes ≡ true

-- of a message at the server of its thread, which waits under that word
abbrev pub ArrivalsAwaited : Type 0
ArrivalsAwaited = (k : Cluster) (number i old t : ℕ) (s : Server) (c : Cell) (y : ThreadState) → IsSound k → server_at k.servers number ≡ Some s → slice_get s.rest.inbox i ≡ Some (Moved old c t) → thread_in s.threads t ≡ Some y → y.phase ≡ phase.WaitCell old
    → Awaits k (record { server = s.rest.number; packed = false; thread = y }) old c
