-- What became of a step, as the definitions have it.
use Rattle.std.specs.Prelude.{ℕ, ◌+◌, ◌^◌, ◌<◌, List, Option, IfSome, length}
use Rattle.fr_base.specs.declared.instruction.Instr.{Instr}
use Rattle.fr_base.specs.declared.step.Fresh.{Fresh}
use Rattle.thread_state.specs.View.{ThreadState, ThreadView}
use Rattle.server_model.specs.Servers.{Server}
use Rattle.server_model.specs.Work.{Site, thread_in, in_hand, then_some}
use Rattle.server_model.specs.Events.{Stepped, step_in}
use Rattle.server_parts.specs.Hands.{hand}
use Rattle.server_parts.specs.Works.{WorkView}

-- the work with its thread, and the names that the plain step took where it was done
abbrev pub stepped : Option Fresh → WorkView → ThreadView → Stepped
stepped names w t = record { hand = hand w t; names = names }

-- the step of a thread that is here
abbrev pub step_there : List Instr → ℕ → ℕ → Site → Option Stepped
step_there code servers t x = then_some (in_hand x t) (step_in code servers)

-- no count of the thread is near its end: its next instruction, its objects, the hops that are ready, and its slots
pub record ThreadLeft (t : ThreadState) : Type 0 where
  pub pc : t.pc + 16 < 2 ^ 32
  pub made : t.made + 16 < 2 ^ 64
  pub passed : t.passed + 16 < 2 ^ 8
  pub slots : length t.slots + 16 < 2 ^ 32

-- no count of the server or of its threads is near its end
pub record CountsLeft (s : Server) : Type 0 where
  pub started : s.rest.started + 16 < 2 ^ 32
  pub events : s.events + 16 < 2 ^ 64
  pub threads : (t : ℕ) → IfSome (thread_in s.threads t) ThreadLeft
