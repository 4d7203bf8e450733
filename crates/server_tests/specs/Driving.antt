-- Events that are done at one server one after another, as a test does them by hand.
use Rattle.std.specs.Prelude.{if◌then◌else◌, ℕ, zero, suc, ◌+◌, ◌^◌, ◌&&◌, nat_lt, Bool, true, List, [], ◌∷◌, length, Option, Some, None, option_map}
use Rattle.fr_base.specs.declared.instruction.Instr.{Instr}
use Rattle.fr_base.specs.declared.settings.Options.{Options}
use Rattle.journal.specs.View.{EntryView}
use Rattle.thread_state.specs.View.{ThreadState}
use Rattle.server_model.specs.declared.event.What.{What}
use Rattle.server_model.specs.declared.event.What.TheVariants.{Step, Deliver}
use Rattle.server_model.specs.Servers.{Server, server_at, start_of}
use Rattle.server_model.specs.Work.{then_some}
use Rattle.server_model.specs.Events.{does, enabled}

-- COUNTS

-- no count of the thread is near its end
abbrev pub thread_left : ThreadState → Bool
thread_left t = nat_lt (t.pc + 16) (2 ^ 32) && (nat_lt (t.made + 16) (2 ^ 64) && (nat_lt (t.passed + 16) (2 ^ 8) && nat_lt (length t.slots + 16) (2 ^ 32)))

abbrev pub threads_left : List ThreadState → Bool
threads_left [] = true
threads_left (t ∷ ts) = thread_left t && threads_left ts

-- no count of the server or of its threads
abbrev pub counts_left : Server → Bool
counts_left s = nat_lt (s.rest.started + 16) (2 ^ 32) && (nat_lt (s.events + 16) (2 ^ 64) && threads_left s.threads)

-- EVENTS

-- what an event does where it is enabled and no count is near its end
abbrev pub done : List Instr → Options → What → Server → Option (Server × EntryView)
done code o w s = if counts_left s && enabled o s w then does code o s w else None

abbrev left : Server × EntryView → Server
left d = d.0

-- the server after so many events of that kind; None where one isn't enabled, has no result, or finds a count near its end
abbrev pub again : List Instr → Options → What → ℕ → Server → Option Server
again code o w zero s = Some s
again code o w (suc n) s = then_some (done code o w s) (λ d. again code o w n (left d))

-- the main thread steps so many times, and then so many times the oldest message is delivered
abbrev pub steps_and_deliveries : List Instr → Options → (steps deliveries : ℕ) → Server → Option Server
steps_and_deliveries code o n m s = then_some (again code o (Step 0) n s) (again code o (Deliver 0) m)

-- the same from the start of a code at one server
abbrev pub run_whole : List Instr → Options → (steps deliveries : ℕ) → Option Server
run_whole code o n m = then_some (server_at (start_of code o).servers 0) (steps_and_deliveries code o n m)
