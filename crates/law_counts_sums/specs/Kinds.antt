-- Kinds of events: what is delivered, and which instruction a thread steps.
use Rattle.std.specs.Prelude.{Option, Some, slice_get, option_map}
use Rattle.coherent_memory.specs.Below.fr_base.declared.instruction.Instr.{Instr}
use Rattle.coherent_memory.specs.Below.fr_base.declared.instruction.Instr.TheVariants as instr
use Rattle.coherent_memory.specs.Below.server_msgs.declared.message.Message.{Message}
use Rattle.coherent_memory.specs.Below.server_msgs.declared.message.Message.TheVariants as message
use Rattle.coherent_memory.specs.Below.server_model.declared.event.Event.{Event}
use Rattle.coherent_memory.specs.Below.server_model.declared.event.What.{What}
use Rattle.coherent_memory.specs.Below.server_model.declared.event.What.TheVariants.{Step, Deliver, Evict, Migrate}
use Rattle.coherent_memory.specs.Below.server_model.Servers.{Server, Cluster, server_at}
use Rattle.coherent_memory.specs.Below.server_model.Work.{then_some, thread_in}

pub data Kind : Type 0 where
  -- the delivery of a message
  fetch : Kind
  fetched : Kind
  moving : Kind
  moved : Kind
  drop : Kind
  asks_lock : Kind
  granted : Kind
  unlocked : Kind
  asks_dup : Kind
  dupped : Kind
  released : Kind
  starts : Kind
  asks_join : Kind
  joined : Kind
  finished : Kind
  arrives : Kind
  -- a step of an instruction, or its request
  step_let : Kind
  step_assign : Kind
  step_read : Kind
  step_borrow : Kind
  step_borrow_mut : Kind
  step_box : Kind
  step_arith : Kind
  step_print : Kind
  step_discard : Kind
  step_drop_slot : Kind
  step_spawn : Kind
  step_join : Kind
  step_mutex : Kind
  step_dup : Kind
  step_lock : Kind
  step_unlock : Kind
  step_par : Kind
  step_par_end : Kind
  step_end : Kind
  -- a copy goes; a thread leaves
  evicts : Kind
  migrates : Kind

abbrev pub message_kind : Message → Kind
message_kind (message.Fetch w o s t) = fetch
message_kind (message.Fetched w c t) = fetched
message_kind (message.Move w o s t) = moving
message_kind (message.Moved w c t) = moved
message_kind (message.Drop w o) = drop
message_kind (message.Lock m s t) = asks_lock
message_kind (message.Granted m v t) = granted
message_kind (message.Unlock m v) = unlocked
message_kind (message.Dup m s t) = asks_dup
message_kind (message.Dupped m t) = dupped
message_kind (message.Release r) = released
message_kind (message.Start t) = starts
message_kind (message.Join u s t) = asks_join
message_kind (message.Joined u v t) = joined
message_kind (message.Finished u v) = finished
message_kind (message.Migrate t) = arrives

abbrev pub instr_kind : Instr → Kind
instr_kind (instr.Let o) = step_let
instr_kind (instr.Assign w o) = step_assign
instr_kind (instr.Read w take) = step_read
instr_kind (instr.Borrow w) = step_borrow
instr_kind (instr.BorrowMut w) = step_borrow_mut
instr_kind (instr.Box o) = step_box
instr_kind (instr.Arith f a b) = step_arith
instr_kind (instr.Print o) = step_print
instr_kind instr.Discard = step_discard
instr_kind instr.DropSlot = step_drop_slot
instr_kind (instr.Spawn cs pc) = step_spawn
instr_kind (instr.Join o) = step_join
instr_kind (instr.Mutex o) = step_mutex
instr_kind (instr.Dup w) = step_dup
instr_kind (instr.Lock w) = step_lock
instr_kind instr.Unlock = step_unlock
instr_kind (instr.Par cs pc ds other) = step_par
instr_kind instr.ParEnd = step_par_end
instr_kind (instr.End o) = step_end

-- the kind of an event at a server; None where the message or the thread isn't there
abbrev pub kind_at : Cluster → What → Server → Option Kind
kind_at k (Step t) s = then_some (thread_in s.threads t) (λ x. option_map instr_kind (slice_get k.code x.pc))
kind_at k (Deliver i) s = option_map message_kind (slice_get s.rest.inbox i)
kind_at k (Evict w) s = Some evicts
kind_at k (Migrate t target) s = Some migrates

abbrev pub kind_of : Cluster → Event → Option Kind
kind_of k e = then_some (server_at k.servers e.server) (kind_at k e.what)
