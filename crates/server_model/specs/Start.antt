-- How threads start (this project's rules): their names, their servers and what they capture.
use Rattle.std.specs.Prelude.{ℕ, ◌+◌, ◌*◌, ◌%◌, ◌^◌, Bool, true, false, List, [], ◌∷◌, ◌++◌, Option, Some, None, slice_get, slice_set}
use Rattle.fr_base.specs.declared.label.Label.TheVariants as label
use Rattle.place_walk.specs.Below.thread_state.View.{new_thread}
use Rattle.place_walk.specs.Below.thread_state.declared.value.Value.{Value}
use Rattle.place_walk.specs.Below.thread_state.declared.value.Value.TheVariants as value
use Rattle.server_msgs.specs.declared.message.Message.TheVariants as message
use Rattle.journal.specs.declared.act.Act.TheVariants as act
use Rattle.server_model.specs.Servers.{Rest}
use Rattle.server_model.specs.Places.{second_of}
use Rattle.server_model.specs.Work.{Work, send, note, label_all, then_some}

-- the next thread that a server starts
abbrev pub next_thread : Rest → ℕ
next_thread s = s.number * 2 ^ 32 + (s.started + 1)

-- thread s.c starts at server (s + c) modulo the number of servers, where s is the server of its parent
abbrev pub server_for : ℕ → Rest → ℕ
server_for servers s = (s.number + (s.started + 1)) % servers

-- a new thread goes to its server
abbrev pub start_thread : ℕ → ℕ → List Value → Work → Work
start_thread servers pc slots w =
    send (server_for servers w.rest) (message.Start (new_thread (next_thread w.rest) pc slots))
    (label_all (label.Start (next_thread w.rest) ∷ []) (note (act.Start (next_thread w.rest) (server_for servers w.rest)) (record w { rest = record w.rest { started = w.rest.started + 1 } })))

-- what a new thread captures: owned values, and branches of a pair shared references to objects too; what isn't moved stays, so
-- it must be one of which there may be a second
abbrev pub captured : (branch moves : Bool) → Value → Option Value
captured branch true (value.Own v) = Some (value.Own v)
captured branch false (value.Own v) = second_of (value.Own v)
captured true false (value.Shared r) = second_of (value.Shared r)
captured branch moves v = None

-- what a capture leaves of the slots
abbrev pub left_after : Bool → List Value → ℕ → List Value
left_after true slots i = slice_set slots i value.Gone
left_after false slots i = slots

-- the captured values in order, and the slots that are left
abbrev pub capture_from : Bool → List Value → List (ℕ × Bool) → List Value → Option (List Value × List Value)
capture_from branch new [] slots = Some (new, slots)
capture_from branch new (c ∷ cs) slots = then_some (slice_get slots c.0) (λ v. then_some (captured branch c.1 v) (λ u. capture_from branch (new ++ u ∷ []) cs (left_after c.1 slots c.0)))

-- the captures of a new thread, and the slots that are left to its parent
abbrev pub capture : (branch : Bool) → List (ℕ × Bool) → List Value → Option (List Value × List Value)
capture branch cs slots = capture_from branch [] cs slots
