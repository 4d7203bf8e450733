-- Messages about threads (this project's rules): they start, move and end, and their results go to those that ask. Each function
-- is what the delivery of one message does; None where that can't be done.
use Rattle.std.specs.Prelude.{ℕ, ◌==◌, ◌||◌, Bool, false, if◌then◌else◌, Option, Some, None, option_map}
use Rattle.place_walk.specs.Below.heap_partition.declared.value.Owned.{Owned}
use Rattle.join_home.specs.Tasks.{ask, ended, let_go_of}
use Rattle.join_home.specs.declared.answers.EndedAs.{EndedAs}
use Rattle.join_home.specs.declared.answers.EndedAs.TheVariants.{Answer, Both, LetGo, Kept}
use Rattle.place_walk.specs.Below.thread_state.View.{ThreadState}
use Rattle.place_walk.specs.Below.thread_state.declared.phase.Phase.{Phase}
use Rattle.place_walk.specs.Below.thread_state.declared.phase.Phase.TheVariants as phase
use Rattle.server_msgs.specs.declared.message.Message.TheVariants as message
use Rattle.journal.specs.declared.act.Act.TheVariants as act
use Rattle.server_model.specs.Work.{Work, Hand, Site, send, note, with_tasks, thread_in, with_thread, at_thread, beside_threads, with_phase, then_some}
use Rattle.server_model.specs.Drop.{give_up}
use Rattle.server_model.specs.Sharing.{given, give_up_left}

-- a thread stands beside the others where none of its number was found
abbrev pub stand : Option ThreadState → ThreadState → Site → Option Site
stand None t s = Some (record s { threads = with_thread s.threads t })
stand (Some x) t s = None

-- a thread stands here from now on, a new one or one that was moved; None where one of its number stands already
abbrev pub arrive : ThreadState → Site → Option Site
arrive t s = stand (thread_in s.threads t.number) t s

-- the result of a thread goes to that thread at that server
abbrev pub answer : ℕ → ℕ → ℕ → Owned → Work → Work
answer u s by v w = send s (message.Joined u v by) (note (act.Answer u by s) w)

-- the answer to a join, where the thread has ended
abbrev pub answer_join : ℕ → ℕ → ℕ → Option Owned → Work → Work
answer_join u s by None w = w
answer_join u s by (Some v) w = answer u s by v w

-- the home answers where the thread has ended, and else notes who asked
abbrev pub deliver_join : ℕ → ℕ → ℕ → Work → Option Work
deliver_join u s by w = option_map (λ a. answer_join u s by a.1 (with_tasks a.0 w)) (ask w.rest.tasks u s by)

-- it waits for the result of that thread
abbrev pub waits_for_join : Phase → ℕ → Bool
waits_for_join (phase.WaitJoin x) u = x == u
waits_for_join p u = false

-- the result is the gift of the thread
abbrev pub deliver_joined : ℕ → Owned → Hand → Option Hand
deliver_joined u v h = if waits_for_join h.thread.phase u then given v h.thread.gift h else None

-- the task was dropped: a result that is kept is dropped, and else the thread is let go
abbrev pub release_task : ℕ → Work → Option Work
release_task u w = option_map (λ a. give_up_left a.1 (with_tasks a.0 w)) (let_go_of w.rest.tasks u)

-- the phase of the parent of a pair with that thread
abbrev pub got_par : ℕ → Phase → Option Phase
got_par u (phase.WaitPar a b) = if (a == u) || (b == u) then Some (phase.GotPar a b) else None
got_par u p = None

-- the parent of a pair with that thread goes on
abbrev pub pair_over : ℕ → Hand → Option Hand
pair_over u h = option_map (λ p. with_phase p h) (got_par u h.thread.phase)

-- where the result goes
abbrev pub end_answer : ℕ → EndedAs → Site → Option Site
end_answer u (Answer s by v) x = beside_threads (λ w. Some (answer u s by v w)) x
end_answer u (Both parent) x = at_thread parent (pair_over u) x
end_answer u (LetGo v) x = beside_threads (λ w. Some (give_up v w)) x
end_answer u Kept x = Some x

-- a thread has ended: its result goes to whoever asked, or is kept, or dropped; the second of a pair lets its parent go on
abbrev pub deliver_finished : ℕ → Owned → Site → Option Site
deliver_finished u v x = then_some (ended x.work.rest.tasks u v) (λ a. end_answer u a.1 (record x { work = with_tasks a.0 x.work }))
