-- Events (this project's rules): which ones a server can do, and what each does to the server, with its entry of the journal.
use Rattle.std.specs.Prelude.{ℕ, ◌+◌, ◌==◌, ◌&&◌, not, nat_lt, Bool, true, false, if◌then◌else◌, List, [], length, Option, Some, None, slice_get, option_map}
use Rattle.fr_base.specs.declared.instruction.Instr.{Instr}
use Rattle.fr_base.specs.declared.release.Released.{Released}
use Rattle.fr_base.specs.declared.release.Released.TheVariants as released
use Rattle.fr_base.specs.declared.settings.Options.{Options}
use Rattle.fr_base.specs.declared.step.Fresh.{Fresh}
use Rattle.place_walk.specs.Below.read_cache.Cache.{can_evict, evict}
use Rattle.place_walk.specs.Below.thread_state.View.{ThreadState}
use Rattle.place_walk.specs.Below.thread_state.declared.phase.Phase.{Phase}
use Rattle.place_walk.specs.Below.thread_state.declared.phase.Phase.TheVariants as phase
use Rattle.server_msgs.specs.declared.message.Message.{Message}
use Rattle.server_msgs.specs.declared.message.Message.TheVariants as message
use Rattle.journal.specs.declared.act.Act.TheVariants as act
use Rattle.journal.specs.View.{EntryView}
use Rattle.server_model.specs.declared.event.What.{What}
use Rattle.server_model.specs.declared.event.What.TheVariants.{Step, Deliver, Evict, Migrate}
use Rattle.server_model.specs.Servers.{Rest, Server}
use Rattle.server_model.specs.Work.{Work, Hand, Site, receive, note, without_hops, with_cache, thread_in, in_hand, put_back, at_thread, beside_threads, then_some}
use Rattle.server_model.specs.Prepare.{Prepared, ready, requested, nothing, access_of, prepare}
use Rattle.server_model.specs.Commit.{Committed, done, waits, refused, commit, settle}
use Rattle.server_model.specs.Objects.{deliver_fetch, deliver_fetched, deliver_move, deliver_moved, deliver_drop}
use Rattle.server_model.specs.Sharing.{deliver_lock, deliver_granted, deliver_unlock, deliver_dup, deliver_dupped, release_mutex}
use Rattle.server_model.specs.Joining.{arrive, deliver_join, deliver_joined, release_task, deliver_finished}
use Rattle.server_model.specs.Moving.{migrate}

-- WHICH EVENTS ARE ENABLED

-- it doesn't wait
abbrev pub can_step : Phase → Bool
can_step phase.Ready = true
can_step phase.Got = true
can_step (phase.GotPar a b) = true
can_step (phase.Taken w) = true
can_step p = false

-- no step is begun
abbrev pub is_ready : Phase → Bool
is_ready phase.Ready = true
is_ready p = false

-- the thread is here, in such a phase
abbrev pub has_phase : (Phase → Bool) → Option ThreadState → Bool
has_phase f None = false
has_phase f (Some t) = f t.phase

-- a thread that is here steps where it doesn't wait, and moves to another server of the run where it is ready; a message that waits
-- is delivered; a copy without a user is evicted
abbrev pub enabled : Options → Server → What → Bool
enabled o s (Step t) = has_phase can_step (thread_in s.threads t)
enabled o s (Deliver i) = nat_lt i (length s.rest.inbox)
enabled o s (Evict w) = can_evict s.rest.cache w
enabled o s (Migrate t target) = has_phase is_ready (thread_in s.threads t) && (nat_lt target o.servers && not (target == s.rest.number))

-- WHAT AN EVENT LEAVES

-- nothing is done yet
abbrev pub begin_work : Rest → Work
begin_work r = record { rest = r; acts = []; labels = [] }

-- the same with all threads of a server
abbrev pub begin_at : Server → Site
begin_at s = record { work = begin_work s.rest; threads = s.threads }

-- the entry of an event of a thread, or of none, with the names that its plain step took where it did one
abbrev pub entry_of : Option ℕ → Option Fresh → Work → EntryView
entry_of thread names w = record {
  server = w.rest.number;
  thread = thread;
  done = names;
  acts = w.acts;
  labels = w.labels;
}

-- so many events were done before; the server, and the entry
abbrev pub left_by : ℕ → Option ℕ → Option Fresh → Site → Server × EntryView
left_by n thread names x = (record { rest = x.work.rest; threads = x.threads; events = n + 1 }, entry_of thread names x.work)

-- STEPS

-- what became of a step: the thread, what the event did, and the names that the plain step took where it was done
pub record Stepped : Type 0 where
  pub hand : Hand
  pub names : Option Fresh

-- the step is done: its labels and all its hops are in this entry
abbrev pub done_step : Fresh → Hand → Stepped
done_step names h = record { hand = h; names = Some names }

-- the thread waits: what was made ready stays so, and the hops and labels count later
abbrev pub wait_step : Hand → Stepped
wait_step h = record { hand = record h { work = record h.work { acts = without_hops h.work.acts; labels = [] } }; names = None }

-- what became of the plain step
abbrev pub committed : Committed → Option Stepped
committed (done names h) = option_map (done_step names) (settle h)
committed (waits h) = Some (wait_step h)
committed refused = None

-- what became of the place: the plain step follows where it is ready
abbrev pub prepared : ℕ → Instr → Prepared → Option Stepped
prepared servers i (ready h s) = committed (commit servers i s h)
prepared servers i (requested h) = Some (wait_step h)
prepared servers i nothing = None

-- a thread goes on with the plain step of its instruction as far as it can here: the step is done, or one request is sent
abbrev pub step : ℕ → Instr → Hand → Option Stepped
step servers i h = prepared servers i (prepare (access_of i h.thread) h)

-- the step of the instruction at which the thread is
abbrev pub step_in : List Instr → ℕ → Hand → Option Stepped
step_in code servers h = then_some (slice_get code h.thread.pc) (λ i. step servers i h)

-- the thread stands where it stood
abbrev pub stepped : Server → Stepped → Server × EntryView
stepped s d = left_by s.events (Some d.hand.thread.number) d.names (put_back s.threads d.hand)

-- DELIVERIES

-- a mutex value or a task was dropped
abbrev pub release : Released → Work → Option Work
release (released.Mutex m) w = release_mutex m w
release (released.Task u) w = release_task u w

-- what a message does at the server that it goes to
abbrev pub deliver_message : List Instr → Message → Site → Option Site
deliver_message code (message.Fetch w o s t) x = beside_threads (deliver_fetch w o s t) x
deliver_message code (message.Fetched w c t) x = at_thread t (deliver_fetched w c) x
deliver_message code (message.Move w o s t) x = beside_threads (deliver_move w o s t) x
deliver_message code (message.Moved w c t) x = at_thread t (deliver_moved code w c) x
deliver_message code (message.Drop w o) x = beside_threads (deliver_drop w o) x
deliver_message code (message.Lock m s t) x = beside_threads (deliver_lock m s t) x
deliver_message code (message.Granted m v t) x = at_thread t (deliver_granted m v) x
deliver_message code (message.Unlock m v) x = beside_threads (deliver_unlock m v) x
deliver_message code (message.Dup m s t) x = beside_threads (deliver_dup m s t) x
deliver_message code (message.Dupped m t) x = at_thread t (deliver_dupped m) x
deliver_message code (message.Release r) x = beside_threads (release r) x
deliver_message code (message.Start p) x = arrive p x
deliver_message code (message.Join u s by) x = beside_threads (deliver_join u s by) x
deliver_message code (message.Joined u v by) x = at_thread by (deliver_joined u v) x
deliver_message code (message.Finished u v) x = deliver_finished u v x
deliver_message code (message.Migrate p) x = arrive p x

-- the message at that place is taken out of the waiting ones
abbrev pub received : ℕ → Server → Site
received i s = record { work = begin_work (receive s.rest i); threads = s.threads }

-- a message is taken out, and does what it says
abbrev pub deliver : List Instr → ℕ → Server → Option Site
deliver code i s = then_some (slice_get s.rest.inbox i) (λ m. deliver_message code m (received i s))

-- ALL EVENTS

-- the copy goes, where nobody uses it
abbrev pub evict_copy : ℕ → Work → Option Work
evict_copy c w = if can_evict w.rest.cache c then Some (note (act.Evict c) (with_cache (evict w.rest.cache c) w)) else None

-- what an enabled event does to a server, and its entry; an event that does no plain step has no labels. None where a condition
-- fails of one of the calls that it makes on the server's parts, where the thread of an answer isn't here or doesn't wait for it,
-- and where a value of another kind stands where a pointer, an integer, a mutex, a task or an owned value is needed
abbrev pub does : List Instr → Options → Server → What → Option (Server × EntryView)
does code o s (Step t) = option_map (stepped s) (then_some (in_hand (begin_at s) t) (step_in code o.servers))
does code o s (Deliver i) = option_map (left_by s.events None None) (deliver code i s)
does code o s (Evict w) = option_map (left_by s.events None None) (beside_threads (evict_copy w) (begin_at s))
does code o s (Migrate t target) = option_map (left_by s.events (Some t) None) (migrate t target (begin_at s))
