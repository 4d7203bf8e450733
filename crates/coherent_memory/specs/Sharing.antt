-- MUTEXES AND TASKS: contents, shares, results and what their homes have noted (this project's rules). Each function counts what breaks
-- the sentence above it.
use Rattle.std.specs.Prelude.{ℕ, ◌+◌, ◌==◌, Bool, true, false, not, ◌&&◌, length, Option, Some, None, is_some}
use Rattle.server_model.specs.Below.fr_base.declared.name.MutexNo.{MutexNo}
use Rattle.server_model.specs.Below.fr_base.declared.release.Released.{Released}
use Rattle.server_model.specs.Below.fr_base.declared.release.Released.TheVariants as released
use Rattle.server_model.specs.Below.heap_partition.declared.value.Owned.{Owned}
use Rattle.server_model.specs.Below.heap_partition.declared.value.Owned.TheVariants as owned
use Rattle.server_model.specs.Below.thread_state.View.{is_over}
use Rattle.server_model.specs.Below.thread_state.declared.phase.Phase.{Phase}
use Rattle.server_model.specs.Below.thread_state.declared.phase.Phase.TheVariants as phase
use Rattle.server_model.specs.Below.join_home.Tasks.{TaskState, going, let_go, kept, asked, in_pair}
use Rattle.server_model.specs.Below.server_msgs.declared.message.Message.{Message}
use Rattle.server_model.specs.Below.server_msgs.declared.message.Message.TheVariants.{Lock, Granted, Unlock, Dup, Dupped, Release, Joined, Finished}
use Rattle.coherent_memory.specs.Names.{one, other, if_so, some, same_mutex}
use Rattle.coherent_memory.specs.Things.{at_slot, at_temp, Spot, as_content, Thing, holds, locks, lies, flies, sent, stands, at_home, queued, noted}
use Rattle.coherent_memory.specs.Follow.{Standing}
use Rattle.coherent_memory.specs.Sight.{Sight}
use Rattle.coherent_memory.specs.Balances.{disagree, too_many, more_than_one}
use Rattle.coherent_memory.specs.Weights.{is_home_of, shares_of, shares_at_home, shared_mutexes, tasks_of}
use Rattle.coherent_memory.specs.Paths.{joined_thread}
use Rattle.coherent_memory.specs.Placing.{sum_over}
use Rattle.coherent_memory.specs.Walking.{sum_threads, instr_of}
use Rattle.coherent_memory.specs.Requests.{home_of, is_mutex, is_task, locked_mutex}

-- NAMES OF MUTEXES

abbrev pub owned_mutex : (MutexNo → ℕ) → Owned → ℕ
owned_mutex f (owned.Mutex m) = f m
owned_mutex f v = 0

abbrev pub released_mutex : (MutexNo → ℕ) → Released → ℕ
released_mutex f (released.Mutex m) = f m
released_mutex f (released.Task t) = 0

abbrev pub message_mutex : (MutexNo → ℕ) → Message → ℕ
message_mutex f (Lock m s t) = f m
message_mutex f (Granted m v t) = f m
message_mutex f (Unlock m v) = f m
message_mutex f (Dup m s t) = f m
message_mutex f (Dupped m t) = f m
message_mutex f (Release x) = released_mutex f x
message_mutex f x = 0

abbrev pub phase_mutex : (MutexNo → ℕ) → Phase → ℕ
phase_mutex f (phase.WaitLock m) = f m
phase_mutex f (phase.WaitDup m) = f m
phase_mutex f p = 0

-- the mutexes that a thing names, with a weight; copies name none
abbrev pub mutexes : (MutexNo → ℕ) → Thing → ℕ
mutexes f (holds p v) = owned_mutex f v
mutexes f (locks l m) = f m
mutexes f (lies s a c) = owned_mutex f c.value
mutexes f (flies w c) = owned_mutex f c.value
mutexes f (sent s m) = message_mutex f m
mutexes f (stands s p t) = phase_mutex f t.phase
mutexes f (queued m s t) = f m
mutexes f x = 0

abbrev pub there_at : ℕ → MutexNo → Thing → ℕ
there_at s m (at_home r n) = one (r == s && same_mutex n.number m)
there_at s m x = 0

-- each mutex that is named anywhere but in a copy, cached or in a `fetched` message, is there, at the server of its number
abbrev pub named_wrong : Sight → ℕ
named_wrong s = sum_over s (mutexes (λ m. other (some (sum_over s (there_at m.home m)))))

abbrev pub elsewhere : Thing → ℕ
elsewhere (at_home s m) = other (m.number.home == s)
elsewhere x = 0

-- no mutex is there at another server than that of its number
abbrev pub mutex_homes_wrong : Sight → ℕ
mutex_homes_wrong s = sum_over s elsewhere

-- CONTENTS

abbrev pub is_content_of : MutexNo → Spot → ℕ
is_content_of m (as_content n) = one (same_mutex n m)
is_content_of m p = 0

-- the content of the mutex is the gift of the thread, which stands at a lock of it
abbrev pub gift_content : Sight → MutexNo → Standing → ℕ
gift_content s m x = if_so (is_some x.thread.gift) (one (is_mutex m (locked_mutex s x (instr_of s x))))

-- a place of a mutex's content: its home, a `granted` or `unlock` message, the slot above a hidden slot, a gift at a lock
abbrev pub contents : Sight → MutexNo → Thing → ℕ
contents s m (holds p v) = is_content_of m p
contents s m (locks (at_slot t i) n) = one (same_mutex n m)
contents s m (stands r p x) = gift_content s m (record { server = r; packed = p; thread = x })
contents s m x = 0

abbrev pub spot_mutex : (MutexNo → ℕ) → Spot → ℕ
spot_mutex f (as_content m) = f m
spot_mutex f p = 0

abbrev pub some_mutex : (MutexNo → ℕ) → Option MutexNo → ℕ
some_mutex f None = 0
some_mutex f (Some m) = f m

abbrev pub gift_mutex : Sight → (MutexNo → ℕ) → Standing → ℕ
gift_mutex s f x = if_so (is_some x.thread.gift) (some_mutex f (locked_mutex s x (instr_of s x)))

-- the mutexes that a thing is or whose content it is, with a weight
abbrev pub held_mutexes : Sight → (MutexNo → ℕ) → Thing → ℕ
held_mutexes s f (holds p v) = spot_mutex f p
held_mutexes s f (locks (at_slot t i) m) = f m
held_mutexes s f (at_home r m) = f m.number
held_mutexes s f (stands r p x) = gift_mutex s f (record { server = r; packed = p; thread = x })
held_mutexes s f x = 0

abbrev pub loose_mark : Thing → ℕ
loose_mark (locks (at_temp t i) m) = 1
loose_mark x = 0

-- the mark of a lock stands in a slot alone
abbrev pub marks_wrong : Sight → ℕ
marks_wrong s = sum_over s loose_mark

-- each mutex's content stands in one place: its home, a `granted` or `unlock` message, a gift, or the slot of the thread that holds it. (As many places
-- as homes of each mutex)
abbrev pub contents_wrong : Sight → ℕ
contents_wrong s = disagree (contents s) is_home_of (held_mutexes s) s.things

-- a mutex's shares are its values in the places that own, its `release` messages and its dups answered but not yet taken, each counted once
abbrev pub shares_wrong : Sight → ℕ
shares_wrong s = disagree shares_of shares_at_home shared_mutexes s.things

abbrev pub queued_inside : Thing → ℕ
queued_inside (at_home r m) = if_so (is_some m.content) (length m.queue)
queued_inside x = 0

-- no thread is queued while the content is at the home
abbrev pub queues_wrong : Sight → ℕ
queues_wrong s = sum_over s queued_inside

abbrev pub kept_for_none : Thing → ℕ
kept_for_none (at_home r m) = one (m.shares == 0 && is_some m.content)
kept_for_none x = 0

-- a mutex without a share has its content out of its home
abbrev pub last_shares_wrong : Sight → ℕ
last_shares_wrong s = sum_over s kept_for_none

-- THREADS AND THEIR HOMES

abbrev pub other_home : Standing → ℕ
other_home x = other (x.thread.home == home_of x.thread.number)

-- each thread's `home` is the server of its number
abbrev pub thread_homes_wrong : Sight → ℕ
thread_homes_wrong s = sum_threads s other_home

abbrev pub going_on : TaskState → Bool
going_on going = true
going_on let_go = true
going_on (kept v) = false
going_on (asked s t) = true
going_on (in_pair t over) = not over

abbrev pub finished_of : ℕ → Message → ℕ
finished_of t (Finished u v) = one (u == t)
finished_of t m = 0

abbrev pub finished : ℕ → Thing → ℕ
finished t (sent s m) = finished_of t m
finished t x = 0

-- a note of the thread as one that goes on
abbrev pub going_notes : ℕ → Thing → ℕ
going_notes t (noted r x) = one (x.thread == t && going_on x.state)
going_notes t x = 0

-- the thread isn't main, and stands somewhere and isn't over, or its `finished` message waits
abbrev pub goes_on : ℕ → Thing → ℕ
goes_on t (stands r p x) = one (x.number == t && (not (x.number == 0) && not (is_over x.phase)))
goes_on t (sent r m) = finished_of t m
goes_on t x = 0

abbrev pub finished_thread : (ℕ → ℕ) → Message → ℕ
finished_thread f (Finished t v) = f t
finished_thread f m = 0

-- the thread that a thing is, notes, or whose end it tells, with a weight
abbrev pub started_threads : (ℕ → ℕ) → Thing → ℕ
started_threads f (noted r x) = f x.thread
started_threads f (stands r p x) = f x.number
started_threads f (sent r m) = finished_thread f m
started_threads f x = 0

-- the threads that a home has as going, let go, asked, or in a pair and not over are exactly the threads other than main that it started and that
-- aren't over or whose `finished` message waits. (As many such notes of each thread as it goes on or finishes; each note stands at its thread's home)
abbrev pub noted_wrong : Sight → ℕ
noted_wrong s = disagree going_notes goes_on started_threads s.things

abbrev pub noted_away : Thing → ℕ
noted_away (noted r x) = other (home_of x.thread == r)
noted_away x = 0

-- what is noted of a thread, its result too, stands at its home alone
abbrev pub notes_wrong : Sight → ℕ
notes_wrong s = sum_over s noted_away

-- TASK VALUES

abbrev pub owned_task : (ℕ → ℕ) → Owned → ℕ
owned_task f (owned.Task t) = f t
owned_task f v = 0

abbrev pub released_task : (ℕ → ℕ) → Released → ℕ
released_task f (released.Mutex m) = 0
released_task f (released.Task t) = f t

abbrev pub message_task : (ℕ → ℕ) → Message → ℕ
message_task f (Release x) = released_task f x
message_task f m = 0

-- the threads that a thing names by a task value or a `release`, with a weight
abbrev pub tasks : (ℕ → ℕ) → Thing → ℕ
tasks f (holds p v) = owned_task f v
tasks f (lies s a c) = owned_task f c.value
tasks f (flies w c) = owned_task f c.value
tasks f (sent s m) = message_task f m
tasks f x = 0

-- a thread is named by at most one task value or `release` message, in the places that own
abbrev pub tasks_wrong : Sight → ℕ
tasks_wrong s = more_than_one tasks_of tasks s.things

-- the result of that thread is the gift of a join
abbrev pub gift_result : Sight → ℕ → Standing → ℕ
gift_result s t x = if_so (is_some x.thread.gift) (one (is_task t (joined_thread (instr_of s x) x.thread)))

abbrev pub some_task : (ℕ → ℕ) → Option ℕ → ℕ
some_task f None = 0
some_task f (Some t) = f t

abbrev pub gift_task : Sight → (ℕ → ℕ) → Standing → ℕ
gift_task s f x = if_so (is_some x.thread.gift) (some_task f (joined_thread (instr_of s x) x.thread))

abbrev pub joined_of : ℕ → Message → ℕ
joined_of t (Joined u v by) = one (u == t)
joined_of t m = 0

abbrev pub owes : TaskState → Bool
owes going = true
owes (kept v) = true
owes (asked s t) = true
owes x = false

-- what is owed to a task value of the thread: a note of it as going, as asked or with its result, or its result in a `joined` message or the gift of a join
abbrev pub owed : Sight → ℕ → Thing → ℕ
owed s t (noted r x) = one (x.thread == t && owes x.state)
owed s t (sent r m) = joined_of t m
owed s t (stands r p x) = gift_result s t (record { server = r; packed = p; thread = x })
owed s t x = 0

abbrev pub joined_thread_in : (ℕ → ℕ) → Message → ℕ
joined_thread_in f (Joined t v by) = f t
joined_thread_in f m = 0

-- the threads that a thing names by a task value or owes to one, with a weight
abbrev pub owed_threads : Sight → (ℕ → ℕ) → Thing → ℕ
owed_threads s f (noted r x) = f x.thread
owed_threads s f (sent r m) = message_task f m + joined_thread_in f m
owed_threads s f (stands r p x) = gift_task s f (record { server = r; packed = p; thread = x })
owed_threads s f x = tasks f x

-- a thread is named by one exactly where its home has it as going, as asked or with its result, or where the join that took its result isn't done. (As many
-- task values as are owed of each thread; a gift's join has its task as operand)
abbrev pub owed_wrong : Sight → ℕ
owed_wrong s = disagree tasks_of (owed s) (owed_threads s) s.things

-- RESULTS

abbrev pub kept_note : TaskState → ℕ
kept_note (kept v) = 1
kept_note (in_pair t over) = one over
kept_note x = 0

abbrev pub got_phase : ℕ → Phase → ℕ
got_phase t (phase.GotPar a b) = one (a == t) + one (b == t)
got_phase t p = 0

-- a place of a thread's result: kept, or noted as over in its pair; in a `finished` or `joined` message; the gift at a join; the phase `GotPar` of its parent
abbrev pub results : Sight → ℕ → Thing → ℕ
results s t (noted r x) = if_so (x.thread == t) (kept_note x.state)
results s t (sent r m) = finished_of t m + joined_of t m
results s t (stands r p x) = got_phase t x.phase + gift_result s t (record { server = r; packed = p; thread = x })
results s t x = 0

-- the thread stands somewhere, isn't main and is over
abbrev pub has_ended : ℕ → Thing → ℕ
has_ended t (stands r p x) = one (x.number == t && (not (x.number == 0) && is_over x.phase))
has_ended t x = 0

abbrev pub phase_result : (ℕ → ℕ) → Phase → ℕ
phase_result f (phase.GotPar a b) = f a + f b
phase_result f p = 0

-- the threads whose result a thing is, with a weight
abbrev pub resulting : Sight → (ℕ → ℕ) → Thing → ℕ
resulting s f (noted r x) = f x.thread
resulting s f (sent r m) = finished_thread f m + joined_thread_in f m
resulting s f (stands r p x) = phase_result f x.phase + gift_task s f (record { server = r; packed = p; thread = x })
resulting s f x = 0

-- a result stands only of a thread that stands somewhere and is over, and not of main, and in at most one place: kept, or noted as over in its pair; in a
-- `finished` or `joined` message; as the gift at a join; in the phase `GotPar` of its parent. (At most as many places as there are such threads)
abbrev pub results_wrong : Sight → ℕ
results_wrong s = too_many (results s) has_ended (resulting s) s.things

abbrev pub named_pair : Sight → Phase → ℕ
named_pair s (phase.GotPar a b) = other (not (some (sum_over s (tasks_of a) + sum_over s (tasks_of b))))
named_pair s p = 0

-- the two threads of `GotPar(a, b)` are named by no task value. (They differ and have ended, since their results stand there)
abbrev pub got_pairs_wrong : Sight → ℕ
got_pairs_wrong s = sum_threads s (λ x. named_pair s x.thread.phase)
