-- Messages about mutexes (this project's rules): the home grants the content in the order of asking, and drops it once no share is
-- left and the content is in. Each function is what the delivery of one message does; None where that can't be done.
use Rattle.std.specs.Prelude.{ℕ, Bool, false, if◌then◌else◌, Option, Some, None, option_map}
use Rattle.fr_base.specs.declared.name.MutexNo.{MutexNo}
use Rattle.fr_base.specs.Names.{same_mutex}
use Rattle.place_walk.specs.Below.heap_partition.declared.value.Owned.{Owned}
use Rattle.place_walk.specs.Below.heap_partition.declared.value.Owned.TheVariants as owned
use Rattle.mutex_home.specs.Mutexes.{ask, give_back, more, less}
use Rattle.mutex_home.specs.declared.answers.Asked.{Asked}
use Rattle.mutex_home.specs.declared.answers.Asked.TheVariants.{Queued, Granted}
use Rattle.mutex_home.specs.declared.answers.Back.{Back}
use Rattle.mutex_home.specs.declared.answers.Back.TheVariants.{Next, Ended, Kept}
use Rattle.place_walk.specs.Below.thread_state.declared.phase.Phase.{Phase}
use Rattle.place_walk.specs.Below.thread_state.declared.phase.Phase.TheVariants as phase
use Rattle.server_msgs.specs.declared.message.Message.TheVariants as message
use Rattle.journal.specs.declared.act.Act.TheVariants as act
use Rattle.server_model.specs.Work.{Work, Hand, send, note, with_mutexes, with_phase}
use Rattle.server_model.specs.Drop.{give_up}

-- a thread without a gift has what it waited for as its gift, until its step takes it
abbrev pub given : Owned → Option Owned → Hand → Option Hand
given v None h = Some (with_phase phase.Got (record h { thread = record h.thread { gift = Some v } }))
given v (Some u) h = None

-- LOCKS

-- the content goes to that thread at that server
abbrev pub grant : MutexNo → ℕ → ℕ → Owned → Work → Work
grant m s t v w = send s (message.Granted m v t) (note (act.Grant m t s) w)

-- the answer to a lock, where there is one
abbrev pub answer_lock : MutexNo → ℕ → ℕ → Asked → Work → Work
answer_lock m s t Queued w = w
answer_lock m s t (Granted v) w = grant m s t v w

-- the home grants the content, or the thread waits in the queue
abbrev pub deliver_lock : MutexNo → ℕ → ℕ → Work → Option Work
deliver_lock m s t w = option_map (λ a. answer_lock m s t a.1 (with_mutexes a.0 w)) (ask w.rest.mutexes m s t)

-- it waits for that mutex
abbrev pub waits_for_lock : Phase → MutexNo → Bool
waits_for_lock (phase.WaitLock n) m = same_mutex n m
waits_for_lock p m = false

-- the content is the gift of the thread
abbrev pub deliver_granted : MutexNo → Owned → Hand → Option Hand
deliver_granted m v h = if waits_for_lock h.thread.phase m then given v h.thread.gift h else None

-- what follows once a content is back
abbrev pub answer_back : MutexNo → Back → Work → Work
answer_back m (Next s t v) w = grant m s t v w
answer_back m (Ended v) w = give_up v w
answer_back m Kept w = w

-- the content goes on to the first that waits; with no share left it is dropped
abbrev pub deliver_unlock : MutexNo → Owned → Work → Option Work
deliver_unlock m v w = option_map (λ a. answer_back m a.1 (with_mutexes a.0 w)) (give_back w.rest.mutexes m v)

-- SHARES

-- the home counts one share more, and answers
abbrev pub deliver_dup : MutexNo → ℕ → ℕ → Work → Option Work
deliver_dup m s t w = option_map (λ ms. send s (message.Dupped m t) (note (act.Dupped m t s) (with_mutexes ms w))) (more w.rest.mutexes m)

-- it waits for a share of that mutex
abbrev pub waits_for_dup : Phase → MutexNo → Bool
waits_for_dup (phase.WaitDup n) m = same_mutex n m
waits_for_dup p m = false

-- the share is the gift of the thread
abbrev pub deliver_dupped : MutexNo → Hand → Option Hand
deliver_dupped m h = if waits_for_dup h.thread.phase m then given (owned.Mutex m) h.thread.gift h else None

-- what is left over is dropped
abbrev pub give_up_left : Option Owned → Work → Work
give_up_left None w = w
give_up_left (Some v) w = give_up v w

-- a value of the mutex was dropped; the last share drops the content that is in
abbrev pub release_mutex : MutexNo → Work → Option Work
release_mutex m w = option_map (λ a. give_up_left a.1 (with_mutexes a.0 w)) (less w.rest.mutexes m)
