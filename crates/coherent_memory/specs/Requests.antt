-- REQUESTS: what a waiting thread will be answered by, and what messages carry and where they go (this project's rules). Each
-- function counts what breaks the sentence above it.
use Rattle.std.specs.Prelude.{ℕ, zero, suc, ◌+◌, ◌/◌, ◌%◌, ◌^◌, ◌==◌, nat_lt, Bool, true, false, not, ◌&&◌, Option, Some, None, is_some}
use Rattle.server_model.specs.Below.fr_base.Names.{released_home}
pub use Rattle.server_model.specs.Below.fr_base.Names.{home_of}
use Rattle.server_model.specs.Below.fr_base.declared.name.ObjNo.{ObjNo}
use Rattle.server_model.specs.Below.fr_base.declared.name.MutexNo.{MutexNo}
use Rattle.server_model.specs.Below.fr_base.declared.instruction.Instr.{Instr}
use Rattle.server_model.specs.Below.fr_base.declared.instruction.Instr.TheVariants as instr
use Rattle.server_model.specs.Below.fr_base.declared.place.Lval.{Lval}
use Rattle.server_model.specs.Below.global_addr.Words.{server_of}
use Rattle.server_model.specs.Below.heap_partition.declared.value.Owned.{Owned}
use Rattle.server_model.specs.Below.heap_partition.declared.value.Owned.TheVariants as owned
use Rattle.server_model.specs.Below.thread_state.declared.value.Value.{Value}
use Rattle.server_model.specs.Below.thread_state.declared.value.Value.TheVariants as value
use Rattle.server_model.specs.Below.thread_state.declared.phase.Phase.{Phase}
use Rattle.server_model.specs.Below.thread_state.declared.phase.Phase.TheVariants as phase
use Rattle.server_model.specs.Below.join_home.Tasks.{TaskState, asked, in_pair}
use Rattle.server_model.specs.Below.server_msgs.declared.message.Message.{Message}
use Rattle.server_model.specs.Below.server_msgs.declared.message.Message.TheVariants.{Fetch, Fetched, Move, Moved, Drop, Lock, Granted, Unlock, Dup, Dupped, Release, Start, Join, Joined, Finished}
use Rattle.coherent_memory.specs.Names.{one, other, if_so, some, same_mutex, same_owned}
use Rattle.coherent_memory.specs.Things.{Location, in_cell, Thing, sent, stands, queued, noted}
use Rattle.coherent_memory.specs.Follow.{Standing, thread_at, place_at, value_at, hop_at}
use Rattle.coherent_memory.specs.Sight.{Sight, is_word, word}
use Rattle.coherent_memory.specs.Balances.{disagree}
use Rattle.coherent_memory.specs.Weights.{lies_at, lies_under}
use Rattle.coherent_memory.specs.Paths.{joined_thread}
use Rattle.coherent_memory.specs.Placing.{sum_over}
use Rattle.coherent_memory.specs.Walking.{sum_threads, instr_of}

-- ANSWERS

abbrev pub waits : Phase → Bool
waits (phase.WaitCell w) = true
waits (phase.WaitLock m) = true
waits (phase.WaitDup m) = true
waits (phase.WaitJoin t) = true
waits (phase.WaitPar a b) = true
waits p = false

-- what will answer a thread: which thread, and whether it is a half of that thread's pair
pub data Answer : Type 0 where
  no_answer : Answer
  whole_answer : (thread : ℕ) → Answer
  half_answer : (thread : ℕ) → Answer

abbrev pub message_answer : Message → Answer
message_answer (Fetch w o s t) = whole_answer t
message_answer (Fetched w c t) = whole_answer t
message_answer (Move w o s t) = whole_answer t
message_answer (Moved w c t) = whole_answer t
message_answer (Lock m s t) = whole_answer t
message_answer (Granted m v t) = whole_answer t
message_answer (Dup m s t) = whole_answer t
message_answer (Dupped m t) = whole_answer t
message_answer (Join u s t) = whole_answer t
message_answer (Joined u v t) = whole_answer t
message_answer m = no_answer

abbrev pub noted_answer : TaskState → Answer
noted_answer (asked s t) = whole_answer t
noted_answer (in_pair t over) = half_answer t
noted_answer x = no_answer

-- a request, an answer, a place in a queue, a noted asker, or a half of a pair
abbrev pub answer_of : Thing → Answer
answer_of (sent s m) = message_answer m
answer_of (queued m s t) = whole_answer t
answer_of (noted s x) = noted_answer x.state
answer_of x = no_answer

-- a whole answer counts two, each half of a pair one
abbrev pub halves : ℕ → Answer → ℕ
halves t no_answer = 0
halves t (whole_answer u) = if_so (u == t) 2
halves t (half_answer u) = one (u == t)

-- the halves of the answers to a thread, and the two that it needs where it waits
abbrev pub halves_to : ℕ → Thing → ℕ
halves_to t x = halves t (answer_of x)

abbrev pub halves_needed : ℕ → Thing → ℕ
halves_needed t (stands s p x) = if_so (x.number == t && waits x.phase) 2
halves_needed t x = 0

abbrev pub answered : (ℕ → ℕ) → Answer → ℕ
answered f no_answer = 0
answered f (whole_answer t) = f t
answered f (half_answer t) = f t

-- the threads that a thing answers, or that it is, with a weight
abbrev pub answered_threads : (ℕ → ℕ) → Thing → ℕ
answered_threads f (stands s p x) = f x.number
answered_threads f x = answered f (answer_of x)

-- each waiting thread has exactly one message, queue place or noted asker that will answer it, its pair counting as a noted asker; and none of these
-- answers a thread that doesn't wait. (As many halves of answers to each thread as it needs)
abbrev pub answers_wrong : Sight → ℕ
answers_wrong s = disagree halves_to halves_needed answered_threads s.things

-- WHAT THEY CARRY

abbrev pub is_cell : ℕ → Phase → Bool
is_cell w (phase.WaitCell v) = v == w
is_cell w p = false

abbrev pub is_lock : MutexNo → Phase → Bool
is_lock m (phase.WaitLock n) = same_mutex m n
is_lock m p = false

abbrev pub is_dup : MutexNo → Phase → Bool
is_dup m (phase.WaitDup n) = same_mutex m n
is_dup m p = false

abbrev pub is_join : ℕ → Phase → Bool
is_join t (phase.WaitJoin u) = t == u
is_join t p = false

-- the phase of the thread that is there
abbrev pub in_phase : (Phase → Bool) → Option Standing → Bool
in_phase f None = false
in_phase f (Some x) = f x.thread.phase

abbrev pub phase_fits : Sight → ℕ → (Phase → Bool) → ℕ
phase_fits s t f = other (in_phase f (thread_at s.ground.threads t))

abbrev pub message_carries : Sight → Message → ℕ
message_carries s (Fetch w o r t) = phase_fits s t (is_cell w)
message_carries s (Fetched w c t) = phase_fits s t (is_cell w)
message_carries s (Move w o r t) = phase_fits s t (is_cell w)
message_carries s (Moved w c t) = phase_fits s t (is_cell w)
message_carries s (Lock m r t) = phase_fits s t (is_lock m)
message_carries s (Granted m v t) = phase_fits s t (is_lock m)
message_carries s (Dup m r t) = phase_fits s t (is_dup m)
message_carries s (Dupped m t) = phase_fits s t (is_dup m)
message_carries s (Join u r t) = phase_fits s t (is_join u)
message_carries s (Joined u v t) = phase_fits s t (is_join u)
message_carries s m = 0

abbrev pub note_carries : Sight → ℕ → TaskState → ℕ
note_carries s u (asked r t) = phase_fits s t (is_join u)
note_carries s u x = 0

-- what will answer a thread carries, or is kept for, what its phase names: the word of `WaitCell` (in a `moved` as the old word), the mutex of
-- `WaitLock` or `WaitDup`, the thread of `WaitJoin`. (Which object that is: a walk waits in turn)
abbrev pub carries : Sight → Thing → ℕ
carries s (sent r m) = message_carries s m
carries s (queued m r t) = phase_fits s t (is_lock m)
carries s (noted r x) = note_carries s x.thread x.state
carries s x = 0

abbrev pub carried_wrong : Sight → ℕ
carried_wrong s = sum_over s (carries s)

-- WHERE MESSAGES GO

abbrev pub in_server : ℕ → Option Standing → Bool
in_server r None = false
in_server r (Some x) = x.server == r

abbrev pub stands_at : Sight → ℕ → ℕ → Bool
stands_at s t r = in_server r (thread_at s.ground.threads t)

-- where a request, a `drop`, a release, a result or a new thread goes; the others go to a thread, or anywhere
abbrev pub goal : ℕ → Message → Option ℕ
goal n (Fetch w o s t) = Some (server_of w)
goal n (Move w o s t) = Some (server_of w)
goal n (Drop w o) = Some (server_of w)
goal n (Lock m s t) = Some m.home
goal n (Unlock m v) = Some m.home
goal n (Dup m s t) = Some m.home
goal n (Release x) = Some (released_home x)
goal n (Start t) = Some ((t.number / 2 ^ 32 + t.number % 2 ^ 32) % n)
goal n (Join u s t) = Some (home_of u)
goal n (Finished t v) = Some (home_of t)
goal n m = None

abbrev pub is_goal : ℕ → Option ℕ → Bool
is_goal r None = true
is_goal r (Some g) = g == r

abbrev pub misrouted : Sight → Thing → ℕ
misrouted s (sent r m) = other (nat_lt r s.options.servers && is_goal r (goal s.options.servers m))
misrouted s x = 0

-- a message that waits at a server, or stands in an outbox with a server noted beside it, goes to that server, and that server is of the run
abbrev pub routes_wrong : Sight → ℕ
routes_wrong s = sum_over s (misrouted s)

abbrev pub lost_answer : Sight → ℕ → Message → ℕ
lost_answer s r (Fetched w c t) = other (stands_at s t r)
lost_answer s r (Moved w c t) = other (stands_at s t r)
lost_answer s r (Granted m v t) = other (stands_at s t r)
lost_answer s r (Dupped m t) = other (stands_at s t r)
lost_answer s r (Joined u v t) = other (stands_at s t r)
lost_answer s r m = 0

-- an answer goes to the server of the thread that it answers
abbrev pub lost : Sight → Thing → ℕ
lost s (sent r m) = lost_answer s r m
lost s x = 0

abbrev pub returns_wrong : Sight → ℕ
returns_wrong s = sum_over s (lost s)

abbrev pub asker_message : Sight → Message → ℕ
asker_message s (Fetch w o r t) = other (stands_at s t r)
asker_message s (Move w o r t) = other (stands_at s t r)
asker_message s (Lock m r t) = other (stands_at s t r)
asker_message s (Dup m r t) = other (stands_at s t r)
asker_message s (Join u r t) = other (stands_at s t r)
asker_message s m = 0

abbrev pub asker_noted : Sight → TaskState → ℕ
asker_noted s (asked r t) = other (stands_at s t r)
asker_noted s x = 0

-- the server and thread in a request, a queue place or a noted asker are those of the thread that waits
abbrev pub other_asker : Sight → Thing → ℕ
other_asker s (sent r m) = asker_message s m
other_asker s (queued m r t) = other (stands_at s t r)
other_asker s (noted r x) = asker_noted s x.state
other_asker s x = 0

abbrev pub askers_wrong : Sight → ℕ
askers_wrong s = sum_over s (other_asker s)

abbrev pub not_under : Sight → ℕ → ObjNo → ℕ
not_under s w o = other (is_word (word s o) w && some (sum_over s (lies_under w o)))

abbrev pub message_leads : Sight → Message → ℕ
message_leads s (Fetch w o r t) = not_under s w o
message_leads s (Move w o r t) = not_under s w o
message_leads s (Drop w o) = not_under s w o
message_leads s m = 0

abbrev pub not_there : Sight → Thing → ℕ
not_there s (sent r m) = message_leads s m
not_there s x = 0

-- the object of a `fetch`, a `move` or a `drop` has that message's word and lies where it leads; so it isn't under way
abbrev pub objects_wrong : Sight → ℕ
objects_wrong s = sum_over s (not_there s)

-- PHASES AND INSTRUCTIONS

abbrev pub mutex_of : Option Value → Option MutexNo
mutex_of (Some (value.Own (owned.Mutex m))) = Some m
mutex_of v = None

-- the mutex at the place of a lock, or of a dup
abbrev pub locked_mutex : Sight → Standing → Option Instr → Option MutexNo
locked_mutex s x (Some (instr.Lock w)) = mutex_of (value_at s.ground x.thread.number w)
locked_mutex s x i = None

abbrev pub dupped_mutex : Sight → Standing → Option Instr → Option MutexNo
dupped_mutex s x (Some (instr.Dup w)) = mutex_of (value_at s.ground x.thread.number w)
dupped_mutex s x i = None

abbrev pub is_mutex : MutexNo → Option MutexNo → Bool
is_mutex m None = false
is_mutex m (Some n) = same_mutex m n

abbrev pub is_task : ℕ → Option ℕ → Bool
is_task t None = false
is_task t (Some u) = t == u

-- `WaitLock(m)` stands at a `Lock` whose place holds m, `WaitDup(m)` at a `Dup` whose place holds m, `WaitJoin(t)` at a `Join` whose operand is t
abbrev pub stands_wrong : Sight → Standing → Phase → ℕ
stands_wrong s x (phase.WaitLock m) = other (is_mutex m (locked_mutex s x (instr_of s x)))
stands_wrong s x (phase.WaitDup m) = other (is_mutex m (dupped_mutex s x (instr_of s x)))
stands_wrong s x (phase.WaitJoin t) = other (is_task t (joined_thread (instr_of s x) x.thread))
stands_wrong s x p = 0

abbrev pub phases_wrong : Sight → ℕ
phases_wrong s = sum_threads s (λ x. stands_wrong s x x.thread.phase)

abbrev pub is_par_end : Option Instr → Bool
is_par_end (Some instr.ParEnd) = true
is_par_end i = false

abbrev pub is_par : Phase → Bool
is_par (phase.WaitPar a b) = true
is_par (phase.GotPar a b) = true
is_par p = false

abbrev pub same_truth : Bool → Bool → Bool
same_truth true true = true
same_truth false false = true
same_truth _ _ = false

-- a thread is at a `ParEnd` exactly in the phases `WaitPar(a, b)` and `GotPar(a, b)`
abbrev pub par_end : Sight → Standing → ℕ
par_end s x = other (same_truth (is_par_end (instr_of s x)) (is_par x.thread.phase))

abbrev pub par_ends_wrong : Sight → ℕ
par_ends_wrong s = sum_threads s (par_end s)

abbrev pub half_noted : TaskState → ℕ → Bool
half_noted (in_pair q over) parent = q == parent
half_noted x parent = false

-- a branch of a pair: the server that notes it, the parent, and the thread
pub record Branch : Type 0 where
  pub server : ℕ
  pub parent : ℕ
  pub thread : ℕ

-- the note of a branch
abbrev pub pair_notes : Branch → Thing → ℕ
pair_notes b (noted r x) = one ((r == b.server && x.thread == b.thread) && half_noted x.state b.parent)
pair_notes b x = 0

abbrev pub branch_places : ℕ → Phase → ℕ
branch_places t (phase.WaitPar a b) = one (a == t) + one (b == t)
branch_places t p = 0

-- its place in the phase `WaitPar` of the parent, which stands at that server or goes there
abbrev pub pair_places : Branch → Thing → ℕ
pair_places b (stands r p x) = if_so (r == b.server && x.number == b.parent) (branch_places b.thread x.phase)
pair_places b x = 0

abbrev pub noted_branch : (Branch → ℕ) → ℕ → ℕ → TaskState → ℕ
noted_branch f r t (in_pair p over) = f (record { server = r; parent = p; thread = t })
noted_branch f r t x = 0

abbrev pub phase_branches : (Branch → ℕ) → ℕ → ℕ → Phase → ℕ
phase_branches f r p (phase.WaitPar a b) = f (record { server = r; parent = p; thread = a }) + f (record { server = r; parent = p; thread = b })
phase_branches f r p x = 0

-- the branches that a thing notes or waits for, with a weight
abbrev pub branches : (Branch → ℕ) → Thing → ℕ
branches f (noted r x) = noted_branch f r x.thread x.state
branches f (stands r p x) = phase_branches f r x.number x.phase
branches f x = 0

-- a server notes a thread as in the pair of a parent exactly where the parent stands there, or goes there, in `WaitPar(a, b)` with that thread among a
-- and b; so such a note answers nobody who waits for something else. (As many notes as places of each branch)
abbrev pub pairs_wrong : Sight → ℕ
pairs_wrong s = disagree pair_notes pair_places branches s.things

abbrev pub half_over : TaskState → Bool
half_over (in_pair q over) = over
half_over x = false

abbrev pub over_at : ℕ → ℕ → Thing → ℕ
over_at r t (noted q x) = one ((q == r && x.thread == t) && half_over x.state)
over_at r t x = 0

abbrev pub both_over : Sight → Standing → Phase → ℕ
both_over s x (phase.WaitPar a b) = other (not (a == b) && not (some (sum_over s (over_at x.server a)) && some (sum_over s (over_at x.server b))))
both_over s x p = 0

-- in `WaitPar(a, b)` the threads a and b differ, and not both are noted as over at that thread's server
abbrev pub waited_pairs_wrong : Sight → ℕ
waited_pairs_wrong s = sum_threads s (λ x. both_over s x x.thread.phase)

-- TAKEN OBJECTS

abbrev pub lent_place : Option Instr → Option Lval
lent_place (Some (instr.BorrowMut w)) = Some w
lent_place i = None

abbrev pub lies_here : Sight → ℕ → ℕ → Option Location → Bool
lies_here s r w (Some (in_cell o)) = is_word (word s o) w && some (sum_over s (lies_at r o))
lies_here s r w l = false

abbrev pub taken_there : Sight → Standing → ℕ → Option Lval → ℕ
taken_there s x w None = 1
taken_there s x w (Some p) = other (lies_here s x.server w (place_at s.ground x.thread.number p))

abbrev pub taken_phase : Sight → Standing → Phase → ℕ
taken_phase s x (phase.Taken w) = taken_there s x w (lent_place (instr_of s x))
taken_phase s x p = 0

-- `Taken(w)` stands at a `BorrowMut`. There w is the word of the object that its place leads to, and that object lies at the thread's server
abbrev pub taken_wrong : Sight → ℕ
taken_wrong s = sum_threads s (λ x. taken_phase s x x.thread.phase)

abbrev pub has_word : ℕ → Option Value → Bool
has_word w (Some (value.Own (owned.Box p))) = p.word == w
has_word w (Some (value.Shared r)) = r.word == w
has_word w (Some (value.Mut r)) = r.word == w
has_word w v = false

abbrev pub last_hop : Sight → Standing → ℕ → Lval → ℕ → Bool
last_hop s x w p zero = false
last_hop s x w p (suc n) = has_word w (hop_at s.ground x.thread.number p n)

abbrev pub taken_again : Sight → Standing → ℕ → Option Lval → ℕ
taken_again s x w None = 0
taken_again s x w (Some p) = one (last_hop s x w p p.depth)

abbrev pub old_word : Sight → Standing → Phase → ℕ
old_word s x (phase.Taken w) = taken_again s x w (lent_place (instr_of s x))
old_word s x p = 0

-- in `Taken(w)` the pointer that the place follows last has another word than w
abbrev pub taken_words_wrong : Sight → ℕ
taken_words_wrong s = sum_threads s (λ x. old_word s x x.thread.phase)

-- GIFTS

abbrev pub is_got : Phase → Bool
is_got phase.Got = true
is_got p = false

abbrev pub early_gift : Standing → ℕ
early_gift x = one (is_some x.thread.gift && not (is_got x.thread.phase))

-- a gift stands in phase `Got` alone
abbrev pub gift_phases_wrong : Sight → ℕ
gift_phases_wrong s = sum_threads s early_gift

abbrev pub is_value_of : Owned → Option MutexNo → Bool
is_value_of v None = false
is_value_of v (Some m) = same_owned v (owned.Mutex m)

abbrev pub gift_fits : Sight → Standing → Owned → Option Instr → ℕ
gift_fits s x v (Some (instr.Lock w)) = other (is_some (locked_mutex s x (Some (instr.Lock w))))
gift_fits s x v (Some (instr.Dup w)) = other (is_value_of v (dupped_mutex s x (Some (instr.Dup w))))
gift_fits s x v (Some (instr.Join o)) = other (is_some (joined_thread (Some (instr.Join o)) x.thread))
gift_fits s x v i = 1

abbrev pub gift_there : Sight → Standing → Option Owned → ℕ
gift_there s x None = 0
gift_there s x (Some v) = gift_fits s x v (instr_of s x)

-- a gift stands at a `Lock`, a `Dup` or a `Join` alone. At a `Lock` it is the content of the mutex at its place, at a `Dup` that mutex value, at a
-- `Join` the result of the task that is its operand. (That content and that result stand nowhere else: mutexes and tasks)
abbrev pub gifts_wrong : Sight → ℕ
gifts_wrong s = sum_threads s (λ x. gift_there s x x.thread.gift)
