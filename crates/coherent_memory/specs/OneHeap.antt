-- ONE HEAP: the plain state that a cluster stands for, without its output (Featherweight Rust's one heap; threads, mutexes and what is left out
-- are this project's rules). Words are erased to the names of objects. What is owned only by `drop` messages, by mutexes without a value left and
-- by results let go is not in it.
use Rattle.std.specs.Prelude.{ℕ, zero, suc, ◌%◌, ◌^◌, ◌==◌, nat_le, Bool, true, false, not, ◌&&◌, ◌||◌, if◌then◌else◌, List, [], ◌∷◌, length, reverse, map, Option, Some, None}
use Rattle.server_model.specs.Below.fr_base.declared.name.ObjNo.{ObjNo}
use Rattle.server_model.specs.Below.fr_base.declared.name.MutexNo.{MutexNo}
use Rattle.server_model.specs.Below.fr_base.declared.label.Plain.{Plain}
use Rattle.server_model.specs.Below.fr_base.declared.label.Plain.TheVariants as plain
use Rattle.server_model.specs.Below.fr_base.declared.instruction.Instr.{Instr}
use Rattle.server_model.specs.Below.fr_base.declared.instruction.Instr.TheVariants as instr
use Rattle.fr_code.specs.Below.fr_plain.declared.value.Value.{Value as PlainValue}
use Rattle.fr_code.specs.Below.fr_plain.declared.value.Value.TheVariants.{Own, ToSlot, ToObject, Held}
use Rattle.fr_code.specs.Below.fr_plain.MachineThreads.{Life, alive, over, owing, loose, ended, Shared}
use Rattle.fr_code.specs.Machine.{CodeRunning, CodeState}
use Rattle.server_model.specs.Below.heap_partition.Plain.{plain_of}
use Rattle.server_model.specs.Below.heap_partition.declared.value.Owned.{Owned}
use Rattle.server_model.specs.Below.heap_partition.declared.value.Owned.TheVariants as owned
use Rattle.server_model.specs.Below.thread_state.View.{ThreadState, is_over}
use Rattle.server_model.specs.Below.thread_state.declared.phase.Phase.{Phase}
use Rattle.server_model.specs.Below.thread_state.declared.phase.Phase.TheVariants as phase
use Rattle.server_model.specs.Below.thread_state.declared.value.Value.{Value}
use Rattle.server_model.specs.Below.thread_state.declared.value.Value.TheVariants as value
use Rattle.server_model.specs.Below.join_home.Tasks.{TaskState, in_pair}
use Rattle.server_model.specs.Servers.{Cluster}
use Rattle.coherent_memory.specs.Names.{tot, one, some, if_so, same_object, same_mutex}
use Rattle.coherent_memory.specs.Things.{Spot, in_slot, in_temp, as_gift, as_content, as_result, in_hand, Thing, holds, lies, flies, stands, noted, counts}
use Rattle.coherent_memory.specs.Follow.{Standing, thread_at}
use Rattle.coherent_memory.specs.Sight.{Sight, sight}
use Rattle.coherent_memory.specs.Paths.{joined_thread}
use Rattle.coherent_memory.specs.Walking.{instr_of}
use Rattle.coherent_memory.specs.Requests.{home_of, locked_mutex}
use Rattle.coherent_memory.specs.Sharing.{gift_content, gift_result, got_phase}
use Rattle.coherent_memory.specs.Naming.{started_at, made_at}

-- WHAT IS IN THE STATE

-- what can own, and what can be owned: an object, a mutex, the result of a thread
pub data Node : Type 0 where
  object_n : ObjNo → Node
  mutex_n : MutexNo → Node
  task_n : (thread : ℕ) → Node

abbrev pub same_node : Node → Node → Bool
same_node (object_n o) (object_n p) = same_object o p
same_node (mutex_n m) (mutex_n n) = same_mutex m n
same_node (task_n t) (task_n u) = t == u
same_node _ _ = false

-- who owns a value: a thread that has it in a slot or a temporary value; an object, a mutex or a thread's result; or somebody outside the state
pub data Owner : Type 0 where
  a_thread : Owner
  inside : Node → Owner
  outside : Owner

abbrev pub content_owner : Option MutexNo → Owner
content_owner None = outside
content_owner (Some m) = inside (mutex_n m)

abbrev pub result_owner : Option ℕ → Owner
result_owner None = outside
result_owner (Some t) = inside (task_n t)

-- a gift is still the mutex's content, or the other thread's result; a share that a dup was answered isn't in the state yet
abbrev pub gift_owner : Sight → Standing → Option Instr → Owner
gift_owner s x (Some (instr.Lock w)) = content_owner (locked_mutex s x (Some (instr.Lock w)))
gift_owner s x (Some (instr.Join o)) = result_owner (joined_thread (Some (instr.Join o)) x.thread)
gift_owner s x i = outside

abbrev pub gift_owner_of : Sight → Option Standing → Owner
gift_owner_of s None = outside
gift_owner_of s (Some x) = gift_owner s x (instr_of s x)

abbrev pub spot_owner : Sight → Spot → Owner
spot_owner s (in_slot t i) = a_thread
spot_owner s (in_temp t i) = a_thread
spot_owner s (as_gift t) = gift_owner_of s (thread_at s.ground.threads t)
spot_owner s (as_content m) = inside (mutex_n m)
spot_owner s (as_result t) = inside (task_n t)
spot_owner s in_hand = a_thread

-- the owner of a thing's owned value. (What a `drop` message or a `release` names is owned by nobody in the state)
abbrev pub owner_of : Sight → Thing → Owner
owner_of s (holds p v) = spot_owner s p
owner_of s (lies r a c) = inside (object_n c.object)
owner_of s (flies w c) = inside (object_n c.object)
owner_of s x = outside

-- the owned value is a box of the object, a value of the mutex, a task value of the thread
abbrev pub owns : Node → Owned → Bool
owns (object_n o) (owned.Box p) = same_object p.object o
owns (mutex_n m) (owned.Mutex n) = same_mutex n m
owns (task_n t) (owned.Task u) = u == t
owns n v = false

-- the thing's owned value is one of that
abbrev pub names : Node → Thing → Bool
names n (holds p v) = owns n v
names n (lies r a c) = owns n c.value
names n (flies w c) = owns n c.value
names n x = false

abbrev pub owner_in : (Node → Bool) → Owner → Bool
owner_in go a_thread = true
owner_in go (inside n) = go n
owner_in go outside = false

abbrev pub named_in : Bool → (Node → Bool) → Owner → Bool
named_in true go o = owner_in go o
named_in false go o = false

abbrev pub any_named : Sight → (Node → Bool) → Node → List Thing → Bool
any_named s go n [] = false
any_named s go n (x ∷ b) = named_in (names n x) go (owner_of s x) || any_named s go n b

-- a chain of owners isn't longer than there are things
abbrev pub in_state_by : ℕ → Sight → Node → Bool
in_state_by zero s n = false
in_state_by (suc k) s n = any_named s (in_state_by k s) n s.things

-- who is in the state owns what is in the state: a thread's slots and temporary values are in, and so is what an object, a mutex or a result owns
-- that is itself in: an object that is boxed there, a mutex of which a value is there, a result of a thread of which a task value is there
abbrev pub is_in_state : Sight → Node → Bool
is_in_state s n = in_state_by (length s.things) s n

-- a thing's owned value is in the state
abbrev pub value_is_in : Sight → Thing → Bool
value_is_in s x = owner_in (is_in_state s) (owner_of s x)

-- OBJECTS

abbrev pub if_in : Bool → Option Plain → Option Plain
if_in true v = v
if_in false v = None

abbrev pub cell_value : ObjNo → Thing → Option Plain
cell_value o (lies r a c) = if_in (same_object c.object o) (Some (plain_of c.value))
cell_value o (flies w c) = if_in (same_object c.object o) (Some (plain_of c.value))
cell_value o x = None

abbrev pub or_else : {A : Type 0} → Option A → Option A → Option A
or_else None y = y
or_else (Some x) y = Some x

-- the first thing that shows something
abbrev pub first_shown : {A : Type 0} → (Thing → Option A) → List Thing → Option A
first_shown f [] = None
first_shown f (x ∷ b) = or_else (f x) (first_shown f b)

abbrev pub object_value : Sight → ObjNo → Option Plain
object_value s o = if_in (is_in_state s (object_n o)) (first_shown (cell_value o) s.things)

-- MUTEXES

abbrev pub is_gift_of : Sight → MutexNo → Option Standing → Bool
is_gift_of s m None = false
is_gift_of s m (Some x) = some (gift_content s m x)

abbrev pub is_content : Sight → MutexNo → Spot → Bool
is_content s m (as_content n) = same_mutex n m
is_content s m (as_gift t) = is_gift_of s m (thread_at s.ground.threads t)
is_content s m p = false

-- the content, at its home, in a message or a gift; it is out where it stands in a holder's slot
abbrev pub content_value : Sight → MutexNo → Thing → Option Plain
content_value s m (holds p v) = if_in (is_content s m p) (Some (plain_of v))
content_value s m x = None

-- a value of the mutex that is in the state
abbrev pub share_in : Sight → MutexNo → Thing → ℕ
share_in s m x = if_so (names (mutex_n m) x) (one (value_is_in s x))

abbrev pub if_there : Bool → Shared → Option Shared
if_there true m = Some m
if_there false m = None

abbrev pub mutex_state : Sight → MutexNo → Option Shared
mutex_state s m =
    if_there (is_in_state s (mutex_n m)) (record { content = first_shown (content_value s m) s.things; shares = tot (share_in s m) s.things })

-- THREADS

abbrev pub PlainLife : Type 0
PlainLife = Life CodeRunning

abbrev pub plain_value : Value → PlainValue
plain_value value.Gone = Own plain.Nothing
plain_value (value.Own v) = Own (plain_of v)
plain_value (value.SharedSlot i) = ToSlot i
plain_value (value.MutSlot i) = ToSlot i
plain_value (value.Shared r) = ToObject r.object
plain_value (value.Mut r) = ToObject r.object
plain_value (value.Held m) = Held m

-- a branch of a pair: its home has noted it, until the parent is at the end of its par
abbrev pub pair_note : TaskState → ℕ
pair_note (in_pair p is_done) = 1
pair_note x = 0

abbrev pub pair_over : TaskState → Option Plain
pair_over (in_pair p true) = Some plain.Unit
pair_over x = None

abbrev pub in_pair_of : ℕ → Thing → ℕ
in_pair_of t (noted r x) = if_so (x.thread == t) (pair_note x.state)
in_pair_of t x = 0

abbrev pub is_branch : Sight → ℕ → Bool
is_branch s t = some (tot (in_pair_of t) s.things)

-- the result of a branch that is over, until its par is done
abbrev pub branch_result : ℕ → Thing → Option Plain
branch_result t (noted r x) = if x.thread == t then pair_over x.state else None
branch_result t (stands r p x) = if_in (some (got_phase t x.phase)) (Some plain.Unit)
branch_result t x = None

abbrev pub is_joined_by : Sight → ℕ → Option Standing → Bool
is_joined_by s t None = false
is_joined_by s t (Some x) = some (gift_result s t x)

abbrev pub is_result : Sight → ℕ → Spot → Bool
is_result s t (as_result u) = u == t
is_result s t (as_gift u) = is_joined_by s t (thread_at s.ground.threads u)
is_result s t p = false

abbrev pub result_value : Sight → ℕ → Thing → Option Plain
result_value s t (holds p v) = if_in (is_result s t p) (Some (plain_of v))
result_value s t x = None

-- a result is its thread's until the join is done, where the thread wasn't let go
abbrev pub result_of : Sight → ℕ → Option Plain
result_of s t = or_else (first_shown (branch_result t) s.things) (if_in (is_branch s t || is_in_state s (task_n t)) (first_shown (result_value s t) s.things))

abbrev pub ended_with : Option Plain → PlainLife
ended_with None = over
ended_with (Some v) = ended (Own v)

-- a thread other than main was let go where no task value in the state and no par that goes on names it
abbrev pub was_let_go : Sight → ℕ → Bool
was_let_go s t = not (is_branch s t || is_in_state s (task_n t))

abbrev pub going_on : Sight → ℕ → CodeRunning → PlainLife
going_on s zero p = alive p
going_on s (suc t) p = if was_let_go s (suc t) then loose p else owing p

abbrev pub running_at : ThreadState → CodeRunning
running_at t = record { place = record { pc = t.pc; temps = reverse (map plain_value t.temps) }; slots = reverse (map plain_value t.slots) }

abbrev pub life_of : Sight → ThreadState → Bool → PlainLife
life_of s t true = ended_with (result_of s t.number)
life_of s t false = going_on s t.number (running_at t)

-- a thread that was counted and stands nowhere has ended, and its result was taken
abbrev pub life_at : Sight → ℕ → Option Standing → PlainLife
life_at s t None = ended_with (result_of s t)
life_at s t (Some x) = life_of s x.thread (is_over x.thread.phase)

abbrev pub made_of : Option Standing → ℕ
made_of None = 0
made_of (Some x) = if is_over x.thread.phase then 0 else x.thread.made

-- the two threads that a parent waits for
abbrev pub two_in : Phase → Option (ℕ × ℕ)
two_in (phase.WaitPar a b) = Some (a, b)
two_in (phase.GotPar a b) = Some (a, b)
two_in p = None

abbrev pub pair_of : Option Standing → Option (ℕ × ℕ)
pair_of None = None
pair_of (Some x) = two_in x.thread.phase

-- the given names: main, and the threads and mutexes that the servers have counted, from 1
abbrev pub is_given_thread : Sight → ℕ → Bool
is_given_thread s t = t == 0 || (not (t % 2 ^ 32 == 0) && some (tot (started_at (home_of t) (t % 2 ^ 32)) s.things))

abbrev pub is_given_mutex : Sight → MutexNo → Bool
is_given_mutex s m = not (m.count == 0) && some (tot (made_at m.home m.count) s.things)

abbrev pub if_given : Bool → PlainLife → Option PlainLife
if_given true l = Some l
if_given false l = None

abbrev pub thread_state : Sight → ℕ → Option PlainLife
thread_state s t = if_given (is_given_thread s t) (life_at s t (thread_at s.ground.threads t))

-- ONE HEAP

abbrev pub state_of : Sight → CodeState
state_of s = record {
  thread = thread_state s;
  made = λ t. made_of (thread_at s.ground.threads t);
  pair = λ t. pair_of (thread_at s.ground.threads t);
  object = object_value s;
  mutex = mutex_state s;
  is_given = is_given_mutex s;
}

-- the plain state that the cluster stands for
abbrev pub one_heap : Cluster → CodeState
one_heap k = state_of (sight k)
