-- A server in the middle of an event: what the event has done so far (this project's rules). The functions are small, and the
-- server's code has one of the same name for each.
use Rattle.std.specs.Prelude.{if◌then◌else◌, ℕ, ℤ, ◌-◌, ◌==◌, ◌&&◌, Bool, true, false, nat_lt, is_some, List, [], ◌∷◌, ◌++◌, length, take, remove, Option, Some, None, option_map}
use Rattle.fr_base.specs.Lists.{is_in}
pub use Rattle.fr_base.specs.Lists.{last_of}
use Rattle.fr_base.specs.declared.label.Label.{Label}
use Rattle.fr_base.specs.declared.name.MutexNo.{MutexNo}
use Rattle.fr_base.specs.declared.name.ObjNo.{ObjNo}
use Rattle.fr_base.specs.declared.instruction.Operand.{Operand}
use Rattle.fr_base.specs.declared.instruction.Operand.TheVariants as operand
use Rattle.global_addr.specs.Words.{colour_of, server_of}
use Rattle.place_walk.specs.Below.heap_partition.declared.value.Cell.{Cell}
use Rattle.place_walk.specs.Below.heap_partition.declared.value.Owned.{Owned}
use Rattle.place_walk.specs.Below.heap_partition.declared.value.Owned.TheVariants as owned
use Rattle.owner_box.specs.View.{PartitionState}
use Rattle.owner_box.specs.Partition.{cell_of}
use Rattle.fr_base.specs.Names.{same_object}
use Rattle.place_walk.specs.Below.read_cache.Cache.{Copy, can_pin, pin}
use Rattle.mutex_home.specs.Mutexes.{Mutexes}
use Rattle.join_home.specs.Tasks.{Task}
use Rattle.place_walk.specs.Below.thread_state.View.{ThreadState}
use Rattle.place_walk.specs.Below.thread_state.declared.phase.Phase.{Phase}
use Rattle.place_walk.specs.Below.thread_state.declared.phase.Phase.TheVariants as phase
use Rattle.place_walk.specs.Below.thread_state.declared.value.Value.{Value}
use Rattle.place_walk.specs.Below.thread_state.declared.value.Value.TheVariants as value
use Rattle.server_msgs.specs.declared.message.Message.{Message}
use Rattle.journal.specs.declared.act.Act.{Act}
use Rattle.journal.specs.declared.act.Act.TheVariants as act
use Rattle.server_model.specs.Servers.{Rest}

-- what a step touches of its server, and the acts and labels of its event so far
pub record Work : Type 0 where
  pub rest : Rest
  pub acts : List Act
  pub labels : List Label

-- the same with the thread that the event changes
pub record Hand : Type 0 where
  pub work : Work
  pub thread : ThreadState

-- the same with all threads that stand there
pub record Site : Type 0 where
  pub work : Work
  pub threads : List ThreadState

-- goes on with what is there
abbrev pub then_some : {X Y : Type 0} → Option X → (X → Option Y) → Option Y
then_some None go = None
then_some (Some x) go = go x

-- MESSAGES, ACTS AND LABELS

-- a message waits last
abbrev pub add_waiting : Message → Rest → Rest
add_waiting m r = record r { inbox = r.inbox ++ m ∷ [] }

-- a message to the server itself goes to the end of its own list, else to the outbox
abbrev pub sent_from : Rest → ℕ → Message → Rest
sent_from r target m = if target == r.number then add_waiting m r else record r { outbox = r.outbox ++ record { target = target; message = m } ∷ [] }

-- a message of the event
abbrev pub send : ℕ → Message → Work → Work
send target m w = record w { rest = sent_from w.rest target m }

-- a waiting message is taken out, and the later ones move up
abbrev pub receive : Rest → ℕ → Rest
receive r i = record r { inbox = remove r.inbox i }

-- one act more
abbrev pub note : Act → Work → Work
note a w = record w { acts = w.acts ++ a ∷ [] }

-- some labels more
abbrev pub label_all : List Label → Work → Work
label_all ls w = record w { labels = w.labels ++ ls }

-- a hop counts where the plain step is done, and in no event that ends with a request
abbrev pub is_hop : Act → Bool
is_hop (act.Local o w) = true
is_hop (act.Hit o w) = true
is_hop a = false

-- the acts of an event that ends with a request
abbrev pub without_hops : List Act → List Act
without_hops [] = []
without_hops (a ∷ rest) = if is_hop a then without_hops rest else a ∷ without_hops rest

-- PARTS OF THE SERVER

-- the server with another partition
abbrev pub with_partition : PartitionState → Work → Work
with_partition p w = record w { rest = record w.rest { partition = p } }

-- the server with other copies
abbrev pub with_cache : List Copy → Work → Work
with_cache cs w = record w { rest = record w.rest { cache = cs } }

-- the server with other mutexes
abbrev pub with_mutexes : Mutexes → Work → Work
with_mutexes ms w = record w { rest = record w.rest { mutexes = ms } }

-- the server with other tasks
abbrev pub with_tasks : List Task → Work → Work
with_tasks ts w = record w { rest = record w.rest { tasks = ts } }

-- the word may be handed to the partition: it is of this server, its address is live and its colour below the limit
abbrev pub leads_here : PartitionState → ℕ → Bool
leads_here p w = ((server_of w == p.server) && is_some (cell_of p w)) && nat_lt (colour_of w) p.limit

-- the cell of such a word
abbrev pub look : PartitionState → ℕ → Option Cell
look p w = if leads_here p w then cell_of p w else None

-- the same where it is the cell of that object
abbrev pub look_object : PartitionState → ℕ → ObjNo → Option Cell
look_object p w o = then_some (look p w) (λ c. if same_object c.object o then Some c else None)

-- THREADS

-- the thread of that number
abbrev pub thread_in : List ThreadState → ℕ → Option ThreadState
thread_in [] t = None
thread_in (x ∷ xs) t = if x.number == t then Some x else thread_in xs t

-- another state of a thread, where it stands
abbrev pub set_thread : List ThreadState → ThreadState → List ThreadState
set_thread [] new = []
set_thread (x ∷ xs) new = if x.number == new.number then new ∷ xs else x ∷ set_thread xs new

-- the others
abbrev pub without_thread : List ThreadState → ℕ → List ThreadState
without_thread [] t = []
without_thread (x ∷ xs) t = if x.number == t then xs else x ∷ without_thread xs t

-- a thread among the others, by rising number
abbrev pub with_thread : List ThreadState → ThreadState → List ThreadState
with_thread [] new = new ∷ []
with_thread (x ∷ xs) new = if nat_lt new.number x.number then new ∷ x ∷ xs else x ∷ with_thread xs new

-- the work with a thread that is here
abbrev pub in_hand : Site → ℕ → Option Hand
in_hand s t = option_map (λ x. record { work = s.work; thread = x }) (thread_in s.threads t)

-- the thread stands where it stood
abbrev pub put_back : List ThreadState → Hand → Site
put_back ts h = record { work = h.work; threads = set_thread ts h.thread }

-- what changes a thread that is here
abbrev pub at_thread : ℕ → (Hand → Option Hand) → Site → Option Site
at_thread t f s = then_some (in_hand s t) (λ h. option_map (put_back s.threads) (f h))

-- what changes no thread
abbrev pub beside_threads : (Work → Option Work) → Site → Option Site
beside_threads f s = option_map (λ w. record s { work = w }) (f s.work)

-- a change of the server or of what is noted of the event
abbrev pub working : (Work → Work) → Hand → Hand
working f h = record h { work = f h.work }

-- the thread waits for something else, or for nothing
abbrev pub with_phase : Phase → Hand → Hand
with_phase p h = record h { thread = record h.thread { phase = p } }

-- the thread is at that instruction next
abbrev pub go_to : ℕ → Hand → Hand
go_to pc h = record h { thread = record h.thread { pc = pc; phase = phase.Ready } }

-- SLOTS AND TEMPORARY VALUES

-- all but the last item
abbrev pub front_of : {X : Type 0} → List X → List X
front_of xs = take (length xs - 1) xs

-- the thread with other slots
abbrev pub with_slots : List Value → Hand → Hand
with_slots vs h = record h { thread = record h.thread { slots = vs } }

-- the thread with other temporary values
abbrev pub with_temps : List Value → Hand → Hand
with_temps vs h = record h { thread = record h.thread { temps = vs } }

-- a new slot
abbrev pub push_slot : Value → Hand → Hand
push_slot v h = with_slots (h.thread.slots ++ v ∷ []) h

-- a new temporary value, on top
abbrev pub push_temp : Value → Hand → Hand
push_temp v h = with_temps (h.thread.temps ++ v ∷ []) h

-- the value of what gives none
abbrev pub unit : Value
unit = value.Own owned.Unit

-- a value that was taken out, and the hand without it
pub record Popped (X : Type 0) : Type 0 where
  pub item : X
  pub hand : Hand

-- the temporary value on top
abbrev pub pop_temp : Hand → Option (Popped Value)
pop_temp h = option_map (λ v. record { item = v; hand = with_temps (front_of h.thread.temps) h }) (last_of h.thread.temps)

-- the last slot
abbrev pub pop_slot : Hand → Option (Popped Value)
pop_slot h = option_map (λ v. record { item = v; hand = with_slots (front_of h.thread.slots) h }) (last_of h.thread.slots)

-- an operand's value; it goes where it is the temporary value on top
abbrev pub pop : Operand → Hand → Option (Popped Value)
pop (operand.Const n) h = Some (record { item = value.Own (owned.Int n); hand = h })
pop operand.Unit h = Some (record { item = unit; hand = h })
pop operand.Pop h = pop_temp h

-- the value as what is needed, where it is that
abbrev pub taken_as : {X : Type 0} → (Value → Option X) → Popped Value → Option (Popped X)
taken_as f t = option_map (λ x. record { item = x; hand = t.hand }) (f t.item)

-- an owned value
abbrev pub owned_of : Value → Option Owned
owned_of (value.Own v) = Some v
owned_of v = None

-- an integer
abbrev pub int_of : Value → Option ℤ
int_of (value.Own (owned.Int n)) = Some n
int_of v = None

-- a task
abbrev pub task_of : Value → Option ℕ
task_of (value.Own (owned.Task t)) = Some t
task_of v = None

-- a mutex
abbrev pub mutex_of : Value → Option MutexNo
mutex_of (value.Own (owned.Mutex m)) = Some m
mutex_of v = None

-- an operand's owned value
abbrev pub pop_owned : Operand → Hand → Option (Popped Owned)
pop_owned o h = then_some (pop o h) (taken_as owned_of)

-- an operand's integer
abbrev pub pop_int : Operand → Hand → Option (Popped ℤ)
pop_int o h = then_some (pop o h) (taken_as int_of)

-- USES OF CACHED WORDS

-- a word that isn't in the walk is used
abbrev pub used_once : ℕ → Bool → Hand → Option Hand
used_once w true h = Some h
used_once w false h =
    if can_pin h.work.rest.cache w
    then Some (record { work = with_cache (pin h.work.rest.cache w) h.work; thread = record h.thread { walk = h.thread.walk ++ w ∷ [] } })
    else None

-- the thread uses the copy until its step is done; a word of its walk isn't used twice
abbrev pub use_word : ℕ → Hand → Option Hand
use_word w h = used_once w (is_in w h.thread.walk) h
