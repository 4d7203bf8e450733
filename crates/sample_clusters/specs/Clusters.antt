-- Clusters on which the laws of coherent memory are computed.
use Rattle.std.specs.Prelude.{ℕ, ◌+◌, ◌*◌, ◌^◌, true, false, pos, List, [], ◌∷◌, Option, Some, None}
use Rattle.server_model.specs.Below.fr_base.declared.name.ObjNo.{ObjNo}
use Rattle.server_model.specs.Below.fr_base.declared.name.MutexNo.{MutexNo}
use Rattle.server_model.specs.Below.fr_base.declared.place.Lval.{Lval}
use Rattle.server_model.specs.Below.fr_base.declared.settings.Options.{Options}
use Rattle.server_model.specs.Below.fr_base.declared.instruction.Operand.TheVariants as operand
use Rattle.server_model.specs.Below.fr_base.declared.instruction.Instr.{Instr}
use Rattle.server_model.specs.Below.fr_base.declared.instruction.Instr.TheVariants as instr
use Rattle.server_model.specs.Below.global_addr.Words.{word_of}
use Rattle.server_model.specs.Below.heap_partition.declared.value.Cell.{Cell}
use Rattle.server_model.specs.Below.heap_partition.declared.value.Owned.{Owned}
use Rattle.server_model.specs.Below.heap_partition.declared.value.Owned.TheVariants as owned
use Rattle.server_model.specs.Below.owner_box.View.{PartitionState}
use Rattle.server_model.specs.Below.mut_borrow.declared.mutable.MutRef.{MutRef}
use Rattle.server_model.specs.Below.mut_borrow.declared.shared.SharedRef.{SharedRef}
use Rattle.server_model.specs.Below.thread_state.View.{ThreadState, new_thread}
use Rattle.server_model.specs.Below.thread_state.declared.value.Value.{Value}
use Rattle.server_model.specs.Below.thread_state.declared.value.Value.TheVariants as value
use Rattle.server_model.specs.Below.thread_state.declared.phase.Phase.TheVariants as phase
use Rattle.server_model.specs.Below.read_cache.Cache.{Copy}
use Rattle.server_model.specs.Below.mutex_home.Mutexes.{Mutex}
use Rattle.server_model.specs.Below.join_home.Tasks.{Task, TaskState, going, asked}
use Rattle.server_model.specs.Below.server_msgs.declared.message.Message.TheVariants.{Moved, Drop}
use Rattle.server_model.specs.Servers.{Server, Cluster}

-- SHORT NAMES

abbrev pub place : ℕ → ℕ → Lval
place slot depth = record { slot = slot; depth = depth }

-- the thread that a server started as that number
abbrev pub thread_no : ℕ → ℕ → ℕ
thread_no s n = s * 2 ^ 32 + n

abbrev pub object : ℕ → ObjNo
object n = record { thread = 0; count = n }

abbrev pub int : ℕ → Owned
int n = owned.Int (pos n)

abbrev pub cell : ℕ → Owned → Option Cell
cell n v = Some (record { object = object n; value = v })

abbrev pub box : ℕ → ℕ → Owned
box w n = owned.Box (record { word = w; object = object n })

abbrev pub options : ℕ → Options
options n = record { servers = n; workers = 1; colours = 4; cache = 2; quantum = 16; turns = 1000; balance = 0; choice = 0; trace = false }

-- the code of { let mut x = box 1; *x = 2; print *x }
abbrev pub boxed_code : List Instr
boxed_code =
    instr.Box (operand.Const (pos 1)) ∷ instr.Let operand.Pop ∷ instr.Assign (place 0 1) (operand.Const (pos 2)) ∷ instr.Read (place 0 1) false
    ∷ instr.Print operand.Pop ∷ instr.DropSlot ∷ instr.End operand.Unit ∷ []

-- IN THE MIDDLE OF A RUN

-- instructions by their places: 0 a lock of slot 4, 1 a read of what slot 0's box holds, 2 a print, 3 a join, 4 an end
abbrev pub some_code : List Instr
some_code =
    instr.Lock (place 4 0) ∷ instr.Read (place 0 1) false ∷ instr.Print (operand.Const (pos 7)) ∷ instr.Join operand.Pop ∷ instr.End operand.Unit ∷ []

abbrev pub the_mutex : MutexNo
the_mutex = record { home = 0; count = 1 }

-- object 0 lies at server 0 and is written through a reference; object 1 is read through a shared reference; object 2 was dropped; object 3 was
-- copied to server 1
abbrev pub word_0 : ℕ
word_0 = word_of 1 0 0

abbrev pub word_1 : ℕ
word_1 = word_of 0 0 1

abbrev pub word_2 : ℕ
word_2 = word_of 2 0 2

abbrev pub word_3 : ℕ
word_3 = word_of 0 0 3

abbrev pub dirty_reference : MutRef
dirty_reference = record { word = word_0; first = word_0; object = object 0; dirty = true; holder = place 0 0 }

abbrev pub shared_reference : SharedRef
shared_reference = record { word = word_1; object = object 1; pinned = false }

-- main waits for the mutex
abbrev pub main_slots : List Value
main_slots =
    value.Own (box word_0 0) ∷ value.Own (box word_1 1) ∷ value.Mut dirty_reference ∷ value.Shared shared_reference ∷ value.Own (owned.Mutex the_mutex)
    ∷ value.Own (owned.Task (thread_no 0 1)) ∷ value.Own (owned.Task (thread_no 0 2)) ∷ value.Own (owned.Task (thread_no 0 3)) ∷ []

abbrev pub main_waiting : ThreadState
main_waiting = record (new_thread 0 0 main_slots) { phase = phase.WaitLock the_mutex; made = 4 }

-- thread 0.1 at server 1 reads object 3 from its copy
abbrev pub reader : ThreadState
reader = record (new_thread (thread_no 0 1) 1 (value.Own (box word_3 3) ∷ [])) { phase = phase.Got; walk = word_3 ∷ [] }

-- thread 0.2 at server 0 holds the mutex
abbrev pub locker : ThreadState
locker = new_thread (thread_no 0 2) 2 (value.Own (owned.Mutex the_mutex) ∷ value.Held the_mutex ∷ value.Own (int 9) ∷ [])

-- thread 0.3 at server 1 waits for the result of thread 1.1, which is at server 0
abbrev pub joiner : ThreadState
joiner = record (new_thread (thread_no 0 3) 3 []) { temps = value.Own (owned.Task (thread_no 1 1)) ∷ []; phase = phase.WaitJoin (thread_no 1 1) }

abbrev pub worker : ThreadState
worker = new_thread (thread_no 1 1) 2 []

abbrev pub partition_0 : PartitionState
partition_0 = record {
  server = 0;
  limit = 4;
  cells = cell 0 (int 1) ∷ cell 1 (int 5) ∷ cell 2 (int 6) ∷ cell 3 (int 3) ∷ None ∷ None ∷ [];
  free = (5, 1) ∷ [];
  retired = 1;
}

abbrev pub partition_1 : PartitionState
partition_1 = record { server = 1; limit = 4; cells = []; free = []; retired = 0 }

abbrev pub copy_of : ℕ → ℕ → Owned → ℕ → Copy
copy_of w n v users = record { word = w; cell = record { object = object n; value = v }; users = users }

abbrev pub held_mutex : Mutex
held_mutex = record { number = the_mutex; content = None; shares = 2; queue = (0, 0) ∷ [] }

abbrev pub task : ℕ → TaskState → Task
task t s = record { thread = t; state = s }

abbrev pub server_0 : Server
server_0 = record {
  rest = record {
    number = 0;
    partition = partition_0;
    cache = [];
    mutexes = record { home = 0; made = 1; there = held_mutex ∷ [] };
    tasks = task (thread_no 0 1) going ∷ task (thread_no 0 2) going ∷ task (thread_no 0 3) going ∷ [];
    inbox = Drop word_2 (object 2) ∷ [];
    outbox = [];
    started = 3;
  };
  threads = main_waiting ∷ locker ∷ worker ∷ [];
  events = 20;
}

abbrev pub server_1 : Server
server_1 = record {
  rest = record {
    number = 1;
    partition = partition_1;
    cache = copy_of word_1 1 (int 5) 0 ∷ copy_of word_3 3 (int 3) 1 ∷ [];
    mutexes = record { home = 1; made = 0; there = [] };
    tasks = task (thread_no 1 1) (asked 1 (thread_no 0 3)) ∷ [];
    inbox = [];
    outbox = [];
    started = 1;
  };
  threads = reader ∷ joiner ∷ [];
  events = 20;
}

abbrev pub cluster : Server → Server → Cluster
cluster a b = record { code = some_code; options = options 2; servers = a ∷ b ∷ [] }

abbrev pub middle : Cluster
middle = cluster server_0 server_1

-- A REFERENCE MADE THROUGH A REFERENCE TO A SLOT

-- slot 1 refers to slot 0, which owns object 0, and slot 2 was made from slot 0's box, through slot 1; its object has got another word
abbrev pub relent_slots : List Value
relent_slots =
    value.Own (box (word_of 0 0 0) 0) ∷ value.MutSlot 0
    ∷ value.Mut (record { word = word_of 1 0 0; first = word_of 0 0 0; object = object 0; dirty = false; holder = place 1 1 }) ∷ []

abbrev pub relent_server : Server
relent_server = record {
  rest = record {
    number = 0;
    partition = record { server = 0; limit = 4; cells = cell 0 (int 1) ∷ []; free = []; retired = 0 };
    cache = [];
    mutexes = record { home = 0; made = 0; there = [] };
    tasks = [];
    inbox = [];
    outbox = [];
    started = 0;
  };
  threads = record (new_thread 0 2 relent_slots) { made = 1 } ∷ [];
  events = 8;
}

abbrev pub relent : Cluster
relent = record { code = some_code; options = options 1; servers = relent_server ∷ [] }

-- THE END OF A DIRTY REFERENCE

-- slot 0's box holds object 0, whose box of object 1 is lent to slot 1; that reference is dirty and ends, and waits for object 0, through which its
-- holder's place leads. (No run comes here: a run cleans the reference before it asks)
abbrev pub ending_code : List Instr
ending_code = instr.DropSlot ∷ instr.DropSlot ∷ instr.End operand.Unit ∷ []

abbrev pub ending_reference : MutRef
ending_reference = record { word = word_of 1 1 0; first = word_of 0 1 0; object = object 1; dirty = true; holder = place 0 1 }

abbrev pub ending_thread : ThreadState
ending_thread = record (new_thread 0 0 (value.Own (box (word_of 0 0 0) 0) ∷ value.Mut ending_reference ∷ [])) { phase = phase.WaitCell (word_of 0 0 0); made = 2 }

abbrev pub ending_server : Server
ending_server = record relent_server {
  rest = record relent_server.rest {
    number = 1;
    partition = record { server = 1; limit = 4; cells = cell 1 (int 5) ∷ []; free = []; retired = 0 };
    mutexes = record { home = 1; made = 0; there = [] };
    inbox = Moved (word_of 0 0 0) (record { object = object 0; value = box (word_of 0 1 0) 1 }) 0 ∷ [];
  };
  threads = ending_thread ∷ [];
}

abbrev pub left_server : Server
left_server = record relent_server { rest = record relent_server.rest { partition = record { server = 0; limit = 4; cells = None ∷ []; free = (0, 1) ∷ []; retired = 0 } }; threads = [] }

abbrev pub ends_dirty : Cluster
ends_dirty = record { code = ending_code; options = options 2; servers = left_server ∷ ending_server ∷ [] }
