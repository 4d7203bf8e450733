-- A cluster in which all kinds of waiting, of gifts and of messages under way stand beside each other.
use Rattle.std.specs.Prelude.{ℕ, true, false, pos, List, [], ◌∷◌, Some, None}
use Rattle.server_model.specs.Below.fr_base.declared.release.Released.TheVariants as released
use Rattle.server_model.specs.Below.fr_base.declared.instruction.Operand.TheVariants as operand
use Rattle.server_model.specs.Below.fr_base.declared.instruction.Instr.{Instr}
use Rattle.server_model.specs.Below.fr_base.declared.instruction.Instr.TheVariants as instr
use Rattle.server_model.specs.Below.global_addr.Words.{word_of}
use Rattle.server_model.specs.Below.heap_partition.declared.value.Owned.TheVariants as owned
use Rattle.server_model.specs.Below.owner_box.View.{PartitionState}
use Rattle.server_model.specs.Below.thread_state.View.{ThreadState, new_thread}
use Rattle.server_model.specs.Below.thread_state.declared.value.Value.{Value}
use Rattle.server_model.specs.Below.thread_state.declared.value.Value.TheVariants as value
use Rattle.server_model.specs.Below.thread_state.declared.phase.Phase.TheVariants as phase
use Rattle.server_model.specs.Below.mutex_home.Mutexes.{Mutex}
use Rattle.server_model.specs.Below.join_home.Tasks.{Task, going, in_pair}
use Rattle.server_model.specs.Below.server_msgs.declared.message.Message.TheVariants.{Fetch, Moved, Dupped, Release, Finished, Migrate}
use Rattle.server_model.specs.Servers.{Server, Cluster}
use Rattle.sample_clusters.specs.Clusters.{place, thread_no, object, int, cell, box, options, the_mutex, copy_of, task}

-- instructions by their places: 0 a write through slot 0's box, 1 a mutable borrow there, 2 the end of a par, 3 a lock, 4 a dup, 5 a join, 6 a read through
-- slot 0's box, 7 an end, 8 a write through slot 1's reference,
-- 9 a mutable borrow of what two boxes lead to, 10 a read through two boxes, 11 a mutable borrow and 12 its slot, 13 a mutable borrow through slot 1's
-- reference and a box behind it, 14 a read through slot 1's reference
abbrev pub busy_code : List Instr
busy_code =
    instr.Assign (place 0 1) (operand.Const (pos 2)) ∷ instr.BorrowMut (place 0 1) ∷ instr.ParEnd ∷ instr.Lock (place 0 0) ∷ instr.Dup (place 0 0)
    ∷ instr.Join operand.Pop ∷ instr.Read (place 0 1) false ∷ instr.End operand.Unit ∷ instr.Assign (place 1 1) (operand.Const (pos 2))
    ∷ instr.BorrowMut (place 0 2) ∷ instr.Read (place 0 2) false ∷ instr.BorrowMut (place 0 1) ∷ instr.Let operand.Pop
    ∷ instr.BorrowMut (place 1 2) ∷ instr.Read (place 1 1) false ∷ []

-- object 0 flies from server 0 to 1; object 1 was pulled to server 1; objects 2, 3 and 4 lie at server 0, and 2 owns 4
abbrev pub old_0 : ℕ
old_0 = word_of 0 0 0

abbrev pub old_1 : ℕ
old_1 = word_of 0 0 1

abbrev pub new_1 : ℕ
new_1 = word_of 0 1 0

abbrev pub at_2 : ℕ
at_2 = word_of 0 0 2

abbrev pub at_3 : ℕ
at_3 = word_of 0 0 3

abbrev pub at_4 : ℕ
at_4 = word_of 0 0 4

abbrev pub has_task : ℕ → ℕ → Value
has_task s n = value.Own (owned.Task (thread_no s n))

-- main waits for both branches of its par
abbrev pub parent_slots : List Value
parent_slots =
    value.Own (box at_2 2) ∷ value.Shared (record { word = at_2; object = object 2; pinned = false }) ∷ has_task 0 1 ∷ has_task 0 2 ∷ has_task 0 5 ∷ has_task 0 6
    ∷ has_task 0 7 ∷ has_task 0 8 ∷ []

abbrev pub parent : ThreadState
parent = record (new_thread 0 2 parent_slots) { phase = phase.WaitPar (thread_no 0 3) (thread_no 0 4); made = 5 }

-- waits for object 0, which is under way
abbrev pub writer : ThreadState
writer = record (new_thread (thread_no 0 1) 0 (value.Own (box old_0 0) ∷ [])) { phase = phase.WaitCell old_0 }

-- has taken object 1 for a mutable borrow
abbrev pub lender : ThreadState
lender = record (new_thread (thread_no 0 2) 11 (value.Own (box old_1 1) ∷ [])) { phase = phase.Taken new_1 }

-- a branch with a view that it has read through
abbrev pub viewer : ThreadState
viewer = new_thread (thread_no 0 3) 10 (value.Shared (record { word = at_2; object = object 2; pinned = true }) ∷ [])

-- a thread that is over
abbrev pub ended : ℕ → ℕ → ThreadState
ended s n = record (new_thread (thread_no s n) 7 []) { phase = phase.Over }

-- has the mutex's content as its gift
abbrev pub gifted : ThreadState
gifted = record (new_thread (thread_no 0 5) 3 (value.Own (owned.Mutex the_mutex) ∷ [])) { phase = phase.Got; gift = Some (int 9) }

-- waits for one share more
abbrev pub dupper : ThreadState
dupper = record (new_thread (thread_no 0 6) 4 (value.Own (owned.Mutex the_mutex) ∷ [])) { phase = phase.WaitDup the_mutex }

-- has the result of thread 1.1 as its gift
abbrev pub joined : ThreadState
joined = record (new_thread (thread_no 0 7) 5 (has_task 1 2 ∷ has_task 1 4 ∷ [])) { temps = has_task 1 1 ∷ []; phase = phase.Got; gift = Some owned.Unit }

-- has asked for a copy of object 3
abbrev pub fetcher : ThreadState
fetcher = record (new_thread (thread_no 0 8) 6 (value.Own (box at_3 3) ∷ [])) { phase = phase.WaitCell at_3 }

-- threads at their end: one whose task was dropped, and one that moves
abbrev pub dropped : ThreadState
dropped = new_thread (thread_no 1 3) 7 []

abbrev pub mover : ThreadState
mover = record (new_thread (thread_no 1 4) 7 []) { moved_since_step = true }

abbrev pub shared_mutex : Mutex
shared_mutex = record { number = the_mutex; content = None; shares = 3; queue = [] }

abbrev pub busy_partition : PartitionState
busy_partition = record {
  server = 0;
  limit = 4;
  cells = None ∷ None ∷ cell 2 (box at_4 4) ∷ cell 3 (int 6) ∷ cell 4 (int 8) ∷ [];
  free = (0, 1) ∷ (1, 1) ∷ [];
  retired = 0;
}

abbrev pub busy_notes : List Task
busy_notes =
    task (thread_no 0 1) going ∷ task (thread_no 0 2) going ∷ task (thread_no 0 3) (in_pair 0 false) ∷ task (thread_no 0 4) (in_pair 0 true)
    ∷ task (thread_no 0 5) going ∷ task (thread_no 0 6) going ∷ task (thread_no 0 7) going ∷ task (thread_no 0 8) going ∷ []

abbrev pub busy_0 : Server
busy_0 = record {
  rest = record {
    number = 0;
    partition = busy_partition;
    cache = [];
    mutexes = record { home = 0; made = 1; there = shared_mutex ∷ [] };
    tasks = busy_notes;
    inbox = Dupped the_mutex (thread_no 0 6) ∷ Fetch at_3 (object 3) 1 (thread_no 0 8) ∷ [];
    outbox = [];
    started = 8;
  };
  threads = parent ∷ ended 0 4 ∷ dupper ∷ ended 1 1 ∷ dropped ∷ [];
  events = 20;
}

abbrev pub busy_1 : Server
busy_1 = record {
  rest = record {
    number = 1;
    partition = record { server = 1; limit = 4; cells = cell 1 (int 4) ∷ []; free = []; retired = 0 };
    cache = copy_of at_2 2 (box at_4 4) 1 ∷ [];
    mutexes = record { home = 1; made = 0; there = [] };
    tasks = task (thread_no 1 2) going ∷ task (thread_no 1 3) going ∷ task (thread_no 1 4) going ∷ [];
    inbox = Moved old_0 (record { object = object 0; value = int 1 }) (thread_no 0 1) ∷ Finished (thread_no 1 2) (int 3) ∷ Release (released.Task (thread_no 1 3)) ∷ [];
    outbox = record { target = 0; message = Migrate mover } ∷ [];
    started = 4;
  };
  threads = writer ∷ lender ∷ viewer ∷ gifted ∷ joined ∷ fetcher ∷ ended 1 2 ∷ [];
  events = 20;
}

abbrev pub of_busy : Server → Server → Cluster
of_busy a b = record { code = busy_code; options = options 2; servers = a ∷ b ∷ [] }

abbrev pub busy : Cluster
busy = of_busy busy_0 busy_1
