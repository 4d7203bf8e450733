-- ROOTED: what can be counted of the part on types (this project's rules). The rest of that part speaks of typing and isn't here. Each function
-- counts what breaks the sentence above it.
use Rattle.std.specs.Prelude.{ℕ, ◌+◌, ◌==◌, Bool, true, false, List, [], ◌∷◌, length, Option, Some, is_some}
use Rattle.server_model.specs.Below.fr_base.declared.instruction.Instr.{Instr}
use Rattle.server_model.specs.Below.fr_base.declared.instruction.Instr.TheVariants as instr
use Rattle.server_model.specs.Below.heap_partition.declared.value.Owned.{Owned}
use Rattle.server_model.specs.Below.heap_partition.declared.value.Owned.TheVariants as owned
use Rattle.server_model.specs.Below.join_home.Tasks.{TaskState, in_pair}
use Rattle.server_model.specs.Below.server_msgs.declared.message.Message.{Message}
use Rattle.server_model.specs.Below.server_msgs.declared.message.Message.TheVariants.{Finished}
use Rattle.server_model.specs.Below.thread_state.View.{is_over}
use Rattle.coherent_memory.specs.Names.{one, other, if_so}
use Rattle.coherent_memory.specs.Things.{Thing, holds, lies, flies, sent, noted}
use Rattle.coherent_memory.specs.Follow.{Standing}
use Rattle.coherent_memory.specs.Sight.{Sight}
use Rattle.coherent_memory.specs.Placing.{sum_over}
use Rattle.coherent_memory.specs.Walking.{sum_threads, instr_of}
use Rattle.coherent_memory.specs.OneHeap.{Node, object_n, mutex_n, task_n, same_node, Owner, inside, owner_of, is_branch}
use Rattle.coherent_memory.specs.Ranks.{Step, steps_of, endless}

-- THREADS THAT ARE OVER

abbrev pub is_end : Option Instr → Bool
is_end (Some (instr.End o)) = true
is_end i = false

-- a thread that is over stands at its `End` and has no slot, no temporary value and no gift
abbrev pub dressed : Sight → Standing → ℕ
dressed s x =
    if_so (is_over x.thread.phase) (other (is_end (instr_of s x)) + length x.thread.slots + length x.thread.temps + one (is_some x.thread.gift))

abbrev pub over_wrong : Sight → ℕ
over_wrong s = sum_threads s (dressed s)

-- OWNERS

abbrev owning : Owner → Owned → List (Step Node)
owning (inside n) (owned.Box p) = record { from = n; to = object_n p.object } ∷ []
owning (inside n) (owned.Mutex m) = record { from = n; to = mutex_n m } ∷ []
owning (inside n) (owned.Task t) = record { from = n; to = task_n t } ∷ []
owning o v = []

abbrev pub ownings_of : Sight → Thing → List (Step Node)
ownings_of s (holds p v) = owning (owner_of s (holds p v)) v
ownings_of s (lies r a c) = owning (inside (object_n c.object)) c.value
ownings_of s (flies w c) = owning (inside (object_n c.object)) c.value
ownings_of s x = []

-- from each object, mutex and result to what its value, its content or the result owns. Where these steps end, none owns itself, directly or
-- through others
abbrev pub ownings : Sight → List (Step Node)
ownings s = steps_of (ownings_of s) s.things

abbrev pub ownership_wrong : Sight → ℕ
ownership_wrong s = endless same_node (ownings s)

-- PARENTS

abbrev to_parent : ℕ → TaskState → List (Step ℕ)
to_parent t (in_pair p over) = record { from = t; to = p } ∷ []
to_parent t x = []

abbrev pub parents_of : Thing → List (Step ℕ)
parents_of (noted r x) = to_parent x.thread x.state
parents_of x = []

-- from each branch to the parent that waits for it
abbrev pub parents : List Thing → List (Step ℕ)
parents b = steps_of parents_of b

abbrev pub parents_wrong : Sight → ℕ
parents_wrong s = endless (λ t u. t == u) (parents s.things)

-- RESULTS OF BRANCHES

abbrev pub is_unit : Owned → Bool
is_unit owned.Unit = true
is_unit v = false

abbrev pub branch_result : Sight → Message → ℕ
branch_result s (Finished t v) = if_so (is_branch s t) (other (is_unit v))
branch_result s m = 0

-- a `finished` message of a thread of a pair carries unit
abbrev pub other_result : Sight → Thing → ℕ
other_result s (sent r m) = branch_result s m
other_result s x = 0

abbrev pub branches_wrong : Sight → ℕ
branches_wrong s = sum_over s (other_result s)
