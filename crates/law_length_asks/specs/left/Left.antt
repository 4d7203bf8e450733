-- HOW OFTEN A THREAD ASKS YET before a step of it is done (this project's rule): a number that falls with each of its asks, by what is ahead of it on its way.
use Rattle.std.specs.Prelude.{ℕ, zero, suc, ◌+◌, ◌-◌, ◌==◌, Bool, false, not, ◌||◌, List, Option, Some, None, slice_get}
use Rattle.law_length_asks.specs.Below.law_walks_others.Below.fr_base.declared.instruction.Instr.{Instr}
use Rattle.law_length_asks.specs.Below.law_walks_others.Below.fr_base.declared.instruction.Instr.TheVariants as instr
use Rattle.law_length_asks.specs.Below.law_walks_others.Below.global_addr.Words.{server_of}
use Rattle.law_length_asks.specs.Below.law_walks_others.Below.heap_partition.declared.value.Owned.{Owned}
use Rattle.law_length_asks.specs.Below.law_walks_others.Below.thread_state.declared.phase.Phase.{Phase}
use Rattle.law_length_asks.specs.Below.law_walks_others.Below.thread_state.declared.phase.Phase.TheVariants as phase
use Rattle.law_length_asks.specs.Below.law_walks_others.Below.thread_state.declared.value.Value.{Value}
use Rattle.law_length_asks.specs.Below.law_walks_others.Below.thread_state.declared.value.Value.TheVariants as value
use Rattle.law_length_asks.specs.Below.law_walks_others.Below.server_model.Objects.{chased}
use Rattle.law_length_asks.specs.Below.law_walks_others.Below.server_model.Servers.{Cluster}
use Rattle.law_length_asks.specs.Below.law_walks_others.Below.coherent_memory.Names.{if_so}
use Rattle.law_length_asks.specs.Below.law_walks_others.Below.coherent_memory.Follow.{Standing, thread_at}
use Rattle.law_length_asks.specs.Below.law_walks_others.Below.coherent_memory.Paths.{Path, no_path, reads, shares, lends, writes, ends}
use Rattle.law_length_asks.specs.Below.law_walks_others.Below.coherent_memory.Requests.{is_cell}
use Rattle.law_length_asks.specs.Below.law_walks_others.Below.coherent_memory.Sight.{Sight, sight}
use Rattle.law_length_asks.specs.Below.law_walks_others.Below.coherent_memory.Walking.{instr_of, path}
use Rattle.law_length_asks.specs.ahead.Ahead.{ahead}

-- A REFERENCE WHOSE OBJECT MAY COME

-- a mutable borrow reads before its last pointer
abbrev pub before_lent : ℕ → ℕ → List Value → Option Value
before_lent slot zero vs = None
before_lent slot (suc zero) vs = None
before_lent slot (suc (suc d)) vs = slice_get vs (chased d vs slot)

-- on a path that reads only the object of a mutable reference comes, and such a one stands where references to slots lead; or a reference ends
abbrev pub may_come : Path → List Value → Option Value
may_come no_path vs = None
may_come (reads w) vs = slice_get vs (chased (w.depth - 1) vs w.slot)
may_come (shares w) vs = slice_get vs (chased (w.depth - 1) vs w.slot)
may_come (lends w) vs = before_lent w.slot w.depth vs
may_come (writes w) vs = None
may_come (ends r) vs = Some (value.Mut r)

-- the reference leads to another server, or the thread waits under its word
abbrev pub is_far : ℕ → Phase → Option Value → Bool
is_far n p (Some (value.Mut r)) = not (server_of r.word == n) || is_cell r.word p
is_far n p v = false

-- once the object has come as many hops may be ahead of a read as at its start, so nine; a reference that ends is asked for once
abbrev pub toll : Path → ℕ
toll (ends r) = 1
toll p = 9

abbrev pub pulls : Sight → Standing → ℕ
pulls s x = if_so (is_far x.server x.thread.phase (may_come (path s x) x.thread.slots)) (toll (path s x))

-- WHAT IS LEFT

-- a home is asked last, and so is the object that is lent
abbrev pub asks_last : Option Instr → ℕ
asks_last (Some (instr.Lock w)) = 1
asks_last (Some (instr.Dup w)) = 1
asks_last (Some (instr.Join o)) = 1
asks_last (Some (instr.BorrowMut w)) = 1
asks_last i = 0

-- at most eight
abbrev pub eight : ℕ → ℕ
eight n = 8 - (8 - n)

-- while it waits for a cell: the hops ahead of it, eight at most, a pull, and what is asked for last
abbrev pub to_come : Sight → Standing → ℕ
to_come s x = eight (ahead s x) + pulls s x + asks_last (instr_of s x)

-- by its phase and its gift. Who has got something may ask for all of that; who has a gift or has taken an object asks for nothing more
abbrev pub asks_by : Sight → Standing → Phase → Option Owned → ℕ
asks_by s x (phase.WaitCell w) g = to_come s x
asks_by s x phase.Got None = to_come s x + 1
asks_by s x phase.Got (Some v) = 1
asks_by s x (phase.Taken w) g = 1
asks_by s x (phase.WaitLock m) g = 1
asks_by s x (phase.WaitDup m) g = 1
asks_by s x (phase.WaitJoin t) g = 1
asks_by s x phase.Ready g = 20
asks_by s x phase.Over g = 20
asks_by s x (phase.WaitPar a b) g = 20
asks_by s x (phase.GotPar a b) g = 20

abbrev pub asks_of : Sight → Standing → ℕ
asks_of s x = asks_by s x x.thread.phase x.thread.gift

-- of a thread that stands nowhere all
abbrev pub asks_at : Sight → Option Standing → ℕ
asks_at s None = 20
asks_at s (Some x) = asks_of s x

abbrev pub left : Cluster → ℕ → ℕ
left k t = asks_at (sight k) (thread_at (sight k).ground.threads t)
