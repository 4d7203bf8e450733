-- A thread has at most twenty asks left.
use Rattle.std.proofs.Common.{◌≤◌, ℕ, Bool, true, false, Option, Some, None, arith}
use Rattle.law_length_asks.specs.Below.law_walks_others.Below.fr_base.declared.instruction.Instr.{Instr}
use Rattle.law_length_asks.specs.Below.law_walks_others.Below.fr_base.declared.instruction.Instr.TheVariants as instr
use Rattle.law_length_asks.specs.Below.law_walks_others.Below.heap_partition.declared.value.Owned.{Owned}
use Rattle.law_length_asks.specs.Below.law_walks_others.Below.thread_state.declared.phase.Phase.{Phase}
use Rattle.law_length_asks.specs.Below.law_walks_others.Below.thread_state.declared.phase.Phase.TheVariants as phase
use Rattle.law_length_asks.specs.Below.law_walks_others.Below.coherent_memory.Names.{if_so}
use Rattle.law_length_asks.specs.Below.law_walks_others.Below.coherent_memory.Follow.{Standing, thread_at}
use Rattle.law_length_asks.specs.Below.law_walks_others.Below.coherent_memory.Paths.{Path, ends}
use Rattle.law_length_asks.specs.Below.law_walks_others.Below.coherent_memory.Sight.{Sight, sight}
use Rattle.law_length_asks.specs.Below.law_walks_others.Below.coherent_memory.Walking.{instr_of, path}
use Rattle.law_length_asks.specs.ahead.Ahead.{ahead}
use Rattle.law_length_asks.specs.left.Left.{may_come, is_far, toll, asks_last, eight, to_come, asks_by, asks_at}
use Rattle.law_length_asks.specs.left.Steps.{AtMostTwenty}

pub eight_few : (n : ℕ) → eight n ≤ 8
eight_few n = omega arith

pub if_few : (b : Bool) (m : ℕ) → if_so b m ≤ m
if_few true m = omega arith
if_few false m = omega arith

toll_few : (p : Path) → toll p ≤ 9
toll_few (ends r) = omega arith
toll_few p = omega arith

last_few : (i : Option Instr) → asks_last i ≤ 1
last_few (Some (instr.Lock w)) = omega arith
last_few (Some (instr.Dup w)) = omega arith
last_few (Some (instr.Join o)) = omega arith
last_few (Some (instr.BorrowMut w)) = omega arith
last_few i = omega arith

pub come_few : (s : Sight) (x : Standing) → to_come s x ≤ 18
come_few s x = omega (arith, eight_few (ahead s x), if_few (is_far x.server x.thread.phase (may_come (path s x) x.thread.slots)) (toll (path s x)), toll_few (path s x), last_few (instr_of s x))

pub by_few : (s : Sight) (x : Standing) (p : Phase) (g : Option Owned) → asks_by s x p g ≤ 20
by_few s x (phase.WaitCell w) g = omega (arith, come_few s x)
by_few s x phase.Got None = omega (arith, come_few s x)
by_few s x phase.Got (Some v) = omega arith
by_few s x (phase.Taken w) g = omega arith
by_few s x (phase.WaitLock m) g = omega arith
by_few s x (phase.WaitDup m) g = omega arith
by_few s x (phase.WaitJoin t) g = omega arith
by_few s x phase.Ready g = omega arith
by_few s x phase.Over g = omega arith
by_few s x (phase.WaitPar a b) g = omega arith
by_few s x (phase.GotPar a b) g = omega arith

pub at_few : (s : Sight) (o : Option Standing) → asks_at s o ≤ 20
at_few s None = omega arith
at_few s (Some x) = by_few s x x.thread.phase x.thread.gift

pub few : AtMostTwenty
few k t = at_few (sight k) (thread_at (sight k).ground.threads t)
