-- Programs with threads that start typed: what the laws of several threads ask for can be met.
use Rattle.fr_plain.specs.ThreadRuns.{joined, moved_in, copied_in, let_go, task_of_task}
use Rattle.fr_plain.specs.Resolve.{program}
use Rattle.fr_plain.specs.Whole.{start}
use Rattle.fr_sound.specs.Together.{AreTyped}

pub record ThreadsStart : Type 0 where
  -- { let mut h = spawn () { 3 }; print join h }
  pub joined : AreTyped (start (program joined))
  -- { let mut x = box 1; let mut h = spawn (x) { *x }; print join h }
  pub moved_in : AreTyped (start (program moved_in))
  -- { let mut x = 1; let mut h = spawn (x) { x = 2; x }; print (x + join h) }
  pub copied_in : AreTyped (start (program copied_in))
  -- { spawn () { box 3 }; print 1 }
  pub let_go : AreTyped (start (program let_go))
  -- { let mut h = spawn () { spawn () { box 3 } } }
  pub task_of_task : AreTyped (start (program task_of_task))
