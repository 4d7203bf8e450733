-- The threads that go with a dropped value where there is no mutex: what the crates that run no mutexes yet speak of. It is
-- `release` of the machine there (`release_tasks` of proofs/Tasks.antt).
use Rattle.std.specs.Prelude.{ℕ, zero, suc, length, Option, Some, None}
use Rattle.fr_plain.specs.declared.value.Value.{Value}
use Rattle.fr_plain.specs.Heap.{Heap, task_of}
use Rattle.fr_plain.specs.State.{State, without}
use Rattle.fr_plain.specs.MachineActs.{Act, end_of, end_of_some, drops_last}
use Rattle.fr_plain.specs.MachineThreads.{Life, over, owing, loose, ended, Thread, Whole, thread_at, with_thread, with_life}
use Rattle.fr_plain.specs.Machine.{Stepped}

-- the thread whose task goes with a dropped value: a value owns at most one task, at the end of its boxes
abbrev pub task_in : Heap → Value → Option ℕ
task_in h v = task_of (end_of h v)

abbrev pub task_in_some : Heap → Option Value → Option ℕ
task_in_some h v = task_of (end_of_some h v)

module _ {P : Type 0} where
  -- the thread whose task the act drops
  abbrev pub lets_go : Act P → State → Option ℕ
  lets_go a s = task_of (drops_last a s)

  -- a thread whose task is dropped: its result is dropped at once where it has ended, with the task that goes with the
  -- result, else at its end
  abbrev pub released : (Whole P → Option ℕ → Whole P) → Whole P → Thread P → Life P → Whole P
  released go s x (owing r) = record s { threads = with_thread s.threads (with_life x (loose r)) }
  released go s x (ended v) = go (record s { threads = with_thread s.threads (with_life x over); heap = without s.heap v }) (task_in s.heap v)
  released go s x l = s

  abbrev pub released_in : (Whole P → Option ℕ → Whole P) → Whole P → Option (Thread P) → Whole P
  released_in go s None = s
  released_in go s (Some x) = released go s x x.life

  -- at most so many threads, one for another's result
  abbrev pub let_threads_go : ℕ → Whole P → Option ℕ → Whole P
  let_threads_go n s None = s
  let_threads_go zero s (Some t) = s
  let_threads_go (suc n) s (Some t) = released_in (let_threads_go n) s (thread_at s.threads t)

  -- no more threads can go than there are
  abbrev pub let_go : Whole P → Option ℕ → Whole P
  let_go s t = let_threads_go (length s.threads) s t

  -- the task that the step dropped lets its thread go
  abbrev pub then_let_go : Option ℕ → Option (Stepped P) → Option (Stepped P)
  then_let_go t None = None
  then_let_go t (Some x) = Some (record { state = let_go x.state t; labels = x.labels })
