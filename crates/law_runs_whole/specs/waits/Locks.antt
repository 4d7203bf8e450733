-- WHAT THREADS WAIT FOR AT LOCKS, and in a deadlocked cluster (this project's rule).
use Rattle.std.specs.Prelude.{◌≡◌, ℕ, true, Option, Some, None}
use Rattle.law_runs_whole.specs.Below.fr_base.declared.name.MutexNo.{MutexNo}
use Rattle.law_runs_whole.specs.Below.fr_base.declared.step.Ending3.TheVariants.{Deadlocked}
use Rattle.law_runs_whole.specs.Below.fr_base.declared.step.Wait.{Wait}
use Rattle.law_runs_whole.specs.Below.fr_base.declared.step.Wait.TheVariants as wait
use Rattle.law_runs_whole.specs.Below.fr_plain.PlainState.{SameState, plain_state}
use Rattle.law_runs_whole.specs.Below.fr_code.Machine.{CodeWhole}
use Rattle.law_runs_whole.specs.Below.thread_state.declared.phase.Phase.TheVariants as phase
use Rattle.law_runs_whole.specs.Below.server_model.Servers.{Cluster}
use Rattle.law_runs_whole.specs.Below.server_model.Questions.{wait_of}
use Rattle.law_runs_whole.specs.Below.drive_model.Ending.{no_message, all_in, is_stopped, ending}
use Rattle.law_runs_whole.specs.Below.coherent_memory.Follow.{Standing, thread_at}
use Rattle.law_runs_whole.specs.Below.coherent_memory.Sight.{sight}
use Rattle.law_runs_whole.specs.Below.coherent_memory.OneHeap.{one_heap}
use Rattle.law_runs_coherent.specs.Below.coherent_types.ClusterTypes.{IsCoherent}
use Rattle.law_runs_whole.specs.waits.Waits.{plain_wait}

-- a thread that waits at a lock in a quiet cluster of which each thread is over or waits does so in each state of the plain machine that the cluster stands for
abbrev pub LocksWait : Type 0
LocksWait =
    (k : Cluster) → IsCoherent k → no_message k.servers ≡ true → all_in is_stopped k.servers ≡ true → (c : CodeWhole) → SameState (plain_state c) (one_heap k) → (t : ℕ) (m : MutexNo) (x : Standing) → thread_at (sight k).ground.threads t ≡ Some x
    → x.thread.phase ≡ phase.WaitLock m → plain_wait k.code c t ≡ Some (wait.Lock m)

abbrev pub standing_wait : Option Standing → Option Wait
standing_wait None = None
standing_wait (Some x) = wait_of x.thread.phase

-- what the thread of that number waits for in the cluster
abbrev pub cluster_wait : Cluster → ℕ → Option Wait
cluster_wait k t = standing_wait (thread_at (sight k).ground.threads t)

-- in a deadlocked cluster each thread waits for the same on the plain machine
abbrev pub DeadlocksAgree : Type 0
DeadlocksAgree = (k : Cluster) → IsCoherent k → ending k ≡ Deadlocked → (c : CodeWhole) → SameState (plain_state c) (one_heap k) → (t : ℕ) → plain_wait k.code c t ≡ cluster_wait k t
