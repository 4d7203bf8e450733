-- WHAT A THREAD WAITS FOR, in a cluster where no message waits and on the plain machine (this project's rule).
use Rattle.std.specs.Prelude.{◌≡◌, ℕ, Bool, true, List, Option, Some, None}
use Rattle.law_runs_whole.specs.Below.fr_base.declared.instruction.Instr.{Instr}
use Rattle.law_runs_whole.specs.Below.fr_base.declared.step.Wait.{Wait}
use Rattle.law_runs_whole.specs.Below.fr_base.declared.step.Wait.TheVariants as wait
use Rattle.law_runs_whole.specs.Below.fr_plain.Machine.{waits_for}
use Rattle.law_runs_whole.specs.Below.fr_plain.MachineThreads.{thread_at}
use Rattle.law_runs_whole.specs.Below.fr_plain.PlainState.{SameState, plain_state}
use Rattle.law_runs_whole.specs.Below.fr_code.Machine.{CodeThread, CodeWhole}
use Rattle.law_runs_whole.specs.Below.fr_code.Steps.{code_moves}
use Rattle.law_runs_whole.specs.Below.thread_state.View.{is_over}
use Rattle.law_runs_whole.specs.Below.thread_state.declared.phase.Phase.TheVariants as phase
use Rattle.law_runs_whole.specs.Below.server_model.Servers.{Cluster}
use Rattle.law_runs_whole.specs.Below.drive_model.Ending.{no_message}
use Rattle.law_runs_whole.specs.Below.coherent_memory.Follow.{Standing}
use Rattle.law_runs_whole.specs.Below.coherent_memory.Follow as cluster
use Rattle.law_runs_whole.specs.Below.coherent_memory.Sight.{sight}
use Rattle.law_runs_whole.specs.Below.coherent_memory.OneHeap.{one_heap}
use Rattle.law_runs_coherent.specs.Below.coherent_types.ClusterTypes.{IsCoherent}

abbrev pub wait_in : List Instr → CodeWhole → Option CodeThread → Option Wait
wait_in code c None = None
wait_in code c (Some y) = waits_for (code_moves code) c y

-- what the thread of that number waits for on the plain machine
abbrev pub plain_wait : List Instr → CodeWhole → ℕ → Option Wait
plain_wait code c t = wait_in code c (thread_at c.threads t)

-- a thread that is over, or of which none stands anywhere
abbrev pub rests : Option Standing → Bool
rests None = true
rests (Some x) = is_over x.thread.phase

-- such a thread waits for nothing there, whatever the cluster
abbrev pub RestingWaitNot : Type 0
RestingWaitNot = (k : Cluster) (c : CodeWhole) → SameState (plain_state c) (one_heap k) → (t : ℕ) → rests (cluster.thread_at (sight k).ground.threads t) ≡ true → plain_wait k.code c t ≡ None

-- a thread that waits at a join in a quiet cluster does so in each state of the plain machine that the cluster stands for
abbrev pub JoinsWait : Type 0
JoinsWait =
    (k : Cluster) → IsCoherent k → no_message k.servers ≡ true → (c : CodeWhole) → SameState (plain_state c) (one_heap k) → (t u : ℕ) (x : Standing) → cluster.thread_at (sight k).ground.threads t ≡ Some x → x.thread.phase ≡ phase.WaitJoin u
    → plain_wait k.code c t ≡ Some (wait.Join u)

-- and one that waits at the end of a pair
abbrev pub PairsWait : Type 0
PairsWait =
    (k : Cluster) → IsCoherent k → no_message k.servers ≡ true → (c : CodeWhole) → SameState (plain_state c) (one_heap k) → (t a b : ℕ) (x : Standing) → cluster.thread_at (sight k).ground.threads t ≡ Some x → x.thread.phase ≡ phase.WaitPar a b
    → plain_wait k.code c t ≡ Some (wait.Par a b)
