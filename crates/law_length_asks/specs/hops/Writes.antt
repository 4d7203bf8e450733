-- OWN STEPS ON A WRITE (this project's rule): a step that asks for an object to write through leaves no more hops ahead of its thread.
use Rattle.std.specs.Prelude.{◌≡◌, ◌≤◌, ℕ, suc, true, Some}
use Rattle.law_walks_own.specs.Below.fr_base.declared.instruction.Instr.{Instr}
use Rattle.law_walks_own.specs.Below.fr_base.declared.instruction.Instr.TheVariants as instr
use Rattle.law_walks_own.specs.Below.fr_base.declared.instruction.Operand.{Operand}
use Rattle.law_walks_own.specs.Below.fr_base.declared.place.Lval.{Lval}
use Rattle.law_walks_own.specs.Below.thread_state.declared.phase.Phase.TheVariants as phase
use Rattle.law_walks_own.specs.Below.journal.View.{EntryView}
use Rattle.law_walks_own.specs.Below.server_model.declared.event.Event.{Event}
use Rattle.law_walks_own.specs.Below.server_model.declared.event.What.TheVariants.{Step}
use Rattle.law_walks_own.specs.Below.server_model.Servers.{Cluster}
use Rattle.law_walks_own.specs.Below.server_model.Clusters.{apply}
use Rattle.law_walks_own.specs.Below.coherent_memory.Names.{Among}
use Rattle.law_walks_own.specs.Below.coherent_memory.Follow.{Standing}
use Rattle.law_walks_own.specs.Below.coherent_memory.Sight.{sight}
use Rattle.law_walks_own.specs.Below.coherent_memory.Walking.{instr_of}
use Rattle.law_walks_own.specs.Below.coherent_types.ClusterTypes.{IsCoherent}
use Rattle.law_walks_own.specs.Below.law_counts_sums.Laws.{Gives, FewEvents}
use Rattle.law_length_asks.specs.ahead.Ahead.{ahead}

-- an instruction that writes through a star: an assignment, or a move
pub data Writes : Instr → Lval → Type 0 where
  assigns : {w : Lval} {d : ℕ} (o : Operand) → w.depth ≡ suc d → Writes (instr.Assign w o) w
  moves : {w : Lval} {d : ℕ} → w.depth ≡ suc d → Writes (instr.Read w true) w

-- after its step from a coherent cluster with few events
abbrev pub OwnWritesLeaveNoMore : Type 0
OwnWritesLeaveNoMore =
    (k : Cluster) (e : Event) (t : ℕ) → e.what ≡ Step t → IsCoherent k → FewEvents k → (x : Standing) (i : Instr) (w : Lval) → Among x (sight k).ground.threads → x.thread.number ≡ t → instr_of (sight k) x ≡ Some i → Writes i w
    → Gives (λ (d : Cluster × EntryView). (y : Standing) (q : ℕ) → Among y (sight d.0).ground.threads → y.thread.number ≡ t → y.thread.phase ≡ phase.WaitCell q → ahead (sight d.0) y ≤ ahead (sight k) x) (apply k e)
