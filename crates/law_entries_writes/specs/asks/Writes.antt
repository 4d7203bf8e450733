-- ENTRIES OF WRITES AND OF ENDS OF REFERENCES THAT ASK are legal (in the manner of DRust; the state is this project's): each object on the way got its next word, and one is asked for.
use Rattle.std.specs.Prelude.{◌≡◌, ℕ, true, Some, slice_get}
use Rattle.law_copies_writes.specs.Below.law_copies_kept.Below.fr_base.declared.place.Lval.{Lval}
use Rattle.law_copies_writes.specs.Below.law_copies_kept.Below.fr_base.declared.instruction.Operand.{Operand}
use Rattle.law_copies_writes.specs.Below.law_copies_kept.Below.fr_base.declared.instruction.Instr.{Instr}
use Rattle.law_copies_writes.specs.Below.law_copies_kept.Below.fr_base.declared.instruction.Instr.TheVariants as instr
use Rattle.law_copies_writes.specs.Below.law_copies_kept.Below.thread_state.View.{ThreadState}
use Rattle.law_copies_writes.specs.Below.law_copies_kept.Below.server_model.declared.event.What.TheVariants.{Step}
use Rattle.law_copies_writes.specs.Below.law_copies_kept.Below.server_model.Servers.{Server, Cluster, server_at}
use Rattle.law_copies_writes.specs.Below.law_copies_kept.Below.server_model.Work.{thread_in}
use Rattle.law_copies_writes.specs.Below.law_copies_kept.Below.coherent_types.ClusterTypes.{IsCoherent}
use Rattle.law_copies_writes.specs.Below.law_copies_kept.Below.law_counts_sums.Laws.{FewEvents}
use Rattle.law_entries_writes.specs.Below.law_entries_reads.asks.Asking.{AskingLegal}

-- each step at that instruction, from a coherent cluster in which few events were done: where it does no plain step, its entry leads on
abbrev pub StepsThatAskLegal : Instr → Type 0
StepsThatAskLegal i = (k : Cluster) (number t : ℕ) (s : Server) (y : ThreadState) → IsCoherent k → FewEvents k → server_at k.servers number ≡ Some s → thread_in s.threads t ≡ Some y → slice_get k.code y.pc ≡ Some i → AskingLegal k (record { server = number; what = Step t })

-- a move out of a place, and an assignment to one, through however many stars
abbrev pub MovesThatAskLegal : Type 0
MovesThatAskLegal = (w : Lval) → StepsThatAskLegal (instr.Read w true)

abbrev pub AssignmentsThatAskLegal : Type 0
AssignmentsThatAskLegal = (w : Lval) (o : Operand) → StepsThatAskLegal (instr.Assign w o)

-- a discard, and the drop of the newest slot
abbrev pub DiscardsThatAskLegal : Type 0
DiscardsThatAskLegal = StepsThatAskLegal instr.Discard

abbrev pub DropsThatAskLegal : Type 0
DropsThatAskLegal = StepsThatAskLegal instr.DropSlot
