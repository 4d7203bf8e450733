-- COPIES STAY PRESENT CELLS where objects leave, go and come (this project's rules): kinds of events after which copies are right.
use Rattle.std.specs.Prelude.{◌≡◌, ℕ, Some, slice_get}
use Rattle.law_copies_kept.specs.Below.fr_base.declared.name.ObjNo.{ObjNo}
use Rattle.law_copies_kept.specs.Below.fr_base.declared.place.Lval.{Lval}
use Rattle.law_copies_kept.specs.Below.fr_base.declared.instruction.Operand.{Operand}
use Rattle.law_copies_kept.specs.Below.fr_base.declared.instruction.Instr.{Instr}
use Rattle.law_copies_kept.specs.Below.fr_base.declared.instruction.Instr.TheVariants as instr
use Rattle.law_copies_kept.specs.Below.journal.View.{EntryView}
use Rattle.law_copies_kept.specs.Below.thread_state.View.{ThreadState}
use Rattle.law_copies_kept.specs.Below.server_msgs.declared.message.Message.TheVariants.{Move, Drop}
use Rattle.law_copies_kept.specs.Below.server_model.declared.event.Event.{Event}
use Rattle.law_copies_kept.specs.Below.server_model.declared.event.What.TheVariants.{Step}
use Rattle.law_copies_kept.specs.Below.server_model.Servers.{Server, Cluster, server_at}
use Rattle.law_copies_kept.specs.Below.server_model.Work.{thread_in}
use Rattle.law_copies_kept.specs.Below.server_model.Clusters.{apply}
use Rattle.law_copies_kept.specs.Below.coherent_memory.Coherent.{IsSound}
use Rattle.law_copies_kept.specs.Below.coherent_types.ClusterTypes.{IsCoherent}
use Rattle.law_words_borrows.specs.Below.law_words_paths.words.Unmoved.{Delivers}
use Rattle.law_copies_kept.specs.Below.law_counts_sums.Laws.{Gives, FewEvents}
use Rattle.law_copies_kept.specs.Below.law_words_values.references.Starts.{StartsThreads}
use Rattle.law_copies_kept.specs.copies.Copies.{CopiesAreRight}

-- with its messages handed over, the event leaves copies that are right
abbrev pub LeavesRight : Cluster → Event → Type 0
LeavesRight k e = Gives (λ (d : Cluster × EntryView). CopiesAreRight d.0) (apply k e)

-- so does the delivery of a `move` from a sound cluster
abbrev pub DeliveredMovesKeepCopies : Type 0
DeliveredMovesKeepCopies = (k : Cluster) (e : Event) (w : ℕ) (o : ObjNo) (a t : ℕ) → Delivers k e (Move w o a t) → IsSound k → FewEvents k → LeavesRight k e

-- and that of a `drop` from a coherent one
abbrev pub DeliveredDropsKeepCopies : Type 0
DeliveredDropsKeepCopies = (k : Cluster) (e : Event) (w : ℕ) (o : ObjNo) → Delivers k e (Drop w o) → IsCoherent k → FewEvents k → LeavesRight k e

-- STEPS

-- the step of a thread at an instruction, from a coherent cluster
abbrev pub StepLeavesRight : Cluster → ℕ → ℕ → Server → ThreadState → Instr → Type 0
StepLeavesRight k number t s y i = IsCoherent k → FewEvents k → server_at k.servers number ≡ Some s → thread_in s.threads t ≡ Some y → slice_get k.code y.pc ≡ Some i → LeavesRight k (record { server = number; what = Step t })

-- one that makes an object leaves copies that are right
abbrev pub BoxesKeepCopies : Type 0
BoxesKeepCopies = (k : Cluster) (number t : ℕ) (s : Server) (y : ThreadState) (o : Operand) → StepLeavesRight k number t s y (instr.Box o)

-- so does one that starts a thread or a pair
abbrev pub StartsKeepCopies : Type 0
StartsKeepCopies = (k : Cluster) (number t : ℕ) (s : Server) (y : ThreadState) (i : Instr) → IsCoherent k → FewEvents k → server_at k.servers number ≡ Some s → thread_in s.threads t ≡ Some y → slice_get k.code y.pc ≡ Some i → StartsThreads i
    → LeavesRight k (record { server = number; what = Step t })

-- and a borrow, shared or mutable, of a variable or through however many stars, whether it is done or asks: for a copy of what a pointer on its way leads to, or for its object
abbrev pub SharedBorrowsKeepCopies : Type 0
SharedBorrowsKeepCopies = (k : Cluster) (number t : ℕ) (s : Server) (y : ThreadState) (w : Lval) → StepLeavesRight k number t s y (instr.Borrow w)

abbrev pub MutableBorrowsKeepCopies : Type 0
MutableBorrowsKeepCopies = (k : Cluster) (number t : ℕ) (s : Server) (y : ThreadState) (w : Lval) → StepLeavesRight k number t s y (instr.BorrowMut w)
