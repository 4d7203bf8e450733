-- COPIES STAY PRESENT CELLS where an object comes to a thread that waits for it (this project's rules), by what the thread waits with.
use Rattle.std.specs.Prelude.{◌≡◌, ℕ, Some, slice_get}
use Rattle.law_words_ends.specs.Below.fr_base.declared.instruction.Instr.{Instr}
use Rattle.law_words_ends.specs.Below.fr_base.declared.instruction.Instr.TheVariants as instr
use Rattle.law_words_ends.specs.Below.fr_base.declared.place.Lval.{Lval}
use Rattle.law_words_ends.specs.Below.heap_partition.declared.value.Cell.{Cell}
use Rattle.law_words_ends.specs.Below.mut_borrow.declared.mutable.MutRef.{MutRef}
use Rattle.law_words_ends.specs.Below.thread_state.View.{ThreadState}
use Rattle.law_words_ends.specs.Below.server_msgs.declared.message.Message.TheVariants.{Moved}
use Rattle.law_words_ends.specs.Below.server_model.declared.event.Event.{Event}
use Rattle.law_words_ends.specs.Below.server_model.declared.event.What.TheVariants.{Deliver}
use Rattle.law_words_ends.specs.Below.server_model.Servers.{Server, Cluster, server_at}
use Rattle.law_words_ends.specs.Below.server_model.Work.{thread_in}
use Rattle.law_words_ends.specs.Below.coherent_types.ClusterTypes.{IsCoherent}
use Rattle.law_words_ends.specs.Below.law_counts_sums.Laws.{FewEvents}
use Rattle.law_words_ends.specs.Below.law_words_paths.words.Unmoved.{Delivers}
use Rattle.law_words_ends.specs.Below.law_words_kept.reads.Reading.{Reads}
use Rattle.law_words_ends.specs.Below.law_words_asked.writes.Writing.{WritesThrough}
use Rattle.law_words_ends.specs.variables.Ends.{EndsReference}
use Rattle.law_copies_kept.specs.objects.Fresh.{LeavesRight}

-- the message number i of a server brings the object of the cell to a thread at an instruction, in a coherent cluster: copies are right once it is delivered
abbrev pub ArrivalLeavesRight : Cluster → ℕ → ℕ → ℕ → ℕ → Server → Cell → ThreadState → Instr → Type 0
ArrivalLeavesRight k number i old t s c y j = IsCoherent k → FewEvents k → server_at k.servers number ≡ Some s → slice_get s.rest.inbox i ≡ Some (Moved old c t) → thread_in s.threads t ≡ Some y → slice_get k.code y.pc ≡ Some j
    → LeavesRight k (record { server = number; what = Deliver i })

-- one that copies its place, dups, locks or borrows from it, but doesn't lend it mutably
abbrev pub ReadArrivalsKeepCopies : Type 0
ReadArrivalsKeepCopies = (k : Cluster) (number i old t : ℕ) (s : Server) (c : Cell) (y : ThreadState) (j : Instr) (w : Lval) (m : ℕ) → Reads j w m → ((v : Lval) → j ≡ instr.BorrowMut v → ⊥) → ArrivalLeavesRight k number i old t s c y j

-- one that borrows its place mutably
abbrev pub BorrowArrivalsKeepCopies : Type 0
BorrowArrivalsKeepCopies = (k : Cluster) (number i old t : ℕ) (s : Server) (c : Cell) (y : ThreadState) (w : Lval) → ArrivalLeavesRight k number i old t s c y (instr.BorrowMut w)

-- one that assigns or moves out through stars, however many of them it has passed
abbrev pub WriteArrivalsKeepCopies : Type 0
WriteArrivalsKeepCopies = (k : Cluster) (number i old t : ℕ) (s : Server) (c : Cell) (y : ThreadState) (j : Instr) (w : Lval) (d : ℕ) → WritesThrough j w d → ArrivalLeavesRight k number i old t s c y j

-- one that ends a mutable reference, with its slot, from the hand, or where it is assigned over
abbrev pub EndArrivalsKeepCopies : Type 0
EndArrivalsKeepCopies = (k : Cluster) (number i old t : ℕ) (s : Server) (c : Cell) (y : ThreadState) (j : Instr) (r : MutRef) → EndsReference y r j → ArrivalLeavesRight k number i old t s c y j

-- and one at whatever instruction
abbrev pub ArrivalsKeepCopies : Type 0
ArrivalsKeepCopies = (k : Cluster) (e : Event) (old : ℕ) (c : Cell) (t : ℕ) → Delivers k e (Moved old c t) → IsCoherent k → FewEvents k → LeavesRight k e
