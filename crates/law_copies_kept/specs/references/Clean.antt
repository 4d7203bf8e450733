-- COPIES STAY PRESENT CELLS where references go and come (this project's rules): kinds of steps after which copies are right.
use Rattle.std.specs.Prelude.{◌≡◌, ℕ, false, Some, slice_get}
use Rattle.law_words_borrows.specs.Below.fr_base.declared.place.Lval.{Lval}
use Rattle.law_words_borrows.specs.Below.fr_base.declared.instruction.Instr.{Instr}
use Rattle.law_words_borrows.specs.Below.fr_base.declared.instruction.Instr.TheVariants as instr
use Rattle.law_words_borrows.specs.Below.journal.View.{EntryView}
use Rattle.law_words_borrows.specs.Below.thread_state.View.{ThreadState}
use Rattle.law_words_borrows.specs.Below.server_model.declared.event.What.TheVariants.{Step}
use Rattle.law_words_borrows.specs.Below.server_model.Servers.{Server, Cluster, server_at}
use Rattle.law_words_borrows.specs.Below.server_model.Work.{thread_in}
use Rattle.law_words_borrows.specs.Below.server_model.Clusters.{apply}
use Rattle.law_words_borrows.specs.Below.coherent_types.ClusterTypes.{IsCoherent}
use Rattle.law_words_borrows.specs.Below.law_counts_sums.Laws.{Gives, FewEvents}
use Rattle.law_copies_kept.specs.Below.law_words_kept.stays.Laws.{BorrowsVariable}
use Rattle.law_words_borrows.specs.Below.law_words_values.references.Gone.{GivesReference}
use Rattle.law_copies_kept.specs.copies.Copies.{CopiesAreRight}

-- the step of a thread at an instruction, from a coherent cluster
abbrev pub StepKeepsCopies : Cluster → ℕ → ℕ → Server → ThreadState → Instr → Type 0 → Type 0
StepKeepsCopies k number t s y i Premise = IsCoherent k → FewEvents k → server_at k.servers number ≡ Some s → thread_in s.threads t ≡ Some y → slice_get k.code y.pc ≡ Some i → Premise
    → Gives (λ (d : Cluster × EntryView). CopiesAreRight d.0) (apply k (record { server = number; what = Step t }))

-- with its messages handed over it leaves copies that are right where it moves whatever stands in a variable, and where a reference to a slot or a shared one goes
abbrev pub ReferencesKeepCopies : Type 0
ReferencesKeepCopies = (k : Cluster) (number t : ℕ) (s : Server) (y : ThreadState) (i : Instr) → StepKeepsCopies k number t s y i (GivesReference y i)

-- and where it borrows a variable, shared or mutably
abbrev pub VariableBorrowsKeepCopies : Type 0
VariableBorrowsKeepCopies = (k : Cluster) (number t : ℕ) (s : Server) (y : ThreadState) (i : Instr) → StepKeepsCopies k number t s y i (BorrowsVariable i)

-- an instruction that reads all stars of its place: it copies it, or takes a share or the content of the mutex there
pub data ReadsAll (w : Lval) : Instr → Type 0 where
  a_copy : ReadsAll w (instr.Read w false)
  a_dup : ReadsAll w (instr.Dup w)
  a_lock : ReadsAll w (instr.Lock w)

-- it leaves copies that are right too, whether it is done or asks: for a copy of what a pointer on its way leads to, under the next colour where that is a dirty reference, for an object
-- under way of which no colour is left, or for the mutex
abbrev pub ReadsKeepCopies : Type 0
ReadsKeepCopies = (k : Cluster) (number t : ℕ) (s : Server) (y : ThreadState) (w : Lval) (i : Instr) → StepKeepsCopies k number t s y i (ReadsAll w i)
