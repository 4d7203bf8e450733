-- STEPS WITH WHICH A MUTABLE REFERENCE ENDS (this project's rules): it goes with its slot or from the hand, or is assigned over, and the pointer at its holder has its word.
use Rattle.std.specs.Prelude.{◌≡◌, ◌⊎◌, ℕ, false, Some, slice_get}
use Rattle.law_words_borrows.specs.Below.fr_base.declared.place.Lval.{Lval}
use Rattle.law_words_borrows.specs.Below.fr_base.declared.instruction.Operand.{Operand}
use Rattle.law_words_borrows.specs.Below.fr_base.declared.instruction.Instr.{Instr}
use Rattle.law_words_borrows.specs.Below.fr_base.declared.instruction.Instr.TheVariants as instr
use Rattle.law_words_borrows.specs.Below.journal.View.{EntryView}
use Rattle.law_words_borrows.specs.Below.mut_borrow.declared.mutable.MutRef.{MutRef}
use Rattle.law_words_borrows.specs.Below.thread_state.View.{ThreadState}
use Rattle.law_words_borrows.specs.Below.thread_state.declared.value.Value.TheVariants as value
use Rattle.law_words_borrows.specs.Below.server_model.declared.event.What.TheVariants.{Step}
use Rattle.law_words_borrows.specs.Below.server_model.Servers.{Server, Cluster, server_at}
use Rattle.law_words_borrows.specs.Below.server_model.Work.{thread_in, last_of}
use Rattle.law_words_borrows.specs.Below.server_model.Clusters.{apply}
use Rattle.law_words_borrows.specs.Below.coherent_types.ClusterTypes.{IsCoherent}
use Rattle.law_words_borrows.specs.Below.law_counts_sums.Laws.{Gives, FewEvents}
use Rattle.law_words_borrows.specs.Below.law_words_paths.words.Unmoved.{LeavesWords}
use Rattle.law_words_borrows.specs.Below.law_words_kept.prepared.Requests.{WordsRise}

-- an instruction with which the mutable reference ends
pub data EndsReference (y : ThreadState) (r : MutRef) : Instr → Type 0 where
  drops : last_of y.slots ≡ Some (value.Mut r) → EndsReference y r instr.DropSlot
  discards : last_of y.temps ≡ Some (value.Mut r) → EndsReference y r instr.Discard
  assigns : (w : Lval) (o : Operand) → w.depth ≡ 0 → slice_get y.slots w.slot ≡ Some (value.Mut r) → EndsReference y r (instr.Assign w o)

-- it is clean, and it has its first word, or was made from a variable's own pointer: so nothing is cleaned and no star is followed
pub record EndsAtHand (r : MutRef) : Type 0 where
  pub clean : r.dirty ≡ false
  pub near : (r.word ≡ r.first) ⊎ (r.holder.depth ≡ 0)

-- then from a coherent cluster, with its messages handed over, its step leaves each object the word that it had, and what else is kept of words
abbrev pub EndsAtHandLeaveWords : Type 0
EndsAtHandLeaveWords = (k : Cluster) (number t : ℕ) (s : Server) (y : ThreadState) (i : Instr) (r : MutRef) → IsCoherent k → FewEvents k → server_at k.servers number ≡ Some s → thread_in s.threads t ≡ Some y → slice_get k.code y.pc ≡ Some i
    → EndsReference y r i → EndsAtHand r → Gives (λ (d : Cluster × EntryView). LeavesWords k d.0) (apply k (record { server = number; what = Step t }))

-- and where it was made from a variable's own pointer, the step keeps the words, whether it is clean or dirty, and ends or its object is asked for
abbrev pub FlatEndsKeep : Type 0
FlatEndsKeep = (k : Cluster) (number t : ℕ) (s : Server) (y : ThreadState) (i : Instr) (r : MutRef) → IsCoherent k → FewEvents k → server_at k.servers number ≡ Some s → thread_in s.threads t ≡ Some y → slice_get k.code y.pc ≡ Some i → EndsReference y r i → r.holder.depth ≡ 0
    → Gives (λ (d : Cluster × EntryView). WordsRise k d.0) (apply k (record { server = number; what = Step t }))
