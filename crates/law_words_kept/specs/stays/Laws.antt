-- Laws of events: the words of objects stay.
use Rattle.std.specs.Prelude.{◌≡◌, ℕ, None, Some, slice_get}
use Rattle.law_counts_sums.specs.Below.fr_base.declared.place.Lval.{Lval}
use Rattle.law_counts_sums.specs.Below.fr_base.declared.instruction.Instr.{Instr}
use Rattle.law_counts_sums.specs.Below.fr_base.declared.instruction.Instr.TheVariants as instr
use Rattle.law_counts_sums.specs.Below.journal.View.{EntryView}
use Rattle.law_counts_sums.specs.Below.thread_state.View.{ThreadState}
use Rattle.law_counts_sums.specs.Below.thread_state.declared.phase.Phase.TheVariants as phase
use Rattle.law_counts_sums.specs.Below.server_model.declared.event.Event.{Event}
use Rattle.law_counts_sums.specs.Below.server_model.declared.event.What.TheVariants.{Step}
use Rattle.law_counts_sums.specs.Below.server_model.Servers.{Server, Cluster, server_at}
use Rattle.law_counts_sums.specs.Below.server_model.Work.{thread_in}
use Rattle.law_counts_sums.specs.Below.server_model.Clusters.{apply}
use Rattle.law_counts_sums.specs.Below.coherent_memory.Coherent.{IsSound}
use Rattle.law_counts_sums.specs.Kinds.{Kind, kind_of}
use Rattle.law_counts_sums.specs.Laws.{Gives, FewEvents}
use Rattle.law_words_paths.specs.words.Unmoved.{LeavesWords}

-- an event of that kind
abbrev pub IsOfKind : Kind → Cluster → Event → Type 0
IsOfKind kind k e = kind_of k e ≡ Some kind

-- each event of that kind from a sound cluster, with its messages handed over, leaves each object the word that it had; references know the words at their holders,
-- dirty references are alone, and first words that were left are no words of today
abbrev pub LeaveWords : Kind → Type 0
LeaveWords kind = (k : Cluster) (e : Event) → IsOfKind kind k e → IsSound k → FewEvents k → Gives (λ (d : Cluster × EntryView). LeavesWords k d.0) (apply k e)

-- the same where its entry has no `done`: it does no plain step
abbrev pub LeaveWordsUndone : Kind → Type 0
LeaveWordsUndone kind = (k : Cluster) (e : Event) → IsOfKind kind k e → IsSound k → FewEvents k → Gives (λ (d : Cluster × EntryView). d.1.done ≡ None → LeavesWords k d.0) (apply k e)

-- the borrow of a variable
pub data BorrowsVariable : Instr → Type 0 where
  shared : {w : Lval} → w.depth ≡ 0 → BorrowsVariable (instr.Borrow w)
  mutable : {w : Lval} → w.depth ≡ 0 → BorrowsVariable (instr.BorrowMut w)

-- a step at such an instruction, of a thread that hasn't taken an object, leaves the words
abbrev pub VariableBorrowsLeaveWords : Type 0
VariableBorrowsLeaveWords = (k : Cluster) (number t : ℕ) (s : Server) (y : ThreadState) (i : Instr) → IsSound k → FewEvents k → server_at k.servers number ≡ Some s → thread_in s.threads t ≡ Some y → slice_get k.code y.pc ≡ Some i → BorrowsVariable i
    → ((v : ℕ) → y.phase ≡ phase.Taken v → ⊥) → Gives (λ (d : Cluster × EntryView). LeavesWords k d.0) (apply k (record { server = number; what = Step t }))
