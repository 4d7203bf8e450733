-- STEPS IN WHICH A REFERENCE GOES (this project's rules): it is moved out of a variable, goes with its slot or from the hand, or is assigned over.
use Rattle.std.specs.Prelude.{◌≡◌, ℕ, true, Some, slice_get}
use Rattle.law_words_values.specs.Below.fr_base.declared.place.Lval.{Lval}
use Rattle.law_words_values.specs.Below.fr_base.declared.instruction.Operand.{Operand}
use Rattle.law_words_values.specs.Below.fr_base.declared.instruction.Instr.{Instr}
use Rattle.law_words_values.specs.Below.fr_base.declared.instruction.Instr.TheVariants as instr
use Rattle.law_words_values.specs.Below.journal.View.{EntryView}
use Rattle.law_words_values.specs.Below.mut_borrow.declared.shared.SharedRef.{SharedRef}
use Rattle.law_words_values.specs.Below.thread_state.View.{ThreadState}
use Rattle.law_words_values.specs.Below.thread_state.declared.value.Value.{Value}
use Rattle.law_words_values.specs.Below.thread_state.declared.value.Value.TheVariants as value
use Rattle.law_words_values.specs.Below.server_model.declared.event.What.TheVariants.{Step}
use Rattle.law_words_values.specs.Below.server_model.Servers.{Server, Cluster, server_at}
use Rattle.law_words_values.specs.Below.server_model.Work.{thread_in, last_of}
use Rattle.law_words_values.specs.Below.server_model.Clusters.{apply}
use Rattle.law_words_values.specs.Below.coherent_types.ClusterTypes.{IsCoherent}
use Rattle.law_words_values.specs.Below.law_counts_sums.Laws.{Gives, FewEvents}
use Rattle.law_words_values.specs.Below.law_words_paths.words.Unmoved.{LeavesWords}

-- a reference to a slot, or a shared one to an object: it has no part in which words objects have but that it is there
pub data IsLight : Value → Type 0 where
  to_slot : (i : ℕ) → IsLight (value.SharedSlot i)
  to_slot_mutably : (i : ℕ) → IsLight (value.MutSlot i)
  shared_to : (r : SharedRef) → IsLight (value.Shared r)

-- an instruction with which one goes, or that moves whatever stands in a variable
pub data GivesReference (y : ThreadState) : Instr → Type 0 where
  moves : (w : Lval) (v : Value) → w.depth ≡ 0 → slice_get y.slots w.slot ≡ Some v → GivesReference y (instr.Read w true)
  drops : (v : Value) → last_of y.slots ≡ Some v → IsLight v → GivesReference y instr.DropSlot
  discards : (v : Value) → last_of y.temps ≡ Some v → IsLight v → GivesReference y instr.Discard
  assigns : (w : Lval) (o : Operand) (v : Value) → w.depth ≡ 0 → slice_get y.slots w.slot ≡ Some v → IsLight v → GivesReference y (instr.Assign w o)

-- from a coherent cluster, with its messages handed over, its step leaves each object the word that it had, and what else is kept of words
abbrev pub ReferencesGo : Type 0
ReferencesGo = (k : Cluster) (number t : ℕ) (s : Server) (y : ThreadState) (i : Instr) → IsCoherent k → FewEvents k → server_at k.servers number ≡ Some s → thread_in s.threads t ≡ Some y → slice_get k.code y.pc ≡ Some i → GivesReference y i
    → Gives (λ (d : Cluster × EntryView). LeavesWords k d.0) (apply k (record { server = number; what = Step t }))
