-- ENTRIES OF STEPS THAT END A MUTABLE REFERENCE, and of each discard and drop of a slot, ARE LEGAL where they are done (in the manner of DRust: a mutable reference that ends gives its object the
-- next colour, or another address, where it was written through, and its holder's pointer the word; the state is this project's).
use Rattle.std.specs.Prelude.{◌≡◌, ℕ, true, List, [], ◌∷◌, ◌++◌, Some, is_some, slice_get}
use Rattle.law_entries_reads.specs.Below.law_entries_variables.Below.law_words_ends.Below.fr_base.declared.instruction.Instr.{Instr}
use Rattle.law_entries_reads.specs.Below.law_entries_variables.Below.law_words_ends.Below.fr_base.declared.instruction.Instr.TheVariants as instr
use Rattle.law_entries_reads.specs.Below.law_entries_variables.Below.law_words_ends.Below.fr_base.declared.instruction.Operand.{Operand}
use Rattle.law_entries_reads.specs.Below.law_entries_variables.Below.law_words_ends.Below.fr_base.declared.place.Lval.{Lval}
use Rattle.law_entries_reads.specs.Below.law_entries_variables.Below.law_words_ends.Below.journal.View.{EntryView}
use Rattle.law_entries_reads.specs.Below.law_entries_variables.Below.law_words_ends.Below.mut_borrow.declared.mutable.MutRef.{MutRef}
use Rattle.law_entries_reads.specs.Below.law_entries_variables.Below.law_words_ends.Below.thread_state.View.{ThreadState}
use Rattle.law_entries_reads.specs.Below.law_entries_variables.Below.law_words_ends.Below.thread_state.declared.value.Value.TheVariants as value
use Rattle.law_entries_reads.specs.Below.law_entries_variables.Below.law_words_ends.Below.server_model.declared.event.What.TheVariants.{Step}
use Rattle.law_entries_reads.specs.Below.law_entries_variables.Below.law_words_ends.Below.server_model.Servers.{Server, Cluster, server_at}
use Rattle.law_entries_reads.specs.Below.law_entries_variables.Below.law_words_ends.Below.server_model.Work.{thread_in, last_of}
use Rattle.law_entries_reads.specs.Below.law_entries_variables.Below.law_words_ends.Below.server_model.Clusters.{apply}
use Rattle.law_entries_reads.specs.Below.law_entries_variables.Below.law_words_ends.Below.coherent_memory.LeftBy.{LeavesColoured}
use Rattle.law_entries_reads.specs.Below.law_entries_variables.Below.law_words_ends.Below.coherent_types.ClusterTypes.{IsCoherent}
use Rattle.law_entries_reads.specs.Below.law_entries_variables.Below.law_words_ends.Below.law_counts_sums.Laws.{Gives, FewEvents}

-- a mutable reference to an object ends, from the hand, with the newest slot, or as its variable is assigned: clean or dirty, and wherever the pointer stands that it was made from
pub data EndsMutable (k : Cluster) (y : ThreadState) : Instr → Type 0 where
  discards_mutable : (r : MutRef) → last_of y.temps ≡ Some (value.Mut r) → EndsMutable k y instr.Discard
  drops_mutable : (r : MutRef) → last_of y.slots ≡ Some (value.Mut r) → EndsMutable k y instr.DropSlot
  assigns_mutable : (w : Lval) (o : Operand) (r : MutRef) → w.depth ≡ 0 → slice_get y.slots w.slot ≡ Some (value.Mut r) → EndsMutable k y (instr.Assign w o)

-- a discard, or the drop of the newest slot, whatever stands there
pub data LetsGo (k : Cluster) (y : ThreadState) : Instr → Type 0 where
  lets_top : LetsGo k y instr.Discard
  lets_newest : LetsGo k y instr.DropSlot

-- where a legal journal has left the coloured heap of a coherent cluster with few events, the journal with the entry of such a step that is done is legal too, and leaves that of the cluster afterwards
abbrev pub DropsContinue : Type 0
DropsContinue = (k : Cluster) (number t : ℕ) (s : Server) (y : ThreadState) (i : Instr) (es : List EntryView) → IsCoherent k → FewEvents k → server_at k.servers number ≡ Some s → thread_in s.threads t ≡ Some y → slice_get k.code y.pc ≡ Some i → LetsGo k y i → LeavesColoured k es
    → Gives (λ (d : Cluster × EntryView). is_some d.1.done ≡ true → LeavesColoured d.0 (es ++ d.1 ∷ [])) (apply k (record { server = number; what = Step t }))
