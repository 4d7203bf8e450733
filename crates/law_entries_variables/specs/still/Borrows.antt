-- ENTRIES OF BORROWS OF VARIABLES ARE LEGAL (in the manner of DRust; the state is this project's).
use Rattle.std.specs.Prelude.{◌≡◌, ℕ, Some, slice_get}
use Rattle.law_entries_variables.specs.Below.fr_base.declared.instruction.Instr.{Instr}
use Rattle.law_entries_variables.specs.Below.thread_state.View.{ThreadState}
use Rattle.law_entries_variables.specs.Below.thread_state.declared.phase.Phase.TheVariants as phase
use Rattle.law_entries_variables.specs.Below.server_model.declared.event.What.TheVariants.{Step}
use Rattle.law_entries_variables.specs.Below.server_model.Servers.{Server, Cluster, server_at}
use Rattle.law_entries_variables.specs.Below.server_model.Work.{thread_in}
use Rattle.law_entries_variables.specs.Below.coherent_memory.Coherent.{IsSound}
use Rattle.law_entries_variables.specs.Below.law_counts_sums.Laws.{FewEvents}
use Rattle.law_entries_variables.specs.Below.law_words_kept.stays.Laws.{BorrowsVariable}
use Rattle.law_entries_variables.specs.deliveries.Entries.{EntryLegal}

-- a step at the borrow of a variable, of a thread that hasn't taken an object, has a legal entry, from a sound cluster in which few events were done
abbrev pub VariableBorrowsLegal : Type 0
VariableBorrowsLegal = (k : Cluster) (number t : ℕ) (s : Server) (y : ThreadState) (i : Instr) → IsSound k → FewEvents k → server_at k.servers number ≡ Some s → thread_in s.threads t ≡ Some y → slice_get k.code y.pc ≡ Some i → BorrowsVariable i
    → ((v : ℕ) → y.phase ≡ phase.Taken v → ⊥) → EntryLegal k (record { server = number; what = Step t })
