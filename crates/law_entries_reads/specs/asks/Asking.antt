-- ENTRIES OF STEPS THAT ASK ARE LEGAL: a step that follows its place star by star, and ends in a request, is an entry with the words that it gave and what it asks for (in the manner
-- of DRust; the state is this project's).
use Rattle.std.specs.Prelude.{◌≡◌, ℕ, List, [], ◌∷◌, ◌++◌, None, Some, slice_get}
use Rattle.law_entries_reads.specs.Below.law_copies_kept.Below.fr_base.declared.place.Lval.{Lval}
use Rattle.law_entries_reads.specs.Below.law_copies_kept.Below.fr_base.declared.instruction.Instr.{Instr}
use Rattle.law_entries_reads.specs.Below.law_copies_kept.Below.fr_base.declared.instruction.Instr.TheVariants as instr
use Rattle.law_entries_reads.specs.Below.law_copies_kept.Below.journal.View.{EntryView}
use Rattle.law_entries_reads.specs.Below.law_copies_kept.Below.thread_state.View.{ThreadState}
use Rattle.law_entries_reads.specs.Below.law_copies_kept.Below.server_model.declared.event.Event.{Event}
use Rattle.law_entries_reads.specs.Below.law_copies_kept.Below.server_model.declared.event.What.TheVariants.{Step}
use Rattle.law_entries_reads.specs.Below.law_copies_kept.Below.server_model.Servers.{Server, Cluster, server_at}
use Rattle.law_entries_reads.specs.Below.law_copies_kept.Below.server_model.Work.{thread_in}
use Rattle.law_entries_reads.specs.Below.law_copies_kept.Below.server_model.Clusters.{apply}
use Rattle.law_entries_reads.specs.Below.law_entries_variables.Below.coloured_heap.Heap.{Coloured}
use Rattle.law_entries_reads.specs.Below.law_copies_kept.Below.coherent_memory.Colours.{StandsColoured}
use Rattle.law_entries_reads.specs.Below.law_copies_kept.Below.coherent_memory.LeftBy.{LeavesColoured}
use Rattle.law_entries_reads.specs.Below.law_copies_kept.Below.coherent_types.ClusterTypes.{IsCoherent}
use Rattle.law_entries_reads.specs.Below.law_copies_kept.Below.law_counts_sums.Laws.{Gives, FewEvents}
use Rattle.law_entries_reads.specs.Below.law_copies_kept.references.Clean.{ReadsAll}
use Rattle.law_entries_reads.specs.Below.law_entries_variables.deliveries.Entries.{LeadsOn}

-- where the event does no plain step, its entry leads on from each coloured heap that the cluster stands for
abbrev pub AskingLegal : Cluster → Event → Type 0
AskingLegal k e = (s : Coloured) → StandsColoured k s → Gives (λ (d : Cluster × EntryView). d.1.done ≡ None → LeadsOn k.options d.1 s d.0) (apply k e)

-- a step at a copy, a dup or a lock, from a coherent cluster in which few events were done
abbrev pub ReadsThatAskLegal : Type 0
ReadsThatAskLegal = (k : Cluster) (number t : ℕ) (s : Server) (y : ThreadState) (w : Lval) (i : Instr) → IsCoherent k → FewEvents k → server_at k.servers number ≡ Some s → thread_in s.threads t ≡ Some y → slice_get k.code y.pc ≡ Some i → ReadsAll w i
    → AskingLegal k (record { server = number; what = Step t })

-- a step at a borrow, shared or mutable
abbrev pub SharedBorrowsThatAskLegal : Type 0
SharedBorrowsThatAskLegal =
    (k : Cluster) (number t : ℕ) (s : Server) (y : ThreadState) (w : Lval) → IsCoherent k → FewEvents k → server_at k.servers number ≡ Some s → thread_in s.threads t ≡ Some y → slice_get k.code y.pc ≡ Some (instr.Borrow w) → AskingLegal k (record { server = number; what = Step t })

abbrev pub MutableBorrowsThatAskLegal : Type 0
MutableBorrowsThatAskLegal = (k : Cluster) (number t : ℕ) (s : Server) (y : ThreadState) (w : Lval) → IsCoherent k → FewEvents k → server_at k.servers number ≡ Some s → thread_in s.threads t ≡ Some y → slice_get k.code y.pc ≡ Some (instr.BorrowMut w) → AskingLegal k (record { server = number; what = Step t })

-- where a legal journal has left the coloured heap of a cluster, the journal with such an entry is legal too, and leaves that of the cluster afterwards
abbrev pub AskingContinues : Type 0
AskingContinues =
    (k : Cluster) (e : Event) (es : List EntryView) → AskingLegal k e → LeavesColoured k es → Gives (λ (d : Cluster × EntryView). d.1.done ≡ None → LeavesColoured d.0 (es ++ d.1 ∷ [])) (apply k e)
