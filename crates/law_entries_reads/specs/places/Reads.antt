-- ENTRIES OF STEPS THAT READ THEIR PLACE ARE LEGAL where they are done: of a copy, of a dup that takes its share, and of borrows, through however many stars (in the manner of DRust; the
-- state is this project's).
use Rattle.std.specs.Prelude.{◌≡◌, ℕ, suc, false, true, List, [], ◌∷◌, ◌++◌, Some, is_some, slice_get}
use Rattle.law_copies_kept.specs.Below.fr_base.declared.place.Lval.{Lval}
use Rattle.law_copies_kept.specs.Below.fr_base.declared.instruction.Instr.{Instr}
use Rattle.law_copies_kept.specs.Below.fr_base.declared.instruction.Instr.TheVariants as instr
use Rattle.law_copies_kept.specs.Below.journal.View.{EntryView}
use Rattle.law_copies_kept.specs.Below.mut_borrow.declared.mutable.MutRef.{MutRef}
use Rattle.law_copies_kept.specs.Below.thread_state.View.{ThreadState}
use Rattle.law_copies_kept.specs.Below.thread_state.declared.value.Value.TheVariants as value
use Rattle.law_copies_kept.specs.Below.server_model.declared.event.Event.{Event}
use Rattle.law_copies_kept.specs.Below.server_model.declared.event.What.TheVariants.{Step}
use Rattle.law_copies_kept.specs.Below.server_model.Servers.{Server, Cluster, server_at}
use Rattle.law_copies_kept.specs.Below.server_model.Work.{thread_in}
use Rattle.law_copies_kept.specs.Below.server_model.Clusters.{apply}
use Rattle.law_entries_variables.specs.Below.coloured_heap.Heap.{Coloured}
use Rattle.law_copies_kept.specs.Below.coherent_memory.Things.{Location}
use Rattle.law_copies_kept.specs.Below.coherent_memory.Follow.{value_in, locate}
use Rattle.law_copies_kept.specs.Below.coherent_memory.Sight.{sight}
use Rattle.law_copies_kept.specs.Below.coherent_memory.Colours.{StandsColoured}
use Rattle.law_copies_kept.specs.Below.coherent_memory.LeftBy.{LeavesColoured}
use Rattle.law_copies_kept.specs.Below.coherent_types.ClusterTypes.{IsCoherent}
use Rattle.law_copies_kept.specs.Below.law_counts_sums.Laws.{Gives, FewEvents}
use Rattle.law_entries_variables.specs.deliveries.Entries.{LeadsOn}

-- where the event does a plain step, its entry leads on from each coloured heap that the cluster stands for: its acts are allowed, what it loads and stores is reached, and the state
-- afterwards stands for the cluster afterwards
abbrev pub DoneLegal : Cluster → Event → Type 0
DoneLegal k e = (c : Coloured) → StandsColoured k c → Gives (λ (d : Cluster × EntryView). is_some d.1.done ≡ true → LeadsOn k.options d.1 c d.0) (apply k e)

-- the steps of threads at such an instruction, from coherent clusters in which few events were done
abbrev pub DoneStepsLegal : (Cluster → ThreadState → Instr → Type 0) → Type 0
DoneStepsLegal Is =
    (k : Cluster) (number t : ℕ) (s : Server) (y : ThreadState) (i : Instr) → IsCoherent k → FewEvents k → server_at k.servers number ≡ Some s → thread_in s.threads t ≡ Some y → slice_get k.code y.pc ≡ Some i → Is k y i
    → DoneLegal k (record { server = number; what = Step t })

-- a read that copies, or a dup of a mutex value
pub data ReadsPlace (k : Cluster) (y : ThreadState) : Instr → Type 0 where
  copies : (w : Lval) → ReadsPlace k y (instr.Read w false)
  dups : (w : Lval) → ReadsPlace k y (instr.Dup w)

-- the pointer to which so many stars of the place lead is no mutable reference through which its object was written: its word shows all changes
abbrev pub BorrowsClean : Cluster → ThreadState → Lval → ℕ → Type 0
BorrowsClean k y w n = (l : Location) (r : MutRef) → locate (sight k).ground y.number w.slot n ≡ Some l → value_in (sight k).ground l ≡ Some (value.Mut r) → r.dirty ≡ false

-- a borrow through stars: a shared one from such a pointer, or a mutable one, whether its object came for it or lay here
pub data BorrowsThrough (k : Cluster) (y : ThreadState) : Instr → Type 0 where
  shares : (w : Lval) (n : ℕ) → w.depth ≡ suc n → BorrowsClean k y w n → BorrowsThrough k y (instr.Borrow w)
  lends : (w : Lval) (n : ℕ) → w.depth ≡ suc n → BorrowsThrough k y (instr.BorrowMut w)

-- where a legal journal has left the coloured heap of a cluster, the journal with the entry of such a step is legal too, and leaves that of the cluster afterwards
abbrev pub DoneStepsContinue : Type 0
DoneStepsContinue =
    (k : Cluster) (e : Event) (es : List EntryView) → DoneLegal k e → LeavesColoured k es → Gives (λ (d : Cluster × EntryView). is_some d.1.done ≡ true → LeavesColoured d.0 (es ++ d.1 ∷ [])) (apply k e)
