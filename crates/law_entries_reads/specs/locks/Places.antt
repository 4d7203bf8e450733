-- ENTRIES OF STEPS THAT FOLLOW A PLACE ARE LEGAL, whether they are done or ask (in the manner of DRust; the state is this project's).
use Rattle.std.specs.Prelude.{◌≡◌, ℕ, suc, false, List, [], ◌∷◌, ◌++◌, Some, slice_get}
use Rattle.law_entries_reads.specs.Below.law_words_borrows.Below.fr_base.declared.place.Lval.{Lval}
use Rattle.law_entries_reads.specs.Below.law_words_borrows.Below.fr_base.declared.instruction.Instr.{Instr}
use Rattle.law_entries_reads.specs.Below.law_words_borrows.Below.fr_base.declared.instruction.Instr.TheVariants as instr
use Rattle.law_entries_reads.specs.Below.law_words_borrows.Below.journal.View.{EntryView}
use Rattle.law_entries_reads.specs.Below.law_words_borrows.Below.thread_state.View.{ThreadState}
use Rattle.law_entries_reads.specs.Below.law_words_borrows.Below.server_model.declared.event.What.TheVariants.{Step}
use Rattle.law_entries_reads.specs.Below.law_words_borrows.Below.server_model.Servers.{Server, Cluster, server_at}
use Rattle.law_entries_reads.specs.Below.law_words_borrows.Below.server_model.Work.{thread_in}
use Rattle.law_entries_reads.specs.Below.law_words_borrows.Below.server_model.Clusters.{apply}
use Rattle.law_entries_reads.specs.Below.law_words_borrows.Below.coherent_memory.LeftBy.{LeavesColoured}
use Rattle.law_entries_reads.specs.Below.law_words_borrows.Below.coherent_types.ClusterTypes.{IsCoherent}
use Rattle.law_entries_reads.specs.Below.law_words_borrows.Below.law_counts_sums.Laws.{Gives, FewEvents}
use Rattle.law_entries_reads.specs.Below.law_entries_variables.deliveries.Entries.{EntryLegal}
use Rattle.law_entries_reads.specs.places.Reads.{BorrowsClean}

-- a copy, a dup or a lock, through however many stars, or a borrow through one at least: a mutable one, or a shared one from a pointer whose word shows all changes of its object
pub data FollowsPlace (k : Cluster) (y : ThreadState) : Instr → Type 0 where
  copies : (w : Lval) → FollowsPlace k y (instr.Read w false)
  dups : (w : Lval) → FollowsPlace k y (instr.Dup w)
  locks : (w : Lval) → FollowsPlace k y (instr.Lock w)
  shares : (w : Lval) (n : ℕ) → w.depth ≡ suc n → BorrowsClean k y w n → FollowsPlace k y (instr.Borrow w)
  lends : (w : Lval) (n : ℕ) → w.depth ≡ suc n → FollowsPlace k y (instr.BorrowMut w)

-- each step of a thread at such an instruction has a legal entry, from a coherent cluster in which few events were done
abbrev pub PlacesLegal : Type 0
PlacesLegal = (k : Cluster) (number t : ℕ) (s : Server) (y : ThreadState) (i : Instr) → IsCoherent k → FewEvents k → server_at k.servers number ≡ Some s → thread_in s.threads t ≡ Some y → slice_get k.code y.pc ≡ Some i → FollowsPlace k y i
    → EntryLegal k (record { server = number; what = Step t })

-- where a legal journal has left the coloured heap of such a cluster, the journal with the entry of such a step is legal too, and leaves that of the cluster afterwards
abbrev pub PlacesGoOn : Type 0
PlacesGoOn = (k : Cluster) (number t : ℕ) (s : Server) (y : ThreadState) (i : Instr) (es : List EntryView) → IsCoherent k → FewEvents k → server_at k.servers number ≡ Some s → thread_in s.threads t ≡ Some y → slice_get k.code y.pc ≡ Some i → FollowsPlace k y i → LeavesColoured k es
    → Gives (λ (d : Cluster × EntryView). LeavesColoured d.0 (es ++ d.1 ∷ [])) (apply k (record { server = number; what = Step t }))
