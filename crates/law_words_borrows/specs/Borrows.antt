-- BORROWS keep the words (this project's rules), whether they are done or ask.
use Rattle.std.specs.Prelude.{◌≡◌, ℕ, Some, slice_get}
use Rattle.law_heap_steps.specs.Below.fr_base.declared.place.Lval.{Lval}
use Rattle.law_heap_steps.specs.Below.fr_base.declared.instruction.Instr.TheVariants as instr
use Rattle.law_heap_steps.specs.Below.journal.View.{EntryView}
use Rattle.law_heap_steps.specs.Below.thread_state.View.{ThreadState}
use Rattle.law_heap_steps.specs.Below.server_model.declared.event.What.TheVariants.{Step}
use Rattle.law_heap_steps.specs.Below.server_model.Servers.{Server, Cluster, server_at}
use Rattle.law_heap_steps.specs.Below.server_model.Work.{thread_in}
use Rattle.law_heap_steps.specs.Below.server_model.Clusters.{apply}
use Rattle.law_words_values.specs.Below.coherent_types.ClusterTypes.{IsCoherent}
use Rattle.law_heap_steps.specs.Below.law_counts_sums.Laws.{Gives, FewEvents}
use Rattle.law_words_values.specs.Below.law_words_kept.prepared.Requests.{WordsRise}

-- the step of a thread at a shared borrow, with its messages handed over
abbrev pub SharedBorrowsKeep : Type 0
SharedBorrowsKeep = (k : Cluster) (number t : ℕ) (s : Server) (y : ThreadState) (w : Lval) → IsCoherent k → FewEvents k → server_at k.servers number ≡ Some s → thread_in s.threads t ≡ Some y → slice_get k.code y.pc ≡ Some (instr.Borrow w)
    → Gives (λ (d : Cluster × EntryView). WordsRise k d.0) (apply k (record { server = number; what = Step t }))

-- of a thread at a mutable one, whether it has taken the object or not
abbrev pub MutableBorrowsKeep : Type 0
MutableBorrowsKeep = (k : Cluster) (number t : ℕ) (s : Server) (y : ThreadState) (w : Lval) → IsCoherent k → FewEvents k → server_at k.servers number ≡ Some s → thread_in s.threads t ≡ Some y → slice_get k.code y.pc ≡ Some (instr.BorrowMut w)
    → Gives (λ (d : Cluster × EntryView). WordsRise k d.0) (apply k (record { server = number; what = Step t }))
