-- PLACES OF OTHER THREADS: while one thread steps, or a message is delivered, the place that another thread follows leads where it led (this project's rule).
use Rattle.std.specs.Prelude.{◌≡◌, ℕ, ◌≤◌, None, Some}
use Rattle.law_counts_asking.specs.Below.fr_base.declared.place.Lval.{Lval}
use Rattle.law_counts_asking.specs.Below.fr_base.declared.instruction.Instr.{Instr}
use Rattle.law_counts_asking.specs.Below.mut_borrow.declared.mutable.MutRef.{MutRef}
use Rattle.law_counts_asking.specs.Below.journal.View.{EntryView}
use Rattle.law_counts_asking.specs.Below.server_model.declared.event.Event.{Event}
use Rattle.law_counts_asking.specs.Below.server_model.declared.event.What.TheVariants.{Step}
use Rattle.law_counts_asking.specs.Below.server_model.Servers.{Cluster}
use Rattle.law_counts_asking.specs.Below.server_model.Clusters.{apply}
use Rattle.law_counts_asking.specs.Below.coherent_memory.Follow.{Standing, locate}
use Rattle.law_counts_asking.specs.Below.coherent_memory.Paths.{ends}
use Rattle.law_counts_asking.specs.Below.coherent_memory.Sight.{sight}
use Rattle.law_counts_asking.specs.Below.coherent_memory.Walking.{instr_of, path}
use Rattle.law_counts_asking.specs.Below.coherent_types.ClusterTypes.{IsCoherent}
use Rattle.law_counts_asking.specs.Below.law_words_paths.paths.HeapStore.{GoesOn}
use Rattle.law_counts_asking.specs.Below.law_words_paths.paths.Pointing.{WritesTo}
use Rattle.law_words_asked.specs.Below.law_words_kept.reads.Reading.{Reads}
use Rattle.law_counts_asking.specs.Below.law_counts_sums.Laws.{Gives, FewEvents}

-- the place that a thread follows at its instruction: it reads it, all its stars or those before the pointer that it borrows from, or writes it, or it is that
-- of the holder of a reference that ends
pub data Follows (k : Cluster) (x : Standing) : Lval → Type 0 where
  reads : {w : Lval} (i : Instr) (n : ℕ) → instr_of (sight k) x ≡ Some i → Reads i w n → Follows k x w
  writes : {w : Lval} (i : Instr) → instr_of (sight k) x ≡ Some i → WritesTo i w → Follows k x w
  ends_at : {w : Lval} (r : MutRef) → path (sight k) x ≡ ends r → r.holder ≡ w → Follows k x w

-- the place leads in the second cluster where it led in the first, with each count of its stars
abbrev pub LeadsAsItDid : Cluster → Cluster → ℕ → Lval → Type 0
LeadsAsItDid k c t w = (n : ℕ) → n ≤ w.depth → locate (sight c).ground t w.slot n ≡ locate (sight k).ground t w.slot n

-- from a coherent cluster in which few events were done, with the messages handed over: after an event other than the step of its own thread, the place that a
-- thread follows leads where it led
abbrev pub OthersLeavePlaces : Type 0
OthersLeavePlaces = (k : Cluster) (e : Event) → IsCoherent k → FewEvents k
    → (x : Standing) (w : Lval) → GoesOn k x → (e.what ≡ Step x.thread.number → ⊥) → Follows k x w
    → Gives (λ (d : Cluster × EntryView). LeadsAsItDid k d.0 x.thread.number w) (apply k e)

-- and so does each place of whatever thread that goes on, its own too, after an event without a plain step
abbrev pub UndoneLeavePlaces : Type 0
UndoneLeavePlaces = (k : Cluster) (e : Event) → IsCoherent k → FewEvents k → (x : Standing) (w : Lval) → GoesOn k x
    → Gives (λ (d : Cluster × EntryView). d.1.done ≡ None → LeadsAsItDid k d.0 x.thread.number w) (apply k e)
