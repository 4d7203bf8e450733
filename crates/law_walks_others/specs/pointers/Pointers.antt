-- POINTERS OF OTHER THREADS: while one thread steps, the place that another thread follows leads where it led, over the same pointers, words included (this
-- project's rule).
use Rattle.std.specs.Prelude.{◌≡◌, ℕ, ◌≤◌}
use Rattle.law_words_values.specs.Below.fr_base.declared.place.Lval.{Lval}
use Rattle.law_words_values.specs.Below.journal.View.{EntryView}
use Rattle.law_words_values.specs.Below.server_model.declared.event.Event.{Event}
use Rattle.law_words_values.specs.Below.server_model.declared.event.What.TheVariants.{Step}
use Rattle.law_words_values.specs.Below.server_model.Servers.{Cluster}
use Rattle.law_words_values.specs.Below.server_model.Clusters.{apply}
use Rattle.law_words_values.specs.Below.coherent_memory.Names.{Among}
use Rattle.law_words_values.specs.Below.coherent_memory.Follow.{Standing, locate, hop_at}
use Rattle.law_words_values.specs.Below.coherent_memory.Sight.{Sight, sight}
use Rattle.law_words_values.specs.Below.coherent_types.ClusterTypes.{IsCoherent}
use Rattle.law_words_values.specs.Below.law_words_paths.paths.HeapStore.{GoesOn}
use Rattle.law_words_values.specs.Below.law_counts_sums.Laws.{Gives, FewEvents}
use Rattle.law_counts_waiting.specs.waits.Places.{Follows}

-- with each count of its stars the place leads in the second cluster where it led in the first, and the value there is the same, its word, its mark and its pin
-- included
abbrev pub SamePointers : Cluster → Cluster → ℕ → Lval → Type 0
SamePointers k c t w = (n : ℕ) → n ≤ w.depth → (locate (sight c).ground t w.slot n ≡ locate (sight k).ground t w.slot n) × (hop_at (sight c).ground t w n ≡ hop_at (sight k).ground t w n)

-- from a coherent cluster in which few events were done, with the messages handed over: after the step of another thread, done or not, the pointers on the way of
-- a place that a thread follows are the same
abbrev pub OthersStepsLeavePointers : Type 0
OthersStepsLeavePointers = (k : Cluster) (e : Event) (t : ℕ) → e.what ≡ Step t → IsCoherent k → FewEvents k
    → (x : Standing) (w : Lval) → GoesOn k x → (x.thread.number ≡ t → ⊥) → Follows k x w
    → Gives (λ (d : Cluster × EntryView). SamePointers k d.0 x.thread.number w) (apply k e)

-- so no other thread has something wrong then, of what is told by the pointers on its way
abbrev pub OthersStepsKeep : (Sight → Standing → ℕ) → Type 0
OthersStepsKeep wrong = (k : Cluster) (e : Event) (t : ℕ) → e.what ≡ Step t → IsCoherent k → FewEvents k
    → Gives (λ (d : Cluster × EntryView). (x : Standing) → Among x (sight d.0).ground.threads → (x.thread.number ≡ t → ⊥) → wrong (sight d.0) x ≡ 0) (apply k e)
