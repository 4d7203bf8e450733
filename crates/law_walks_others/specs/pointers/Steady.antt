-- POINTERS AFTER EVENTS IN WHICH NO OBJECT COMES OR GOES (this project's rule): each place of each thread leads where it led, over the same pointers.
use Rattle.std.specs.Prelude.{◌≡◌, ℕ}
use Rattle.law_words_values.specs.Below.fr_base.declared.place.Lval.{Lval}
use Rattle.law_words_values.specs.Below.journal.View.{EntryView}
use Rattle.law_words_values.specs.Below.server_model.declared.event.Event.{Event}
use Rattle.law_words_values.specs.Below.server_model.Servers.{Cluster}
use Rattle.law_words_values.specs.Below.server_model.Clusters.{apply}
use Rattle.law_words_values.specs.Below.coherent_memory.Follow.{locate, hop_at}
use Rattle.law_words_values.specs.Below.coherent_memory.Sight.{sight}
use Rattle.law_words_values.specs.Below.coherent_memory.Coherent.{IsSound}
use Rattle.law_counts_waiting.specs.Below.law_words_paths.words.Unmoved.{pointing}
use Rattle.law_words_values.specs.Below.law_counts_sums.Kinds.{Kind}
use Rattle.law_words_values.specs.Below.law_counts_sums.Laws.{Gives, FewEvents}
use Rattle.law_counts_waiting.specs.Below.law_words_kept.stays.Laws.{IsOfKind}
use Rattle.law_counts_waiting.specs.waits.Steady.{IsSteady}

-- with each count of its stars the place leads in the second cluster where it led in the first, and the pointer there is the same, its word and its mark included;
-- a copy may be pinned, or not any more
abbrev pub AlikePointers : Cluster → Cluster → ℕ → Lval → Type 0
AlikePointers k c t w = (n : ℕ) → (locate (sight c).ground t w.slot n ≡ locate (sight k).ground t w.slot n) × (pointing (hop_at (sight c).ground t w n) ≡ pointing (hop_at (sight k).ground t w n))

-- from a sound cluster in which few events were done, with the messages handed over: after each such event, of each thread
abbrev pub SteadyEventsLeavePointers : Type 0
SteadyEventsLeavePointers =
    (kind : Kind) → IsSteady kind → (k : Cluster) (e : Event) → IsOfKind kind k e → IsSound k → FewEvents k
    → Gives (λ (d : Cluster × EntryView). (t : ℕ) (w : Lval) → AlikePointers k d.0 t w) (apply k e)
