-- EVENTS IN WHICH NO OBJECT COMES OR GOES AND NO POINTER GETS ANOTHER WORD (this project's rule): a copy goes, a thread leaves, comes or starts, a copy is served
-- and filled, a mutex is asked for, granted and given back, a share of it is asked for and comes, a share or a task is let go, a result is asked for and comes, a
-- home is told that a thread has ended; and prints, arithmetic and the end of a pair.
use Rattle.std.specs.Prelude.{⊤}
use Rattle.law_counts_asking.specs.Below.journal.View.{EntryView}
use Rattle.law_counts_asking.specs.Below.server_model.declared.event.Event.{Event}
use Rattle.law_counts_asking.specs.Below.server_model.Servers.{Cluster}
use Rattle.law_counts_asking.specs.Below.server_model.Clusters.{apply}
use Rattle.law_counts_asking.specs.Below.coherent_memory.Coherent.{Sentence, Holds, IsSound}
use Rattle.law_counts_asking.specs.Below.law_counts_sums.Kinds.{Kind, evicts, migrates, starts, arrives, fetch, fetched, asks_lock, granted, unlocked, asks_dup, dupped, released, asks_join, joined, finished, step_print, step_arith, step_par_end}
use Rattle.law_counts_asking.specs.Below.law_counts_sums.Laws.{Gives, FewEvents}
use Rattle.law_words_asked.specs.Below.law_words_kept.stays.Laws.{IsOfKind}

abbrev pub IsSteady : Kind → Type 0
IsSteady evicts = ⊤
IsSteady migrates = ⊤
IsSteady starts = ⊤
IsSteady arrives = ⊤
IsSteady fetch = ⊤
IsSteady fetched = ⊤
IsSteady asks_lock = ⊤
IsSteady granted = ⊤
IsSteady unlocked = ⊤
IsSteady asks_dup = ⊤
IsSteady dupped = ⊤
IsSteady released = ⊤
IsSteady asks_join = ⊤
IsSteady joined = ⊤
IsSteady finished = ⊤
IsSteady step_print = ⊤
IsSteady step_arith = ⊤
IsSteady step_par_end = ⊤
IsSteady kind = ⊥

-- such an event from a sound cluster in which few events were done, with its messages handed over, keeps the sentence
abbrev pub EachSteadyEventKeeps : Sentence → Type 0
EachSteadyEventKeeps sentence =
    (kind : Kind) → IsSteady kind → (k : Cluster) (e : Event) → IsOfKind kind k e → IsSound k → FewEvents k
    → Gives (λ (d : Cluster × EntryView). Holds d.0 sentence) (apply k e)
