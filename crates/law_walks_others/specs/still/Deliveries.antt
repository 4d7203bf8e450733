-- EVENTS IN WHICH NO OBJECT COMES AND NO THREAD STEPS (this project's rule): a copy goes, a thread leaves, and each delivery of a message but that of a `moved`.
use Rattle.std.specs.Bool.{⊤}
use Rattle.law_walks_others.specs.Below.journal.View.{EntryView}
use Rattle.law_walks_others.specs.Below.server_model.declared.event.Event.{Event}
use Rattle.law_walks_others.specs.Below.server_model.Servers.{Cluster}
use Rattle.law_walks_others.specs.Below.server_model.Clusters.{apply}
use Rattle.law_walks_others.specs.Below.coherent_memory.Coherent.{Sentence, Holds}
use Rattle.law_walks_others.specs.Below.law_counts_sums.Kinds.{Kind, evicts, migrates, starts, arrives, fetch, fetched, moving, drop, asks_lock, granted, unlocked, asks_dup, dupped, released, asks_join, joined, finished}
use Rattle.law_walks_others.specs.Below.law_counts_sums.Laws.{Gives, FewEvents}
use Rattle.law_walks_others.specs.Below.law_words_kept.stays.Laws.{IsOfKind}
use Rattle.law_walks_others.specs.Below.coherent_types.ClusterTypes.{IsCoherent}

abbrev pub BringsNoObject : Kind → Type 0
BringsNoObject evicts = ⊤
BringsNoObject migrates = ⊤
BringsNoObject starts = ⊤
BringsNoObject arrives = ⊤
BringsNoObject fetch = ⊤
BringsNoObject fetched = ⊤
BringsNoObject moving = ⊤
BringsNoObject drop = ⊤
BringsNoObject asks_lock = ⊤
BringsNoObject granted = ⊤
BringsNoObject unlocked = ⊤
BringsNoObject asks_dup = ⊤
BringsNoObject dupped = ⊤
BringsNoObject released = ⊤
BringsNoObject asks_join = ⊤
BringsNoObject joined = ⊤
BringsNoObject finished = ⊤
BringsNoObject kind = ⊥

-- such an event from a coherent cluster in which few events were done, with its messages handed over, keeps the sentence
abbrev pub EachSuchEventKeeps : Sentence → Type 0
EachSuchEventKeeps sentence =
    (kind : Kind) → BringsNoObject kind → (k : Cluster) (e : Event) → IsOfKind kind k e → IsCoherent k → FewEvents k
    → Gives (λ (d : Cluster × EntryView). Holds d.0 sentence) (apply k e)
