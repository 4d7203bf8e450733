-- WALKS AFTER A STEP (this project's rule): what the thread that stepped has passed lies at its server, what it has followed is at hand, and it waits in turn.
use Rattle.std.specs.Prelude.{◌≡◌, ℕ}
use Rattle.law_walks_others.specs.Below.journal.View.{EntryView}
use Rattle.law_walks_others.specs.Below.server_model.declared.event.Event.{Event}
use Rattle.law_walks_others.specs.Below.server_model.declared.event.What.TheVariants.{Step}
use Rattle.law_walks_others.specs.Below.server_model.Servers.{Cluster}
use Rattle.law_walks_others.specs.Below.server_model.Clusters.{apply}
use Rattle.law_walks_others.specs.Below.coherent_memory.Names.{Among}
use Rattle.law_walks_others.specs.Below.coherent_memory.Follow.{Standing}
use Rattle.law_walks_others.specs.Below.coherent_memory.Sight.{Sight, sight}
use Rattle.law_walks_others.specs.Below.coherent_memory.Coherent.{Sentence, Holds}
use Rattle.law_walks_others.specs.Below.coherent_types.ClusterTypes.{IsCoherent}
use Rattle.law_walks_others.specs.Below.law_counts_sums.Laws.{Gives, FewEvents}

-- from a coherent cluster in which few events were done, with the messages handed over: after the step of a thread, done or not, it has nothing wrong of that kind
abbrev pub OwnStepsKeep : (Sight → Standing → ℕ) → Type 0
OwnStepsKeep wrong = (k : Cluster) (e : Event) (t : ℕ) → e.what ≡ Step t → IsCoherent k → FewEvents k
    → Gives (λ (d : Cluster × EntryView). (x : Standing) → Among x (sight d.0).ground.threads → x.thread.number ≡ t → wrong (sight d.0) x ≡ 0) (apply k e)

-- and the sentence holds, of all threads
abbrev pub StepsKeep : Sentence → Type 0
StepsKeep sentence = (k : Cluster) (e : Event) (t : ℕ) → e.what ≡ Step t → IsCoherent k → FewEvents k → Gives (λ (d : Cluster × EntryView). Holds d.0 sentence) (apply k e)
