-- Along a run the messages that wait and the deliveries are as many as acts send.
use Rattle.std.proofs.Common.{◌≡◌, ℕ, ◌+◌, List, [], ◌∷◌, Option, Some, None, arith}
use Rattle.std.specs.Prelude.{option_map}
use Rattle.law_runs_coherent.specs.Below.journal.View.{EntryView}
use Rattle.law_runs_coherent.specs.Below.coloured_heap.Figures.{deliveries}
use Rattle.law_runs_coherent.specs.Below.coloured_heap.Sends.{all_messages}
use Rattle.law_runs_coherent.specs.Below.server_model.declared.event.Event.{Event}
use Rattle.law_runs_coherent.specs.Below.server_model.Servers.{Cluster}
use Rattle.law_runs_coherent.specs.Below.server_model.Clusters.{apply}
use Rattle.law_runs_coherent.specs.Below.coherent_memory.Sight.{sight}
use Rattle.law_runs_coherent.specs.Below.coherent_memory.Naming.{events_of}
use Rattle.law_runs_coherent.specs.Below.coherent_memory.LeftBy.{messages_of}
use Rattle.law_runs_coherent.specs.Below.coherent_types.ClusterTypes.{IsCoherent}
use Rattle.law_runs_coherent.specs.Below.law_counts_sums.Laws.{Gives, FewEvents}
use Rattle.law_runs_coherent.proofs.Below.law_counts_sums.Results.{then_gives, over_gives, given_by}
use Rattle.law_runs_coherent.specs.Below.law_counts_limits.sendings.Counting.{EventsCountMessages}
use Rattle.law_runs_whole.specs.runs.Runs.{run_of, EachKeepsCoherence}
use Rattle.law_runs_whole.proofs.runs.Counting.{one_more}
use Rattle.law_runs_whole.proofs.runs.Following.{Few}

abbrev pub Counted : Cluster → Cluster × List EntryView → Type 0
Counted k d = messages_of (sight d.0) + deliveries d.1 ≡ messages_of (sight k) + all_messages d.1

abbrev One : Cluster → Cluster × EntryView → Type 0
One k d = messages_of (sight d.0) + deliveries (d.1 ∷ []) ≡ messages_of (sight k) + all_messages (d.1 ∷ [])

first : (k : Cluster) (d : Cluster × EntryView) → One k d → (r : Cluster × List EntryView) → Counted d.0 r → Counted k (r.0, d.1 ∷ r.1)
first k d one r f = omega (arith, one, f)

pub counted : EachKeepsCoherence → EventsCountMessages → (es : List Event) (k : Cluster) → IsCoherent k → Few k es → Gives (Counted k) (run_of k es)
counted keeps counts [] k co few = omega arith
counted keeps counts (e ∷ es) k co few =
    then_gives (Counted k) (apply k e) _ (λ d q.
    let coherent : IsCoherent d.0 = given_by (λ (x : Cluster × EntryView). IsCoherent x.0) (apply k e) d (keeps k e co (omega (arith, few))) q in
    let once : events_of (sight d.0) ≡ events_of (sight k) + 1 = given_by (λ (x : Cluster × EntryView). events_of (sight x.0) ≡ events_of (sight k) + 1) (apply k e) d (one_more k e) q in
    let one : One k d = given_by (One k) (apply k e) d (counts k e co.sound (omega (arith, few))) q in
    over_gives (Counted d.0) (Counted k) (run_of d.0 es) (λ r. (r.0, d.1 ∷ r.1)) (counted keeps counts es d.0 coherent (omega (arith, once, few))) (λ r f. first k d one r f))
