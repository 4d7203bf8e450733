-- A coherent cluster that is going has a next event with a result, and runs from a start come to such clusters.
use Rattle.std.proofs.Common.{◌≡◌, List, [], ◌∷◌, length, refl, arith}
use Rattle.law_runs_whole.specs.Below.journal.View.{EntryView}
use Rattle.law_runs_whole.specs.Below.server_model.declared.event.Event.{Event}
use Rattle.law_runs_whole.specs.Below.server_model.Servers.{Cluster, start_of}
use Rattle.law_runs_whole.specs.Below.server_model.Clusters.{apply, outboxes}
use Rattle.law_runs_whole.specs.Below.law_counts_sums.Laws.{Gives}
use Rattle.law_runs_whole.proofs.Below.law_counts_sums.Results.{then_gives, over_gives, both_give, given_by}
use Rattle.law_runs_coherent.proofs.Below.law_results_events.enabled.Each.{each_event}
use Rattle.law_runs_whole.proofs.ends.Going.{going_can}
use Rattle.law_runs_whole.proofs.ends.Left.{finished_is_empty}
use Rattle.law_runs_coherent.specs.starts.Starts.{StartsAreCoherent}
use Rattle.law_runs_whole.specs.runs.Runs.{run_of, IsLed}
use Rattle.law_runs_whole.proofs.runs.Following.{runs_lead}
use Rattle.law_runs_whole.specs.going.Going.{GoingHasResult, IsOnItsWay, RunsGoOn}
use Rattle.law_runs_whole.proofs.going.Outboxes.{outboxes_stay_empty, start_outboxes}

pub going_has_result : GoingHasResult
going_has_result k co few sent e =
    let c = going_can k co.sound sent e in
    record { event = c.event; kind = c.kind; result = each_event k c.event.server c.event.what c.server co few c.there c.on }

-- ALONG A RUN

-- outboxes stay empty, and there are as many entries as events
abbrev Sent : List Event → Cluster × List EntryView → Type 0
Sent es d = (outboxes d.0.servers ≡ []) × (length d.1 ≡ length es)

follow : (es : List Event) (k : Cluster) → outboxes k.servers ≡ [] → Gives (Sent es) (run_of k es)
follow [] k z = (z, refl)
follow (e ∷ es) k z =
    then_gives (Sent (e ∷ es)) (apply k e) _ (λ d q.
    over_gives (Sent es) (Sent (e ∷ es)) (run_of d.0 es) (λ r. (r.0, d.1 ∷ r.1)) (follow es d.0 (given_by (λ (x : Cluster × EntryView). outboxes x.0.servers ≡ []) (apply k e) d (outboxes_stay_empty k e z) q)) (λ r s. (s.0, let w = s.1 in omega (arith, w))))

pub runs_go_on : StartsAreCoherent → RunsGoOn
runs_go_on starts keeps code table o es is_table within few =
    both_give IsLed (Sent es) (λ (d : Cluster × List EntryView). IsOnItsWay d.0) (run_of (start_of code o) es) (runs_lead starts keeps code table o es is_table within (omega (arith, few))) (follow es (start_of code o) (start_outboxes o)) (λ d l s. way d l s)
  where
    way : (d : Cluster × List EntryView) → IsLed d → Sent es d → IsOnItsWay d.0
    way d l s =
        let done = l.left.events in
        record { sent = s.0; next = λ e. going_has_result d.0 l.coherent (omega (arith, few, done, s.1)) s.0 e; left = λ e. finished_is_empty d.0 l.coherent.sound e }
