-- A run is as short as its events cost, and its threads.
use Rattle.std.proofs.Common.{◌≡◌, ◌≤◌, ℕ, zero, suc, ◌+◌, ◌*◌, List, [], ◌∷◌, length, Option, Some, None, refl, arith}
use Rattle.law_runs_coherent.specs.Below.fr_base.Lists.{tot}
use Rattle.law_runs_coherent.specs.Below.fr_base.declared.settings.Options.{Options}
use Rattle.law_runs_coherent.specs.Below.journal.View.{EntryView}
use Rattle.law_runs_coherent.specs.Below.server_model.declared.event.Event.{Event}
use Rattle.law_runs_coherent.specs.Below.server_model.Servers.{Server, Cluster, empty_servers, with_main}
use Rattle.law_runs_coherent.specs.Below.server_model.Clusters.{apply}
use Rattle.law_runs_coherent.specs.Below.law_counts_sums.Laws.{Gives}
use Rattle.law_runs_coherent.proofs.Below.law_counts_sums.Results.{bind_gives, over_gives}
use Rattle.law_length_runs.specs.worth.Credit.{server_worth, credit, begun}
use Rattle.law_length_runs.specs.worth.Spending.{cost, After, one_more, after_all, StartsWithLittle, RunsAreShort}
use Rattle.law_length_runs.proofs.worth.Events.{events_spend}

-- servers without a thread are worth nothing, and have started none
record Nothing_there (ss : List Server) : Type 0 where
  worth_none : tot server_worth ss ≡ 0
  none_begun : tot (λ (s : Server). s.rest.started) ss ≡ 0

nothing_there : (o : Options) (s n : ℕ) → Nothing_there (empty_servers o s n)
nothing_there o s zero = record { worth_none = refl; none_begun = refl }
nothing_there o s (suc n) = let rest = nothing_there o (s + 1) n in record { worth_none = omega (arith, rest.worth_none); none_begun = omega (arith, rest.none_begun) }

with_one : (ss : List Server) → Nothing_there ss → (tot server_worth (with_main ss) ≤ 2) × (tot (λ (s : Server). s.rest.started) (with_main ss) ≡ 0)
with_one [] g = (omega arith, refl)
with_one (s ∷ ss) g = (omega (arith, g.worth_none), omega (arith, g.none_begun))

pub starts_with_little : StartsWithLittle
starts_with_little code o = with_one (empty_servers o 0 o.servers) (nothing_there o 0 o.servers)

-- events from any cluster
spent : (es : List Event) (k : Cluster) → Gives (λ (x : After). credit x.cluster + 5 * begun k + length x.journal ≤ credit k + 5 * begun x.cluster + x.costs) (after_all es k)
spent [] k = omega arith
spent (e ∷ es) k =
    bind_gives (λ (d : Cluster × EntryView). credit d.0 + 5 * begun k + 1 ≤ credit k + 5 * begun d.0 + cost k e) (λ (x : After). credit x.cluster + 5 * begun k + length x.journal ≤ credit k + 5 * begun x.cluster + x.costs) (apply k e) _
    (events_spend k e) (λ d a.
    over_gives (λ (x : After). credit x.cluster + 5 * begun d.0 + length x.journal ≤ credit d.0 + 5 * begun x.cluster + x.costs) (λ (x : After). credit x.cluster + 5 * begun k + length x.journal ≤ credit k + 5 * begun x.cluster + x.costs) (after_all es d.0) (one_more d.1 (cost k e))
    (spent es d.0) (λ x b. omega (arith, a, b)))

pub runs_are_short : RunsAreShort
runs_are_short code o es =
    let start = starts_with_little code o in
    let k : Cluster = Rattle.law_runs_coherent.specs.Below.server_model.Servers.start_of code o in
    over k (after_all es k) (spent es k) start.0 start.1
  where
    over : (k : Cluster) (x : Option After) → Gives (λ (x : After). credit x.cluster + 5 * begun k + length x.journal ≤ credit k + 5 * begun x.cluster + x.costs) x → credit k ≤ 2 → begun k ≡ 0
        → Gives (λ (x : After). length x.journal ≤ x.costs + 5 * begun x.cluster + 2) x
    over k None g a b = tt
    over k (Some x) g a b = omega (arith, g, a, b)
