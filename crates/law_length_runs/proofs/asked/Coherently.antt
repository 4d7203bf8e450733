-- Each cluster of a run from the start of a code is coherent, so that its driven journal is short.
use Rattle.std.proofs.Common.{◌≡◌, ◌≤◌, ◌<◌, ℕ, ◌+◌, ◌*◌, ◌^◌, true, List, [], ◌∷◌, length, Option, Some, None, arith}
use Rattle.std.specs.Prelude.{option_map}
use Rattle.law_runs_whole.specs.Below.journal.View.{EntryView}
use Rattle.law_runs_whole.specs.Below.coloured_heap.Driven.{is_driven}
use Rattle.law_runs_whole.specs.Below.server_model.declared.event.Event.{Event}
use Rattle.law_runs_whole.specs.Below.server_model.Servers.{Cluster, start_of}
use Rattle.law_runs_whole.specs.Below.server_model.Work.{then_some}
use Rattle.law_runs_whole.specs.Below.server_model.Clusters.{apply}
use Rattle.law_runs_whole.specs.Below.coherent_memory.Sight.{sight}
use Rattle.law_runs_whole.specs.Below.coherent_memory.Naming.{events_of}
use Rattle.law_runs_whole.specs.Below.law_counts_things.Below.coherent_types.ClusterTypes.{IsCoherent}
use Rattle.law_runs_coherent.specs.starts.Starts.{StartsAreCoherent}
use Rattle.law_runs_whole.specs.Below.law_counts_sums.Laws.{Gives, FewEvents}
use Rattle.law_runs_whole.proofs.Below.law_counts_sums.Results.{both_give, over_gives}
use Rattle.law_runs_whole.proofs.Below.law_counts_sums.KnownSound.{servers_between}
use Rattle.law_runs_whole.proofs.Below.code_meaning.StartLeft.{starts_left}
use Rattle.law_runs_whole.specs.runs.Runs.{run_of, EachKeepsCoherence}
use Rattle.law_runs_whole.proofs.runs.Counting.{one_more}
use Rattle.law_length_runs.specs.worth.Spending.{cost, After, after_all}
use Rattle.law_length_runs.specs.worth.Spending as spending
use Rattle.law_length_runs.specs.worth.Driving.{plain_steps}
use Rattle.law_length_runs.specs.asked.Resting.{threads_in}
use Rattle.law_length_runs.specs.asked.Asking.{AreCoherent}
use Rattle.law_length_runs.proofs.asked.Runs.{runs_end}
use Rattle.law_length_runs.specs.asked.Code.{DrivenRunsOfCodeAreShort}

-- where each event keeps coherence, each cluster on the way is coherent
are_coherent : EachKeepsCoherence → (es : List Event) (k : Cluster) → IsCoherent k → events_of (sight k) + length es < 2 ^ 31 → AreCoherent es k
are_coherent keeps [] k co few = co
are_coherent keeps (e ∷ es) k co few =
    let less : FewEvents k = omega (arith, few) in (
      (co, less),
      both_give (λ (d : Cluster × EntryView). IsCoherent d.0) (λ (d : Cluster × EntryView). events_of (sight d.0) ≡ events_of (sight k) + 1) (λ (d : Cluster × EntryView). AreCoherent es d.0) (apply k e) (keeps k e co less) (one_more k e)
          (λ d a b. are_coherent keeps es d.0 a (omega (arith, b, few))),
    )

-- what is so of a cluster and its journal after some events, whatever they cost, is so of the run
abbrev Told : (Cluster × List EntryView → Type 0) → After → Type 0
Told P x = P (x.cluster, x.journal)

-- with one entry more
abbrev Later : (Cluster × List EntryView → Type 0) → EntryView → Cluster × List EntryView → Type 0
Later P v r = P (r.0, v ∷ r.1)

later : (P : Cluster × List EntryView → Type 0) (v : EntryView) (c : ℕ) (o : Option After) → Gives (Told P) (option_map (spending.one_more v c) o) → Gives (Told (Later P v)) o
later P v c None g = tt
later P v c (Some x) g = g

same_run : (P : Cluster × List EntryView → Type 0) (es : List Event) (k : Cluster) → Gives (Told P) (after_all es k) → Gives P (run_of k es)
same_run P [] k g = g
same_run P (e ∷ es) k g = by (apply k e) (λ v d h. same_run (Later P v) es d h) g
  where
    by : (o : Option (Cluster × EntryView)) → ((v : EntryView) (d : Cluster) → Gives (Told (Later P v)) (after_all es d) → Gives (Later P v) (run_of d es))
        → Gives (Told P) (then_some o (λ d. option_map (spending.one_more d.1 (cost k e)) (after_all es d.0))) → Gives P (then_some o (λ d. option_map (λ r. (r.0, d.1 ∷ r.1)) (run_of d.0 es)))
    by None go h = tt
    by (Some d) go h = over_gives (Later P d.1) P (run_of d.0 es) (λ r. (r.0, d.1 ∷ r.1)) (go d.1 d.0 (later P d.1 (cost k e) (after_all es d.0) h)) (λ r a. a)

pub driven_runs_of_code_are_short : StartsAreCoherent → DrivenRunsOfCodeAreShort
driven_runs_of_code_are_short starts keeps p code table o es is_table within few =
    let co = starts code table o is_table within in
    let left = starts_left code o (servers_between (start_of code o) co.sound).0 in
    let none : events_of (sight (start_of code o)) ≡ 0 = left.events in
    same_run (λ (d : Cluster × List EntryView). is_driven o d.1 ≡ true → length d.1 ≤ 100 * (plain_steps d.1 + threads_in d.1)) es (start_of code o) (runs_end p code o es (are_coherent keeps es (start_of code o) co (omega (arith, none, few))))
