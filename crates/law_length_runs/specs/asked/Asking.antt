-- HOW OFTEN THREADS ASK, AND SO HOW LONG A RUN GETS (this project's rules): what single events do to the number of asks that a thread has left bounds whole runs.
use Rattle.std.specs.Prelude.{◌≡◌, ◌≤◌, ℕ, ◌+◌, ◌*◌, true, List, [], ◌∷◌, length, None}
use Rattle.law_runs_whole.specs.Below.law_counts_things.Below.fr_base.declared.instruction.Instr.{Instr}
use Rattle.law_runs_whole.specs.Below.law_counts_things.Below.fr_base.declared.settings.Options.{Options}
use Rattle.law_runs_whole.specs.Below.journal.View.{EntryView}
use Rattle.law_runs_whole.specs.Below.coloured_heap.Driven.{is_driven}
use Rattle.law_runs_whole.specs.Below.server_model.declared.event.Event.{Event}
use Rattle.law_runs_whole.specs.Below.server_model.declared.event.What.TheVariants.{Step}
use Rattle.law_runs_whole.specs.Below.server_model.Servers.{Cluster, start_of}
use Rattle.law_runs_whole.specs.Below.server_model.Clusters.{apply}
use Rattle.law_runs_whole.specs.Below.law_counts_sums.Laws.{Gives, FewEvents}
use Rattle.law_runs_whole.specs.Below.law_counts_things.Below.coherent_types.ClusterTypes.{IsCoherent}
use Rattle.law_length_runs.specs.worth.Spending.{After, after_all}
use Rattle.law_length_runs.specs.worth.Driving.{steps_in, plain_steps}
use Rattle.law_length_runs.specs.asked.Resting.{threads_in}

-- how many asks each thread has left before a step of it is done, told of single events from a coherent cluster to a coherent one: at most so many, one less where
-- its step asks, and no more where it doesn't step
pub record AsksLeft (most : ℕ) : Type 0 where
  pub left : Cluster → ℕ → ℕ
  pub few : (k : Cluster) (t : ℕ) → IsCoherent k → left k t ≤ most
  pub asks : (k : Cluster) (e : Event) (t : ℕ) → e.what ≡ Step t → IsCoherent k → FewEvents k → Gives (λ (d : Cluster × EntryView). IsCoherent d.0 → d.1.done ≡ None → left d.0 t + 1 ≤ left k t) (apply k e)
  pub stays : (k : Cluster) (e : Event) (t : ℕ) → (e.what ≡ Step t → ⊥) → IsCoherent k → FewEvents k → Gives (λ (d : Cluster × EntryView). IsCoherent d.0 → left d.0 t ≤ left k t) (apply k e)

-- each cluster on the way of some events is coherent, and few events were done in it
abbrev pub AreCoherent : List Event → Cluster → Type 0
AreCoherent [] k = IsCoherent k
AreCoherent (e ∷ es) k = (IsCoherent k × FewEvents k) × Gives (λ (d : Cluster × EntryView). AreCoherent es d.0) (apply k e)

-- then the steps of a driven run are few, done or not: one more than those for each plain step, and so many for each thread
abbrev pub StepsAreFew : Type 0
StepsAreFew =
    (most : ℕ) → AsksLeft most → (code : List Instr) (o : Options) (es : List Event) → AreCoherent es (start_of code o)
    → Gives (λ (x : After). is_driven o x.journal ≡ true → steps_in es ≤ (most + 1) * plain_steps x.journal + most * threads_in x.journal) (after_all es (start_of code o))

-- and with at most twenty asks the run has at most a hundred entries for each plain step and thread
abbrev pub RunsEnd : Type 0
RunsEnd =
    AsksLeft 20 → (code : List Instr) (o : Options) (es : List Event) → AreCoherent es (start_of code o)
    → Gives (λ (x : After). is_driven o x.journal ≡ true → length x.journal ≤ 100 * (plain_steps x.journal + threads_in x.journal)) (after_all es (start_of code o))
