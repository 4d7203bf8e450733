-- RUNS OF EVENTS, one after another, each with its messages handed over (this project's rule).
use Rattle.std.specs.Prelude.{◌≡◌, ◌+◌, ◌<◌, ◌^◌, ℕ, true, List, [], ◌∷◌, length, take, Option, Some, None, option_map}
use Rattle.law_runs_coherent.specs.Below.fr_base.declared.instruction.Instr.{Instr}
use Rattle.law_runs_coherent.specs.Below.fr_base.declared.settings.Options.{Options}
use Rattle.law_runs_coherent.specs.Below.fr_code.CodeTypes.{Table}
use Rattle.law_runs_coherent.specs.Below.fr_code.CodeTable.{IsTable}
use Rattle.law_runs_coherent.specs.Below.journal.View.{EntryView}
use Rattle.law_runs_coherent.specs.Below.journal.Journals.{order, labels, prints}
use Rattle.law_runs_coherent.specs.Below.coloured_heap.Heap.{Coloured}
use Rattle.law_runs_coherent.specs.Below.coloured_heap.Legal.{entry_after}
use Rattle.law_runs_coherent.specs.Below.coloured_heap.Reach.{is_reached}
use Rattle.law_runs_coherent.specs.Below.coloured_heap.Sends.{all_messages}
use Rattle.law_runs_coherent.specs.Below.coloured_heap.Figures as figures
use Rattle.law_runs_coherent.specs.Below.server_model.declared.event.Event.{Event}
use Rattle.law_runs_coherent.specs.Below.server_model.Servers.{Cluster, start_of}
use Rattle.law_runs_coherent.specs.Below.server_model.Work.{then_some}
use Rattle.law_runs_coherent.specs.Below.server_model.Clusters.{apply}
use Rattle.law_runs_coherent.specs.Below.coherent_memory.Sight.{sight}
use Rattle.law_runs_coherent.specs.Below.coherent_memory.Naming.{options_out, events_of}
use Rattle.law_runs_coherent.specs.Below.coherent_memory.OneHeap.{one_heap}
use Rattle.law_runs_coherent.specs.Below.coherent_memory.Colours.{StandsColoured}
use Rattle.law_runs_coherent.specs.Below.coherent_memory.LeftBy.{LeadsTo, RunsWith, messages_of}
use Rattle.law_runs_coherent.specs.Below.coherent_types.ClusterTypes.{IsCoherent}
use Rattle.law_runs_coherent.specs.Below.law_counts_sums.Laws.{Gives, FewEvents}
use Rattle.code_meaning.specs.Runs.{run}
use Rattle.code_meaning.specs.OneHeap.{plain_run}
use Rattle.code_meaning.specs.Laws.{HasPrinted}
use Rattle.code_meaning.specs.LeftByItsCode.{LeftByItsCode}

-- the cluster after these events, with the entries that they wrote; None where one of them has no result
abbrev pub run_of : Cluster → List Event → Option (Cluster × List EntryView)
run_of k [] = Some (k, [])
run_of k (e ∷ es) = then_some (apply k e) (λ d. option_map (λ r. (r.0, d.1 ∷ r.1)) (run_of d.0 es))

-- each event leaves a coherent cluster, in which few were done, coherent
abbrev pub EachKeepsCoherence : Type 0
EachKeepsCoherence = (k : Cluster) (e : Event) → IsCoherent k → FewEvents k → Gives (λ (d : Cluster × EntryView). IsCoherent d.0) (apply k e)

-- the cluster is left by the journal as far as plain steps go: nothing is said of words, copies and messages
pub record PlainlyLeft (k : Cluster) (es : List EntryView) : Type 0 where
  -- the plain run of the code under the journal's order is there; its state is the cluster's one heap, and its labels are the journal's
  pub plain : LeadsTo (plain_run k.code) (order es) (one_heap k) (labels es)
  -- and so is that under each beginning of it
  pub labelled : (n : ℕ) → RunsWith (plain_run k.code) (take n es)
  -- it printed what the journal prints
  pub printed : HasPrinted (run k.code (order es)) (prints es)
  -- the cluster has done as many events as the journal has entries
  pub events : events_of (sight k) ≡ figures.events es

-- where a run leads
pub record IsLed (d : Cluster × List EntryView) : Type 0 where
  pub coherent : IsCoherent d.0
  pub left : PlainlyLeft d.0 d.1

-- an event without a `done` has no labels
abbrev pub UndoneUnlabelled : Type 0
UndoneUnlabelled = (k : Cluster) (e : Event) → Gives (λ (d : Cluster × EntryView). d.1.done ≡ None → d.1.labels ≡ []) (apply k e)

-- where each event keeps coherence, few events from the start of a code with a table, under options in their ranges, lead to a coherent cluster, which is plainly left
abbrev pub RunsLead : Type 0
RunsLead = EachKeepsCoherence → (code : List Instr) (table : Table) (o : Options) (es : List Event) → IsTable code table → options_out o ≡ 0 → length es < 2 ^ 31 → Gives IsLed (run_of (start_of code o) es)

-- THE WHOLE OF WHAT A JOURNAL LEAVES

-- from a state of the coloured heap the entry is legal, reaches what it loads and stores, and leads to a state that the cluster stands for
pub record LeadsOn (o : Options) (s : Coloured) (d : Cluster × EntryView) : Type 0 where
  pub state : Coloured
  pub legal : entry_after o s d.1 ≡ Some state
  pub stands : StandsColoured d.0 state
  pub reached : is_reached o s d.1 ≡ true

-- what is asked of events one by one, from coherent clusters in which few were done
pub record EachEventIsRight : Type 0 where
  pub keeps : EachKeepsCoherence
  -- the entry of each leads on from each coloured heap that the cluster stands for
  pub leads : (k : Cluster) (e : Event) → IsCoherent k → FewEvents k → (s : Coloured) → StandsColoured k s → Gives (LeadsOn k.options s) (apply k e)
  -- the messages that wait afterwards, and the one that it delivers, are together as many as those that waited before and those that its acts send
  pub counts : (k : Cluster) (e : Event) → IsCoherent k → FewEvents k
      → Gives (λ (d : Cluster × EntryView). messages_of (sight d.0) + figures.deliveries (d.1 ∷ []) ≡ messages_of (sight k) + all_messages (d.1 ∷ [])) (apply k e)

-- where each event is right, few events from the start of a code with a table, under options in their ranges, lead to a coherent cluster that is left by its code
abbrev pub RunsAreLeft : Type 0
RunsAreLeft =
    EachEventIsRight → (code : List Instr) (table : Table) (o : Options) (es : List Event) → IsTable code table → options_out o ≡ 0 → length es < 2 ^ 31
    → Gives (λ (d : Cluster × List EntryView). IsCoherent d.0 × LeftByItsCode d.0 d.1) (run_of (start_of code o) es)
