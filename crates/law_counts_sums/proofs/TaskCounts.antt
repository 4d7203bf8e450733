-- How many task values of each thread an event leaves: as many as there were, or one more where a thread is spawned.
use Rattle.std.proofs.Common.{◌≡◌, ℕ, Some, refl, sym, subst}
use Rattle.std.specs.Prelude.{option_map}
use Rattle.coherent_memory.specs.Below.journal.View.{EntryView}
use Rattle.coherent_memory.specs.Below.server_model.declared.event.Event.{Event}
use Rattle.coherent_memory.specs.Below.server_model.Servers.{Server, Cluster, server_at}
use Rattle.coherent_memory.specs.Below.server_model.Work.{then_some}
use Rattle.coherent_memory.specs.Below.server_model.Start.{next_thread}
use Rattle.coherent_memory.specs.Below.server_model.Clusters.{with_server, done_at, act_at}
use Rattle.coherent_memory.specs.Things.{things_of}
use Rattle.coherent_memory.specs.Coherent.{IsSound}
use Rattle.law_counts_sums.specs.Kinds.{Kind, finished, released, step_box, step_spawn, step_join, step_par, kind_of}
use Rattle.law_counts_sums.specs.Laws.{Gives, FewEvents, task_values_in, LeavesTaskValues, OthersLeaveTaskValues, SpawnsMakeOne}
use Rattle.law_counts_sums.proofs.Results.{then_gives, weaker}
use Rattle.law_counts_sums.proofs.RulesKeep.{Counted, counted_kept}
use Rattle.law_counts_sums.proofs.Sound.{sound_has_sums}
use Rattle.law_counts_sums.proofs.Each.{names_left}
use Rattle.law_counts_sums.proofs.AllKinds.{kept_leaves}
use Rattle.law_counts_sums.proofs.BoxSteps.{box_counts}
use Rattle.law_counts_sums.proofs.StartSteps.{grown, starts_count}
use Rattle.law_counts_sums.proofs.FinishSteps.{finished_keeps}

module _ (k : Cluster) (e : Event) (sound : IsSound k) (few : FewEvents k) where
  abbrev Same : Cluster × EntryView → Type 0
  Same d = Counted (task_values_in k) (things_of d.0)

  before : Counted (task_values_in k) (things_of k)
  before = record { sums = sound_has_sums k sound; tasks = λ t. refl }

  of_kind : (kind : Kind) → LeavesTaskValues kind → kind_of k e ≡ Some kind → Gives Same (act_at k e)
  of_kind finished p q = finished_keeps (counted_kept (task_values_in k)) k e q before sound.rooted.branches_give_unit sound.parts.parts_are_typed
  of_kind step_box p q = box_counts k e q (sound_has_sums k sound) sound.names.objects_made
  of_kind step_par p q = then_gives Same (server_at k.servers e.server) _ (λ s h. starts_count step_par tt k e q (sound_has_sums k sound) sound.names.names_counted (names_left k sound.names.few_names few) s h)
  of_kind step_spawn p q = absurd p
  of_kind step_join p q = absurd p
  of_kind released p q = absurd p
  of_kind kind p q = kept_leaves (counted_kept (task_values_in k)) kind tt (λ z. absurd z) k e q before

  spawned : (s : Server) → kind_of k e ≡ Some step_spawn → server_at k.servers e.server ≡ Some s → Gives (λ (d : Cluster × EntryView). Counted (grown step_spawn (next_thread s.rest) (task_values_in k)) (things_of d.0)) (act_at k e)
  spawned s q h =
      subst (λ o. Gives (λ (d : Cluster × EntryView). Counted (grown step_spawn (next_thread s.rest) (task_values_in k)) (things_of d.0)) (then_some o (λ x. option_map (λ r. (record k { servers = with_server k.servers e.server r.0 }, r.1)) (done_at k e.what x)))) (sym h)
      (starts_count step_spawn tt k e q (sound_has_sums k sound) sound.names.names_counted (names_left k sound.names.few_names few) s h)

pub others_leave_task_values : OthersLeaveTaskValues
others_leave_task_values k e kind q p sound few =
    weaker (λ (d : Cluster × EntryView). Counted (task_values_in k) (things_of d.0)) (λ (d : Cluster × EntryView). (t : ℕ) → task_values_in d.0 t ≡ task_values_in k t) (act_at k e) (of_kind k e sound few kind p q) (λ d g. g.tasks)

pub spawns_make_one : SpawnsMakeOne
spawns_make_one k e s q h sound few =
    weaker (λ (d : Cluster × EntryView). Counted (grown step_spawn (next_thread s.rest) (task_values_in k)) (things_of d.0)) _ (act_at k e) (spawned k e sound few s q h) (λ d g. g.tasks)
