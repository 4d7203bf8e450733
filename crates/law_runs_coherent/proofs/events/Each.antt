-- Each event leaves a cluster that has types.
use Rattle.std.proofs.Common.{◌≡◌, Option, Some, None, refl}
use Rattle.coherent_memory.specs.Below.fr_base.declared.name.ObjNo.{ObjNo}
use Rattle.coherent_memory.specs.Below.fr_base.declared.step.Fresh.{Fresh}
use Rattle.coherent_memory.specs.Below.fr_typing.Kinds.{Owned as OwnedType}
use Rattle.law_counts_things.specs.Below.fr_sound.Seen.{Gives as NamesGive}
use Rattle.law_counts_things.specs.Below.fr_sound.States.{Typing}
use Rattle.coherent_memory.specs.Below.fr_code.CodeTypes.{Table}
use Rattle.law_types_events.specs.Below.law_plain_values.acts.Keeps.{KeepsNames}
use Rattle.coherent_memory.specs.Below.journal.View.{EntryView}
use Rattle.coherent_memory.specs.Below.server_model.declared.event.Event.{Event}
use Rattle.coherent_memory.specs.Below.server_model.Servers.{Cluster}
use Rattle.coherent_memory.specs.Below.server_model.Clusters.{apply}
use Rattle.coherent_memory.specs.Sight.{sight}
use Rattle.coherent_memory.specs.OneHeap.{one_heap}
use Rattle.law_counts_things.specs.Below.coherent_types.Names.{names_of}
use Rattle.law_counts_things.specs.Below.coherent_types.ClusterTypes.{Types, IsCoherent, views_wrong}
use Rattle.law_counts_sums.specs.Laws.{Gives, FewEvents}
use Rattle.law_counts_sums.proofs.Results.{both_give}
use Rattle.law_types_events.proofs.Below.law_types_still.things.Undone.{undone_types}
use Rattle.law_types_events.specs.Below.law_types_still.heap.Counted.{holders_off, over_ends_wrong, sorts_wrong}
use Rattle.law_types_events.proofs.Below.law_types_still.heap.Counts.{types_follow}
use Rattle.law_types_events.specs.heap.States.{HeapKept}
use Rattle.law_types_events.proofs.heap.States.{events_keep_names}
use Rattle.law_runs_coherent.proofs.events.Ends.{ends_stay}
use Rattle.law_types_events.proofs.sorts.Each.{also, events_keep_sorts}
use Rattle.law_types_events.proofs.sorts.Views.{events_keep_views}
use Rattle.law_types_events.specs.Below.law_types_still.fits.Fits.{StandsOnce, HeapFits, outside_misfits, WholeAgrees}
use Rattle.law_types_events.proofs.Below.law_types_still.fits.Fits.{typed_heaps_fit}
use Rattle.law_types_events.proofs.Below.law_types_still.fits.Outside.{misfits_follow}
use Rattle.law_types_events.proofs.outside.Outside.{steps_fit_outside}
use Rattle.law_types_events.proofs.holders.Each.{events_keep_holders}
use Rattle.law_runs_coherent.specs.events.Types.{EventsKeepTypes, EventsStandOnce}

module _ (stand : EventsStandOnce) (k : Cluster) (e : Event) (co : IsCoherent k) (few : FewEvents k) where
  abbrev D : Type 0
  D = Cluster × EntryView

  abbrev table : Table
  table = co.types.table

  -- what laws say of the cluster afterwards
  abbrev Kept : D → Type 0
  Kept d = HeapKept table k co.types.typing d

  abbrev Held : D → Type 0
  Held d = (h : Kept d) → holders_off h.heap.typing.exact (sight d.0) ≡ 0

  abbrev Sorted : D → Type 0
  Sorted d = sorts_wrong table (sight d.0) ≡ 0

  abbrev Viewed : D → Type 0
  Viewed d = views_wrong table (sight d.0) ≡ 0

  abbrev Ended : D → Type 0
  Ended d = (after : NamesGive) → KeepsNames (one_heap k) co.types.typing.gives after → (object : ObjNo → OwnedType) → over_ends_wrong table (names_of object after) (sight d.0) ≡ 0

  abbrev Out : D → Type 0
  Out d = (names : Fresh) → d.1.done ≡ Some names → StandsOnce d.0 → (after : NamesGive) → KeepsNames (one_heap k) co.types.typing.gives after → outside_misfits (names_of co.types.object after) (sight d.0) ≡ 0

  abbrev Undone : D → Type 0
  Undone d = d.1.done ≡ None → Types d.0

  -- with a plain step
  done_types : (d : D) → (names : Fresh) → d.1.done ≡ Some names → Kept d → Held d → Sorted d → Viewed d → Ended d → StandsOnce d.0 → Out d → Types d.0
  done_types d names q kept holders sorted viewed ended once out =
      let y : Typing = kept.heap.typing in
      let fits : HeapFits table y d.0 = typed_heaps_fit d.0 once table y kept.heap.state sorted in
      let whole : WholeAgrees y d.0 fits.counts.types = misfits_follow d.0 once table y fits co.types.object (out names q once y.gives kept.names) in
      types_follow d.0 once.numbers table kept.heap.is_table y kept.heap.state fits.counts (record {
        object = whole.object;
        these = whole.these;
        agree = whole.agree;
        sorts = sorted;
        holders = holders kept;
        views = viewed;
        ends = ended y.gives kept.names whole.object;
      })

  types_then : (d : D) → (Kept d × Held d) × (Sorted d × Viewed d) → (Ended d × StandsOnce d.0) × (Out d × Undone d) → Types d.0
  types_then d a b = by d.1.done refl
    where
      by : (o : Option Fresh) → d.1.done ≡ o → Types d.0
      by None q = b.1.1 q
      by (Some names) q = done_types d names q a.0.0 a.0.1 a.1.0 a.1.1 b.0.0 b.0.1 b.1.0

  pub types_kept : Gives (λ (d : D). Types d.0) (apply k e)
  types_kept =
      let x = apply k e in
      both_give (λ (d : D). (Kept d × Held d) × (Sorted d × Viewed d)) (λ (d : D). (Ended d × StandsOnce d.0) × (Out d × Undone d)) (λ (d : D). Types d.0) x
      (also (λ (d : D). Kept d × Held d) (λ (d : D). Sorted d × Viewed d) x (also Kept Held x (events_keep_names k e co few) (events_keep_holders k e co few)) (also Sorted Viewed x (events_keep_sorts k e co few) (events_keep_views k e co few)))
      (also (λ (d : D). Ended d × StandsOnce d.0) (λ (d : D). Out d × Undone d) x (also Ended (λ (d : D). StandsOnce d.0) x (ends_stay k e co few) (stand k e co few)) (also Out Undone x (steps_fit_outside k e co few) (undone_types k e co few)))
      (λ d a b. types_then d a b)

pub keep_types : EventsStandOnce → EventsKeepTypes
keep_types stand k e co few = types_kept stand k e co few
