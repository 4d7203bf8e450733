-- Each event leaves a cluster whose one heap is typed: one plain step keeps types, and else it is as it was.
use Rattle.std.proofs.Common.{◌≡◌, ℕ, length, option_map, Option, Some, None, refl, sym, ap₂, subst, ◌∙◌}
use Rattle.std.proofs.Math.Path.{fun_ext}
use Rattle.law_types_still.specs.Below.fr_base.declared.step.Fresh.{Fresh}
use Rattle.law_types_still.specs.Below.fr_plain.PlainState.{SameState, plain_state}
use Rattle.law_types_still.specs.Below.fr_code.CodeTable.{IsTable}
use Rattle.law_types_still.specs.Below.fr_code.Machine.{CodeState}
use Rattle.law_types_still.specs.Below.fr_code.TableStates.{CodeStateTypes}
use Rattle.law_types_still.proofs.Below.law_plain_values.acts.Done.{names_stay}
use Rattle.law_heap_writes.proofs.Below.law_plain_threads.steps.CodeSteps.{shown_steps_keep_types}
use Rattle.law_types_still.specs.Below.journal.View.{EntryView}
use Rattle.law_types_still.specs.Below.server_model.declared.event.Event.{Event}
use Rattle.law_types_still.specs.Below.server_model.Servers.{Server, Cluster, server_at}
use Rattle.law_types_still.specs.Below.server_model.Work.{then_some}
use Rattle.law_types_still.specs.Below.server_model.Clusters.{hand_over_newer, done_at, apply}
use Rattle.law_types_still.specs.Below.coherent_memory.Coherent.{Holds, names_counted, counts_from_one, over_are_bare}
use Rattle.law_types_still.specs.Below.coherent_memory.OneHeap.{one_heap}
use Rattle.law_types_still.specs.Below.coherent_types.ClusterTypes.{IsCoherent}
use Rattle.law_counts_limits.specs.Below.law_counts_sums.Laws.{Gives, FewEvents, NumbersDiffer}
use Rattle.law_counts_limits.proofs.Below.law_counts_sums.Results.{map_gives, both_give, weaker}
use Rattle.law_counts_limits.proofs.Below.law_counts_sums.Sending.{applied_part}
use Rattle.law_counts_limits.proofs.Below.law_counts_things.things.Bare.{bare_kept}
use Rattle.law_counts_limits.proofs.Below.law_counts_things.names.Sentences.{names_kept, counts_kept}
use Rattle.law_heap_writes.specs.Below.law_heap_steps.turns.Turns.{StepsTo}
use Rattle.law_heap_writes.specs.writes.Every.{IsStepOrStill}
use Rattle.law_heap_writes.proofs.writes.Every.{each_is}
use Rattle.law_types_still.specs.heap.Counted.{HasNumbers}
use Rattle.law_types_events.specs.heap.States.{HeapTyped, HeapKept, EventsKeepState, EventsKeepNames}
use Rattle.law_types_still.proofs.heap.Wholes.{heaps_are_whole}
use Rattle.law_types_still.proofs.heap.Counts.{typed_heaps_count}

-- states that show the same are the same
same_is : (a b : CodeState) → SameState a b → a ≡ b
same_is a b h =
    ap₂ (λ f g. (let s : CodeState = record a { thread = f; made = g } in s)) (fun_ext h.threads) (fun_ext h.made)
    ∙ ap₂ (λ f g. (let s : CodeState = record b { pair = f; object = g; mutex = a.mutex; is_given = a.is_given } in s)) (fun_ext h.pairs) (fun_ext h.objects)
    ∙ ap₂ (λ f g. (let s : CodeState = record b { mutex = f; is_given = g } in s)) (fun_ext h.mutexes) (fun_ext h.given)

-- an event changes no code
code_kept : (k : Cluster) (e : Event) → Gives (λ (d : Cluster × EntryView). d.0.code ≡ k.code) (apply k e)
code_kept k e = by (server_at k.servers e.server)
  where
    by : (o : Option Server) → Gives (λ (d : Cluster × EntryView). d.0.code ≡ k.code) (then_some o (λ s. option_map (λ (x : Server × EntryView). (record k { servers = hand_over_newer e.server (length s.rest.outbox) x.0 k.servers }, x.1)) (done_at k e.what s)))
    by None = tt
    by (Some s) =
        map_gives (λ (d : Cluster × EntryView). d.0.code ≡ k.code) (done_at k e.what s) (λ (x : Server × EntryView). (record k { servers = hand_over_newer e.server (length s.rest.outbox) x.0 k.servers }, x.1)) (λ a f. refl)

also : {X : Type 0} (P Q : X → Type 0) (x : Option X) → Gives P x → Gives Q x → Gives (λ a. P a × Q a) x
also P Q x p q = both_give P Q (λ a. P a × Q a) x p q (λ a b d. (b, d))

-- each event keeps what threads are found by
numbers_kept : (k : Cluster) (e : Event) → IsCoherent k → FewEvents k → Gives (λ (d : Cluster × EntryView). HasNumbers d.0) (apply k e)
numbers_kept k e co few =
    let names = also (λ (d : Cluster × EntryView). Holds d.0 names_counted) (λ (d : Cluster × EntryView). Holds d.0 counts_from_one) (apply k e) (names_kept k e co.sound few) (counts_kept k e co.sound few) in
    let bare = also (λ (d : Cluster × EntryView). Holds d.0 names_counted × Holds d.0 counts_from_one) (λ (d : Cluster × EntryView). Holds d.0 over_are_bare) (apply k e) names (bare_kept k e co few) in
    both_give (λ (d : Cluster × EntryView). NumbersDiffer d.0) (λ (d : Cluster × EntryView). (Holds d.0 names_counted × Holds d.0 counts_from_one) × Holds d.0 over_are_bare) (λ (d : Cluster × EntryView). HasNumbers d.0) (apply k e)
    (applied_part NumbersDiffer (λ c g. g.numbers_differ) k e co.sound few) bare
    (λ d a b. record { numbers_differ = a; names_counted = b.0.0; counts_from_one = b.0.1; over_are_bare = b.1 })

module _ (k : Cluster) (co : IsCoherent k) where
  abbrev Typed : Cluster × EntryView → Type 0
  Typed d = HeapKept co.types.table k co.types.typing d

  table_there : (z : Cluster) → z.code ≡ k.code → IsTable z.code co.types.table
  table_there z e = subst (λ c. IsTable c co.types.table) (sym e) co.types.is_table

  by_step : (d : Cluster × EntryView) → HasNumbers d.0 → d.0.code ≡ k.code → (names : Fresh) → d.1.done ≡ Some names → (t : ℕ) → d.1.thread ≡ Some t → ((c : _) → SameState (plain_state c) (one_heap k) → StepsTo k.code c t names (one_heap d.0) d.1.labels) → Typed d
  by_step d numbers code names done t is go =
      let shown = heaps_are_whole k co.sound in
      let to = go shown.whole shown.shows in
      let z = shown_steps_keep_types k.code co.types.table co.types.is_table co.types.typing (one_heap k) (one_heap d.0) co.types.state shown.whole shown.shows t names to.after to.steps to.same in
      record {
        heap = record { is_table = table_there d.0 code; typing = z.0; state = z.1; counts = typed_heaps_count d.0 numbers co.types.table z.0 z.1 };
        names = z.2;
        refs = λ m e. record { thread = t; is = is; whole = shown.whole; shows = shown.shows; refs = z.3 };
        still = λ e. let f : None ≡ Some names = sym e ∙ done in cc;
      }

  still : (d : Cluster × EntryView) → HasNumbers d.0 → d.0.code ≡ k.code → d.1.done ≡ None → SameState (one_heap d.0) (one_heap k) → Typed d
  still d numbers code none same =
      let state = subst (CodeStateTypes co.types.table co.types.typing) (sym (same_is (one_heap d.0) (one_heap k) same)) co.types.state in
      record {
        heap = record { is_table = table_there d.0 code; typing = co.types.typing; state = state; counts = typed_heaps_count d.0 numbers co.types.table co.types.typing state };
        names = names_stay refl;
        refs = λ names e. let f : None ≡ Some names = sym none ∙ e in cc;
        still = λ e. refl;
      }

  either : (d : Cluster × EntryView) → HasNumbers d.0 × (d.0.code ≡ k.code) → IsStepOrStill k d → Typed d
  either d n h = by d.1.done refl
    where
      by : (o : Option Fresh) → d.1.done ≡ o → Typed d
      by None e = still d n.0 n.1 e (h.stays e)
      by (Some names) e = let s = h.steps names e in by_step d n.0 n.1 names e s.0 s.1 s.2

pub events_keep_names : EventsKeepNames
events_keep_names k e co few =
    both_give (λ (d : Cluster × EntryView). HasNumbers d.0 × (d.0.code ≡ k.code)) (IsStepOrStill k) (HeapKept co.types.table k co.types.typing) (apply k e)
    (also (λ (d : Cluster × EntryView). HasNumbers d.0) (λ (d : Cluster × EntryView). d.0.code ≡ k.code) (apply k e) (numbers_kept k e co few) (code_kept k e)) (each_is k e co few) (λ d n h. either k co d n h)

pub events_keep : EventsKeepState
events_keep k e co few = weaker (HeapKept co.types.table k co.types.typing) (λ (d : Cluster × EntryView). HeapTyped co.types.table d.0) (apply k e) (events_keep_names k e co few) (λ d h. h.heap)
