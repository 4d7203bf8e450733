-- Each event of a coherent cluster leaves values with the sorts that typing gives them.
use Rattle.std.proofs.Common.{◌≡◌, ℕ, ◌+◌, not, Bool, true, false, reverse, Option, Some, None, refl, sym, ap, subst, ◌∙◌, arith}
use Rattle.law_types_still.specs.Below.fr_base.declared.name.ObjNo.{ObjNo}
use Rattle.law_types_still.specs.Below.fr_base.declared.step.Fresh.{Fresh}
use Rattle.law_types_still.specs.Below.fr_code.CodeTypes.{Entry, Table}
use Rattle.law_types_still.specs.Below.thread_state.View.{ThreadState, is_over, new_thread}
use Rattle.law_types_still.specs.Below.journal.View.{EntryView}
use Rattle.law_types_still.specs.Below.server_model.declared.event.Event.{Event}
use Rattle.law_types_still.specs.Below.server_model.Servers.{Server, Cluster, server_at}
use Rattle.law_types_still.specs.Below.server_model.Start.{next_thread}
use Rattle.law_types_still.specs.Below.server_model.Events.{begin_work}
use Rattle.law_types_still.specs.Below.server_model.Clusters.{apply}
use Rattle.law_types_still.specs.Below.coherent_memory.Names.{tot, if_so}
use Rattle.law_types_still.specs.Below.coherent_memory.Things.{things_of}
use Rattle.law_types_still.specs.Below.coherent_memory.Follow.{Standing, threads_in}
use Rattle.law_types_still.specs.Below.coherent_memory.Sight.{Sight, sight}
use Rattle.law_types_still.specs.Below.coherent_memory.Coherent.{Holds, names_counted, counts_from_one, over_are_bare}
use Rattle.law_types_still.specs.Below.coherent_types.Names.{NameTypes, names_of}
use Rattle.law_types_still.specs.Below.coherent_types.ClusterTypes.{IsCoherent, entry_wrong, forms_of, forms_wrong, unseen_slots, unseen_temps, views_wrong}
use Rattle.law_types_events.proofs.Below.law_words_paths.paths.Forms.{none_of}
use Rattle.law_types_events.proofs.Below.law_words_paths.paths.Sole.{some_is}
use Rattle.law_types_still.specs.Below.law_counts_sums.Laws.{Gives, FewEvents, NumbersDiffer}
use Rattle.law_types_still.proofs.Below.law_counts_sums.Results.{both_give}
use Rattle.law_types_still.proofs.Below.law_counts_sums.KnownSound.{on_standing, sum_standing}
use Rattle.law_types_still.proofs.Below.law_counts_sums.Sending.{applied_part}
use Rattle.law_types_still.proofs.Below.law_counts_things.things.Bare.{bare_kept}
use Rattle.law_types_still.proofs.Below.law_counts_things.things.Mail.{StartsAt, BeginsBy, step_tells}
use Rattle.law_types_still.proofs.Below.law_counts_things.things.Threads.{Parcel}
use Rattle.law_types_still.proofs.Below.law_counts_things.things.Handed.{InParcel}
use Rattle.law_types_events.proofs.Below.law_counts_things.names.Sentences.{names_kept, counts_kept}
use Rattle.law_types_still.proofs.things.Lifted.{lifted}
use Rattle.law_types_still.specs.threads.Threads.{TypesThreads}
use Rattle.law_types_still.proofs.threads.Undone.{undone_keep}
use Rattle.law_types_events.specs.Below.law_types_still.heap.Counted.{HasNumbers, sorts_wrong}
use Rattle.law_types_events.proofs.Below.law_types_still.heap.Leads.{each_none}
use Rattle.law_types_events.specs.heap.States.{HeapTyped}
use Rattle.law_types_events.proofs.heap.States.{events_keep}
use Rattle.law_types_events.specs.sorts.Sorts.{EventsKeepSorts}
use Rattle.law_types_events.proofs.sorts.Parts.{anyone}
use Rattle.law_types_events.proofs.sorts.Suited.{unsuited_of}
use Rattle.law_types_events.proofs.sorts.Sorted.{sorts_follow}
use Rattle.law_types_events.proofs.sorts.Forms.{Links, entry_suits}
use Rattle.law_types_events.proofs.sorts.Starts.{all_light, light_weighs, start_typed}
use Rattle.law_types_events.proofs.sorts.Known.{entry_known}
use Rattle.law_types_events.proofs.sorts.Steps.{IsDone}
use Rattle.law_types_events.proofs.sorts.Server.{requests, unsuited_by, SendsOf, stepper, at_server}

-- FORMS

some_suits : (S : ℕ → ObjNo → Bool) (s : Sight) (n : NameTypes) (t : ThreadState) (o : Option Entry) → Links (S t.number) s t.number → entry_wrong (forms_of n t) o ≡ 0
    → entry_wrong (λ y. unseen_slots s t.number y.env (reverse t.slots) + unseen_temps s t.number y.temps (reverse t.temps)) o ≡ 0 → entry_wrong (unsuited_of (S t.number) t) o ≡ 0
some_suits S s n t None link z u = z
some_suits S s n t (Some x) link z u = entry_suits (S t.number) s n t x link z u

none_both : (a b c : ℕ) (q : Bool) → (a ≡ 0 → b ≡ 0 → c ≡ 0) → if_so q a ≡ 0 → if_so q b ≡ 0 → if_so q c ≡ 0
none_both a b c true go f g = go f g
none_both a b c false go f g = refl

-- where values have the forms of their types, and views are seen, they suit them
pub forms_suit : (S : ℕ → ObjNo → Bool) (z : Cluster) (table : Table) (n : NameTypes) → ((t : ℕ) → Links (S t) (sight z) t) → forms_wrong table n (sight z) ≡ 0 → views_wrong table (sight z) ≡ 0
    → tot (unsuited_by table S) (threads_in (things_of z)) ≡ 0
forms_suit S z table n link none unseen =
    let s = sight z in
    each_none (λ x. if_so (not (is_over x.thread.phase)) (entry_wrong (forms_of n x.thread) (table x.thread.pc))) (unsuited_by table S) (threads_in (things_of z))
    (λ x a f.
    none_both (entry_wrong (forms_of n x.thread) (table x.thread.pc))
    (entry_wrong (λ y. unseen_slots (sight z) x.thread.number y.env (reverse x.thread.slots) + unseen_temps (sight z) x.thread.number y.temps (reverse x.thread.temps)) (table x.thread.pc))
    (entry_wrong (unsuited_of (S x.thread.number) x.thread) (table x.thread.pc)) (not (is_over x.thread.phase)) (some_suits S (sight z) n x.thread (table x.thread.pc) (link x.thread.number)) f
    (none_of
    (λ (w : Standing). if_so (not (is_over w.thread.phase)) (entry_wrong (λ y. unseen_slots (sight z) w.thread.number y.env (reverse w.thread.slots) + unseen_temps (sight z) w.thread.number y.temps (reverse w.thread.temps)) (table w.thread.pc)))
    x (sight z).ground.threads unseen a)) none

-- WHAT STARTS

module _ (k : Cluster) (co : IsCoherent k) (few : FewEvents k) (number : ℕ) (s : Server) (here : server_at k.servers number ≡ Some s) where
  sends : (t : ℕ) → SendsOf k co few number s here (λ t. anyone) t
  sends t y i on q e mail =
      let f = unsuited_by co.types.table (λ t. anyone) in
      let z = stepper k co few number s here (λ t. anyone) t y i on q e in
      let known = entry_known k number t s y i z in
      let row = co.types.is_table.rows y.pc known.0 known.1 in
      let begins : BeginsBy (Parcel (InParcel f)) k.options.servers s.rest i = λ pc vs r at c d g.
      (let st = start_typed co.types.table y.pc known.0 row.instruction row.successors row.leads pc (subst (λ j. StartsAt j pc) (sym (some_is (sym row.there ∙ e))) at) in
      let none = light_weighs anyone st.env vs st.light (all_light vs c) in
      ap (entry_wrong (unsuited_of anyone (new_thread (next_thread r) pc vs))) st.at ∙ omega (arith, none)) in
      step_tells (Parcel (InParcel f)) k.options.servers i s.rest y (requests (InParcel f) s.rest.number y i) begins (record { work = begin_work s.rest; thread = y }) (record { mail = mail; begun = refl; named = refl; at_home = refl })

-- IN ITS CLUSTER

pub also : {X : Type 0} (P Q : X → Type 0) (x : Option X) → Gives P x → Gives Q x → Gives (λ a. P a × Q a) x
also P Q x p q = both_give P Q (λ a. P a × Q a) x p q (λ a b d. (b, d))

abbrev D : Type 0
D = Cluster × EntryView

-- each event keeps what threads are found by
pub numbers_kept : (k : Cluster) (e : Event) → IsCoherent k → FewEvents k → Gives (λ (d : D). HasNumbers d.0) (apply k e)
numbers_kept k e co few =
    let names = also (λ (d : D). Holds d.0 names_counted) (λ (d : D). Holds d.0 counts_from_one) (apply k e) (names_kept k e co.sound few) (counts_kept k e co.sound few) in
    let bare = also (λ (d : D). Holds d.0 names_counted × Holds d.0 counts_from_one) (λ (d : D). Holds d.0 over_are_bare) (apply k e) names (bare_kept k e co few) in
    both_give (λ (d : D). NumbersDiffer d.0) (λ (d : D). (Holds d.0 names_counted × Holds d.0 counts_from_one) × Holds d.0 over_are_bare) (λ (d : D). HasNumbers d.0) (apply k e)
    (applied_part NumbersDiffer (λ c g. g.numbers_differ) k e co.sound few) bare
    (λ d a b. record { numbers_differ = a; names_counted = b.0.0; counts_from_one = b.0.1; over_are_bare = b.1 })

module _ (k : Cluster) (e : Event) (co : IsCoherent k) (few : FewEvents k) where
  abbrev weight : Standing → ℕ
  weight = unsuited_by co.types.table (λ t. anyone)

  before : tot weight (threads_in (things_of k)) ≡ 0
  before = forms_suit (λ t. anyone) k co.types.table (names_of co.types.object co.types.typing.gives) (λ t o f. refl) co.types.forms co.types.views

  -- where a plain step is done
  done_suits : Gives (λ (d : D). IsDone d.1.done → tot (on_standing weight) (things_of d.0) ≡ 0) (apply k e)
  done_suits =
      lifted (on_standing weight) (λ r. IsDone r.done) k e co.sound few (sum_standing weight (things_of k) ∙ before)
      (λ s here on none. at_server k co few e.server s here (λ t. anyone) e.what (λ t is. sends k co few e.server s here t) on none)

  sorts : (d : D) → (IsDone d.1.done → tot (on_standing weight) (things_of d.0) ≡ 0) → (d.1.done ≡ None → TypesThreads k co.types d.0) → HasNumbers d.0 → HeapTyped co.types.table d.0 → sorts_wrong co.types.table (sight d.0) ≡ 0
  sorts d done stays numbers heap =
      sorts_follow d.0 (record { numbers = numbers; table = co.types.table; typing = heap.typing; state = heap.state }) heap.is_table (by d.1.done refl)
    where
      by : (o : Option Fresh) → d.1.done ≡ o → tot weight (threads_in (things_of d.0)) ≡ 0
      by None q = let t = stays q in forms_suit (λ t. anyone) d.0 co.types.table (names_of co.types.object co.types.typing.gives) (λ t o f. refl) t.forms t.views
      by (Some names) q = sym (sum_standing weight (things_of d.0)) ∙ done (λ none. (let z : None ≡ Some names = sym none ∙ q in cc))

  pub sorts_kept : Gives (λ (d : D). sorts_wrong co.types.table (sight d.0) ≡ 0) (apply k e)
  sorts_kept =
      both_give (λ (d : D). (IsDone d.1.done → tot (on_standing weight) (things_of d.0) ≡ 0) × (d.1.done ≡ None → TypesThreads k co.types d.0)) (λ (d : D). HasNumbers d.0 × HeapTyped co.types.table d.0)
      (λ (d : D). sorts_wrong co.types.table (sight d.0) ≡ 0) (apply k e)
      (also (λ (d : D). IsDone d.1.done → tot (on_standing weight) (things_of d.0) ≡ 0) (λ (d : D). d.1.done ≡ None → TypesThreads k co.types d.0) (apply k e) done_suits (undone_keep k e co few))
      (also (λ (d : D). HasNumbers d.0) (λ (d : D). HeapTyped co.types.table d.0) (apply k e) (numbers_kept k e co few) (events_keep k e co few)) (λ d a b. sorts d a.0 a.1 b.0 b.1)

pub events_keep_sorts : EventsKeepSorts
events_keep_sorts k e co few = sorts_kept k e co few
