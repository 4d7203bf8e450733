-- Each event leaves the holders of mutable references right, by the exact types afterwards.
use Rattle.std.proofs.Common.{◌≡◌, ℕ, Bool, true, false, length, List, [], ◌∷◌, Option, Some, None, refl, sym, ap, subst, ◌∙◌, arith}
use Rattle.law_types_events.specs.Below.fr_base.declared.step.Fresh.{Fresh}
use Rattle.law_types_events.specs.Below.fr_store.Keys.{Key, slot_k, temp_k}
use Rattle.law_types_events.specs.Below.fr_store.Typed.{KeyTypes}
use Rattle.law_types_events.specs.Below.fr_sound.States.{Typing}
use Rattle.law_types_events.specs.Below.thread_state.View.{is_over}
use Rattle.law_types_events.specs.Below.thread_state.declared.value.Value.{Value}
use Rattle.law_types_events.specs.Below.journal.View.{EntryView}
use Rattle.law_types_events.specs.Below.server_model.declared.event.Event.{Event}
use Rattle.law_types_events.specs.Below.server_model.Servers.{Cluster}
use Rattle.law_types_events.specs.Below.server_model.Clusters.{apply}
use Rattle.law_types_events.specs.Below.coherent_memory.Names.{tot, Among}
use Rattle.law_types_events.specs.Below.coherent_memory.Things.{things_of}
use Rattle.law_types_events.specs.Below.coherent_memory.Follow.{Standing, threads_in}
use Rattle.law_types_events.specs.Below.coherent_memory.Sight.{sight}
use Rattle.law_types_events.specs.Below.coherent_memory.Rooted.{dressed}
use Rattle.law_types_events.specs.Below.coherent_types.ClusterTypes.{IsCoherent, astray_of, leads_wrong}
use Rattle.law_types_events.proofs.Below.law_words_paths.paths.Forms.{none_of}
use Rattle.law_types_events.specs.Below.law_counts_sums.Laws.{Gives, FewEvents}
use Rattle.law_types_events.proofs.Below.law_counts_sums.Results.{both_give}
use Rattle.law_types_events.proofs.Below.law_counts_sums.KnownSound.{on_standing, sum_standing}
use Rattle.law_types_events.specs.Below.law_types_still.threads.Threads.{TypesThreads}
use Rattle.law_types_events.proofs.Below.law_types_still.threads.Undone.{undone_keep}
use Rattle.law_types_events.specs.Below.law_types_still.heap.Counted.{HasNumbers, all_off, off_of, holders_off, sorts_wrong}
use Rattle.law_types_events.proofs.Below.law_types_still.heap.Following.{HasHeap}
use Rattle.law_types_events.proofs.Below.law_types_still.heap.Leads.{each_none, bare}
use Rattle.law_types_events.specs.heap.States.{HeapKept}
use Rattle.law_types_events.proofs.sorts.Each.{also, numbers_kept, events_keep_sorts}
use Rattle.law_types_events.specs.holders.Holders.{EventsKeepHolders}
use Rattle.law_types_events.proofs.holders.Traced.{AreRight, leads_right, lent_right, none_off}
use Rattle.law_types_events.proofs.holders.Typed.{slot_mutable, temp_mutable}
use Rattle.law_types_events.proofs.holders.Beside.{lifted}
use Rattle.law_types_events.proofs.holders.Server.{off_by, Sort, at_server}

-- A CLUSTER

no_values : (exact : KeyTypes) (t : ℕ) (key : ℕ → Key) (i : ℕ) (vs : List Value) → length vs ≡ 0 → all_off exact t key i vs ≡ 0
no_values exact t key i [] e = refl
no_values exact t key i (v ∷ vs) e = absurd (omega (arith, e))

-- where values have their sorts, and holders are right by the exact types of mutable references, none is off
module _ (z : Cluster) (c : HasHeap z) (sorted : sorts_wrong c.table (sight z) ≡ 0) where
  abbrev E : KeyTypes
  E = c.typing.exact

  thread_off : (x : Standing) → Among x (threads_in (things_of z)) → AreRight E x.thread.number (slot_k x.thread.number) x.thread.slots → AreRight E x.thread.number (temp_k x.thread.number) x.thread.temps → off_of E x.thread ≡ 0
  thread_off x a slots temps = by (is_over x.thread.phase) refl
    where
      by : (b : Bool) → is_over x.thread.phase ≡ b → off_of E x.thread ≡ 0
      by false e =
          let one = none_off E x.thread.number (slot_k x.thread.number) x.thread.slots (slot_mutable z c x (record { among = a; going = e }) sorted) slots in
          let two = none_off E x.thread.number (temp_k x.thread.number) x.thread.temps (temp_mutable z c x (record { among = a; going = e }) sorted) temps in
          omega (arith, one, two)
      by true e =
          let empty = bare z x (none_of (dressed (sight z)) x (sight z).ground.threads c.numbers.over_are_bare a) e in
          let one = no_values E x.thread.number (slot_k x.thread.number) 0 x.thread.slots empty.0 in
          let two = no_values E x.thread.number (temp_k x.thread.number) 0 x.thread.temps empty.1 in
          omega (arith, one, two)

  pub by_lent : tot (off_by E) (threads_in (things_of z)) ≡ 0 → holders_off E (sight z) ≡ 0
  by_lent none =
      each_none (off_by E) (λ x. off_of E x.thread) (threads_in (things_of z))
      (λ x a f. thread_off x a (lent_right E x.thread.number (slot_k x.thread.number) x.thread.slots (omega (arith, f))) (lent_right E x.thread.number (temp_k x.thread.number) x.thread.temps (omega (arith, f)))) none

  pub by_leads : leads_wrong E (sight z) ≡ 0 → holders_off E (sight z) ≡ 0
  by_leads none =
      each_none (λ x. astray_of E (sight z).ground x.thread) (λ x. off_of E x.thread) (threads_in (things_of z))
      (λ x a f. thread_off x a (leads_right E x.thread.number (slot_k x.thread.number) (sight z).ground x.thread.slots (omega (arith, f))) (leads_right E x.thread.number (temp_k x.thread.number) (sight z).ground x.thread.temps (omega (arith, f)))) none

-- AN EVENT

for_all : {A X : Type 0} (P : A → X → Type 0) (x : Option X) → ((a : A) → Gives (P a) x) → Gives (λ d. (a : A) → P a d) x
for_all P None h = tt
for_all P (Some d) h = h

module _ (k : Cluster) (e : Event) (co : IsCoherent k) (few : FewEvents k) where
  abbrev D : Type 0
  D = Cluster × EntryView

  -- the one heap before
  abbrev before : HasHeap k
  before = record {
    numbers = record { numbers_differ = co.sound.names.numbers_differ; names_counted = co.sound.names.names_counted; counts_from_one = co.sound.names.counts_from_one; over_are_bare = co.sound.rooted.over_are_bare };
    table = co.types.table;
    typing = co.types.typing;
    state = co.types.state;
  }

  abbrev Sorted : KeyTypes → EntryView → Type 0
  Sorted after r = Sort k e co few before refl refl after r

  abbrev Lent : D → Type 0
  Lent d = (after : KeyTypes) → Sorted after d.1 → tot (on_standing (off_by after)) (things_of d.0) ≡ 0

  lent_right_then : Gives Lent (apply k e)
  lent_right_then =
      for_all (λ (after : KeyTypes) (d : D). Sorted after d.1 → tot (on_standing (off_by after)) (things_of d.0) ≡ 0) (apply k e)
      (λ after. lifted (on_standing (off_by after)) (Sorted after) k e co.sound few (λ s here on. at_server k e co few before refl refl after s here e.what on))

  holders : (d : D) → Lent d → (d.1.done ≡ None → TypesThreads k co.types d.0) → HasNumbers d.0 → sorts_wrong co.types.table (sight d.0) ≡ 0 → (h : HeapKept co.types.table k co.types.typing d) → holders_off h.heap.typing.exact (sight d.0) ≡ 0
  holders d lent stays numbers sorted h = by d.1.done refl
    where
      c : HasHeap d.0
      c = record { numbers = numbers; table = co.types.table; typing = h.heap.typing; state = h.heap.state }

      by : (o : Option Fresh) → d.1.done ≡ o → holders_off h.heap.typing.exact (sight d.0) ≡ 0
      by None q = by_leads d.0 c sorted (subst (λ y. leads_wrong y (sight d.0) ≡ 0) (sym (ap (λ (y : Typing). y.exact) (h.still q))) (stays q).lead)
      by (Some names) q =
          let none = lent h.heap.typing.exact (record { is_done = λ f. (let z : None ≡ Some names = sym f ∙ q in cc); refs = h.refs names q }) in
          by_lent d.0 c sorted (sym (sum_standing (off_by h.heap.typing.exact) (things_of d.0)) ∙ none)

  pub holders_kept : Gives (λ (d : D). (h : HeapKept co.types.table k co.types.typing d) → holders_off h.heap.typing.exact (sight d.0) ≡ 0) (apply k e)
  holders_kept =
      both_give (λ (d : D). Lent d × (d.1.done ≡ None → TypesThreads k co.types d.0)) (λ (d : D). HasNumbers d.0 × (sorts_wrong co.types.table (sight d.0) ≡ 0))
      (λ (d : D). (h : HeapKept co.types.table k co.types.typing d) → holders_off h.heap.typing.exact (sight d.0) ≡ 0) (apply k e)
      (also Lent (λ (d : D). d.1.done ≡ None → TypesThreads k co.types d.0) (apply k e) lent_right_then (undone_keep k e co few))
      (also (λ (d : D). HasNumbers d.0) (λ (d : D). sorts_wrong co.types.table (sight d.0) ≡ 0) (apply k e) (numbers_kept k e co few) (events_keep_sorts k e co few))
      (λ d a b. holders d a.0 a.1 b.0 b.1)

pub events_keep_holders : EventsKeepHolders
events_keep_holders k e co few = holders_kept k e co few
