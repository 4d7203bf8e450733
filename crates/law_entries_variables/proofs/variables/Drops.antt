-- A value is discarded, or goes with its slot, and what it owns is let go.
use Rattle.std.proofs.Common.{◌≡◌, ℕ, ◌+◌, ◌-◌, Bool, true, false, if◌then◌else◌, [], length, Option, Some, None, refl, sym, subst, arith, append-nil}
use Rattle.std.specs.Prelude.{slice_get, option_map}
use Rattle.law_words_ends.specs.Below.fr_base.declared.instruction.Instr.{Instr}
use Rattle.law_words_ends.specs.Below.fr_base.declared.instruction.Instr.TheVariants as instr
use Rattle.law_words_ends.specs.Below.fr_base.declared.step.Fresh.TheVariants as fresh
use Rattle.law_words_ends.specs.Below.heap_partition.declared.value.Owned.{Owned}
use Rattle.law_words_ends.specs.Below.heap_partition.declared.value.Owned.TheVariants as owned
use Rattle.law_words_ends.specs.Below.law_words_values.Below.read_cache.Cache.{users, can_unpin, unpin}
use Rattle.law_words_ends.specs.Below.thread_state.View.{ThreadState, is_over}
use Rattle.law_words_ends.specs.Below.thread_state.declared.value.Value.{Value}
use Rattle.law_words_ends.specs.Below.thread_state.declared.value.Value.TheVariants as value
use Rattle.law_words_ends.specs.Below.journal.View.{EntryView}
use Rattle.law_words_ends.specs.Below.server_model.declared.event.What.TheVariants.{Step}
use Rattle.law_words_ends.specs.Below.server_model.Servers.{Server, Cluster, server_at}
use Rattle.law_words_ends.specs.Below.server_model.Clusters.{apply}
use Rattle.law_words_ends.specs.Below.server_model.Work.{Work, Hand, Popped, last_of, front_of, with_slots, with_temps, with_cache, working, then_some, thread_in}
use Rattle.law_words_ends.specs.Below.server_model.Places.{Spot, in_slot, on_top, nowhere}
use Rattle.law_words_ends.specs.Below.server_model.Drop.{unpin_ref, drop_labels, drop_value}
use Rattle.law_words_ends.specs.Below.server_model.Prepare.{ending, prepare}
use Rattle.law_words_ends.specs.Below.server_model.Commit.{label_dropped, discard, drop_slot, goes_on}
use Rattle.law_words_ends.specs.Below.server_model.Events.{Stepped, begin_work, prepared, committed, step, stepped}
use Rattle.law_entries_variables.specs.Below.coloured_heap.Heap.{Coloured}
use Rattle.law_words_ends.specs.Below.coherent_memory.Names.{tot}
use Rattle.law_words_ends.specs.Below.coherent_memory.Things.{in_temp, in_slot as slot_spot, things_at, slot_things, temp_things, copy_things}
use Rattle.law_words_ends.specs.Below.coherent_memory.Colours.{StandsColoured}
use Rattle.law_words_ends.specs.Below.coherent_memory.Coherent.{IsSound}
use Rattle.law_words_ends.specs.Below.coherent_types.ClusterTypes.{IsCoherent}
use Rattle.law_words_ends.specs.Below.law_counts_sums.Laws.{Gives, FewEvents}
use Rattle.law_words_ends.proofs.Below.law_counts_sums.Trades.{trade_whole}
use Rattle.law_words_ends.proofs.Below.law_counts_sums.Bags.{of_cache}
use Rattle.law_words_ends.proofs.Below.law_counts_sums.GiftsTaken.{gift_fits}
use Rattle.law_words_ends.specs.Below.law_words_paths.words.Unmoved.{LeavesWords}
use Rattle.law_words_ends.specs.Below.law_words_values.carried.Steps.{drops, drops_none}
use Rattle.law_words_ends.proofs.Below.law_words_values.carried.Events.{discards_carry}
use Rattle.law_words_ends.proofs.Below.law_words_values.carried.Gives.{owned_goes}
use Rattle.law_words_ends.specs.Below.law_words_values.references.Gone as gone
use Rattle.law_words_ends.proofs.Below.law_words_values.references.RefEvents.{references_go}
use Rattle.law_entries_variables.proofs.deliveries.Weighed.{WorkTurns}
use Rattle.law_entries_variables.proofs.deliveries.Changed.{AreThere}
use Rattle.law_entries_variables.proofs.still.PlainSteps.{lives}
use Rattle.law_entries_variables.proofs.still.Settled.{none_held, users_unseen}
use Rattle.law_entries_variables.specs.variables.Steps.{StepsLegal, IsPlain, DropsPlain, discards, drops as drops_newest}
use Rattle.law_entries_variables.proofs.variables.Slots.{IsUnmarked, slot_popped}
use Rattle.law_entries_variables.proofs.variables.Turning.{loud, Turning, begins, rethreaded, slots_alike, labelled, worked_alike}
use Rattle.law_entries_variables.proofs.variables.Led.{LedWith, Steps, goes_on_led}
use Rattle.law_entries_variables.proofs.variables.InStep.{by_number, step_legal}
use Rattle.law_entries_variables.proofs.variables.Tops.{top_there, newest_there}
use Rattle.law_entries_variables.proofs.variables.GiveUps.{Given, from, given_up}
use Rattle.law_entries_variables.proofs.variables.Quiets.{quiet_steps}

-- a use of a copy ends
use_ends : (x : Work) (w : ℕ) → WorkTurns x [] [] [] (with_cache (unpin x.rest.cache w) x)
use_ends x w = record {
  number = refl;
  noted = sym (append-nil x.acts);
  labels = refl;
  things = λ f i.
      let n = x.rest.number in
      let cs = unpin x.rest.cache w in
      let t = of_cache n 0 x.rest cs (trade_whole (things_at (copy_things n) 0 x.rest.cache) (things_at (copy_things n) 0 cs)) in
      omega (arith, t.before f, t.after f, users_unseen f i.unused n 0 x.rest.cache w (users x.rest.cache w - 1));
}

-- dropping is labelled, and nothing is loaded or stored
pub quiet_drop : (u : Owned) → tot loud (drop_labels (value.Own u)) ≡ 0
quiet_drop (owned.Box b) = refl
quiet_drop (owned.Mutex m) = refl
quiet_drop (owned.Task u) = refl
quiet_drop owned.Nothing = refl
quiet_drop owned.Unit = refl
quiet_drop (owned.Int i) = refl

plain_unmarked : (v : Value) → IsPlain v → IsUnmarked v
plain_unmarked (value.Held m) p = absurd p
plain_unmarked value.Gone p = tt
plain_unmarked (value.Own v) p = tt
plain_unmarked (value.SharedSlot i) p = tt
plain_unmarked (value.MutSlot i) p = tt
plain_unmarked (value.Shared r) p = tt
plain_unmarked (value.Mut r) p = tt

module _ (k : Cluster) (sound : IsSound k) (number : ℕ) (s : Server) (here : server_at k.servers number ≡ Some s) (c0 : Coloured) (is_coloured : StandsColoured k c0) (y : ThreadState) (at : thread_in s.threads y.number ≡ Some y) (live : is_over y.phase ≡ false) (bare : y.gift ≡ None) where
  abbrev start : Hand
  start = record { work = begin_work s.rest; thread = y }

  abbrev P : Hand → Type 0
  P = Steps (LeavesWords k) k s y c0 fresh.None false

  abbrev Done : Stepped → Type 0
  Done d = LedWith (LeavesWords k) k s c0 (stepped s d)

  quiet : (h : Hand) → Turning s y [] [] [] h → h.thread.gift ≡ None → P h
  quiet h t free = quiet_steps k sound number s here c0 is_coloured y at live h t free (none_held k sound number s here c0 is_coloured y.number y at live y bare)

  -- such a value is dropped, where it is given if it is owned
  plain_dropped : (holder : Spot) (v : Value) → IsPlain v → ((u : Owned) → v ≡ value.Own u → Given k u) → (h : Hand) → Turning s y [] [] [] h → h.thread.gift ≡ None → Gives P (drop_value holder v (label_dropped v h))
  plain_dropped holder (value.Own u) p given h t free =
      given_up k sound number s here c0 is_coloured y at live bare false (λ e. absurd (cc e)) (label_dropped (value.Own u) h) u (labelled s y [] [] [] h t (drop_labels (value.Own u)) (quiet_drop u)) free (given u refl)
  plain_dropped holder value.Gone p given h t free = quiet _ (labelled s y [] [] [] h t [] refl) free
  plain_dropped holder (value.SharedSlot i) p given h t free = quiet _ (labelled s y [] [] [] h t [] refl) free
  plain_dropped holder (value.MutSlot i) p given h t free = quiet _ (labelled s y [] [] [] h t [] refl) free
  plain_dropped holder (value.Mut r) p given h t free = absurd p
  plain_dropped holder (value.Held m) p given h t free = absurd p
  plain_dropped holder (value.Shared r) p given h t free = by r.pinned
    where
      h1 : Hand
      h1 = label_dropped (value.Shared r) h

      t1 : Turning s y [] [] [] h1
      t1 = labelled s y [] [] [] h t [] refl

      used : (b : Bool) → Gives P (if b then Some (working (with_cache (unpin h1.work.rest.cache r.word)) h1) else None)
      used true = quiet _ (worked_alike s y [] [] [] h1 t1 (with_cache (unpin h1.work.rest.cache r.word) h1.work) (use_ends h1.work r.word)) free
      used false = tt

      by : (b : Bool) → Gives P (unpin_ref r b h1)
      by true = used (can_unpin h1.work.rest.cache r.word)
      by false = quiet h1 t1 free

  -- it is no mutable reference, so nothing is made ready
  unended : (servers : ℕ) (i : Instr) (sp : Spot) (v : Value) → IsPlain v → (g : Option Hand → Option Stepped) → Gives Done (prepared servers i (prepare None start)) → Gives Done (prepared servers i (prepare (ending sp (Some v)) start))
  unended servers i sp (value.Own v) p g d = d
  unended servers i sp value.Gone p g d = d
  unended servers i sp (value.SharedSlot j) p g d = d
  unended servers i sp (value.MutSlot j) p g d = d
  unended servers i sp (value.Shared r) p g d = d
  unended servers i sp (value.Mut r) p g d = absurd p
  unended servers i sp (value.Held m) p g d = absurd p

  discarded : (v : Value) → last_of y.temps ≡ Some v → IsPlain v → Gives P (discard nowhere start)
  discarded v e p =
      subst (λ o. Gives P (then_some (option_map (λ u. record { item = u; hand = with_temps (front_of y.temps) start }) o) (λ (t : Popped Value). drop_value nowhere t.item (label_dropped t.item t.hand)))) (sym e)
      (plain_dropped nowhere v p (λ u same. from (in_temp y.number (0 + length (front_of y.temps))) (subst (λ w. AreThere k (temp_things s.rest.number y.number (0 + length (front_of y.temps)) w)) same (top_there k number s here y at v e))) (with_temps (front_of y.temps) start) (rethreaded s y [] [] [] start (begins s y) (record y { temps = front_of y.temps }) refl refl) bare)

  newest_goes : (v : Value) → last_of y.slots ≡ Some v → IsPlain v → Gives P (drop_slot nowhere start)
  newest_goes v e p =
      subst (λ o. Gives P (then_some (option_map (λ u. record { item = u; hand = with_slots (front_of y.slots) start }) o) (λ (t : Popped Value). drop_value nowhere t.item (label_dropped t.item t.hand)))) (sym e)
      (plain_dropped nowhere v p (λ u same. from (slot_spot y.number (0 + length (front_of y.slots))) (subst (λ w. AreThere k (slot_things s.rest.number y.number (0 + length (front_of y.slots)) w)) same (newest_there k number s here y at v e))) (with_slots (front_of y.slots) start) (slots_alike s y [] [] [] start (begins s y) (front_of y.slots) (λ f i. slot_popped f i 0 y.number y.slots v e (plain_unmarked v p))) bare)

  -- the step, whichever of the two
  pub drops_led : (servers : ℕ) (i : Instr) → DropsPlain y i → Gives Done (step servers i start)
  drops_led servers _ (discards v e p) =
      subst (λ o. Gives Done (prepared servers instr.Discard (prepare (ending on_top o) start))) (sym e)
      (unended servers instr.Discard on_top v p (λ o. committed (goes_on o)) (goes_on_led (LeavesWords k) k s y at c0 fresh.None (discard nowhere start) (discarded v e p)))
  drops_led servers _ (drops_newest v e p) =
      subst (λ o. Gives Done (prepared servers instr.DropSlot (prepare (ending (in_slot (length y.slots - 1)) o) start))) (sym e)
      (unended servers instr.DropSlot (in_slot (length y.slots - 1)) v p (λ o. committed (goes_on o)) (goes_on_led (LeavesWords k) k s y at c0 fresh.None (drop_slot nowhere start) (newest_goes v e p)))

-- IN ITS CLUSTER

module _ (k : Cluster) (number t : ℕ) (s : Server) (y : ThreadState) (coherent : IsCoherent k) (few : FewEvents k) (here : server_at k.servers number ≡ Some s) (at : thread_in s.threads t ≡ Some y) where
  abbrev Leaves : Type 0
  Leaves = Gives (λ (d : Cluster × EntryView). LeavesWords k d.0) (apply k (record { server = number; what = Step t }))

  plain_leaves : (i : Instr) → slice_get k.code y.pc ≡ Some i → DropsPlain y i → Leaves
  plain_leaves _ code (discards (value.Own v) e p) = discards_carry k number t s y (value.Own v) coherent.sound few here at code e tt
  plain_leaves _ code (discards value.Gone e p) = discards_carry k number t s y value.Gone coherent.sound few here at code e tt
  plain_leaves _ code (discards (value.SharedSlot i) e p) = discards_carry k number t s y (value.SharedSlot i) coherent.sound few here at code e tt
  plain_leaves _ code (discards (value.MutSlot i) e p) = discards_carry k number t s y (value.MutSlot i) coherent.sound few here at code e tt
  plain_leaves _ code (discards (value.Shared r) e p) = references_go k number t s y instr.Discard coherent few here at code (gone.discards (value.Shared r) e (gone.shared_to r))
  plain_leaves _ code (discards (value.Mut r) e p) = absurd p
  plain_leaves _ code (discards (value.Held m) e p) = absurd p
  plain_leaves _ code (drops_newest (value.Own v) e p) = owned_goes k number t s y instr.DropSlot coherent few here at code (drops v e)
  plain_leaves _ code (drops_newest value.Gone e p) = owned_goes k number t s y instr.DropSlot coherent few here at code (drops_none e)
  plain_leaves _ code (drops_newest (value.SharedSlot i) e p) = references_go k number t s y instr.DropSlot coherent few here at code (gone.drops (value.SharedSlot i) e (gone.to_slot i))
  plain_leaves _ code (drops_newest (value.MutSlot i) e p) = references_go k number t s y instr.DropSlot coherent few here at code (gone.drops (value.MutSlot i) e (gone.to_slot_mutably i))
  plain_leaves _ code (drops_newest (value.Shared r) e p) = references_go k number t s y instr.DropSlot coherent few here at code (gone.drops (value.Shared r) e (gone.shared_to r))
  plain_leaves _ code (drops_newest (value.Mut r) e p) = absurd p
  plain_leaves _ code (drops_newest (value.Held m) e p) = absurd p

  no_gift : (i : Instr) → slice_get k.code y.pc ≡ Some i → DropsPlain y i → y.gift ≡ None
  no_gift _ code (discards v e p) = (gift_fits k coherent.sound number s here t y at instr.Discard code).0
  no_gift _ code (drops_newest v e p) = (gift_fits k coherent.sound number s here t y at instr.DropSlot code).0

-- so its entry is legal
pub plain_drops_legal : StepsLegal DropsPlain
plain_drops_legal k number t s y i coherent few here at code plain =
    let own = by_number s t y at in
    step_legal (LeavesWords k) k number t s y i coherent.sound few here at code (plain_leaves k number t s y coherent few here at i code plain)
    (λ c0 is_coloured calm. drops_led k coherent.sound number s here c0 is_coloured y own (lives y.phase calm) (no_gift k number t s y coherent few here at i code plain) k.options.servers i plain)
