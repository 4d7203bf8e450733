-- A clean mutable reference ends that has its first word, or was made from the pointer in a variable, which gets its word.
use Rattle.std.proofs.Common.{◌≡◌, ◌⊎◌, inl, inr, ℕ, ◌+◌, ◌-◌, ◌==◌, Bool, true, false, if◌then◌else◌, List, [], ◌∷◌, length, Option, Some, None, nat_lt, refl, sym, ap, subst, ◌∙◌}
use Rattle.std.proofs.lemmas.Bool.{eq-eqb}
use Rattle.std.specs.Prelude.{⊤, slice_get, slice_set, option_map}
use Rattle.law_words_ends.specs.Below.fr_base.declared.instruction.Instr.{Instr}
use Rattle.law_words_ends.specs.Below.fr_base.declared.instruction.Instr.TheVariants as instr
use Rattle.law_words_ends.specs.Below.fr_base.declared.step.Fresh.TheVariants as fresh
use Rattle.law_words_ends.specs.Below.global_addr.Words.{colour_of, next_word}
use Rattle.law_words_ends.specs.Below.heap_partition.declared.value.Owned.TheVariants as owned
use Rattle.law_words_ends.specs.Below.mut_borrow.declared.mutable.MutRef.{MutRef}
use Rattle.law_words_ends.specs.Below.mut_borrow.declared.mutable.Cleaned.TheVariants.{Same, Tinted, MustRenew}
use Rattle.law_words_ends.specs.Below.mut_borrow.Refs.{cleaned_answer, finish_word}
use Rattle.law_words_ends.specs.Below.thread_state.View.{ThreadState, is_over}
use Rattle.law_words_ends.specs.Below.thread_state.declared.value.Value.{Value}
use Rattle.law_words_ends.specs.Below.thread_state.declared.value.Value.TheVariants as value
use Rattle.law_words_ends.specs.Below.server_model.declared.event.What.TheVariants.{Step}
use Rattle.law_words_ends.specs.Below.server_model.Servers.{Server, Cluster, server_at}
use Rattle.law_words_ends.specs.Below.server_model.Work.{Hand, Popped, last_of, front_of, with_slots, with_temps, then_some, thread_in}
use Rattle.law_words_ends.specs.Below.server_model.Places.{Spot, in_slot, on_top, nowhere, value_at, with_word, put_at, set_pointer}
use Rattle.law_words_ends.specs.Below.server_model.Drop.{drop_value, finish, finished_at}
use Rattle.law_words_ends.specs.Below.server_model.Prepare.{Prepared, ready, nothing, and_then, cleaned_by, clean_value, follow_holder, follow_ended, unlabelled, end_ref, write_stars, ending, prepare}
use Rattle.law_words_ends.specs.Below.server_model.Commit.{label_dropped, discard, drop_slot, commit}
use Rattle.law_words_ends.specs.Below.server_model.Events.{Stepped, begin_work, committed, prepared, step, stepped}
use Rattle.law_entries_variables.specs.Below.coloured_heap.Heap.{Coloured}
use Rattle.law_words_ends.specs.Below.coherent_memory.Colours.{StandsColoured}
use Rattle.law_words_ends.specs.Below.coherent_memory.Coherent.{IsSound}
use Rattle.law_words_ends.specs.Below.law_counts_sums.Laws.{Gives, FewEvents}
use Rattle.law_words_ends.proofs.Below.law_counts_sums.GiftsTaken.{gift_fits}
use Rattle.law_words_ends.specs.Below.law_words_paths.words.Unmoved.{LeavesWords}
use Rattle.law_words_ends.specs.variables.Ends.{EndsReference, EndsAtHand, drops, discards}
use Rattle.law_words_ends.proofs.variables.EndEvents.{ends_at_hand_leave_words}
use Rattle.law_entries_variables.specs.deliveries.Entries.{EntryLegal}
use Rattle.law_entries_variables.proofs.still.PlainSteps.{lives}
use Rattle.law_entries_variables.proofs.still.Settled.{none_held}
use Rattle.law_entries_variables.specs.variables.Steps.{StepsLegal, EndsClean, discards_clean, drops_clean}
use Rattle.law_entries_variables.proofs.variables.Slots.{IsUnmarked, slot_popped, slot_put}
use Rattle.law_entries_variables.proofs.variables.Turning.{Turning, begins, rethreaded, slots_alike, labelled}
use Rattle.law_entries_variables.proofs.variables.Led.{LedWith, Steps, goes_on_led}
use Rattle.law_entries_variables.proofs.variables.InStep.{by_number, step_legal}
use Rattle.law_entries_variables.proofs.variables.Quiets.{quiet_steps}

-- where its holder's pointer is, if that gets a word
data AtHolder (r : MutRef) : Spot → Type 0 where
  same_word : finish_word r ≡ None → AtHolder r nowhere
  at_slot : finish_word r ≡ Some r.word → AtHolder r (in_slot r.holder.slot)

-- a pointer with another word is no mark, nor was it one
reworded : (w : ℕ) (v new : Value) → with_word w v ≡ Some new → IsUnmarked v × IsUnmarked new
reworded w (value.Own (owned.Box p)) new e = let same : value.Own (owned.Box (record p { word = w })) ≡ new = cc in (tt, subst IsUnmarked same tt)
reworded w (value.Mut r) new e = let same : value.Mut (record r { word = w; dirty = false }) ≡ new = cc in (tt, subst IsUnmarked same tt)
reworded w (value.Own owned.Nothing) new e = absurd (cc e)
reworded w (value.Own owned.Unit) new e = absurd (cc e)
reworded w (value.Own (owned.Int i)) new e = absurd (cc e)
reworded w (value.Own (owned.Mutex m)) new e = absurd (cc e)
reworded w (value.Own (owned.Task u)) new e = absurd (cc e)
reworded w value.Gone new e = absurd (cc e)
reworded w (value.SharedSlot i) new e = absurd (cc e)
reworded w (value.MutSlot i) new e = absurd (cc e)
reworded w (value.Shared q) new e = absurd (cc e)
reworded w (value.Held m) new e = absurd (cc e)

module _ (k : Cluster) (sound : IsSound k) (number : ℕ) (s : Server) (here : server_at k.servers number ≡ Some s) (c0 : Coloured) (is_coloured : StandsColoured k c0) (y : ThreadState) (at : thread_in s.threads y.number ≡ Some y) (live : is_over y.phase ≡ false) (bare : y.gift ≡ None)
    (r : MutRef) (hand : EndsAtHand r) where
  abbrev start : Hand
  start = record { work = begin_work s.rest; thread = y }

  abbrev P : Hand → Type 0
  P = Steps (LeavesWords k) k s y c0 fresh.None false

  abbrev Done : Stepped → Type 0
  Done d = LedWith (LeavesWords k) k s c0 (stepped s d)

  quiet : (h : Hand) → Turning s y [] [] [] h → h.thread.gift ≡ None → P h
  quiet h t free = quiet_steps k sound number s here c0 is_coloured y at live h t free (none_held k sound number s here c0 is_coloured y.number y at live y bare)

  -- the pointer in a slot gets its word
  slot_gets : (i w : ℕ) (h : Hand) → h.thread.number ≡ y.number → Turning s y [] [] [] h → h.thread.gift ≡ None → Gives P (set_pointer (in_slot i) w h)
  slot_gets i w h named t free = by (slice_get h.thread.slots i) refl
    where
      put : (v new : Value) → slice_get h.thread.slots i ≡ Some v → IsUnmarked v × IsUnmarked new → (b : Bool) → Gives P (if b then Some (with_slots (slice_set h.thread.slots i new) h) else None)
      put v new e p true = quiet (with_slots (slice_set h.thread.slots i new) h) (slots_alike s y [] [] [] h t (slice_set h.thread.slots i new) (λ f j. slot_put f j 0 h.thread.number h.thread.slots i v new e p.0 p.1)) free
      put v new e p false = tt

      worded : (v : Value) → slice_get h.thread.slots i ≡ Some v → (o : Option Value) → with_word w v ≡ o → Gives P (then_some o (λ new. put_at (in_slot i) new h))
      worded v e None q = tt
      worded v e (Some new) q = put v new e (reworded w v new q) (nat_lt i (length h.thread.slots))

      by : (o : Option Value) → slice_get h.thread.slots i ≡ o → Gives P (then_some o (λ v. then_some (with_word w v) (λ new. put_at (in_slot i) new h)))
      by None e = tt
      by (Some v) e = worded v e (with_word w v) refl

  -- it ends
  finishes : (sp : Spot) → AtHolder r sp → (h : Hand) → h.thread.number ≡ y.number → Turning s y [] [] [] h → h.thread.gift ≡ None → Gives P (drop_value sp (value.Mut r) (label_dropped (value.Mut r) h))
  finishes _ (same_word e) h named t free =
      let h1 : Hand = label_dropped (value.Mut r) h in
      subst (λ b. Gives P (if b then None else finished_at nowhere (finish_word r) h1)) (sym hand.clean) (subst (λ o. Gives P (finished_at nowhere o h1)) (sym e) (quiet h1 (labelled s y [] [] [] h t [] refl) free))
  finishes _ (at_slot e) h named t free =
      let h1 : Hand = label_dropped (value.Mut r) h in
      subst (λ b. Gives P (if b then None else finished_at (in_slot r.holder.slot) (finish_word r) h1)) (sym hand.clean)
      (subst (λ o. Gives P (finished_at (in_slot r.holder.slot) o h1)) (sym e) (slot_gets r.holder.slot r.word h1 named (labelled s y [] [] [] h t [] refl) free))

  -- its place is ready, and so is its holder's
  module _ (servers : ℕ) (i : Instr) (from : Spot) (there : value_at start from ≡ Some (value.Mut r)) (go : (sp : Spot) → AtHolder r sp → Gives Done (committed (commit servers i sp start))) where
    holder_ready : (b : Bool) → (r.word == r.first) ≡ b → Gives Done (prepared servers i (and_then unlabelled (follow_holder r (if b then None else Some r.word) start)))
    holder_ready true e = go nowhere (same_word (ap (λ b. if b then None else Some r.word) e))
    holder_ready false e = by hand.near
      where
        by : (r.word ≡ r.first) ⊎ (r.holder.depth ≡ 0) → Gives Done (prepared servers i (and_then unlabelled (write_stars r.holder.depth 0 start (in_slot r.holder.slot))))
        by (inl same) = absurd (let z : false ≡ true = sym e ∙ eq-eqb r.word r.first same in cc)
        by (inr flat) =
            subst (λ d. Gives Done (prepared servers i (and_then unlabelled (write_stars d 0 start (in_slot r.holder.slot))))) (sym flat) (go (in_slot r.holder.slot) (at_slot (ap (λ b. if b then None else Some r.word) e)))

    followed : Gives Done (prepared servers i (and_then unlabelled (follow_ended (value_at start from) start)))
    followed = subst (λ o. Gives Done (prepared servers i (and_then unlabelled (follow_ended o start)))) (sym there) (holder_ready (r.word == r.first) refl)

    ended : Gives Done (prepared servers i (end_ref from start))
    ended =
        subst (λ o. Gives Done (prepared servers i (and_then unlabelled (and_then (λ h2 s2. follow_ended (value_at h2 s2) h2) (clean_value from o start))))) (sym there) (by (nat_lt (colour_of r.word) s.rest.partition.limit))
      where
        by : (b : Bool)
            → Gives Done (prepared servers i (and_then unlabelled (and_then (λ h2 s2. follow_ended (value_at h2 s2) h2) (if b then cleaned_by (cleaned_answer s.rest.partition.limit r) from r start else nothing))))
        by true =
            subst (λ d. Gives Done (prepared servers i (and_then unlabelled (and_then (λ h2 s2. follow_ended (value_at h2 s2) h2) (cleaned_by (if d then (if nat_lt (colour_of r.word + 1) s.rest.partition.limit then Tinted (next_word r.word) else MustRenew) else Same) from r start)))))
            (sym hand.clean) followed
        by false = tt

  discarded : last_of y.temps ≡ Some (value.Mut r) → (sp : Spot) → AtHolder r sp → Gives P (discard sp start)
  discarded e sp holder =
      subst (λ o. Gives P (then_some (option_map (λ u. record { item = u; hand = with_temps (front_of y.temps) start }) o) (λ (t : Popped Value). drop_value sp t.item (label_dropped t.item t.hand)))) (sym e)
      (finishes sp holder (with_temps (front_of y.temps) start) refl (rethreaded s y [] [] [] start (begins s y) (record y { temps = front_of y.temps }) refl refl) bare)

  newest_ends : last_of y.slots ≡ Some (value.Mut r) → (sp : Spot) → AtHolder r sp → Gives P (drop_slot sp start)
  newest_ends e sp holder =
      subst (λ o. Gives P (then_some (option_map (λ u. record { item = u; hand = with_slots (front_of y.slots) start }) o) (λ (t : Popped Value). drop_value sp t.item (label_dropped t.item t.hand)))) (sym e)
      (finishes sp holder (with_slots (front_of y.slots) start) refl (slots_alike s y [] [] [] start (begins s y) (front_of y.slots) (λ f i. slot_popped f i 0 y.number y.slots (value.Mut r) e tt)) bare)

  discards_led : (servers : ℕ) → last_of y.temps ≡ Some (value.Mut r) → Gives Done (step servers instr.Discard start)
  discards_led servers e =
      subst (λ o. Gives Done (prepared servers instr.Discard (prepare (ending on_top o) start))) (sym e)
      (ended servers instr.Discard on_top e (λ sp holder. goes_on_led (LeavesWords k) k s y at c0 fresh.None (discard sp start) (discarded e sp holder)))

  drops_led : (servers : ℕ) → last_of y.slots ≡ Some (value.Mut r) → Gives Done (step servers instr.DropSlot start)
  drops_led servers e =
      subst (λ o. Gives Done (prepared servers instr.DropSlot (prepare (ending (in_slot (length y.slots - 1)) o) start))) (sym e)
      (ended servers instr.DropSlot (in_slot (length y.slots - 1)) e (λ sp holder. goes_on_led (LeavesWords k) k s y at c0 fresh.None (drop_slot sp start) (newest_ends e sp holder)))

-- so its entry is legal
pub clean_ends_legal : StepsLegal EndsClean
clean_ends_legal k number t s y _ coherent few here at code (discards_clean r e hand) =
    step_legal (LeavesWords k) k number t s y instr.Discard coherent.sound few here at code (ends_at_hand_leave_words k number t s y instr.Discard r coherent few here at code (discards e) hand)
    (λ c0 is_coloured calm. discards_led k coherent.sound number s here c0 is_coloured y (by_number s t y at) (lives y.phase calm) (gift_fits k coherent.sound number s here t y at instr.Discard code).0 r hand k.options.servers e)
clean_ends_legal k number t s y _ coherent few here at code (drops_clean r e hand) =
    step_legal (LeavesWords k) k number t s y instr.DropSlot coherent.sound few here at code (ends_at_hand_leave_words k number t s y instr.DropSlot r coherent few here at code (drops e) hand)
    (λ c0 is_coloured calm. drops_led k coherent.sound number s here c0 is_coloured y (by_number s t y at) (lives y.phase calm) (gift_fits k coherent.sound number s here t y at instr.DropSlot code).0 r hand k.options.servers e)
