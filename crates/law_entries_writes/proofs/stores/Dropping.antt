-- What stood in a variable is dropped: it is let go, a use of a copy ends, or the pointer of the holder gets its word.
use Rattle.std.proofs.Common.{◌≡◌, ◌⊎◌, inl, inr, ℕ, ◌+◌, ◌-◌, ◌==◌, nat_lt, Bool, true, false, if◌then◌else◌, [], length, Option, Some, None, refl, sym, ap, subst, ◌∙◌, arith, append-nil}
use Rattle.std.proofs.lemmas.Bool.{eq-eqb}
use Rattle.std.specs.Prelude.{slice_get, slice_set}
use Rattle.law_entries_reads.specs.Below.law_entries_variables.Below.law_words_ends.Below.fr_base.declared.instruction.Instr.{Instr}
use Rattle.law_entries_reads.specs.Below.law_entries_variables.Below.law_words_ends.Below.fr_base.declared.step.Fresh.TheVariants as fresh
use Rattle.law_entries_reads.specs.Below.law_entries_variables.Below.law_words_ends.Below.global_addr.Words.{colour_of, next_word}
use Rattle.law_entries_reads.specs.Below.law_entries_variables.Below.law_words_ends.Below.heap_partition.declared.value.Owned.{Owned}
use Rattle.law_entries_reads.specs.Below.law_entries_variables.Below.law_words_ends.Below.heap_partition.declared.value.Owned.TheVariants as owned
use Rattle.law_heap_writes.specs.Below.law_words_writes.Below.law_words_values.Below.read_cache.Cache.{users, can_unpin, unpin}
use Rattle.law_entries_reads.specs.Below.law_entries_variables.Below.law_words_ends.Below.mut_borrow.declared.mutable.MutRef.{MutRef}
use Rattle.law_entries_reads.specs.Below.law_entries_variables.Below.law_words_ends.Below.mut_borrow.declared.mutable.Cleaned.TheVariants.{Same, Tinted, MustRenew}
use Rattle.law_entries_reads.specs.Below.law_entries_variables.Below.law_words_ends.Below.mut_borrow.Refs.{cleaned_answer, finish_word}
use Rattle.law_entries_reads.specs.Below.law_entries_variables.Below.law_words_ends.Below.thread_state.View.{ThreadState, is_over}
use Rattle.law_entries_reads.specs.Below.law_entries_variables.Below.law_words_ends.Below.thread_state.declared.value.Value.{Value}
use Rattle.law_entries_reads.specs.Below.law_entries_variables.Below.law_words_ends.Below.thread_state.declared.value.Value.TheVariants as value
use Rattle.law_entries_reads.specs.Below.law_entries_variables.Below.law_words_ends.Below.server_model.Servers.{Server, Cluster, server_at}
use Rattle.law_entries_reads.specs.Below.law_entries_variables.Below.law_words_ends.Below.server_model.Work.{Work, Hand, with_slots, with_cache, working, then_some, thread_in}
use Rattle.law_entries_reads.specs.Below.law_entries_variables.Below.law_words_ends.Below.server_model.Places.{Spot, in_slot, nowhere, value_at, with_word, put_at, set_pointer}
use Rattle.law_entries_reads.specs.Below.law_entries_variables.Below.law_words_ends.Below.server_model.Drop.{unpin_ref, drop_labels, drop_value, finished_at}
use Rattle.law_entries_reads.specs.Below.law_entries_variables.Below.law_words_ends.Below.server_model.Prepare.{nothing, and_then, cleaned_by, clean_value, follow_holder, follow_ended, unlabelled, end_ref, write_stars}
use Rattle.law_entries_reads.specs.Below.law_entries_variables.Below.law_words_ends.Below.server_model.Commit.{label_dropped, commit}
use Rattle.law_entries_reads.specs.Below.law_entries_variables.Below.law_words_ends.Below.server_model.Events.{Stepped, begin_work, prepared, committed, stepped}
use Rattle.law_entries_writes.specs.Below.law_entries_variables.Below.coloured_heap.Heap.{Coloured}
use Rattle.law_entries_reads.specs.Below.law_entries_variables.Below.law_words_ends.Below.coherent_memory.Things.{things_at, copy_things}
use Rattle.law_entries_reads.specs.Below.law_entries_variables.Below.law_words_ends.Below.coherent_memory.Colours.{StandsColoured}
use Rattle.law_entries_reads.specs.Below.law_entries_variables.Below.law_words_ends.Below.coherent_memory.Coherent.{IsSound}
use Rattle.law_entries_reads.specs.Below.law_entries_variables.Below.law_words_ends.Below.law_counts_sums.Laws.{Gives}
use Rattle.law_entries_reads.proofs.Below.law_entries_variables.Below.law_words_ends.Below.law_counts_sums.Trades.{trade_whole}
use Rattle.law_entries_reads.proofs.Below.law_entries_variables.Below.law_words_ends.Below.law_counts_sums.Bags.{of_cache}
use Rattle.law_entries_reads.specs.Below.law_entries_variables.Below.law_words_ends.Below.law_words_paths.words.Unmoved.{LeavesWords}
use Rattle.law_entries_reads.specs.Below.law_entries_variables.Below.law_words_ends.variables.Ends.{EndsAtHand}
use Rattle.law_entries_writes.proofs.Below.law_entries_variables.deliveries.Weighed.{WorkTurns}
use Rattle.law_entries_writes.proofs.Below.law_entries_variables.still.Settled.{none_held, users_unseen}
use Rattle.law_entries_reads.specs.Below.law_entries_variables.variables.Steps.{IsPlain}
use Rattle.law_entries_reads.proofs.Below.law_entries_variables.variables.Slots.{IsUnmarked, slot_put}
use Rattle.law_entries_reads.proofs.Below.law_entries_variables.variables.Turning.{Turning, slots_alike, labelled, worked_alike}
use Rattle.law_entries_reads.proofs.Below.law_entries_variables.variables.Led.{LedWith, Steps}
use Rattle.law_entries_reads.proofs.Below.law_entries_variables.variables.GiveUps.{Given, given_up}
use Rattle.law_entries_reads.proofs.Below.law_entries_variables.variables.Quiets.{quiet_steps}
use Rattle.law_entries_reads.proofs.Below.law_entries_variables.variables.Drops.{quiet_drop}

-- a use of a copy ends
use_ends : (x : Work) (w : ℕ) → WorkTurns x [] [] [] (with_cache (unpin x.rest.cache w) x)
use_ends x w = record {
  number = refl;
  noted = sym (append-nil x.acts);
  labels = refl;
  things = λ f i.
      let n = x.rest.number in
      let cs = unpin x.rest.cache w in
      let t = of_cache n 0 x.rest cs (trade_whole (things_at (copy_things n) 0 x.rest.cache) (things_at (copy_things n) 0 cs)) in
      omega (arith, t.before f, t.after f, users_unseen f i.unused n 0 x.rest.cache w (users x.rest.cache w - 1));
}

-- where its holder's pointer is, if that gets a word
pub data AtHolder (r : MutRef) : Spot → Type 0 where
  same_word : finish_word r ≡ None → AtHolder r nowhere
  at_slot : finish_word r ≡ Some r.word → AtHolder r (in_slot r.holder.slot)

-- a pointer with another word is no mark, nor was it one
reworded : (w : ℕ) (v new : Value) → with_word w v ≡ Some new → IsUnmarked v × IsUnmarked new
reworded w (value.Own (owned.Box p)) new e = let same : value.Own (owned.Box (record p { word = w })) ≡ new = cc in (tt, subst IsUnmarked same tt)
reworded w (value.Mut r) new e = let same : value.Mut (record r { word = w; dirty = false }) ≡ new = cc in (tt, subst IsUnmarked same tt)
reworded w (value.Own owned.Nothing) new e = absurd (cc e)
reworded w (value.Own owned.Unit) new e = absurd (cc e)
reworded w (value.Own (owned.Int i)) new e = absurd (cc e)
reworded w (value.Own (owned.Mutex m)) new e = absurd (cc e)
reworded w (value.Own (owned.Task u)) new e = absurd (cc e)
reworded w value.Gone new e = absurd (cc e)
reworded w (value.SharedSlot i) new e = absurd (cc e)
reworded w (value.MutSlot i) new e = absurd (cc e)
reworded w (value.Shared q) new e = absurd (cc e)
reworded w (value.Held m) new e = absurd (cc e)

module _ (k : Cluster) (sound : IsSound k) (number : ℕ) (s : Server) (here : server_at k.servers number ≡ Some s) (c0 : Coloured) (is_coloured : StandsColoured k c0) (y : ThreadState) (at : thread_in s.threads y.number ≡ Some y) (live : is_over y.phase ≡ false) (bare : y.gift ≡ None) where
  abbrev pub start : Hand
  start = record { work = begin_work s.rest; thread = y }

  abbrev pub P : Hand → Type 0
  P = Steps (LeavesWords k) k s y c0 fresh.None false

  abbrev pub Done : Stepped → Type 0
  Done d = LedWith (LeavesWords k) k s c0 (stepped s d)

  pub quiet : (h : Hand) → Turning s y [] [] [] h → h.thread.gift ≡ None → P h
  quiet h t free = quiet_steps k sound number s here c0 is_coloured y at live h t free (none_held k sound number s here c0 is_coloured y.number y at live y bare)

  -- a value that is no mutable reference to an object is dropped, where it is given if it is owned
  pub plain_dropped : (v : Value) → IsPlain v → ((u : Owned) → v ≡ value.Own u → Given k u) → (h : Hand) → Turning s y [] [] [] h → h.thread.gift ≡ None → Gives P (drop_value nowhere v (label_dropped v h))
  plain_dropped (value.Own u) p given h t free =
      given_up k sound number s here c0 is_coloured y at live bare false (λ e. absurd (cc e)) (label_dropped (value.Own u) h) u (labelled s y [] [] [] h t (drop_labels (value.Own u)) (quiet_drop u)) free (given u refl)
  plain_dropped value.Gone p given h t free = quiet _ (labelled s y [] [] [] h t [] refl) free
  plain_dropped (value.SharedSlot i) p given h t free = quiet _ (labelled s y [] [] [] h t [] refl) free
  plain_dropped (value.MutSlot i) p given h t free = quiet _ (labelled s y [] [] [] h t [] refl) free
  plain_dropped (value.Mut r) p given h t free = absurd p
  plain_dropped (value.Held m) p given h t free = absurd p
  plain_dropped (value.Shared r) p given h t free = by r.pinned
    where
      h1 : Hand
      h1 = label_dropped (value.Shared r) h

      t1 : Turning s y [] [] [] h1
      t1 = labelled s y [] [] [] h t [] refl

      used : (b : Bool) → Gives P (if b then Some (working (with_cache (unpin h1.work.rest.cache r.word)) h1) else None)
      used true = quiet _ (worked_alike s y [] [] [] h1 t1 (with_cache (unpin h1.work.rest.cache r.word) h1.work) (use_ends h1.work r.word)) free
      used false = tt

      by : (b : Bool) → Gives P (unpin_ref r b h1)
      by true = used (can_unpin h1.work.rest.cache r.word)
      by false = quiet h1 t1 free

  -- A MUTABLE REFERENCE ENDS

  module _ (r : MutRef) (hand : EndsAtHand r) where
    -- the pointer in a slot gets its word
    slot_gets : (i w : ℕ) (h : Hand) → Turning s y [] [] [] h → h.thread.gift ≡ None → Gives P (set_pointer (in_slot i) w h)
    slot_gets i w h t free = by (slice_get h.thread.slots i) refl
      where
        put : (v new : Value) → slice_get h.thread.slots i ≡ Some v → IsUnmarked v × IsUnmarked new → (b : Bool) → Gives P (if b then Some (with_slots (slice_set h.thread.slots i new) h) else None)
        put v new e p true = quiet (with_slots (slice_set h.thread.slots i new) h) (slots_alike s y [] [] [] h t (slice_set h.thread.slots i new) (λ f j. slot_put f j 0 h.thread.number h.thread.slots i v new e p.0 p.1)) free
        put v new e p false = tt

        worded : (v : Value) → slice_get h.thread.slots i ≡ Some v → (o : Option Value) → with_word w v ≡ o → Gives P (then_some o (λ new. put_at (in_slot i) new h))
        worded v e None q = tt
        worded v e (Some new) q = put v new e (reworded w v new q) (nat_lt i (length h.thread.slots))

        by : (o : Option Value) → slice_get h.thread.slots i ≡ o → Gives P (then_some o (λ v. then_some (with_word w v) (λ new. put_at (in_slot i) new h)))
        by None e = tt
        by (Some v) e = worded v e (with_word w v) refl

    -- it ends
    pub finishes : (sp : Spot) → AtHolder r sp → (h : Hand) → Turning s y [] [] [] h → h.thread.gift ≡ None → Gives P (drop_value sp (value.Mut r) (label_dropped (value.Mut r) h))
    finishes _ (same_word e) h t free =
        let h1 : Hand = label_dropped (value.Mut r) h in
        subst (λ b. Gives P (if b then None else finished_at nowhere (finish_word r) h1)) (sym hand.clean) (subst (λ o. Gives P (finished_at nowhere o h1)) (sym e) (quiet h1 (labelled s y [] [] [] h t [] refl) free))
    finishes _ (at_slot e) h t free =
        let h1 : Hand = label_dropped (value.Mut r) h in
        subst (λ b. Gives P (if b then None else finished_at (in_slot r.holder.slot) (finish_word r) h1)) (sym hand.clean)
        (subst (λ o. Gives P (finished_at (in_slot r.holder.slot) o h1)) (sym e) (slot_gets r.holder.slot r.word h1 (labelled s y [] [] [] h t [] refl) free))

    -- its place is ready, and so is its holder's
    module _ (servers : ℕ) (i : Instr) (at_it : Spot) (there : value_at start at_it ≡ Some (value.Mut r)) (go : (sp : Spot) → AtHolder r sp → Gives Done (committed (commit servers i sp start))) where
      holder_ready : (b : Bool) → (r.word == r.first) ≡ b → Gives Done (prepared servers i (and_then unlabelled (follow_holder r (if b then None else Some r.word) start)))
      holder_ready true e = go nowhere (same_word (ap (λ b. if b then None else Some r.word) e))
      holder_ready false e = by hand.near
        where
          by : (r.word ≡ r.first) ⊎ (r.holder.depth ≡ 0) → Gives Done (prepared servers i (and_then unlabelled (write_stars r.holder.depth 0 start (in_slot r.holder.slot))))
          by (inl same) = absurd (let z : false ≡ true = sym e ∙ eq-eqb r.word r.first same in cc)
          by (inr flat) =
              subst (λ d. Gives Done (prepared servers i (and_then unlabelled (write_stars d 0 start (in_slot r.holder.slot))))) (sym flat) (go (in_slot r.holder.slot) (at_slot (ap (λ b. if b then None else Some r.word) e)))

      followed : Gives Done (prepared servers i (and_then unlabelled (follow_ended (value_at start at_it) start)))
      followed = subst (λ o. Gives Done (prepared servers i (and_then unlabelled (follow_ended o start)))) (sym there) (holder_ready (r.word == r.first) refl)

      pub ended : Gives Done (prepared servers i (end_ref at_it start))
      ended =
          subst (λ o. Gives Done (prepared servers i (and_then unlabelled (and_then (λ h2 s2. follow_ended (value_at h2 s2) h2) (clean_value at_it o start))))) (sym there) (by (nat_lt (colour_of r.word) s.rest.partition.limit))
        where
          by : (b : Bool)
              → Gives Done (prepared servers i (and_then unlabelled (and_then (λ h2 s2. follow_ended (value_at h2 s2) h2) (if b then cleaned_by (cleaned_answer s.rest.partition.limit r) at_it r start else nothing))))
          by true =
              subst (λ d. Gives Done (prepared servers i (and_then unlabelled (and_then (λ h2 s2. follow_ended (value_at h2 s2) h2) (cleaned_by (if d then (if nat_lt (colour_of r.word + 1) s.rest.partition.limit then Tinted (next_word r.word) else MustRenew) else Same) at_it r start)))))
              (sym hand.clean) followed
          by false = tt
