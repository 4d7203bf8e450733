-- An assignment to a variable, where it owns its value, or nothing is there.
use Rattle.std.proofs.Common.{◌≡◌, ◌⊎◌, inl, inr, ⊎_elim, ℕ, Bool, true, false, if◌then◌else◌, List, [], ◌++◌, Option, Some, None, option_map, refl, sym, ap, subst, ◌∙◌}
use Rattle.std.specs.Prelude.{nat_lt, slice_get, slice_set, length}
use Rattle.law_words_kept.specs.Below.fr_base.declared.instruction.Operand.{Operand}
use Rattle.law_words_kept.specs.Below.fr_base.declared.instruction.Operand.TheVariants as operand
use Rattle.law_words_kept.specs.Below.fr_base.declared.instruction.Instr.{Instr}
use Rattle.law_words_kept.specs.Below.fr_base.declared.step.Fresh.TheVariants as fresh
use Rattle.law_words_kept.proofs.Below.fr_typing.PlaceLemmas.{eq_cases}
use Rattle.law_words_kept.specs.Below.heap_partition.declared.value.Owned.{Owned}
use Rattle.law_words_kept.specs.Below.heap_partition.declared.value.Owned.TheVariants as owned
use Rattle.law_words_kept.specs.Below.thread_state.View.{ThreadState}
use Rattle.law_words_kept.specs.Below.thread_state.declared.value.Value.{Value}
use Rattle.law_words_kept.specs.Below.thread_state.declared.value.Value.TheVariants as value
use Rattle.law_words_kept.specs.Below.server_model.Work.{Work, Hand, Popped, last_of, front_of, with_slots, with_temps, pop, then_some, working, unit}
use Rattle.law_words_kept.specs.Below.server_model.Drop.{give_up, drop_value}
use Rattle.law_words_kept.specs.Below.server_model.Places.{nowhere as no_spot, put_slot}
use Rattle.law_words_kept.specs.Below.server_model.Commit.{done_where, go_on, label_dropped, replace_slot, settle}
use Rattle.law_words_kept.specs.Below.server_model.Events.{Stepped, done_step, committed}
use Rattle.law_words_kept.specs.Below.coherent_memory.Things.{in_slot, at_slot, things_at, slot_things, thread_things}
use Rattle.law_words_kept.specs.Below.law_words_paths.words.Unmoved.{pointing}
use Rattle.law_words_kept.proofs.Below.law_words_paths.words.Slots.{set_same, set_other}
use Rattle.law_words_kept.specs.Below.law_counts_sums.Laws.{Gives}
use Rattle.law_words_kept.proofs.Below.law_counts_sums.Results.{over_gives}
use Rattle.law_words_kept.proofs.Below.law_counts_sums.Values.{last_split}
use Rattle.law_words_kept.proofs.Below.law_counts_sums.Bags.{body_things}
use Rattle.law_words_kept.proofs.stays.Alike.{Alike, itself, turned, beside}
use Rattle.law_words_kept.proofs.stays.Servers.{held, held_if, given_up}
use Rattle.law_words_kept.proofs.stays.Threads.{temps_of, thread_alike}
use Rattle.law_words_kept.proofs.stays.Steps.{IsUnseen, owned_unseen, TakesNoneHere, settles}
use Rattle.law_words_kept.proofs.stays.Sites.{HandAlike}
use Rattle.law_words_values.proofs.carried.Passing.{slot, temp}
use Rattle.law_words_values.proofs.carried.Places.{set_things, set_twice, set_seen, slot_emptied, slot_filled}
use Rattle.law_words_values.proofs.carried.Hands.{each_together, together_chain, seen, passed, moved_on, Assigned}
use Rattle.law_words_values.proofs.carried.Steps.{Does, goes_next, given_to_rest}

same_or_not : (a b : ℕ) → (a ≡ b) ⊎ (a ≡ b → ⊥)
same_or_not a b = eq_cases (λ c. (a ≡ b) ⊎ (a ≡ b → ⊥)) a b (λ e. inl e) (λ d. inr d)

-- where nothing is, what words don't see comes
fill_seen : (xs : List Value) (i : ℕ) (v : Value) → slice_get xs i ≡ Some value.Gone → pointing (Some v) ≡ None → (j : ℕ) → pointing (slice_get (slice_set xs i v) j) ≡ pointing (slice_get xs j)
fill_seen xs i v gone e j =
    ⊎_elim (λ (s : j ≡ i). ap (λ m. pointing (slice_get (slice_set xs i v) m)) s ∙ ap pointing (set_same xs i value.Gone v gone) ∙ e ∙ sym (ap pointing gone) ∙ sym (ap (λ m. pointing (slice_get xs m)) s))
    (λ (d : j ≡ i → ⊥). ap pointing (set_other xs i j v d)) (same_or_not j i)

module _ (code : List Instr) (n : ℕ) (h : Hand) (none : TakesNoneHere code h.thread) (number : h.work.rest.number ≡ n) (free : h.thread.gift ≡ None) (i : ℕ) where
  abbrev x : ThreadState
  x = h.thread

  -- what comes out is dropped, and that is in the slot
  abbrev dropped_for : Owned → Value → Hand → Hand
  dropped_for u v hp = working (give_up u) (with_slots (slice_set hp.thread.slots i v) (label_dropped (value.Own u) hp))

  -- the thread without its slot's value
  abbrev emptied : Owned → ThreadState
  emptied u = record x { slots = slice_set x.slots i value.Gone; gift = Some u }

  -- the variable's old value goes at an assignment to it
  pub record Puts (h2 : Hand) : Type 0 where
    pub assigned : Assigned code n h h2
    pub place : assigned.index ≡ i
    pub untaken : TakesNoneHere code h2.thread

  module _ (u : Owned) (stood : slice_get x.slots i ≡ Some (value.Own u)) where
    gone_now : slice_get (slice_set x.slots i value.Gone) i ≡ Some value.Gone
    gone_now = set_same x.slots i (value.Own u) value.Gone stood

    rest_takes : (hp : Hand) → hp.work ≡ h.work → (v : Value) → Alike code (held u ++ body_things n h.work.rest) (body_things n (dropped_for u v hp).work.rest)
    rest_takes hp same v =
        let q = given_up {code = code} n (held u ++ body_things n hp.work.rest) u (label_dropped (value.Own u) hp).work (ap (λ (w : Work). w.rest.number) same ∙ number) (itself (held u ++ body_things n hp.work.rest)) in
        subst (λ (w : Work). Alike code (held u ++ body_things n w.rest) (body_things n (dropped_for u v hp).work.rest)) same q.alike

    rest_number : (hp : Hand) → hp.work ≡ h.work → (v : Value) → (dropped_for u v hp).work.rest.number ≡ h.work.rest.number
    rest_number hp same v =
        (given_up {code = code} n (held u ++ body_things n hp.work.rest) u (label_dropped (value.Own u) hp).work (ap (λ (w : Work). w.rest.number) same ∙ number) (itself (held u ++ body_things n hp.work.rest))).number ∙ sym number

    -- a value that words don't see comes
    plain_comes : (v : Value) → pointing (Some v) ≡ None → IsUnseen v → Puts (dropped_for u v h)
    plain_comes v points unseen = record {
      assigned = record {
        index = i;
        content = u;
        after = emptied u;
        stood = stood;
        passes = slot_emptied code n x none i u stood free;
        next = seen (record { number = rest_number h refl v; named = refl; alike = given_to_rest code n (record x { slots = slice_set x.slots i value.Gone }) (record x { slots = slice_set x.slots i v }) u h.work.rest (dropped_for u v h).work.rest free threads (rest_takes h refl v) });
      };
      place = refl;
      untaken = none;
    }
      where
        slots : Alike code (things_at (slot_things n x.number) 0 (slice_set x.slots i value.Gone)) (things_at (slot_things n x.number) 0 (slice_set x.slots i v))
        slots =
            subst (λ vs. Alike code (things_at (slot_things n x.number) 0 (slice_set x.slots i value.Gone)) (things_at (slot_things n x.number) 0 vs)) (set_twice x.slots i value.Gone v)
            (set_things (slot_things n x.number) 0 i (slice_set x.slots i value.Gone) value.Gone v gone_now (λ m. turned (unseen.things n (in_slot x.number m) (at_slot x.number m))))

        threads : Alike code (thread_things n false (record x { slots = slice_set x.slots i value.Gone })) (thread_things n false (record x { slots = slice_set x.slots i v }))
        threads =
            thread_alike n n false false (record x { slots = slice_set x.slots i value.Gone }) (record x { slots = slice_set x.slots i v }) [] [] (record { number = refl; taking = refl; slots = set_seen x.slots i value.Gone v points; temps = λ j. refl })
            slots (itself (temps_of n x)) (itself (held_if x.gift))

    -- the temporary value on top comes
    top_comes : (v : Value) → last_of x.temps ≡ Some v → Puts (dropped_for u v (with_temps (front_of x.temps) h))
    top_comes v e =
        let ts : List Value = front_of x.temps in
        let y : ThreadState = emptied u in
        let z : ThreadState = record y { temps = ts; slots = slice_set y.slots i v } in
        let hp : Hand = with_temps ts h in record {
          assigned = record {
            index = i;
            content = u;
            after = y;
            stood = stood;
            passes = slot_emptied code n x none i u stood free;
            next = passed y z refl (itself (thread_things n false y)) (λ o. refl) (slot_filled code n y none ts v i (last_split x.temps v e) gone_now) (λ j w. blind ts j w)
                (record { number = rest_number hp refl v; named = refl; alike = given_to_rest code n (record x { temps = ts; slots = slice_set (slice_set x.slots i value.Gone) i v }) (record x { temps = ts; slots = slice_set x.slots i v }) u h.work.rest (dropped_for u v hp).work.rest free (threads ts v) (rest_takes hp refl v) });
          };
          place = refl;
          untaken = none;
        }
      where
        blind : (ts : List Value) (j : ℕ) → (slot j ≡ temp (length ts)) ⊎ (slot j ≡ slot i) → pointing (slice_get (slice_set x.slots i value.Gone) j) ≡ None
        blind ts j (inl q) = absurd cc
        blind ts j (inr q) = let e : j ≡ i = cc in ap (λ m. pointing (slice_get (slice_set x.slots i value.Gone) m)) e ∙ ap pointing gone_now

        threads : (ts : List Value) (v : Value) → Alike code (thread_things n false (record x { temps = ts; slots = slice_set (slice_set x.slots i value.Gone) i v })) (thread_things n false (record x { temps = ts; slots = slice_set x.slots i v }))
        threads ts v =
            subst (λ vs. Alike code (thread_things n false (record x { temps = ts; slots = slice_set (slice_set x.slots i value.Gone) i v })) (thread_things n false (record x { temps = ts; slots = vs }))) (set_twice x.slots i value.Gone v)
            (itself (thread_things n false (record x { temps = ts; slots = slice_set (slice_set x.slots i value.Gone) i v })))

    -- the slot is there
    put_there : (v : Value) (hp : Hand) → hp.thread.slots ≡ x.slots → Puts (dropped_for u v hp) → Gives Puts (replace_slot i no_spot v hp)
    put_there v hp same g =
        subst (λ o. Gives Puts (then_some o (λ old. then_some (put_slot i v (label_dropped old hp)) (drop_value no_spot old)))) (sym (ap (λ vs. slice_get vs i) same ∙ stood)) (by (nat_lt i (length hp.thread.slots)))
      where
        by : (b : Bool) → Gives Puts (then_some (if b then Some (with_slots (slice_set hp.thread.slots i v) (label_dropped (value.Own u) hp)) else None) (drop_value no_spot (value.Own u)))
        by false = tt
        by true = g

    pub puts : (o : Operand) → Gives Puts (then_some (pop o h) (λ t. replace_slot i no_spot t.item t.hand))
    puts (operand.Const c) = put_there (value.Own (owned.Int c)) h refl (plain_comes (value.Own (owned.Int c)) refl (owned_unseen (owned.Int c) refl))
    puts operand.Unit = put_there unit h refl (plain_comes unit refl (owned_unseen owned.Unit refl))
    puts operand.Pop = by (last_of x.temps) refl
      where
        by : (o : Option Value) → last_of x.temps ≡ o → Gives Puts (then_some {X = Popped Value} (option_map (λ v. record { item = v; hand = with_temps (front_of x.temps) h }) o) (λ t. replace_slot i no_spot t.item t.hand))
        by None e = tt
        by (Some v) e = put_there v (with_temps (front_of x.temps) h) refl (top_comes v e)

  -- WHERE NOTHING IS THERE

  module _ (gone : slice_get x.slots i ≡ Some value.Gone) where
    fill_plain : (v : Value) → pointing (Some v) ≡ None → IsUnseen v → Does code n h (with_slots (slice_set x.slots i v) (label_dropped value.Gone h))
    fill_plain v points unseen = record { moved = seen (record { number = refl; named = refl; alike = beside threads (itself (body_things n h.work.rest)) }); untaken = none }
      where
        threads : Alike code (thread_things n false x) (thread_things n false (record x { slots = slice_set x.slots i v }))
        threads =
            thread_alike n n false false x (record x { slots = slice_set x.slots i v }) [] [] (record { number = refl; taking = refl; slots = fill_seen x.slots i v gone points; temps = λ j. refl })
            (set_things (slot_things n x.number) 0 i x.slots value.Gone v gone (λ m. turned (unseen.things n (in_slot x.number m) (at_slot x.number m)))) (itself (temps_of n x)) (itself (held_if x.gift))

    fill_top : (v : Value) → last_of x.temps ≡ Some v → Does code n h (with_slots (slice_set x.slots i v) (label_dropped value.Gone (with_temps (front_of x.temps) h)))
    fill_top v e =
        let ts : List Value = front_of x.temps in
        let z : ThreadState = record x { temps = ts; slots = slice_set x.slots i v } in record {
          moved = passed x z refl (itself (thread_things n false x)) (λ o. refl) (slot_filled code n x none ts v i (last_split x.temps v e) gone) (λ j w. blind ts j w)
              (record { number = refl; named = refl; alike = itself (thread_things n false z ++ body_things n h.work.rest) });
          untaken = none;
        }
      where
        blind : (ts : List Value) (j : ℕ) → (slot j ≡ temp (length ts)) ⊎ (slot j ≡ slot i) → pointing (slice_get x.slots j) ≡ None
        blind ts j (inl q) = absurd cc
        blind ts j (inr q) = let e : j ≡ i = cc in ap (λ m. pointing (slice_get x.slots m)) e ∙ ap pointing gone

    fill_there : (v : Value) (hp : Hand) → hp.thread.slots ≡ x.slots → Does code n h (with_slots (slice_set hp.thread.slots i v) (label_dropped value.Gone hp)) → Gives (Does code n h) (replace_slot i no_spot v hp)
    fill_there v hp same g = subst (λ o. Gives (Does code n h) (then_some o (λ old. then_some (put_slot i v (label_dropped old hp)) (drop_value no_spot old)))) (sym (ap (λ vs. slice_get vs i) same ∙ gone)) (by (nat_lt i (length hp.thread.slots)))
      where
        by : (b : Bool) → Gives (Does code n h) (then_some (if b then Some (with_slots (slice_set hp.thread.slots i v) (label_dropped value.Gone hp)) else None) (drop_value no_spot value.Gone))
        by false = tt
        by true = g

    pub fills : (o : Operand) → Gives (Does code n h) (then_some (pop o h) (λ t. replace_slot i no_spot t.item t.hand))
    fills (operand.Const c) = fill_there (value.Own (owned.Int c)) h refl (fill_plain (value.Own (owned.Int c)) refl (owned_unseen (owned.Int c) refl))
    fills operand.Unit = fill_there unit h refl (fill_plain unit refl (owned_unseen owned.Unit refl))
    fills operand.Pop = by (last_of x.temps) refl
      where
        by : (o : Option Value) → last_of x.temps ≡ o → Gives (Does code n h) (then_some {X = Popped Value} (option_map (λ v. record { item = v; hand = with_temps (front_of x.temps) h }) o) (λ t. replace_slot i no_spot t.item t.hand))
        by None e = tt
        by (Some v) e = fill_there v (with_temps (front_of x.temps) h) refl (fill_top v e)

  -- THE STEP IS DONE

  pub record Put (h2 : Hand) : Type 0 where
    pub assigned : Assigned code n h h2
    pub place : assigned.index ≡ i

  pub puts_over : (o : Option Hand) → Gives Puts o → Gives (λ (d : Stepped). Put d.hand) (committed (done_where fresh.None (option_map go_on o)))
  puts_over None g = tt
  puts_over (Some h2) g =
      over_gives (HandAlike code n [] (go_on h2)) (λ (d : Stepped). Put d.hand) (settle (go_on h2)) (done_step fresh.None) (settles code n (go_on h2))
      (λ h3 a.
      let q = g.assigned in
      record { assigned = record { index = q.index; content = q.content; after = q.after; stood = q.stood; passes = q.passes; next = moved_on q.next (together_chain (goes_next code n h2 g.untaken) (each_together a)) }; place = g.place })
