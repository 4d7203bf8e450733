-- What a step does to its thread and its server where a reference goes, as words see it.
use Rattle.std.proofs.Common.{◌≡◌, ◌⊎◌, inl, inr, ℕ, Bool, true, false, if◌then◌else◌, List, [], ◌∷◌, ◌++◌, Option, Some, None, option_map, refl, sym, ap, subst, ◌∙◌}
use Rattle.std.specs.Prelude.{nat_lt, slice_get, slice_set, length}
use Rattle.law_words_values.specs.Below.fr_base.declared.instruction.Operand.{Operand}
use Rattle.law_words_values.specs.Below.fr_base.declared.instruction.Operand.TheVariants as operand
use Rattle.law_words_values.specs.Below.fr_base.declared.instruction.Instr.{Instr}
use Rattle.law_words_values.specs.Below.heap_partition.declared.value.Owned.TheVariants as owned
use Rattle.law_words_values.specs.Below.read_cache.Cache.{can_unpin, unpin}
use Rattle.law_words_values.specs.Below.thread_state.View.{ThreadState}
use Rattle.law_words_values.specs.Below.thread_state.declared.value.Value.{Value}
use Rattle.law_words_values.specs.Below.thread_state.declared.value.Value.TheVariants as value
use Rattle.law_words_values.specs.Below.server_model.Work.{Hand, Popped, last_of, front_of, with_cache, with_slots, with_temps, push_temp, pop, then_some, working, unit}
use Rattle.law_words_values.specs.Below.server_model.Drop.{unpin_ref, drop_value}
use Rattle.law_words_values.specs.Below.server_model.Places.{load_at, in_slot as spot_slot, nowhere as no_spot, put_slot}
use Rattle.law_words_values.specs.Below.server_model.Commit.{label_dropped, replace_slot, read, read_as, discard, drop_slot}
use Rattle.law_words_values.specs.Below.coherent_memory.Things.{in_slot, at_slot, things_at, slot_things, thread_things}
use Rattle.law_words_values.specs.Below.law_words_paths.words.Unmoved.{pointing}
use Rattle.law_words_values.proofs.Below.law_words_paths.words.Slots.{set_same}
use Rattle.law_words_values.specs.Below.law_counts_sums.Laws.{Gives}
use Rattle.law_words_values.proofs.Below.law_counts_sums.Results.{weaker}
use Rattle.law_words_values.proofs.Below.law_counts_sums.Values.{last_split}
use Rattle.law_words_values.proofs.Below.law_counts_sums.Bags.{body_things}
use Rattle.law_words_values.proofs.Below.law_words_kept.stays.Alike.{Alike, itself, turned, beside}
use Rattle.law_words_values.proofs.Below.law_words_kept.stays.Servers.{held_if, other_copies}
use Rattle.law_words_values.proofs.Below.law_words_kept.stays.Threads.{temps_of, thread_alike}
use Rattle.law_words_values.proofs.Below.law_words_kept.stays.Steps.{IsUnseen, owned_unseen, TakesNoneHere}
use Rattle.law_words_values.proofs.carried.Passing.{slot, temp}
use Rattle.law_words_values.proofs.carried.Places.{set_things, set_twice, set_seen, slot_filled}
use Rattle.law_words_values.proofs.carried.Hands.{seen, passed, moved_on}
use Rattle.law_words_values.proofs.carried.Steps.{Does}
use Rattle.law_words_values.specs.references.Gone.{IsLight, to_slot, to_slot_mutably, shared_to}

-- WHAT GOES WITH A REFERENCE

-- the thread is as it was, and words see the same of the server
record Freed (code : List Instr) (n : ℕ) (h h2 : Hand) : Type 0 where
  thread : h2.thread ≡ h.thread
  number : h2.work.rest.number ≡ h.work.rest.number
  rest : Alike code (body_things n h.work.rest) (body_things n h2.work.rest)

module _ (code : List Instr) (n : ℕ) where
  frees_nothing : (h : Hand) → Freed code n h h
  frees_nothing h = record { thread = refl; number = refl; rest = itself (body_things n h.work.rest) }

  light_freed : (v : Value) → IsLight v → (h : Hand) → Gives (Freed code n h) (drop_value no_spot v h)
  light_freed _ (to_slot i) h = frees_nothing h
  light_freed _ (to_slot_mutably i) h = frees_nothing h
  light_freed _ (shared_to r) h = by r.pinned
    where
      at_use : (b : Bool) → Gives (Freed code n h) (if b then Some (working (with_cache (unpin h.work.rest.cache r.word)) h) else None)
      at_use true = record { thread = refl; number = refl; rest = other_copies n h.work.rest (unpin h.work.rest.cache r.word) }
      at_use false = tt

      by : (b : Bool) → Gives (Freed code n h) (unpin_ref r b h)
      by false = frees_nothing h
      by true = at_use (can_unpin h.work.rest.cache r.word)

  freed_does : (h h1 h2 : Hand) → Does code n h h1 → Freed code n h1 h2 → Does code n h h2
  freed_does h h1 h2 d f = record {
    moved = moved_on d.moved (record {
      number = f.number;
      named = ap (λ (z : ThreadState). z.number) f.thread;
      alike = subst (λ (z : ThreadState). Alike code (thread_things n false h1.thread ++ body_things n h1.work.rest) (thread_things n false z ++ body_things n h2.work.rest)) (sym f.thread) (beside (itself (thread_things n false h1.thread)) f.rest);
    });
    untaken = subst (λ (z : ThreadState). TakesNoneHere code z) (sym f.thread) d.untaken;
  }

  -- the value goes, whatever was done before
  then_dropped : (h h1 : Hand) (v : Value) → IsLight v → Does code n h h1 → Gives (Does code n h) (drop_value no_spot v h1)
  then_dropped h h1 v light d = weaker (Freed code n h1) (Does code n h) (drop_value no_spot v h1) (light_freed v light h1) (λ h2 f. freed_does h h1 h2 d f)

  module _ (h : Hand) (none : TakesNoneHere code h.thread) where
    abbrev x : ThreadState
    x = h.thread

    -- so far the thread alone is another one
    as_is : (h1 : Hand) → TakesNoneHere code h1.thread → Does code n h1 h1
    as_is h1 untaken = record { moved = seen (record { number = refl; named = refl; alike = itself (thread_things n false h1.thread ++ body_things n h1.work.rest) }); untaken = untaken }

    pub relabelled : (h1 : Hand) (v : Value) → TakesNoneHere code h1.thread → Does code n h1 (label_dropped v h1)
    relabelled h1 v untaken = record { moved = seen (record { number = refl; named = refl; alike = itself (thread_things n false h1.thread ++ body_things n h1.work.rest) }); untaken = untaken }

    -- THE NEWEST SLOT GOES

    pub slot_drops : (v : Value) → last_of x.slots ≡ Some v → IsLight v → Gives (Does code n (with_slots (front_of x.slots) h)) (drop_slot no_spot h)
    slot_drops v e light =
        let h1 : Hand = with_slots (front_of x.slots) h in
        subst (λ o. Gives (Does code n h1) (then_some {X = Popped Value} (option_map (λ w. record { item = w; hand = h1 }) o) (λ t. drop_value no_spot t.item (label_dropped t.item t.hand)))) (sym e)
        (then_dropped h1 (label_dropped v h1) v light (relabelled h1 v none))

    -- THE TEMPORARY VALUE ON TOP GOES

    pub top_drops : (v : Value) → last_of x.temps ≡ Some v → IsLight v → Gives (Does code n (with_temps (front_of x.temps) h)) (discard no_spot h)
    top_drops v e light =
        let h1 : Hand = with_temps (front_of x.temps) h in
        subst (λ o. Gives (Does code n h1) (then_some {X = Popped Value} (option_map (λ w. record { item = w; hand = h1 }) o) (λ t. drop_value no_spot t.item (label_dropped t.item t.hand)))) (sym e)
        (then_dropped h1 (label_dropped v h1) v light (relabelled h1 v none))

    module _ (i : ℕ) where
      -- A VARIABLE'S VALUE IS MOVED OUT

      abbrev pub moved_out : Value → Hand
      moved_out v = record h { thread = record x { slots = slice_set x.slots i value.Gone; temps = x.temps ++ v ∷ [] } }

      pub moves_out : (v : Value) → slice_get x.slots i ≡ Some v → Gives (Does code n (moved_out v)) (read true (spot_slot i) h)
      moves_out v e = subst (λ o. Gives (Does code n (moved_out v)) (then_some o (λ w. read_as true (spot_slot i) w (load_at (spot_slot i) h)))) (sym e) (by (nat_lt i (length x.slots)))
        where
          by : (b : Bool) → Gives (Does code n (moved_out v)) (option_map (push_temp v) (if b then Some (with_slots (slice_set x.slots i value.Gone) (load_at (spot_slot i) h)) else None))
          by false = tt
          by true = record { moved = seen (record { number = refl; named = refl; alike = itself (thread_things n false (moved_out v).thread ++ body_things n h.work.rest) }); untaken = none }

      -- A VARIABLE IS ASSIGNED

      abbrev pub emptied : Hand
      emptied = with_slots (slice_set x.slots i value.Gone) h

      module _ (old : Value) (stood : slice_get x.slots i ≡ Some old) where
        gone_now : slice_get (slice_set x.slots i value.Gone) i ≡ Some value.Gone
        gone_now = set_same x.slots i old value.Gone stood

        abbrev pub filled : Value → Hand → Hand
        filled v hp = with_slots (slice_set hp.thread.slots i v) (label_dropped old hp)

        -- a value that words don't see comes
        pub plain_comes : (v : Value) → pointing (Some v) ≡ None → IsUnseen v → Does code n emptied (filled v h)
        plain_comes v points unseen = record { moved = seen (record { number = refl; named = refl; alike = beside threads (itself (body_things n h.work.rest)) }); untaken = none }
          where
            slots : Alike code (things_at (slot_things n x.number) 0 (slice_set x.slots i value.Gone)) (things_at (slot_things n x.number) 0 (slice_set x.slots i v))
            slots =
                subst (λ vs. Alike code (things_at (slot_things n x.number) 0 (slice_set x.slots i value.Gone)) (things_at (slot_things n x.number) 0 vs)) (set_twice x.slots i value.Gone v)
                (set_things (slot_things n x.number) 0 i (slice_set x.slots i value.Gone) value.Gone v gone_now (λ m. turned (unseen.things n (in_slot x.number m) (at_slot x.number m))))

            threads : Alike code (thread_things n false (record x { slots = slice_set x.slots i value.Gone })) (thread_things n false (record x { slots = slice_set x.slots i v }))
            threads =
                thread_alike n n false false (record x { slots = slice_set x.slots i value.Gone }) (record x { slots = slice_set x.slots i v }) [] [] (record { number = refl; taking = refl; slots = set_seen x.slots i value.Gone v points; temps = λ j. refl })
                slots (itself (temps_of n x)) (itself (held_if x.gift))

        -- the temporary value on top comes
        pub top_comes : (v : Value) → last_of x.temps ≡ Some v → Does code n emptied (filled v (with_temps (front_of x.temps) h))
        top_comes v e =
            let ts : List Value = front_of x.temps in
            let y : ThreadState = emptied.thread in
            let z : ThreadState = record y { temps = ts; slots = slice_set y.slots i v } in record {
              moved = passed y z refl (itself (thread_things n false y)) (λ o. refl) (slot_filled code n y none ts v i (last_split x.temps v e) gone_now) (λ j w. blind ts j w)
                  (record { number = refl; named = refl; alike = beside (threads ts v) (itself (body_things n h.work.rest)) });
              untaken = none;
            }
          where
            blind : (ts : List Value) (j : ℕ) → (slot j ≡ temp (length ts)) ⊎ (slot j ≡ slot i) → pointing (slice_get (slice_set x.slots i value.Gone) j) ≡ None
            blind ts j (inl q) = absurd cc
            blind ts j (inr q) = let e : j ≡ i = cc in ap (λ m. pointing (slice_get (slice_set x.slots i value.Gone) m)) e ∙ ap pointing gone_now

            threads : (ts : List Value) (v : Value) → Alike code (thread_things n false (record x { temps = ts; slots = slice_set (slice_set x.slots i value.Gone) i v })) (thread_things n false (record x { temps = ts; slots = slice_set x.slots i v }))
            threads ts v =
                subst (λ vs. Alike code (thread_things n false (record x { temps = ts; slots = slice_set (slice_set x.slots i value.Gone) i v })) (thread_things n false (record x { temps = ts; slots = vs }))) (set_twice x.slots i value.Gone v)
                (itself (thread_things n false (record x { temps = ts; slots = slice_set (slice_set x.slots i value.Gone) i v })))

        put_there : IsLight old → (v : Value) (hp : Hand) → hp.thread.slots ≡ x.slots → Does code n emptied (filled v hp) → Gives (Does code n emptied) (replace_slot i no_spot v hp)
        put_there light v hp same d = subst (λ o. Gives (Does code n emptied) (then_some o (λ w. then_some (put_slot i v (label_dropped w hp)) (drop_value no_spot w)))) (sym (ap (λ vs. slice_get vs i) same ∙ stood)) (by (nat_lt i (length hp.thread.slots)))
          where
            by : (b : Bool) → Gives (Does code n emptied) (then_some (if b then Some (filled v hp) else None) (drop_value no_spot old))
            by false = tt
            by true = then_dropped emptied (filled v hp) old light d

        pub puts_over : IsLight old → (o : Operand) → Gives (Does code n emptied) (then_some (pop o h) (λ t. replace_slot i no_spot t.item t.hand))
        puts_over light (operand.Const c) = put_there light (value.Own (owned.Int c)) h refl (plain_comes (value.Own (owned.Int c)) refl (owned_unseen (owned.Int c) refl))
        puts_over light operand.Unit = put_there light unit h refl (plain_comes unit refl (owned_unseen owned.Unit refl))
        puts_over light operand.Pop = by (last_of x.temps) refl
          where
            by : (o : Option Value) → last_of x.temps ≡ o → Gives (Does code n emptied) (then_some {X = Popped Value} (option_map (λ v. record { item = v; hand = with_temps (front_of x.temps) h }) o) (λ t. replace_slot i no_spot t.item t.hand))
            by None e = tt
            by (Some v) e = put_there light v (with_temps (front_of x.temps) h) refl (top_comes v e)
