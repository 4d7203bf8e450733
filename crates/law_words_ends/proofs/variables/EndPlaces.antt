-- How a mutable reference goes from a slot or the hand, and how the pointer at its holder gets its word in a variable.
use Rattle.std.proofs.Common.{◌≡◌, ◌≢◌, inl, inr, ℕ, ◌+◌, false, List, [], ◌∷◌, ◌++◌, Some, None, refl, sym, ap, subst, ◌∙◌, arith}
use Rattle.std.specs.Prelude.{slice_get, slice_set, length}
use Rattle.law_words_borrows.specs.Below.fr_base.declared.instruction.Instr.{Instr}
use Rattle.law_words_borrows.specs.Below.fr_base.declared.name.ObjNo.{ObjNo}
use Rattle.law_words_borrows.specs.Below.heap_partition.declared.value.Owned.TheVariants as owned
use Rattle.law_words_borrows.specs.Below.mut_borrow.declared.mutable.MutRef.{MutRef}
use Rattle.law_words_borrows.specs.Below.thread_state.View.{ThreadState}
use Rattle.law_words_borrows.specs.Below.thread_state.declared.value.Value.{Value}
use Rattle.law_words_borrows.specs.Below.thread_state.declared.value.Value.TheVariants as value
use Rattle.law_words_borrows.specs.Below.server_model.Places.{with_word}
use Rattle.law_words_borrows.specs.Below.coherent_memory.Names.{Among, tot}
use Rattle.law_words_borrows.specs.Below.coherent_memory.Things.{Location, in_slot, at_slot, at_temp, Thing, borrows, things_at, slot_things, temp_things, gift_things, walk_things}
use Rattle.law_words_borrows.specs.Below.coherent_memory.Sight.{Pointer, pointers_of}
use Rattle.law_words_borrows.specs.Below.coherent_memory.Weights.{owners}
use Rattle.law_words_borrows.proofs.Below.coherent_memory.Sums.{tot-append}
use Rattle.law_words_borrows.specs.Below.law_words_paths.words.Unmoved.{pointing, taking_by}
use Rattle.law_words_borrows.proofs.Below.law_words_paths.words.Slots.{set_same, set_other}
use Rattle.law_words_borrows.proofs.Below.law_words_kept.stays.Alike.{Alike, itself, turned, chain, beside, alone, blank, goes}
use Rattle.law_words_borrows.proofs.Below.law_words_values.carried.Replaced.{tail_of}
use Rattle.law_words_borrows.proofs.Below.law_words_values.carried.Passing.{Here, slot, temp, nowhere, located, here}
use Rattle.law_words_borrows.proofs.Below.law_words_values.carried.Places.{end_none, end_other, end_things, end_sum, set_things, set_twice, placed_blank}
use Rattle.law_words_borrows.proofs.Below.law_words_values.references.RefPlaces.{out}
use Rattle.law_words_ends.proofs.variables.EndSteps.{Finishes}

-- a mutable reference at a location is no pointer beside locations
borrow_blank : {code : List Instr} (l : Location) (r : MutRef) → Alike code (borrows l r ∷ []) []
borrow_blank l r = blank (borrows l r) (λ q f h. at q f h)
  where
    at : (q : Pointer) → q.at ≡ None → Among q (pointers_of (borrows l r)) → Among q []
    at q f (inl e) = let z : Some l ≡ None = ap (λ (y : Pointer). y.at) e ∙ f in absurd cc
    at q f (inr h) = h

-- nor does another word show there, or change what is owned
word_alike : {code : List Instr} (w n t : ℕ) (old new : Value) → with_word w old ≡ Some new → (m : ℕ) → Alike code (slot_things n t m old) (slot_things n t m new)
word_alike {code = code} w n t (value.Own (owned.Box b)) new e m =
    subst (λ o. Alike code (slot_things n t m (value.Own (owned.Box b))) (slot_things n t m o)) (some_is e)
    (chain (placed_blank (in_slot t m) (at_slot t m) (owned.Box b) refl) (turned (placed_blank (in_slot t m) (at_slot t m) (owned.Box (record b { word = w })) refl)))
  where
    some_is : {u v : Value} → Some u ≡ Some v → u ≡ v
    some_is q = cc
word_alike {code = code} w n t (value.Mut r) new e m =
    subst (λ o. Alike code (slot_things n t m (value.Mut r)) (slot_things n t m o)) (some_is e) (chain (borrow_blank (at_slot t m) r) (turned (borrow_blank (at_slot t m) (record r { word = w; dirty = false }))))
  where
    some_is : {u v : Value} → Some u ≡ Some v → u ≡ v
    some_is q = cc
word_alike w n t (value.Own owned.Nothing) new e m = absurd cc
word_alike w n t (value.Own owned.Unit) new e m = absurd cc
word_alike w n t (value.Own (owned.Int i)) new e m = absurd cc
word_alike w n t (value.Own (owned.Mutex i)) new e m = absurd cc
word_alike w n t (value.Own (owned.Task i)) new e m = absurd cc
word_alike w n t value.Gone new e m = absurd cc
word_alike w n t (value.SharedSlot i) new e m = absurd cc
word_alike w n t (value.MutSlot i) new e m = absurd cc
word_alike w n t (value.Shared q) new e m = absurd cc
word_alike w n t (value.Held i) new e m = absurd cc

word_weighs : (o : ObjNo) (w n t m j : ℕ) (old new : Value) → with_word w old ≡ Some new → tot (owners o) (slot_things n t m new) ≡ tot (owners o) (slot_things n t j old)
word_weighs o w n t m j (value.Own (owned.Box b)) new e = sym (ap (λ v. tot (owners o) (slot_things n t m v)) (some_is e))
  where
    some_is : Some (value.Own (owned.Box (record b { word = w }))) ≡ Some new → value.Own (owned.Box (record b { word = w })) ≡ new
    some_is q = cc
word_weighs o w n t m j (value.Mut r) new e = sym (ap (λ v. tot (owners o) (slot_things n t m v)) (some_is e))
  where
    some_is : Some (value.Mut (record r { word = w; dirty = false })) ≡ Some new → value.Mut (record r { word = w; dirty = false }) ≡ new
    some_is q = cc
word_weighs o w n t m j (value.Own owned.Nothing) new e = absurd cc
word_weighs o w n t m j (value.Own owned.Unit) new e = absurd cc
word_weighs o w n t m j (value.Own (owned.Int i)) new e = absurd cc
word_weighs o w n t m j (value.Own (owned.Mutex i)) new e = absurd cc
word_weighs o w n t m j (value.Own (owned.Task i)) new e = absurd cc
word_weighs o w n t m j value.Gone new e = absurd cc
word_weighs o w n t m j (value.SharedSlot i) new e = absurd cc
word_weighs o w n t m j (value.MutSlot i) new e = absurd cc
word_weighs o w n t m j (value.Shared q) new e = absurd cc
word_weighs o w n t m j (value.Held i) new e = absurd cc

-- a thread without what stood there
pub record Without (code : List Instr) (n : ℕ) (x y : ThreadState) (from : Here) : Type 0 where
  pub number : y.number ≡ x.number
  pub untaken_after : taking_by y.number y.phase (slice_get code y.pc) ≡ None
  pub gone : pointing (here y from) ≡ None
  pub slots : (i : ℕ) → (slot i ≡ from → ⊥) → slice_get y.slots i ≡ slice_get x.slots i
  pub temps : (i : ℕ) → (temp i ≡ from → ⊥) → slice_get y.temps i ≡ slice_get x.temps i
  pub tails : Alike code (tail_of n x) (tail_of n y)
  pub owns : (o : ObjNo) → tot (owners o) (tail_of n y) ≡ tot (owners o) (tail_of n x)

sum_of : (w : Thing → ℕ) (a b c d : List Thing) → tot w (a ++ b ++ c ++ d) ≡ tot w a + tot w b + tot w c + tot w d
sum_of w a b c d = let p = tot-append w (a ++ b ++ c) d in let q = tot-append w (a ++ b) c in let r = tot-append w a b in omega (arith, p, q, r)

module _ (code : List Instr) (n : ℕ) (x : ThreadState) (none : taking_by x.number x.phase (slice_get code x.pc) ≡ None) (r : MutRef) where
  abbrev G : List Thing
  G = gift_things x.number x.gift

  abbrev W : List Thing
  W = things_at (walk_things n) 0 x.walk

  abbrev slots_with : List Value → List Thing
  slots_with vs = things_at (slot_things n x.number) 0 vs

  abbrev temps_with : List Value → List Thing
  temps_with vs = things_at (temp_things n x.number) 0 vs

  slots_alike : (vs : List Value) → Alike code (slots_with x.slots) (slots_with vs) → Alike code (tail_of n x) (tail_of n (record x { slots = vs }))
  slots_alike vs a = beside (beside (itself (G ++ W)) a) (itself (temps_with x.temps))

  slots_weigh : (vs : List Value) (o : ObjNo) → tot (owners o) (slots_with vs) ≡ tot (owners o) (slots_with x.slots) → tot (owners o) (tail_of n (record x { slots = vs })) ≡ tot (owners o) (tail_of n x)
  slots_weigh vs o e = let a = sum_of (owners o) G W (slots_with vs) (temps_with x.temps) in let b = sum_of (owners o) G W (slots_with x.slots) (temps_with x.temps) in omega (arith, e, a, b)

  -- THE NEWEST SLOT
  pub newest_without : (ss : List Value) → x.slots ≡ ss ++ value.Mut r ∷ [] → Without code n x (record x { slots = ss }) (slot (length ss))
  newest_without ss e = record {
    number = refl;
    untaken_after = none;
    gone = ap pointing (end_none ss);
    slots = λ i ne. sym (end_other ss (value.Mut r) i (λ q. ne (ap slot q))) ∙ sym (ap (λ vs. slice_get vs i) e);
    temps = λ i ne. refl;
    tails = slots_alike ss seen;
    owns = λ o. slots_weigh ss o (weighs o);
  }
    where
      seen : Alike code (slots_with x.slots) (slots_with ss)
      seen =
          let q = end_things {code = code} (slot_things n x.number) 0 ss (value.Mut r) in
          subst (λ vs. Alike code (slots_with vs) (slots_with ss)) (sym e) (chain q.1 (chain (beside (itself (slots_with ss)) (borrow_blank (at_slot x.number q.0) r)) (alone (slots_with ss))))

      weighs : (o : ObjNo) → tot (owners o) (slots_with ss) ≡ tot (owners o) (slots_with x.slots)
      weighs o = let q = end_sum (owners o) (slot_things n x.number) 0 ss (value.Mut r) in let t = ap (λ vs. tot (owners o) (slots_with vs)) e in omega (arith, q.1, t)

  -- A VARIABLE
  pub emptied_without : (i : ℕ) → slice_get x.slots i ≡ Some (value.Mut r) → Without code n x (record x { slots = slice_set x.slots i value.Gone }) (slot i)
  emptied_without i e =
      let q = out code n x.number 0 i x.slots (value.Mut r) e in record {
        number = refl;
        untaken_after = none;
        gone = ap pointing (set_same x.slots i (value.Mut r) value.Gone e);
        slots = λ j ne. set_other x.slots i j value.Gone (λ z. ne (ap slot z));
        temps = λ j ne. refl;
        tails = slots_alike (slice_set x.slots i value.Gone) (chain q.alike (goes {b = slots_with (slice_set x.slots i value.Gone)} (borrow_blank (at_slot x.number q.number) r)));
        owns = λ o. (let z = q.sum (owners o) in slots_weigh (slice_set x.slots i value.Gone) o (omega (arith, z)));
      }

  -- THE HAND
  pub top_without : (ts : List Value) → x.temps ≡ ts ++ value.Mut r ∷ [] → Without code n x (record x { temps = ts }) (temp (length ts))
  top_without ts e = record {
    number = refl;
    untaken_after = none;
    gone = ap pointing (end_none ts);
    slots = λ i ne. refl;
    temps = λ i ne. sym (end_other ts (value.Mut r) i (λ q. ne (ap temp q))) ∙ sym (ap (λ vs. slice_get vs i) e);
    tails = beside (itself (G ++ W ++ slots_with x.slots)) seen;
    owns = weighs;
  }
    where
      seen : Alike code (temps_with x.temps) (temps_with ts)
      seen =
          let q = end_things {code = code} (temp_things n x.number) 0 ts (value.Mut r) in
          subst (λ vs. Alike code (temps_with vs) (temps_with ts)) (sym e) (chain q.1 (chain (beside (itself (temps_with ts)) (borrow_blank (at_temp x.number q.0) r)) (alone (temps_with ts))))

      weighs : (o : ObjNo) → tot (owners o) (tail_of n (record x { temps = ts })) ≡ tot (owners o) (tail_of n x)
      weighs o =
          let q = end_sum (owners o) (temp_things n x.number) 0 ts (value.Mut r) in
          let t = ap (λ vs. tot (owners o) (temps_with vs)) e in
          let a = sum_of (owners o) G W (slots_with x.slots) (temps_with ts) in
          let b = sum_of (owners o) G W (slots_with x.slots) (temps_with x.temps) in
          omega (arith, q.1, t, a, b)

-- THE POINTER AT THE HOLDER

module _ (code : List Instr) (n : ℕ) (x y : ThreadState) (from : Here) (at h : Location) (r : MutRef) (none : taking_by x.number x.phase (slice_get code x.pc) ≡ None) (place : located x.number from ≡ Some at) (stood : here x from ≡ Some (value.Mut r)) (w : Without code n x y from) where
  -- is as it was
  pub first_finishes : r.word ≡ r.first → Finishes code n x y from at h r
  first_finishes e = record {
    number = w.number;
    untaken = none;
    untaken_after = w.untaken_after;
    place = place;
    stood = stood;
    gone = w.gone;
    slots = λ i ne nh. w.slots i ne;
    temps = w.temps;
    holder = inl (e, w.slots);
    tails = w.tails;
    owns = w.owns;
  }

  -- or has the word in a slot
  pub word_finishes : (j : ℕ) (old new : Value) → (slot j ≡ from → ⊥) → h ≡ at_slot x.number j → slice_get y.slots j ≡ Some old → with_word r.word old ≡ Some new → r.word ≢ r.first → Finishes code n x (record y { slots = slice_set y.slots j new }) from at h r
  word_finishes j old new ne there is e other = record {
    number = w.number;
    untaken = none;
    untaken_after = w.untaken_after;
    place = place;
    stood = stood;
    gone = still_gone from ne w.gone;
    slots = λ i nf nh. set_other y.slots j i new (λ z. nh (ap (at_slot x.number) z ∙ sym there)) ∙ w.slots i nf;
    temps = w.temps;
    holder = inr (j, old, new, there, sym (w.slots j ne) ∙ is, set_same y.slots j old new is, other, e);
    tails = chain w.tails seen;
    owns = λ o. weighs o ∙ w.owns o;
  }
    where
      still_gone : (m : Here) → (slot j ≡ m → ⊥) → pointing (here y m) ≡ None → pointing (here (record y { slots = slice_set y.slots j new }) m) ≡ None
      still_gone (slot i) d g = ap pointing (set_other y.slots j i new (λ z. d (ap slot (sym z)))) ∙ g
      still_gone (temp i) d g = g
      still_gone nowhere d g = g

      set_alike : Alike code (things_at (slot_things n y.number) 0 y.slots) (things_at (slot_things n y.number) 0 (slice_set y.slots j new))
      set_alike = set_things (slot_things n y.number) 0 j y.slots old new is (λ m. word_alike r.word n y.number old new e m)

      seen : Alike code (tail_of n y) (tail_of n (record y { slots = slice_set y.slots j new }))
      seen = beside (beside (itself (gift_things y.number y.gift ++ things_at (walk_things n) 0 y.walk)) set_alike) (itself (things_at (temp_things n y.number) 0 y.temps))

      weighs : (o : ObjNo) → tot (owners o) (tail_of n (record y { slots = slice_set y.slots j new })) ≡ tot (owners o) (tail_of n y)
      weighs o =
          let p = out code n y.number 0 j y.slots old is in
          let q = out code n y.number 0 j (slice_set y.slots j new) new (set_same y.slots j old new is) in
          let t = ap (λ vs. tot (owners o) (things_at (slot_things n y.number) 0 vs)) (set_twice y.slots j new value.Gone) in
          let z = word_weighs o r.word n y.number q.number p.number old new e in
          let g = gift_things y.number y.gift in
          let k = things_at (walk_things n) 0 y.walk in
          let l = things_at (temp_things n y.number) 0 y.temps in
          let a = sum_of (owners o) g k (things_at (slot_things n y.number) 0 y.slots) l in
          let b = sum_of (owners o) g k (things_at (slot_things n y.number) 0 (slice_set y.slots j new)) l in
          let c = p.sum (owners o) in
          let d = q.sum (owners o) in
          omega (arith, t, z, a, b, c, d)
