-- How a value of a thread goes: from the end of its temporary values to its slots or its gift, and from its gift to either.
use Rattle.std.proofs.Common.{◌≡◌, inl, inr, ℕ, zero, suc, ◌+◌, List, [], ◌∷◌, ◌++◌, Some, None, refl, sym, ap, subst, ◌∙◌, arith}
use Rattle.std.specs.Prelude.{slice_get, slice_set, length}
use Rattle.law_words_kept.specs.Below.fr_base.declared.instruction.Instr.{Instr}
use Rattle.law_words_kept.specs.Below.fr_base.declared.name.ObjNo.{ObjNo}
use Rattle.law_words_kept.specs.Below.heap_partition.declared.value.Owned.{Owned}
use Rattle.law_words_kept.specs.Below.mut_borrow.declared.shared.SharedRef.{SharedRef}
use Rattle.law_words_kept.specs.Below.mut_borrow.declared.mutable.MutRef.{MutRef}
use Rattle.law_words_kept.specs.Below.thread_state.View.{ThreadState}
use Rattle.law_words_kept.specs.Below.thread_state.declared.value.Value.{Value}
use Rattle.law_words_kept.specs.Below.thread_state.declared.value.Value.TheVariants as value
use Rattle.law_words_kept.specs.Below.coherent_memory.Names.{Among, tot}
use Rattle.law_words_kept.specs.Below.coherent_memory.Things.{Location, Spot, in_slot, in_temp, as_gift, at_slot, at_temp, Thing, holds, shares, borrows, locks, things_at, pin_things, value_things, slot_things, temp_things, gift_things, walk_things}
use Rattle.law_words_kept.specs.Below.coherent_memory.Sight.{Pointer, pointer_in, location_of, pointers_of}
use Rattle.law_words_kept.specs.Below.coherent_memory.Weights.{owners}
use Rattle.law_words_kept.proofs.Below.coherent_memory.Sums.{tot-append}
use Rattle.law_words_kept.specs.Below.law_words_paths.words.Unmoved.{pointing, owning, taking_by}
use Rattle.law_words_kept.proofs.Below.law_words_paths.words.Loose.{box_nowhere}
use Rattle.law_words_kept.proofs.Below.law_words_paths.words.Slots.{set_same, set_other}
use Rattle.law_words_kept.proofs.stays.Alike.{Alike, Seen, itself, turned, chain, beside, exchanged, in_front, joined, alone, blank}
use Rattle.law_words_kept.proofs.stays.Servers.{held, gift_held}
use Rattle.law_words_values.proofs.carried.Passing.{slot, temp, nowhere, Passes, between, leaves, comes}

-- LISTS WITH A VALUE AT THE END

pub end_is : {A : Type 0} (xs : List A) (v : A) → slice_get (xs ++ v ∷ []) (length xs) ≡ Some v
end_is [] v = refl
end_is (x ∷ xs) v = end_is xs v

pub end_none : {A : Type 0} (xs : List A) → slice_get xs (length xs) ≡ None
end_none [] = refl
end_none (x ∷ xs) = end_none xs

pub end_other : {A : Type 0} (xs : List A) (v : A) (i : ℕ) → (i ≡ length xs → ⊥) → slice_get (xs ++ v ∷ []) i ≡ slice_get xs i
end_other [] v zero n = absurd (n refl)
end_other [] v (suc i) n = refl
end_other (x ∷ xs) v zero n = refl
end_other (x ∷ xs) v (suc i) n = end_other xs v i (λ e. n (ap suc e))

pub end_things : {code : List Instr} (f : ℕ → Value → List Thing) (i : ℕ) (xs : List Value) (v : Value) → (j : ℕ) × Alike code (things_at f i (xs ++ v ∷ [])) (things_at f i xs ++ f j v)
end_things f i [] v = (i, alone (f i v))
end_things f i (x ∷ xs) v = let q = end_things f (i + 1) xs v in (q.0, chain (beside (itself (f i x)) q.1) (joined (f i x) (things_at f (i + 1) xs) (f q.0 v)))

pub end_sum : (w : Thing → ℕ) (f : ℕ → Value → List Thing) (i : ℕ) (xs : List Value) (v : Value) → (j : ℕ) × (tot w (things_at f i (xs ++ v ∷ [])) ≡ tot w (things_at f i xs) + tot w (f j v))
end_sum w f i [] v = let a = tot-append w (f i v) [] in (i, omega (arith, a))
end_sum w f i (x ∷ xs) v =
    let q = end_sum w f (i + 1) xs v in
    let a = tot-append w (f i x) (things_at f (i + 1) (xs ++ v ∷ [])) in
    let b = tot-append w (f i x) (things_at f (i + 1) xs) in
    (q.0, omega (arith, q.1, a, b))

-- another value in the list
pub set_things : {code : List Instr} (f : ℕ → Value → List Thing) (i j : ℕ) (xs : List Value) (old new : Value) → slice_get xs j ≡ Some old → ((m : ℕ) → Alike code (f m old) (f m new)) → Alike code (things_at f i xs) (things_at f i (slice_set xs j new))
set_things f i j [] old new e a = absurd cc
set_things {code = code} f i zero (x ∷ xs) old new e a = let s : x ≡ old = cc in beside (subst (λ v. Alike code (f i v) (f i new)) (sym s) (a i)) (itself (things_at f (i + 1) xs))
set_things f i (suc j) (x ∷ xs) old new e a = beside (itself (f i x)) (set_things f (i + 1) j xs old new e a)

set_sum : (w : Thing → ℕ) (f : ℕ → Value → List Thing) (i j : ℕ) (xs : List Value) (old new : Value) → slice_get xs j ≡ Some old → (m : ℕ) × (tot w (things_at f i xs) + tot w (f m new) ≡ tot w (things_at f i (slice_set xs j new)) + tot w (f m old))
set_sum w f i j [] old new e = absurd cc
set_sum w f i zero (x ∷ xs) old new e =
    let s : x ≡ old = cc in
    let a = tot-append w (f i x) (things_at f (i + 1) xs) in
    let b = tot-append w (f i new) (things_at f (i + 1) xs) in
    let c = ap (λ v. tot w (f i v)) s in
    (i, omega (arith, a, b, c))
set_sum w f i (suc j) (x ∷ xs) old new e =
    let q = set_sum w f (i + 1) j xs old new e in
    let a = tot-append w (f i x) (things_at f (i + 1) xs) in
    let b = tot-append w (f i x) (things_at f (i + 1) (slice_set xs j new)) in
    (q.0, omega (arith, q.1, a, b))

-- another value where nothing is
set_adds : {code : List Instr} (n t i j : ℕ) (xs : List Value) (v : Value) → slice_get xs j ≡ Some value.Gone → (m : ℕ) × Alike code (things_at (slot_things n t) i (slice_set xs j v)) (slot_things n t m v ++ things_at (slot_things n t) i xs)
set_adds n t i j [] v e = absurd cc
set_adds {code = code} n t i zero (x ∷ xs) v e =
    let s : x ≡ value.Gone = cc in
    (i, subst (λ y. Alike code (slot_things n t i v ++ things_at (slot_things n t) (i + 1) xs) (slot_things n t i v ++ (slot_things n t i y ++ things_at (slot_things n t) (i + 1) xs))) (sym s) (itself (slot_things n t i v ++ things_at (slot_things n t) (i + 1) xs)))
set_adds n t i (suc j) (x ∷ xs) v e =
    let q = set_adds n t (i + 1) j xs v e in
    (q.0, chain (beside (itself (slot_things n t i x)) q.1) (in_front (slot_things n t i x) (slot_things n t q.0 v) (things_at (slot_things n t) (i + 1) xs)))

pub set_twice : {A : Type 0} (xs : List A) (i : ℕ) (a b : A) → slice_set (slice_set xs i a) i b ≡ slice_set xs i b
set_twice [] i a b = refl
set_twice (x ∷ xs) zero a b = refl
set_twice (x ∷ xs) (suc i) a b = ap (λ l. x ∷ l) (set_twice xs i a b)

pub set_seen : (xs : List Value) (i : ℕ) (a b : Value) → pointing (Some b) ≡ pointing (Some a) → (j : ℕ) → pointing (slice_get (slice_set xs i b) j) ≡ pointing (slice_get (slice_set xs i a) j)
set_seen [] i a b e j = refl
set_seen (x ∷ xs) zero a b e zero = e
set_seen (x ∷ xs) zero a b e (suc j) = refl
set_seen (x ∷ xs) (suc i) a b e zero = refl
set_seen (x ∷ xs) (suc i) a b e (suc j) = set_seen xs i a b e j

-- A VALUE AT ANOTHER PLACE

-- an owned value at a location has no pointer beside locations
pub placed_blank : {code : List Instr} (p : Spot) (l : Location) (u : Owned) → location_of p ≡ Some l → Alike code (holds p u ∷ []) []
placed_blank p l u e = blank (holds p u) (λ q f h. absurd (box_nowhere l u q (subst (λ m. Among q (pointer_in m u)) e h) f))

share_moves : {code : List Instr} (l m : Location) (r : SharedRef) → Alike code (shares l r ∷ []) (shares m r ∷ [])
share_moves {code = code} l m r = record { on = on l m; back = on m l }
  where
    on : (a b : Location) (y : Thing) → Among y (shares a r ∷ []) → Seen code (shares b r ∷ []) y
    on a b y (inl i) = subst (λ w. Seen code (shares b r ∷ []) w) i (λ z n h. h)
    on a b y (inr h) = absurd h

borrow_blank : {code : List Instr} (l : Location) (r : MutRef) → Alike code (borrows l r ∷ []) []
borrow_blank l r = blank (borrows l r) (λ q f h. at q f h)
  where
    at : (q : Pointer) → q.at ≡ None → Among q (pointers_of (borrows l r)) → Among q []
    at q f (inl e) = let z : Some l ≡ None = ap (λ (y : Pointer). y.at) e ∙ f in absurd cc
    at q f (inr h) = h

pub value_moves : {code : List Instr} (n t u i j : ℕ) (v : Value) → Alike code (temp_things n t i v) (slot_things n u j v)
value_moves n t u i j value.Gone = itself []
value_moves n t u i j (value.Own o) = chain (placed_blank (in_temp t i) (at_temp t i) o refl) (turned (placed_blank (in_slot u j) (at_slot u j) o refl))
value_moves n t u i j (value.SharedSlot m) = itself []
value_moves n t u i j (value.MutSlot m) = itself []
value_moves n t u i j (value.Shared r) = beside {a = shares (at_temp t i) r ∷ []} {b = shares (at_slot u j) r ∷ []} (share_moves (at_temp t i) (at_slot u j) r) (itself (pin_things n r))
value_moves n t u i j (value.Mut r) = chain (borrow_blank (at_temp t i) r) (turned (borrow_blank (at_slot u j) r))
value_moves n t u i j (value.Held m) = chain (blank (locks (at_temp t i) m) (λ q f h. h)) (turned (blank (locks (at_slot u j) m) (λ q f h. h)))

pub value_owns : (o : ObjNo) (n : ℕ) (p q : Spot) (l m : Location) (v : Value) → tot (owners o) (value_things n p l v) ≡ tot (owners o) (value_things n q m v)
value_owns o n p q l m value.Gone = refl
value_owns o n p q l m (value.Own u) = refl
value_owns o n p q l m (value.SharedSlot i) = refl
value_owns o n p q l m (value.MutSlot i) = refl
value_owns o n p q l m (value.Shared r) = refl
value_owns o n p q l m (value.Mut r) = refl
value_owns o n p q l m (value.Held i) = refl

module _ (code : List Instr) (n : ℕ) (x : ThreadState) (none : taking_by x.number x.phase (slice_get code x.pc) ≡ None) where
  abbrev G : List Thing
  G = gift_things x.number x.gift

  abbrev W : List Thing
  W = things_at (walk_things n) 0 x.walk

  abbrev slots_with : List Value → List Thing
  slots_with vs = things_at (slot_things n x.number) 0 vs

  abbrev temps_with : List Value → List Thing
  temps_with vs = things_at (temp_things n x.number) 0 vs

  abbrev S : List Thing
  S = slots_with x.slots

  abbrev T : List Thing
  T = temps_with x.temps

  slot_temp : (i j : ℕ) → slot i ≡ temp j → ⊥
  slot_temp i j e = absurd cc

  one_slot : (i j : ℕ) → slot i ≡ slot j → i ≡ j
  one_slot i j e = cc

  one_temp : (i j : ℕ) → temp i ≡ temp j → i ≡ j
  one_temp i j e = cc

  sum_of : (w : Thing → ℕ) (a b c d : List Thing) → tot w (a ++ b ++ c ++ d) ≡ tot w a + tot w b + tot w c + tot w d
  sum_of w a b c d = let p = tot-append w (a ++ b ++ c) d in let q = tot-append w (a ++ b) c in let r = tot-append w a b in omega (arith, p, q, r)

  -- A TEMPORARY VALUE BECOMES A SLOT

  pub temp_to_slot : (ts : List Value) (v : Value) → x.temps ≡ ts ++ v ∷ [] → Passes code n x (record x { temps = ts; slots = x.slots ++ v ∷ [] }) (temp (length ts)) (slot (length x.slots))
  temp_to_slot ts v e = record {
    number = refl;
    untaken = none;
    untaken_after = none;
    slots = λ i h k. ap pointing (end_other x.slots v i (λ q. k (ap slot q)));
    temps = λ i h k. ap owning (sym (end_other ts v i (λ q. h (ap temp q))) ∙ sym (ap (λ vs. slice_get vs i) e));
    left = ap owning (end_none ts);
    free = ap owning (end_none x.slots);
    beside = between (λ q. absurd cc) (λ q. absurd cc) (ap owning (end_is x.slots v) ∙ sym (ap owning (ap (λ vs. slice_get vs (length ts)) e ∙ end_is ts v))) tails;
    owns = sums;
  }
    where
      tails : Alike code (G ++ W ++ S ++ T) (G ++ W ++ slots_with (x.slots ++ v ∷ []) ++ temps_with ts)
      tails =
          let p = end_things {code = code} (temp_things n x.number) 0 ts v in
          let q = end_things {code = code} (slot_things n x.number) 0 x.slots v in
          let a = temp_things n x.number p.0 v in
          let b = slot_things n x.number q.0 v in
          chain (beside (itself (G ++ W ++ S)) (chain (subst (λ vs. Alike code (temps_with vs) (temps_with ts ++ a)) (sym e) p.1) (exchanged (temps_with ts) a)))
          (chain (joined (G ++ W ++ S) a (temps_with ts))
          (beside (chain (turned (joined (G ++ W) S a)) (beside (itself (G ++ W)) (chain (beside (itself S) (value_moves n x.number x.number p.0 q.0 v)) (turned q.1)))) (itself (temps_with ts))))

      sums : (o : ObjNo) → tot (owners o) (G ++ W ++ slots_with (x.slots ++ v ∷ []) ++ temps_with ts) ≡ tot (owners o) (G ++ W ++ S ++ T)
      sums o =
          let w = owners o in
          let p = end_sum w (temp_things n x.number) 0 ts v in
          let q = end_sum w (slot_things n x.number) 0 x.slots v in
          let r = value_owns o n (in_temp x.number p.0) (in_slot x.number q.0) (at_temp x.number p.0) (at_slot x.number q.0) v in
          let t = ap (λ vs. tot w (temps_with vs)) e in
          let a = sum_of w G W (slots_with (x.slots ++ v ∷ [])) (temps_with ts) in
          let b = sum_of w G W S T in
          omega (arith, p.1, q.1, r, t, a, b)

  -- A TEMPORARY VALUE IS GIVEN AWAY

  pub temp_to_gift : (ts : List Value) (u : Owned) → x.temps ≡ ts ++ value.Own u ∷ [] → x.gift ≡ None → Passes code n x (record x { temps = ts; gift = Some u }) (temp (length ts)) nowhere
  temp_to_gift ts u e free = record {
    number = refl;
    untaken = none;
    untaken_after = none;
    slots = λ i h k. refl;
    temps = λ i h k. ap owning (sym (end_other ts (value.Own u) i (λ q. h (ap temp q))) ∙ sym (ap (λ vs. slice_get vs i) e));
    left = ap owning (end_none ts);
    free = refl;
    beside = leaves u (ap (λ vs. slice_get vs (length ts)) e ∙ end_is ts (value.Own u)) tails;
    owns = sums;
  }
    where
      tails : Alike code (held u ++ (G ++ W ++ S ++ T)) (gift_things x.number (Some u) ++ W ++ S ++ temps_with ts)
      tails =
          let p = end_things {code = code} (temp_things n x.number) 0 ts (value.Own u) in
          subst (λ g. Alike code (held u ++ (gift_things x.number g ++ W ++ S ++ T)) (gift_things x.number (Some u) ++ W ++ S ++ temps_with ts)) (sym free)
          (beside {a = held u} {b = holds (as_gift x.number) u ∷ []} (turned (gift_held x.number u))
          (beside (itself (W ++ S)) (subst (λ vs. Alike code (temps_with vs) (temps_with ts)) (sym e) (chain p.1 (chain (beside (itself (temps_with ts)) (placed_blank (in_temp x.number p.0) (at_temp x.number p.0) u refl)) (alone (temps_with ts)))))))

      sums : (o : ObjNo) → tot (owners o) (gift_things x.number (Some u) ++ W ++ S ++ temps_with ts) ≡ tot (owners o) (G ++ W ++ S ++ T)
      sums o =
          let w = owners o in
          let p = end_sum w (temp_things n x.number) 0 ts (value.Own u) in
          let t = ap (λ vs. tot w (temps_with vs)) e in
          let g : tot w G ≡ 0 = ap (λ g. tot w (gift_things x.number g)) free in
          let a = sum_of w (gift_things x.number (Some u)) W S (temps_with ts) in
          let b = sum_of w G W S T in
          omega (arith, p.1, t, g, a, b)

  -- A SLOT IS GIVEN AWAY

  pub slot_to_gift : (ss : List Value) (u : Owned) → x.slots ≡ ss ++ value.Own u ∷ [] → x.gift ≡ None → Passes code n x (record x { slots = ss; gift = Some u }) (slot (length ss)) nowhere
  slot_to_gift ss u e free = record {
    number = refl;
    untaken = none;
    untaken_after = none;
    slots = λ i h k. ap pointing (sym (end_other ss (value.Own u) i (λ q. h (ap slot q))) ∙ sym (ap (λ vs. slice_get vs i) e));
    temps = λ i h k. refl;
    left = ap owning (end_none ss);
    free = refl;
    beside = leaves u (ap (λ vs. slice_get vs (length ss)) e ∙ end_is ss (value.Own u)) tails;
    owns = sums;
  }
    where
      tails : Alike code (held u ++ (G ++ W ++ S ++ T)) (gift_things x.number (Some u) ++ W ++ slots_with ss ++ T)
      tails =
          let p = end_things {code = code} (slot_things n x.number) 0 ss (value.Own u) in
          subst (λ g. Alike code (held u ++ (gift_things x.number g ++ W ++ S ++ T)) (gift_things x.number (Some u) ++ W ++ slots_with ss ++ T)) (sym free)
          (beside {a = held u} {b = holds (as_gift x.number) u ∷ []} (turned (gift_held x.number u))
          (beside (beside (itself W) (subst (λ vs. Alike code (slots_with vs) (slots_with ss)) (sym e) (chain p.1 (chain (beside (itself (slots_with ss)) (placed_blank (in_slot x.number p.0) (at_slot x.number p.0) u refl)) (alone (slots_with ss)))))) (itself T)))

      sums : (o : ObjNo) → tot (owners o) (gift_things x.number (Some u) ++ W ++ slots_with ss ++ T) ≡ tot (owners o) (G ++ W ++ S ++ T)
      sums o =
          let w = owners o in
          let p = end_sum w (slot_things n x.number) 0 ss (value.Own u) in
          let t = ap (λ vs. tot w (slots_with vs)) e in
          let g : tot w G ≡ 0 = ap (λ g. tot w (gift_things x.number g)) free in
          let a = sum_of w (gift_things x.number (Some u)) W (slots_with ss) T in
          let b = sum_of w G W S T in
          omega (arith, p.1, t, g, a, b)

  -- WHAT CAME BECOMES A SLOT, OR A TEMPORARY VALUE

  pub gift_to_slot : (u : Owned) → x.gift ≡ Some u → Passes code n x (record x { gift = None; slots = x.slots ++ value.Own u ∷ [] }) nowhere (slot (length x.slots))
  gift_to_slot u given = record {
    number = refl;
    untaken = none;
    untaken_after = none;
    slots = λ i h k. ap pointing (end_other x.slots (value.Own u) i (λ q. k (ap slot q)));
    temps = λ i h k. refl;
    left = refl;
    free = ap owning (end_none x.slots);
    beside = comes u (end_is x.slots (value.Own u)) tails;
    owns = sums;
  }
    where
      tails : Alike code (G ++ W ++ S ++ T) (held u ++ (W ++ slots_with (x.slots ++ value.Own u ∷ []) ++ T))
      tails =
          let p = end_things {code = code} (slot_things n x.number) 0 x.slots (value.Own u) in
          subst (λ g. Alike code (gift_things x.number g ++ W ++ S ++ T) (held u ++ (W ++ slots_with (x.slots ++ value.Own u ∷ []) ++ T))) (sym given)
          (beside {a = holds (as_gift x.number) u ∷ []} {b = held u} (gift_held x.number u)
          (beside (beside (itself W) (turned (chain p.1 (chain (beside (itself S) (placed_blank (in_slot x.number p.0) (at_slot x.number p.0) u refl)) (alone S))))) (itself T)))

      sums : (o : ObjNo) → tot (owners o) (W ++ slots_with (x.slots ++ value.Own u ∷ []) ++ T) ≡ tot (owners o) (G ++ W ++ S ++ T)
      sums o =
          let w = owners o in
          let p = end_sum w (slot_things n x.number) 0 x.slots (value.Own u) in
          let g : tot w G ≡ tot w (gift_things x.number (Some u)) = ap (λ g. tot w (gift_things x.number g)) given in
          let a = sum_of w [] W (slots_with (x.slots ++ value.Own u ∷ [])) T in
          let b = sum_of w G W S T in
          omega (arith, p.1, g, a, b)

  pub gift_to_temp : (u : Owned) → x.gift ≡ Some u → Passes code n x (record x { gift = None; temps = x.temps ++ value.Own u ∷ [] }) nowhere (temp (length x.temps))
  gift_to_temp u given = record {
    number = refl;
    untaken = none;
    untaken_after = none;
    slots = λ i h k. refl;
    temps = λ i h k. ap owning (end_other x.temps (value.Own u) i (λ q. k (ap temp q)));
    left = refl;
    free = ap owning (end_none x.temps);
    beside = comes u (end_is x.temps (value.Own u)) tails;
    owns = sums;
  }
    where
      tails : Alike code (G ++ W ++ S ++ T) (held u ++ (W ++ S ++ temps_with (x.temps ++ value.Own u ∷ [])))
      tails =
          let p = end_things {code = code} (temp_things n x.number) 0 x.temps (value.Own u) in
          subst (λ g. Alike code (gift_things x.number g ++ W ++ S ++ T) (held u ++ (W ++ S ++ temps_with (x.temps ++ value.Own u ∷ [])))) (sym given)
          (beside {a = holds (as_gift x.number) u ∷ []} {b = held u} (gift_held x.number u)
          (beside (itself (W ++ S)) (turned (chain p.1 (chain (beside (itself T) (placed_blank (in_temp x.number p.0) (at_temp x.number p.0) u refl)) (alone T))))))

      sums : (o : ObjNo) → tot (owners o) (W ++ S ++ temps_with (x.temps ++ value.Own u ∷ [])) ≡ tot (owners o) (G ++ W ++ S ++ T)
      sums o =
          let w = owners o in
          let p = end_sum w (temp_things n x.number) 0 x.temps (value.Own u) in
          let g : tot w G ≡ tot w (gift_things x.number (Some u)) = ap (λ g. tot w (gift_things x.number g)) given in
          let a = sum_of w [] W S (temps_with (x.temps ++ value.Own u ∷ [])) in
          let b = sum_of w G W S T in
          omega (arith, p.1, g, a, b)

  -- WHAT A VARIABLE OWNS BECOMES A TEMPORARY VALUE

  pub slot_to_temp : (i : ℕ) (u : Owned) → slice_get x.slots i ≡ Some (value.Own u) → Passes code n x (record x { slots = slice_set x.slots i value.Gone; temps = x.temps ++ value.Own u ∷ [] }) (slot i) (temp (length x.temps))
  slot_to_temp i u e = record {
    number = refl;
    untaken = none;
    untaken_after = none;
    slots = λ j h k. ap pointing (set_other x.slots i j value.Gone (λ q. h (ap slot q)));
    temps = λ j h k. ap owning (end_other x.temps (value.Own u) j (λ q. k (ap temp q)));
    left = ap owning (set_same x.slots i (value.Own u) value.Gone e);
    free = ap owning (end_none x.temps);
    beside = between (λ q. absurd cc) (λ q. absurd cc) (ap owning (end_is x.temps (value.Own u)) ∙ sym (ap owning e)) tails;
    owns = sums;
  }
    where
      tails : Alike code (G ++ W ++ S ++ T) (G ++ W ++ slots_with (slice_set x.slots i value.Gone) ++ temps_with (x.temps ++ value.Own u ∷ []))
      tails =
          let p = end_things {code = code} (temp_things n x.number) 0 x.temps (value.Own u) in
          beside (beside (itself (G ++ W)) (set_things (slot_things n x.number) 0 i x.slots (value.Own u) value.Gone e (λ m. placed_blank (in_slot x.number m) (at_slot x.number m) u refl)))
          (turned (chain p.1 (chain (beside (itself T) (placed_blank (in_temp x.number p.0) (at_temp x.number p.0) u refl)) (alone T))))

      sums : (o : ObjNo) → tot (owners o) (G ++ W ++ slots_with (slice_set x.slots i value.Gone) ++ temps_with (x.temps ++ value.Own u ∷ [])) ≡ tot (owners o) (G ++ W ++ S ++ T)
      sums o =
          let w = owners o in
          let p = end_sum w (temp_things n x.number) 0 x.temps (value.Own u) in
          let q = set_sum w (slot_things n x.number) 0 i x.slots (value.Own u) value.Gone e in
          let a = sum_of w G W (slots_with (slice_set x.slots i value.Gone)) (temps_with (x.temps ++ value.Own u ∷ [])) in
          let b = sum_of w G W S T in
          omega (arith, p.1, q.1, a, b)

  -- WHAT A VARIABLE OWNS IS GIVEN AWAY, and a temporary value comes where nothing is

  pub slot_emptied : (i : ℕ) (u : Owned) → slice_get x.slots i ≡ Some (value.Own u) → x.gift ≡ None → Passes code n x (record x { slots = slice_set x.slots i value.Gone; gift = Some u }) (slot i) nowhere
  slot_emptied i u e free = record {
    number = refl;
    untaken = none;
    untaken_after = none;
    slots = λ j h k. ap pointing (set_other x.slots i j value.Gone (λ q. h (ap slot q)));
    temps = λ j h k. refl;
    left = ap owning (set_same x.slots i (value.Own u) value.Gone e);
    free = refl;
    beside = leaves u e tails;
    owns = sums;
  }
    where
      tails : Alike code (held u ++ (G ++ W ++ S ++ T)) (gift_things x.number (Some u) ++ W ++ slots_with (slice_set x.slots i value.Gone) ++ T)
      tails =
          subst (λ g. Alike code (held u ++ (gift_things x.number g ++ W ++ S ++ T)) (gift_things x.number (Some u) ++ W ++ slots_with (slice_set x.slots i value.Gone) ++ T)) (sym free)
          (beside {a = held u} {b = holds (as_gift x.number) u ∷ []} (turned (gift_held x.number u))
          (beside (beside (itself W) (set_things (slot_things n x.number) 0 i x.slots (value.Own u) value.Gone e (λ m. placed_blank (in_slot x.number m) (at_slot x.number m) u refl))) (itself T)))

      sums : (o : ObjNo) → tot (owners o) (gift_things x.number (Some u) ++ W ++ slots_with (slice_set x.slots i value.Gone) ++ T) ≡ tot (owners o) (G ++ W ++ S ++ T)
      sums o =
          let w = owners o in
          let q = set_sum w (slot_things n x.number) 0 i x.slots (value.Own u) value.Gone e in
          let g : tot w G ≡ 0 = ap (λ g. tot w (gift_things x.number g)) free in
          let a = sum_of w (gift_things x.number (Some u)) W (slots_with (slice_set x.slots i value.Gone)) T in
          let b = sum_of w G W S T in
          omega (arith, q.1, g, a, b)

  pub slot_filled : (ts : List Value) (v : Value) (i : ℕ) → x.temps ≡ ts ++ v ∷ [] → slice_get x.slots i ≡ Some value.Gone → Passes code n x (record x { temps = ts; slots = slice_set x.slots i v }) (temp (length ts)) (slot i)
  slot_filled ts v i e gone = record {
    number = refl;
    untaken = none;
    untaken_after = none;
    slots = λ j h k. ap pointing (set_other x.slots i j v (λ q. k (ap slot q)));
    temps = λ j h k. ap owning (sym (end_other ts v j (λ q. h (ap temp q))) ∙ sym (ap (λ vs. slice_get vs j) e));
    left = ap owning (end_none ts);
    free = ap owning gone;
    beside = between (λ q. absurd cc) (λ q. absurd cc) (ap owning (set_same x.slots i value.Gone v gone) ∙ sym (ap owning (ap (λ vs. slice_get vs (length ts)) e ∙ end_is ts v))) tails;
    owns = sums;
  }
    where
      tails : Alike code (G ++ W ++ S ++ T) (G ++ W ++ slots_with (slice_set x.slots i v) ++ temps_with ts)
      tails =
          let p = end_things {code = code} (temp_things n x.number) 0 ts v in
          let q = set_adds {code = code} n x.number 0 i x.slots v gone in
          let a = temp_things n x.number p.0 v in
          let b = slot_things n x.number q.0 v in
          chain (beside (itself (G ++ W ++ S)) (chain (subst (λ vs. Alike code (temps_with vs) (temps_with ts ++ a)) (sym e) p.1) (exchanged (temps_with ts) a)))
          (chain (joined (G ++ W ++ S) a (temps_with ts))
          (beside (chain (turned (joined (G ++ W) S a)) (beside (itself (G ++ W)) (chain (exchanged S a) (chain (beside (value_moves n x.number x.number p.0 q.0 v) (itself S)) (turned q.1))))) (itself (temps_with ts))))

      sums : (o : ObjNo) → tot (owners o) (G ++ W ++ slots_with (slice_set x.slots i v) ++ temps_with ts) ≡ tot (owners o) (G ++ W ++ S ++ T)
      sums o =
          let w = owners o in
          let p = end_sum w (temp_things n x.number) 0 ts v in
          let q = set_sum w (slot_things n x.number) 0 i x.slots value.Gone v gone in
          let r = value_owns o n (in_temp x.number p.0) (in_slot x.number q.0) (at_temp x.number p.0) (at_slot x.number q.0) v in
          let t = ap (λ vs. tot w (temps_with vs)) e in
          let a = sum_of w G W (slots_with (slice_set x.slots i v)) (temps_with ts) in
          let b = sum_of w G W S T in
          omega (arith, p.1, q.1, r, t, a, b)
