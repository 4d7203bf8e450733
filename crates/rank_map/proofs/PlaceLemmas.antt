-- Places whose keys rise, once they stand beside others or one of them changes.
use Rattle.std.proofs.Common.{◌≡◌, ◌≢◌, ℕ, zero, suc, ◌+◌, ◌-◌, ◌<◌, ◌≤◌, Bool, true, false, true≢false, is_some, ◌==◌, nat_lt, cond, if◌then◌else◌, List, [], ◌∷◌, ◌++◌, length, slice_get, Option, None, Some, refl, sym, subst, ap, ◌∙◌, arith}
use Rattle.std.proofs.lemmas.Bool.{eqb-true, eqb-false, ne_eqb, ltb-true, ltb-false, lt-ltb, le-ltb}
use Rattle.rank_map.specs.Places.{Place, Entry, place_at, has_place, item_in, item_at, count_of, put_first, with_place, entry_first, entries, Rises}

differ : (a b : ℕ) → a ≢ b → (a == b) ≡ false
differ a b other = ne_eqb a b other

later_than : (a b : ℕ) → a ≤ b → a ≢ b → a + 1 ≤ b
later_than a b least other = omega (arith, least, other)

pub rises_bounds : {T : Type 0} (ps : List (Place T)) (low high : ℕ) → Rises low high ps → low ≤ high
rises_bounds [] low high r = r
rises_bounds (p ∷ ps) low high r = let below = rises_bounds ps (p.key + 1) high r.1 in omega (arith, r.0, below)

-- keys that rise from a bound on rise from each lower one
pub rises_lower : {T : Type 0} (ps : List (Place T)) (lower low high : ℕ) → lower ≤ low → Rises low high ps → Rises lower high ps
rises_lower [] lower low high h r = omega (arith, h, r)
rises_lower (p ∷ ps) lower low high h r = (omega (arith, h, r.0), r.1)

pub rises_append : {T : Type 0} (ps qs : List (Place T)) (low middle high : ℕ) → Rises low middle ps → Rises middle high qs → Rises low high (ps ++ qs)
rises_append [] qs low middle high r s = rises_lower qs low middle high r s
rises_append (p ∷ ps) qs low middle high r s = (r.0, rises_append ps qs (p.key + 1) middle high r.1 s)

length_first : {T : Type 0} (k : ℕ) (x : Option T) (es : List (Entry T)) → length (entry_first k x es) ≤ 1 + length es
length_first k None es = omega arith
length_first k (Some x) es = omega arith

-- no more items than keys
pub few_entries : {T : Type 0} (ps : List (Place T)) (low high : ℕ) → Rises low high ps → length (entries ps) + low ≤ high
few_entries [] low high r = omega (arith, r)
few_entries (p ∷ ps) low high r =
    let rest = few_entries ps (p.key + 1) high r.1 in
    let first = length_first p.key p.item (entries ps) in
    omega (arith, r.0, rest, first)

first_before : {T : Type 0} (k : ℕ) (x : Option T) (es fs : List (Entry T)) → entry_first k x (es ++ fs) ≡ entry_first k x es ++ fs
first_before k None es fs = refl
first_before k (Some x) es fs = refl

pub entries_append : {T : Type 0} (ps qs : List (Place T)) → entries (ps ++ qs) ≡ entries ps ++ entries qs
entries_append [] qs = refl
entries_append (p ∷ ps) qs = ap (entry_first p.key p.item) (entries_append ps qs) ∙ first_before p.key p.item (entries ps) (entries qs)

-- a key below all of them has no place
pub below_all : {T : Type 0} (ps : List (Place T)) (low high k : ℕ) → Rises low high ps → k < low → place_at ps k ≡ None
below_all [] low high k r h = refl
below_all (p ∷ ps) low high k r h =
    rw (differ p.key k (λ e. omega (arith, e, h, r.0))) (below_all ps (p.key + 1) high k r.1 (omega (arith, h, r.0)))

-- nor has one above all of them
pub above_all : {T : Type 0} (ps : List (Place T)) (low high k : ℕ) → Rises low high ps → high ≤ k → place_at ps k ≡ None
above_all [] low high k r h = refl
above_all (p ∷ ps) low high k r h =
    let bound = rises_bounds ps (p.key + 1) high r.1 in
    rw (differ p.key k (λ e. omega (arith, e, h, bound))) (above_all ps (p.key + 1) high k r.1 h)

-- a key below the later ones is looked for among the earlier ones
pub at_low : {T : Type 0} (ps qs : List (Place T)) (middle high k : ℕ) → Rises middle high qs → k < middle → place_at (ps ++ qs) k ≡ place_at ps k
at_low [] qs middle high k r h = below_all qs middle high k r h
at_low (p ∷ ps) qs middle high k r h = ap (cond (p.key == k) (Some p.item)) (at_low ps qs middle high k r h)

-- a key above the earlier ones is looked for among the later ones
pub at_high : {T : Type 0} (ps qs : List (Place T)) (low middle k : ℕ) → Rises low middle ps → middle ≤ k → place_at (ps ++ qs) k ≡ place_at qs k
at_high [] qs low middle k r h = refl
at_high (p ∷ ps) qs low middle k r h =
    let bound = rises_bounds ps (p.key + 1) middle r.1 in
    rw (differ p.key k (λ e. omega (arith, e, h, bound))) (at_high ps qs (p.key + 1) middle k r.1 h)

-- keys that rise between two bounds rise between wider ones
pub rises_wider : {T : Type 0} (ps : List (Place T)) (lower low high higher : ℕ) → lower ≤ low → high ≤ higher → Rises low high ps → Rises lower higher ps
rises_wider [] lower low high higher h g r = omega (arith, h, g, r)
rises_wider (p ∷ ps) lower low high higher h g r = (omega (arith, h, r.0), rises_wider ps (p.key + 1) (p.key + 1) high higher (omega arith) g r.1)

pub append_none : {X : Type 0} (xs : List X) → xs ++ [] ≡ xs
append_none [] = refl
append_none (x ∷ xs) = ap (λ ys. x ∷ ys) (append_none xs)

-- a place for a key below all of them comes first
pub with_below : {T : Type 0} (ps : List (Place T)) (low high k : ℕ) (new : Option (Option T)) → Rises low high ps → k < low → with_place ps k new ≡ put_first k new ps
with_below [] low high k new r h = refl
with_below (p ∷ ps) low high k new r h = rw (lt-ltb k p.key (omega (arith, h, r.0))) refl

-- where a place comes or changes there is one
pub with_some : {T : Type 0} (ps : List (Place T)) (k : ℕ) (x : Option T) → 0 < length (with_place ps k (Some x))
with_some [] k x = omega arith
with_some (p ∷ ps) k x = by (nat_lt k p.key) (p.key == k)
  where
    by : (a b : Bool) → 0 < length (cond a (put_first k (Some x) (p ∷ ps)) (cond b (put_first k (Some x) ps) (p ∷ with_place ps k (Some x))))
    by true b = omega arith
    by false true = omega arith
    by false false = omega arith

first_append : {T : Type 0} (k : ℕ) (new : Option (Option T)) (ps qs : List (Place T)) → put_first k new (ps ++ qs) ≡ put_first k new ps ++ qs
first_append k None ps qs = refl
first_append k (Some x) ps qs = refl

-- a place below the later ones changes among the earlier ones
pub with_low : {T : Type 0} (ps qs : List (Place T)) (middle high k : ℕ) (new : Option (Option T)) → Rises middle high qs → k < middle → with_place (ps ++ qs) k new ≡ with_place ps k new ++ qs
with_low [] [] middle high k new r h = first_append k new [] []
with_low [] (q ∷ qs) middle high k new r h = rw (lt-ltb k q.key (omega (arith, h, r.0))) (first_append k new [] (q ∷ qs))
with_low (p ∷ ps) qs middle high k new r h = by (nat_lt k p.key) (p.key == k) (with_low ps qs middle high k new r h)
  where
    by : (a b : Bool) → with_place (ps ++ qs) k new ≡ with_place ps k new ++ qs
        → cond a (put_first k new (p ∷ ps ++ qs)) (cond b (put_first k new (ps ++ qs)) (p ∷ with_place (ps ++ qs) k new))
        ≡ cond a (put_first k new (p ∷ ps)) (cond b (put_first k new ps) (p ∷ with_place ps k new)) ++ qs
    by true b e = first_append k new (p ∷ ps) qs
    by false true e = first_append k new ps qs
    by false false e = ap (λ xs. p ∷ xs) e

-- a place above the earlier ones changes among the later ones
pub with_high : {T : Type 0} (ps qs : List (Place T)) (low middle k : ℕ) (new : Option (Option T)) → Rises low middle ps → middle ≤ k → with_place (ps ++ qs) k new ≡ ps ++ with_place qs k new
with_high [] qs low middle k new r h = refl
with_high (p ∷ ps) qs low middle k new r h =
    let bound = rises_bounds ps (p.key + 1) middle r.1 in
    rw (le-ltb k p.key (omega (arith, h, bound)), differ p.key k (λ e. omega (arith, e, h, bound))) (ap (λ xs. p ∷ xs) (with_high ps qs (p.key + 1) middle k new r.1 h))

pub first_rises : {T : Type 0} (k : ℕ) (new : Option (Option T)) (ps : List (Place T)) (low high : ℕ) → low ≤ k → Rises (k + 1) high ps → Rises low high (put_first k new ps)
first_rises k None ps low high h r = rises_lower ps low (k + 1) high (omega (arith, h)) r
first_rises k (Some x) ps low high h r = (h, r)

-- a change of one place within the bounds leaves keys that rise
pub rises_with : {T : Type 0} (ps : List (Place T)) (low high k : ℕ) (new : Option (Option T)) → Rises low high ps → low ≤ k → k < high → Rises low high (with_place ps k new)
rises_with [] low high k new r h l = first_rises k new [] low high h (omega (arith, l))
rises_with (p ∷ ps) low high k new r h l = by (nat_lt k p.key) (p.key == k) refl refl (λ later. rises_with ps (p.key + 1) high k new r.1 later l)
  where
    by : (a b : Bool) → nat_lt k p.key ≡ a → (p.key == k) ≡ b → (p.key + 1 ≤ k → Rises (p.key + 1) high (with_place ps k new))
        → Rises low high (cond a (put_first k new (p ∷ ps)) (cond b (put_first k new ps) (p ∷ with_place ps k new)))
    by true b is e ih = first_rises k new (p ∷ ps) low high h (omega (arith, ltb-true k p.key is), r.1)
    by false true is e ih = let same = eqb-true p.key k e in first_rises k new ps low high h (subst (λ i. Rises (i + 1) high ps) same r.1)
    by false false is e ih = (r.0, ih (later_than p.key k (ltb-false k p.key is) (eqb-false p.key k e)))

-- a free place is no item
pub entries_free : {T : Type 0} (ps : List (Place T)) (k : ℕ) → has_place ps k ≡ false → entries (with_place ps k (Some None)) ≡ entries ps
entries_free [] k h = refl
entries_free (p ∷ ps) k h = by (nat_lt k p.key) (p.key == k) refl (λ e. entries_free ps k (sym (ap (λ b. is_some (if b then Some p.item else place_at ps k)) e) ∙ h))
  where
    by : (a b : Bool) → (p.key == k) ≡ b → ((p.key == k) ≡ false → entries (with_place ps k (Some None)) ≡ entries ps)
        → entries (if a then put_first k (Some None) (p ∷ ps) else (if b then put_first k (Some None) ps else p ∷ with_place ps k (Some None))) ≡ entries (p ∷ ps)
    by true b e ih = refl
    by false true e ih = absurd (true≢false (sym (ap (λ b. is_some (if b then Some p.item else place_at ps k)) e) ∙ h))
    by false false e ih = ap (entry_first p.key p.item) (ih e)

pub count_most : {T : Type 0} (x : Option T) → count_of x ≤ 1
count_most None = omega arith
count_most (Some x) = omega arith

first_count : {T : Type 0} (k : ℕ) (x : Option T) (es : List (Entry T)) → length (entry_first k x es) ≡ count_of x + length es
first_count k None es = omega arith
first_count k (Some x) es = omega arith

pub put_count : {T : Type 0} (k : ℕ) (new : Option (Option T)) (ps : List (Place T)) → length (entries (put_first k new ps)) ≡ count_of (item_in new) + length (entries ps)
put_count k None ps = omega arith
put_count k (Some x) ps = first_count k x (entries ps)

-- what a change of one place does to the number of items
pub count_with : {T : Type 0} (ps : List (Place T)) (low high k : ℕ) (new : Option (Option T)) → Rises low high ps → has_place ps k ≡ true
    → length (entries (with_place ps k new)) + count_of (item_at ps k) ≡ length (entries ps) + count_of (item_in new)
count_with [] low high k new r h = absurd (true≢false (sym h))
count_with (p ∷ ps) low high k new r h = by (nat_lt k p.key) (p.key == k) refl refl (λ e. count_with ps (p.key + 1) high k new r.1 (sym (ap (λ b. is_some (if b then Some p.item else place_at ps k)) e) ∙ h))
  where
    by : (a b : Bool) → nat_lt k p.key ≡ a → (p.key == k) ≡ b → ((p.key == k) ≡ false → length (entries (with_place ps k new)) + count_of (item_at ps k) ≡ length (entries ps) + count_of (item_in new))
        → length (entries (if a then put_first k new (p ∷ ps) else (if b then put_first k new ps else p ∷ with_place ps k new))) + count_of (item_in (if b then Some p.item else place_at ps k)) ≡ length (entries (p ∷ ps)) + count_of (item_in new)
    by true b is e ih =
        let under = ltb-true k p.key is in
        absurd (true≢false (sym h ∙ ap is_some (below_all (p ∷ ps) p.key high k (omega arith, r.1) under)))
    by false true is e ih = omega (arith, put_count k new ps, first_count p.key p.item (entries ps))
    by false false is e ih = omega (arith, ih e, first_count p.key p.item (entries (with_place ps k new)), first_count p.key p.item (entries ps))

-- the item at a place among those of two lists, one after the other
pub get_append : {X : Type 0} (xs ys : List X) (i : ℕ) → slice_get (xs ++ ys) i ≡ (if nat_lt i (length xs) then slice_get xs i else slice_get ys (i - length xs))
get_append [] ys i = rw (le-ltb i 0 (omega arith)) (ap (slice_get ys) (omega arith))
get_append (x ∷ xs) ys zero = rw (lt-ltb 0 (length (x ∷ xs)) (omega arith)) refl
get_append (x ∷ xs) ys (suc i) = get_append xs ys i ∙ by (nat_lt i (length xs)) refl
  where
    by : (b : Bool) → nat_lt i (length xs) ≡ b → (if nat_lt i (length xs) then slice_get xs i else slice_get ys (i - length xs)) ≡ (if nat_lt (suc i) (length (x ∷ xs)) then slice_get (x ∷ xs) (suc i) else slice_get ys (suc i - length (x ∷ xs)))
    by true e = rw (e, lt-ltb (suc i) (length (x ∷ xs)) (omega (arith, ltb-true i (length xs) e))) refl
    by false e = rw (e, le-ltb (suc i) (length (x ∷ xs)) (omega (arith, ltb-false i (length xs) e))) (ap (slice_get ys) (omega arith))
