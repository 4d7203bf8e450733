-- A set of numbers whose few marks stand in a list, once a mark comes or goes.
use Rattle.std.proofs.Common.{◌≡◌, ℕ, zero, suc, ◌+◌, ◌^◌, ◌<◌, ◌≤◌, Bool, true, false, true≢false, is_some, ◌==◌, nat_lt, cond, if◌then◌else◌, List, [], ◌∷◌, ◌++◌, map, length, slice_get, Option, None, Some, option_map, Result, Ok, Err, OnOk, OnErr, refl, sym, subst, ap, ◌∙◌, arith}
use Rattle.std.specs.List.{prefix_len, insert, remove}
use Rattle.std.proofs.lemmas.Bool.{eqb-true, eqb-false, eq-eqb, ne_eqb, ltb-true, ltb-false}
use Rattle.std.proofs.lemmas.List.Sums.{prefix_len-le-length}
use Rattle.rank_map.specs.Places.{Place, Entry, place_at, has_place, item_in, item_at, put_first, with_place, with_free, entry_first, entries, Rises}
use Rattle.rank_map.proofs.PlaceLemmas.{below_all, above_all, rises_with}
use Rattle.rank_map.proofs.RankLemmas.{entry_place, entry_removed}
use Rattle.rank_map.proofs.MarkLemmas.{keeps_place, free_rises, free_same}
use Rattle.server_index.specs.MarkSets.{is_in, Climbs, with_number, without_number, lit, numbers, HavePlaces, IsMarkSet}

abbrev pub Marks : Type 0
Marks = List (Place (Unit {0}))

-- RISING NUMBERS

-- how many come before a number
abbrev pub rank_in : List ℕ → ℕ → ℕ
rank_in js k = prefix_len (λ j. nat_lt j k) js

-- one and a number is the next number
next_is : (n : ℕ) → 1 + n ≡ suc n
next_is n = omega arith

-- one that stands at its rank is there already
pub found_with : (js : List ℕ) (k : ℕ) → slice_get js (rank_in js k) ≡ Some k → js ≡ with_number js k
found_with [] k h = absurd cc
found_with (j ∷ js) k h = by (nat_lt j k) h (found_with js k)
  where
    by : (b : Bool) → slice_get (j ∷ js) (cond b (1 + rank_in js k) 0) ≡ Some k → (slice_get js (rank_in js k) ≡ Some k → js ≡ with_number js k)
        → j ∷ js ≡ (if b then j ∷ with_number js k else (if j == k then j ∷ js else k ∷ j ∷ js))
    by true g ih = ap (λ xs. j ∷ xs) (ih (sym (ap (slice_get (j ∷ js)) (next_is (rank_in js k))) ∙ g))
    by false g ih = let same : j ≡ k = cc in sym (ap (λ b. if b then j ∷ js else k ∷ j ∷ js) (eq-eqb j k same))

-- one that doesn't is put in there
pub put_with : (js : List ℕ) (k : ℕ) → (slice_get js (rank_in js k) ≡ Some k → ⊥) → insert js (rank_in js k) k ≡ with_number js k
put_with [] k h = refl
put_with (j ∷ js) k h = by (nat_lt j k) h (put_with js k)
  where
    here : (b : Bool) → (j == k) ≡ b → (Some j ≡ Some k → ⊥) → k ∷ j ∷ js ≡ (if b then j ∷ js else k ∷ j ∷ js)
    here true e g = absurd (g (ap Some (eqb-true j k e)))
    here false e g = refl

    by : (b : Bool) → (slice_get (j ∷ js) (cond b (1 + rank_in js k) 0) ≡ Some k → ⊥) → ((slice_get js (rank_in js k) ≡ Some k → ⊥) → insert js (rank_in js k) k ≡ with_number js k)
        → insert (j ∷ js) (cond b (1 + rank_in js k) 0) k ≡ (if b then j ∷ with_number js k else (if j == k then j ∷ js else k ∷ j ∷ js))
    by true g ih = ap (λ i. insert (j ∷ js) i k) (next_is (rank_in js k)) ∙ ap (λ xs. j ∷ xs) (ih (λ q. g (ap (slice_get (j ∷ js)) (next_is (rank_in js k)) ∙ q)))
    by false g ih = here (j == k) refl g

-- one that stands at its rank is taken from there
pub found_without : (js : List ℕ) (k : ℕ) → slice_get js (rank_in js k) ≡ Some k → remove js (rank_in js k) ≡ without_number js k
found_without [] k h = absurd cc
found_without (j ∷ js) k h = by (nat_lt j k) h (found_without js k)
  where
    by : (b : Bool) → slice_get (j ∷ js) (cond b (1 + rank_in js k) 0) ≡ Some k → (slice_get js (rank_in js k) ≡ Some k → remove js (rank_in js k) ≡ without_number js k)
        → remove (j ∷ js) (cond b (1 + rank_in js k) 0) ≡ (if b then j ∷ without_number js k else (if j == k then js else j ∷ js))
    by true g ih = ap (remove (j ∷ js)) (next_is (rank_in js k)) ∙ ap (λ xs. j ∷ xs) (ih (sym (ap (slice_get (j ∷ js)) (next_is (rank_in js k))) ∙ g))
    by false g ih = let same : j ≡ k = cc in sym (ap (λ b. if b then js else j ∷ js) (eq-eqb j k same))

-- one that doesn't isn't there
pub absent_without : (js : List ℕ) (k : ℕ) → (slice_get js (rank_in js k) ≡ Some k → ⊥) → js ≡ without_number js k
absent_without [] k h = refl
absent_without (j ∷ js) k h = by (nat_lt j k) h (absent_without js k)
  where
    here : (b : Bool) → (j == k) ≡ b → (Some j ≡ Some k → ⊥) → j ∷ js ≡ (if b then js else j ∷ js)
    here true e g = absurd (g (ap Some (eqb-true j k e)))
    here false e g = refl

    by : (b : Bool) → (slice_get (j ∷ js) (cond b (1 + rank_in js k) 0) ≡ Some k → ⊥) → ((slice_get js (rank_in js k) ≡ Some k → ⊥) → js ≡ without_number js k)
        → j ∷ js ≡ (if b then j ∷ without_number js k else (if j == k then js else j ∷ js))
    by true g ih = ap (λ xs. j ∷ xs) (ih (λ q. g (ap (slice_get (j ∷ js)) (next_is (rank_in js k)) ∙ q)))
    by false g ih = here (j == k) refl g

-- numbers that rise from a bound on rise from each lower one
climbs_lower : (js : List ℕ) (lower low : ℕ) → lower ≤ low → Climbs low js → Climbs lower js
climbs_lower [] lower low h c = tt
climbs_lower (j ∷ js) lower low h c = (omega (arith, h, c.0), c.1)

-- a number below all of them isn't there
below_few : (js : List ℕ) (low k : ℕ) → Climbs low js → k < low → is_in k js ≡ false
below_few [] low k c h = refl
below_few (j ∷ js) low k c h = rw (ne_eqb j k (λ e. omega (arith, e, h, c.0))) (below_few js (j + 1) k c.1 (omega (arith, h, c.0)))

-- a number that is neither below another nor the same comes after it
above : (j k : ℕ) → nat_lt j k ≡ false → (j == k) ≡ false → k + 1 ≤ j
above j k is e = let least = ltb-false j k is in let other = eqb-false j k e in by least other
  where
    by : k ≤ j → (j ≡ k → ⊥) → k + 1 ≤ j
    by least other = omega (arith, least, other)

-- a number at a place that is its rank
pub got : (js xs ys : List ℕ) (i k : ℕ) → xs ≡ js → ys ≡ js → i ≡ rank_in xs k → slice_get ys i ≡ slice_get js (rank_in js k)
got js xs ys i k first second at = ap (λ ns. slice_get ns i) second ∙ ap (slice_get js) (at ∙ ap (λ ns. rank_in ns k) first)

-- no more than all of them
pub rank_few : (js : List ℕ) (k : ℕ) → rank_in js k ≤ length js
rank_few js k = prefix_len-le-length (λ j. nat_lt j k) js

-- one more, put in at its place, leaves numbers that rise
pub climbs_with : (js : List ℕ) (low k : ℕ) → Climbs low js → low ≤ k → Climbs low (with_number js k)
climbs_with [] low k c h = (h, tt)
climbs_with (j ∷ js) low k c h = by (nat_lt j k) (j == k) refl refl (climbs_with js (j + 1) k c.1)
  where
    by : (a b : Bool) → nat_lt j k ≡ a → (j == k) ≡ b → (j + 1 ≤ k → Climbs (j + 1) (with_number js k)) → Climbs low (if a then j ∷ with_number js k else (if b then j ∷ js else k ∷ j ∷ js))
    by true b is e ih = let less = ltb-true j k is in (c.0, ih (omega (arith, less)))
    by false true is e ih = c
    by false false is e ih = (h, (above j k is e, c.1))

-- and so does one fewer
pub climbs_without : (js : List ℕ) (low k : ℕ) → Climbs low js → Climbs low (without_number js k)
climbs_without [] low k c = tt
climbs_without (j ∷ js) low k c = by (nat_lt j k) (j == k) (climbs_without js (j + 1) k c.1)
  where
    by : (a b : Bool) → Climbs (j + 1) (without_number js k) → Climbs low (if a then j ∷ without_number js k else (if b then js else j ∷ js))
    by true b ih = (c.0, ih)
    by false true ih = climbs_lower js low (j + 1) (omega (arith, c.0)) c.1
    by false false ih = c

-- one that is put in is there
in_with : (js : List ℕ) (k : ℕ) → is_in k (with_number js k) ≡ true
in_with [] k = rw (eq-eqb k k refl) refl
in_with (j ∷ js) k = by (nat_lt j k) (j == k) refl (in_with js k)
  where
    by : (a b : Bool) → (j == k) ≡ b → is_in k (with_number js k) ≡ true → is_in k (if a then j ∷ with_number js k else (if b then j ∷ js else k ∷ j ∷ js)) ≡ true
    by true true e ih = ap (λ b. if b then true else is_in k (with_number js k)) e
    by true false e ih = ap (λ b. if b then true else is_in k (with_number js k)) e ∙ ih
    by false true e ih = ap (λ b. if b then true else is_in k js) e
    by false false e ih = ap (λ b. if b then true else is_in k (j ∷ js)) (eq-eqb k k refl)

-- and changes no other
other_with : (js : List ℕ) (k i : ℕ) → (k == i) ≡ false → is_in i (with_number js k) ≡ is_in i js
other_with [] k i d = ap (λ b. if b then true else false) d
other_with (j ∷ js) k i d = by (nat_lt j k) (j == k) (other_with js k i d)
  where
    by : (a b : Bool) → is_in i (with_number js k) ≡ is_in i js → is_in i (if a then j ∷ with_number js k else (if b then j ∷ js else k ∷ j ∷ js)) ≡ is_in i (j ∷ js)
    by true b ih = ap (λ q. if j == i then true else q) ih
    by false true ih = refl
    by false false ih = ap (λ b. if b then true else is_in i (j ∷ js)) d

-- one that is taken out isn't there
in_without : (js : List ℕ) (low k : ℕ) → Climbs low js → is_in k (without_number js k) ≡ false
in_without [] low k c = refl
in_without (j ∷ js) low k c = by (nat_lt j k) (j == k) refl refl (in_without js (j + 1) k c.1)
  where
    by : (a b : Bool) → nat_lt j k ≡ a → (j == k) ≡ b → is_in k (without_number js k) ≡ false → is_in k (if a then j ∷ without_number js k else (if b then js else j ∷ js)) ≡ false
    by true b is e ih = let less = ltb-true j k is in ap (λ b. if b then true else is_in k (without_number js k)) (ne_eqb j k (λ same. omega (arith, less, same))) ∙ ih
    by false true is e ih = below_few js (j + 1) k c.1 (let same = eqb-true j k e in omega (arith, same))
    by false false is e ih = below_few (j ∷ js) j k (omega arith, c.1) (let more = above j k is e in omega (arith, more))

-- and changes no other
other_without : (js : List ℕ) (k i : ℕ) → (k == i) ≡ false → is_in i (without_number js k) ≡ is_in i js
other_without [] k i d = refl
other_without (j ∷ js) k i d = by (nat_lt j k) (j == k) refl (other_without js k i d)
  where
    by : (a b : Bool) → (j == k) ≡ b → is_in i (without_number js k) ≡ is_in i js → is_in i (if a then j ∷ without_number js k else (if b then js else j ∷ js)) ≡ is_in i (j ∷ js)
    by true b e ih = ap (λ q. if j == i then true else q) ih
    by false true e ih = sym (ap (λ b. if b then true else is_in i js) (ap (λ n. n == i) (eqb-true j k e) ∙ d))
    by false false e ih = refl

-- the last of some numbers
in_last : (js : List ℕ) (k : ℕ) → is_in k (js ++ k ∷ []) ≡ true
in_last [] k = rw (eq-eqb k k refl) refl
in_last (j ∷ js) k = by (j == k) (in_last js k)
  where
    by : (b : Bool) → is_in k (js ++ k ∷ []) ≡ true → (if b then true else is_in k (js ++ k ∷ [])) ≡ true
    by true ih = refl
    by false ih = ih

-- and no other is there that was not
other_last : (js : List ℕ) (k i : ℕ) → (k == i) ≡ false → is_in i (js ++ k ∷ []) ≡ is_in i js
other_last [] k i d = ap (λ b. if b then true else false) d
other_last (j ∷ js) k i d = ap (λ q. if j == i then true else q) (other_last js k i d)

-- PLACES WITH MARKS

-- the same both ways
either : (b : Bool) (x : Option (Unit {0})) → (if b then x else x) ≡ x
either true x = refl
either false x = refl

-- a place that becomes what it is
unchanged : {T : Type 0} (ps : List (Place T)) (low high k : ℕ) (x : Option T) → Rises low high ps → place_at ps k ≡ Some x → with_place ps k (Some x) ≡ ps
unchanged [] low high k x r h = absurd cc
unchanged {T} (p ∷ ps) low high k x r h = by (nat_lt k p.key) (p.key == k) refl refl (λ g. unchanged ps (p.key + 1) high k x r.1 g)
  where
    first : (p.key == k) ≡ true → Some p.item ≡ Some x → put_first k (Some x) ps ≡ p ∷ ps
    first e g =
        let item : p.item ≡ x = cc in
        ap (λ j. record { key = j; item = x } ∷ ps) (sym (eqb-true p.key k e)) ∙ ap (λ y. record { key = p.key; item = y } ∷ ps) (sym item)

    by : (a b : Bool) → nat_lt k p.key ≡ a → (p.key == k) ≡ b → (place_at ps k ≡ Some x → with_place ps k (Some x) ≡ ps)
        → (if a then put_first k (Some x) (p ∷ ps) else (if b then put_first k (Some x) ps else p ∷ with_place ps k (Some x))) ≡ p ∷ ps
    by true b is e ih = absurd (true≢false (sym (ap is_some (sym (below_all (p ∷ ps) p.key high k (omega arith, r.1) (ltb-true k p.key is)) ∙ h))))
    by false true is e ih = first e (sym (ap (λ b. if b then Some p.item else place_at ps k) e) ∙ h)
    by false false is e ih = ap (λ qs. p ∷ qs) (ih (sym (ap (λ b. if b then Some p.item else place_at ps k) e) ∙ h))

-- a place is that of its item, or of none
place_kept : {T : Type 0} (ps : List (Place T)) (k : ℕ) → has_place ps k ≡ true → place_at ps k ≡ Some (item_at ps k)
place_kept {T} ps k h = by (place_at ps k) h
  where
    by : (o : Option (Option T)) → is_some o ≡ true → o ≡ Some (item_in o)
    by None g = absurd (true≢false (sym g))
    by (Some o) g = refl

-- a number that has a place is below the bound
place_below : {T : Type 0} (ps : List (Place T)) (low high k : ℕ) → Rises low high ps → has_place ps k ≡ true → k < high
place_below ps low high k r h = by (nat_lt k high) refl
  where
    by : (b : Bool) → nat_lt k high ≡ b → k < high
    by true e = ltb-true k high e
    by false e = absurd (true≢false (sym h ∙ ap is_some (above_all ps low high k r (ltb-false k high e))))

-- a place that changes leaves keys that rise
changed_rises : {T : Type 0} (ps : List (Place T)) (k : ℕ) (x : Option T) → Rises 0 (2 ^ 40) ps → has_place ps k ≡ true → Rises 0 (2 ^ 40) (with_place ps k (Some x))
changed_rises ps k x r h = rises_with ps 0 (2 ^ 40) k (Some x) r (omega arith) (place_below ps 0 (2 ^ 40) k r h)

-- with no few the marks are those of the places
pub lit_none : (ps : Marks) → lit [] ps ≡ ps
lit_none [] = refl
lit_none (p ∷ ps) = ap (λ qs. p ∷ qs) (lit_none ps)

-- the few change no place
pub lit_has : (js : List ℕ) (ps : Marks) (k : ℕ) → has_place (lit js ps) k ≡ has_place ps k
lit_has js [] k = refl
lit_has js (p ∷ ps) k = by (p.key == k) (lit_has js ps k)
  where
    by : (b : Bool) → has_place (lit js ps) k ≡ has_place ps k → is_some (if b then Some (if is_in p.key js then Some tt else p.item) else place_at (lit js ps) k) ≡ is_some (if b then Some p.item else place_at ps k)
    by true ih = refl
    by false ih = ih

-- the mark at a number
lit_item : (js : List ℕ) (ps : Marks) (k : ℕ) → has_place ps k ≡ true → is_in k js ≡ true → place_at (lit js ps) k ≡ Some (Some tt)
lit_item js [] k h i = absurd (true≢false (sym h))
lit_item js (p ∷ ps) k h i = by (p.key == k) refl (lit_item js ps k)
  where
    by : (b : Bool) → (p.key == k) ≡ b → (has_place ps k ≡ true → is_in k js ≡ true → place_at (lit js ps) k ≡ Some (Some tt))
        → (if b then Some (if is_in p.key js then Some tt else p.item) else place_at (lit js ps) k) ≡ Some (Some tt)
    by true e ih = ap (λ q. Some (if q then Some tt else p.item)) (ap (λ n. is_in n js) (eqb-true p.key k e) ∙ i)
    by false e ih = ih (sym (ap (λ b. is_some (if b then Some p.item else place_at ps k)) e) ∙ h) i

-- a marked place is seen as one
lit_marked : (js : List ℕ) (ps : Marks) (k : ℕ) → place_at ps k ≡ Some (Some tt) → place_at (lit js ps) k ≡ Some (Some tt)
lit_marked js [] k h = absurd cc
lit_marked js (p ∷ ps) k h = by (p.key == k) h (lit_marked js ps k)
  where
    by : (b : Bool) → (if b then Some p.item else place_at ps k) ≡ Some (Some tt) → (place_at ps k ≡ Some (Some tt) → place_at (lit js ps) k ≡ Some (Some tt))
        → (if b then Some (if is_in p.key js then Some tt else p.item) else place_at (lit js ps) k) ≡ Some (Some tt)
    by true g ih = let item : p.item ≡ Some tt = cc in ap Some (ap (λ o. if is_in p.key js then Some tt else o) item ∙ either (is_in p.key js) (Some tt))
    by false g ih = ih g

-- nor the order of the places
pub lit_rises : (js : List ℕ) (ps : Marks) (low high : ℕ) → Rises low high ps → Rises low high (lit js ps)
lit_rises js [] low high r = r
lit_rises js (p ∷ ps) low high r = (r.0, lit_rises js ps (p.key + 1) high r.1)

-- among numbers that aren't below the places only those there count
lit_away : (js ks : List ℕ) (ps : Marks) (low high : ℕ) → Rises low high ps → ((i : ℕ) → low ≤ i → is_in i ks ≡ is_in i js) → lit ks ps ≡ lit js ps
lit_away js ks [] low high r h = refl
lit_away js ks (p ∷ ps) low high r h =
    ap (λ b. record { key = p.key; item = if b then Some tt else p.item } ∷ lit ks ps) (h p.key r.0)
    ∙ ap (λ qs. record { key = p.key; item = if is_in p.key js then Some tt else p.item } ∷ qs) (lit_away js ks ps (p.key + 1) high r.1 (λ i l. h i (omega (arith, l, r.0))))

-- what a change of one number and of its place shows
pub lit_with : (js ks : List ℕ) (ps : Marks) (low high k : ℕ) (x : Option (Unit {0})) → Rises low high ps → ((i : ℕ) → (k == i) ≡ false → is_in i ks ≡ is_in i js)
    → lit ks (with_place ps k (Some x)) ≡ with_place (lit js ps) k (Some (if is_in k ks then Some tt else x))
lit_with js ks [] low high k x r h = refl
lit_with js ks (p ∷ ps) low high k x r h = by (nat_lt k p.key) (p.key == k) refl refl (lit_with js ks ps (p.key + 1) high k x r.1 h)
  where
    later : (i j : ℕ) → k < j → j ≤ i → (k == i) ≡ false
    later i j less least = ne_eqb k i (λ e. omega (arith, e, less, least))

    by : (a b : Bool) → nat_lt k p.key ≡ a → (p.key == k) ≡ b → lit ks (with_place ps k (Some x)) ≡ with_place (lit js ps) k (Some (if is_in k ks then Some tt else x))
        → lit ks (if a then put_first k (Some x) (p ∷ ps) else (if b then put_first k (Some x) ps else p ∷ with_place ps k (Some x)))
        ≡ (if a then put_first k (Some (if is_in k ks then Some tt else x)) (lit js (p ∷ ps)) else (if b then put_first k (Some (if is_in k ks then Some tt else x)) (lit js ps)
        else record { key = p.key; item = if is_in p.key js then Some tt else p.item } ∷ with_place (lit js ps) k (Some (if is_in k ks then Some tt else x))))
    by true b is e ih =
        ap (λ qs. record { key = k; item = if is_in k ks then Some tt else x } ∷ qs) (lit_away js ks (p ∷ ps) p.key high (omega arith, r.1) (λ i l. h i (later i p.key (ltb-true k p.key is) l)))
    by false true is e ih =
        ap (λ qs. record { key = k; item = if is_in k ks then Some tt else x } ∷ qs)
        (lit_away js ks ps (p.key + 1) high r.1 (λ i l. h i (later i (p.key + 1) (let same = eqb-true p.key k e in omega (arith, same)) l)))
    by false false is e ih =
        ap (λ b. record { key = p.key; item = if b then Some tt else p.item } ∷ lit ks (with_place ps k (Some x))) (h p.key (ne_eqb k p.key (λ same. eqb-false p.key k e (sym same))))
        ∙ ap (λ qs. record { key = p.key; item = if is_in p.key js then Some tt else p.item } ∷ qs) ih

-- where only the few change
few_change : (js ks : List ℕ) (ps : Marks) (k : ℕ) → Rises 0 (2 ^ 40) ps → has_place ps k ≡ true → ((i : ℕ) → (k == i) ≡ false → is_in i ks ≡ is_in i js)
    → lit ks ps ≡ with_place (lit js ps) k (Some (if is_in k ks then Some tt else item_at ps k))
few_change js ks ps k r there h =
    ap (lit ks) (sym (unchanged ps 0 (2 ^ 40) k (item_at ps k) r (place_kept ps k there))) ∙ lit_with js ks ps 0 (2 ^ 40) k (item_at ps k) r h

-- a mark that goes from the few to its place, or back
moved : (js ks : List ℕ) (ps : Marks) (k : ℕ) (x : Option (Unit {0})) → Rises 0 (2 ^ 40) ps → ((i : ℕ) → (k == i) ≡ false → is_in i ks ≡ is_in i js)
    → (if is_in k ks then Some tt else x) ≡ Some tt → place_at (lit js ps) k ≡ Some (Some tt) → lit ks (with_place ps k (Some x)) ≡ lit js ps
moved js ks ps k x r h item was =
    lit_with js ks ps 0 (2 ^ 40) k x r h ∙ ap (λ y. with_place (lit js ps) k (Some y)) item ∙ unchanged (lit js ps) 0 (2 ^ 40) k (Some tt) (lit_rises js ps 0 (2 ^ 40) r) was

-- with no entries there is no first one
first_none : (k : ℕ) (o : Option (Unit {0})) (es : List (Entry (Unit {0}))) → entry_first k o es ≡ [] → (o ≡ None) × (es ≡ [])
first_none k None es h = (refl, h)
first_none k (Some x) es h = absurd cc

-- where no place is marked
no_item : (ps : Marks) (k : ℕ) → entries ps ≡ [] → item_at ps k ≡ None
no_item [] k h = refl
no_item (p ∷ ps) k h = let none = first_none p.key p.item (entries ps) h in by (p.key == k) none.0 (no_item ps k none.1)
  where
    by : (b : Bool) → p.item ≡ None → item_at ps k ≡ None → item_in (if b then Some p.item else place_at ps k) ≡ None
    by true e ih = e
    by false e ih = ih

-- where no place is marked the marks are just the few
pub few_numbers : (js : List ℕ) (ps : Marks) (low high : ℕ) → Rises low high ps → Climbs low js → HavePlaces js ps → entries ps ≡ [] → numbers (lit js ps) ≡ js
few_numbers [] [] low high r c h none = refl
few_numbers (j ∷ js) [] low high r c h none = absurd (true≢false (sym (h j (ap (λ b. if b then true else is_in j js) (eq-eqb j j refl)))))
few_numbers [] (p ∷ ps) low high r c h none =
    let split = first_none p.key p.item (entries ps) none in
    ap (λ o. map (λ e. e.key) (entry_first p.key o (entries (lit [] ps)))) split.0 ∙ few_numbers [] ps (p.key + 1) high r.1 tt (λ k i. absurd (true≢false (sym i))) split.1
few_numbers (j ∷ js) (p ∷ ps) low high r c h none =
    let split = first_none p.key p.item (entries ps) none in
    by (nat_lt p.key j) (p.key == j) refl refl split.0 (λ d g. few_numbers js ps (p.key + 1) high r.1 d g split.1) (λ d g. few_numbers (j ∷ js) ps (p.key + 1) high r.1 d g split.1)
  where
    apart : (k : ℕ) → (p.key == k) ≡ false → has_place (p ∷ ps) k ≡ true → has_place ps k ≡ true
    apart k d g = sym (ap (λ b. is_some (if b then Some p.item else place_at ps k)) d) ∙ g

    itself : is_in j (j ∷ js) ≡ true
    itself = ap (λ b. if b then true else is_in j js) (eq-eqb j j refl)

    rest_has : j ≡ p.key → HavePlaces js ps
    rest_has same k i = by (j == k) refl
      where
        by : (b : Bool) → (j == k) ≡ b → has_place ps k ≡ true
        by true e = absurd (true≢false (sym i ∙ below_few js (j + 1) k c.1 (let equal = eqb-true j k e in omega (arith, equal))))
        by false e = apart k (ap (λ n. n == k) (sym same) ∙ e) (h k (ap (λ b. if b then true else is_in k js) e ∙ i))

    all_have : p.key < j → HavePlaces (j ∷ js) ps
    all_have less k i = by (p.key == k) refl
      where
        by : (b : Bool) → (p.key == k) ≡ b → has_place ps k ≡ true
        by true e = absurd (true≢false (sym i ∙ below_few (j ∷ js) j k (omega arith, c.1) (let equal = eqb-true p.key k e in omega (arith, equal, less))))
        by false e = apart k e (h k i)

    here : j ≡ p.key → p.item ≡ None → numbers (lit js ps) ≡ js → numbers (lit (j ∷ js) (p ∷ ps)) ≡ j ∷ js
    here same item ih =
        ap (λ b. map (λ e. e.key) (entry_first p.key (if b then Some tt else p.item) (entries (lit (j ∷ js) ps)))) (ap (λ n. is_in n (j ∷ js)) (sym same) ∙ itself)
        ∙ ap (λ n. n ∷ numbers (lit (j ∷ js) ps)) (sym same)
        ∙ ap (λ qs. j ∷ numbers qs) (lit_away js (j ∷ js) ps (p.key + 1) high r.1 (λ i l. ap (λ b. if b then true else is_in i js) (ne_eqb j i (λ e. omega (arith, e, l, same)))))
        ∙ ap (λ ks. j ∷ ks) ih

    by : (a b : Bool) → nat_lt p.key j ≡ a → (p.key == j) ≡ b → p.item ≡ None → (Climbs (p.key + 1) js → HavePlaces js ps → numbers (lit js ps) ≡ js)
        → (Climbs (p.key + 1) (j ∷ js) → HavePlaces (j ∷ js) ps → numbers (lit (j ∷ js) ps) ≡ j ∷ js) → numbers (lit (j ∷ js) (p ∷ ps)) ≡ j ∷ js
    by true b is e item one all =
        let less = ltb-true p.key j is in
        ap (λ b. map (λ e. e.key) (entry_first p.key (if b then Some tt else p.item) (entries (lit (j ∷ js) ps)))) (below_few (j ∷ js) j p.key (omega arith, c.1) less)
        ∙ ap (λ o. map (λ e. e.key) (entry_first p.key o (entries (lit (j ∷ js) ps)))) item
        ∙ all (omega (arith, less), c.1) (all_have less)
    by false true is e item one all = let same : j ≡ p.key = sym (eqb-true p.key j e) in here same item (one (subst (λ n. Climbs (n + 1) js) same c.1) (rest_has same))
    by false false is e item one all = absurd (true≢false (sym (h j itself) ∙ ap is_some (below_all (p ∷ ps) p.key high j (omega arith, r.1) (omega (arith, above p.key j is e)))))

-- THE SET

-- as many numbers as entries
length_keys : (es : List (Entry (Unit {0}))) → length (map (λ e. e.key) es) ≡ length es
length_keys [] = refl
length_keys (e ∷ es) = ap suc (length_keys es)

-- the number of the entry of some rank
get_keys : (es : List (Entry (Unit {0}))) (i : ℕ) → slice_get (map (λ e. e.key) es) i ≡ option_map (λ e. e.key) (slice_get es i)
get_keys [] i = refl
get_keys (e ∷ es) zero = refl
get_keys (e ∷ es) (suc i) = get_keys es i

-- while nothing has spilled the marks that are seen are the few
few_seen : (js : List ℕ) (ps v : Marks) (s : Bool) → IsMarkSet js ps s → lit js ps ≡ v → s ≡ false → numbers v ≡ js
few_seen js ps v s m is off = ap numbers (sym is) ∙ few_numbers js ps 0 (2 ^ 40) m.rises m.climbs m.placed (m.listed off)

-- the place of a number in what is seen of the set
pub there_too : (js : List ℕ) (ps v : Marks) (k : ℕ) → lit js ps ≡ v → has_place v k ≡ true → has_place ps k ≡ true
there_too js ps v k is h = sym (lit_has js ps k) ∙ ap (λ qs. has_place qs k) is ∙ h

-- a free place more shows as one
pub reserved_shows : {X E : Type 0} (js : List ℕ) (ps new v : Marks) (k : ℕ) (s : Bool) (x : Result X E) → IsMarkSet js ps s → lit js ps ≡ v → OnOk x (new ≡ with_free ps k) → OnOk x (lit js new ≡ with_free v k)
reserved_shows js ps new v k s (Err e) m is made = tt
reserved_shows js ps new v k s (Ok x) m is made = ap (lit js) made ∙ by (has_place ps k) refl ∙ ap (λ qs. with_free qs k) is
  where
    not_few : (b : Bool) → is_in k js ≡ b → has_place ps k ≡ false → is_in k js ≡ false
    not_few true e none = absurd (true≢false (sym (m.placed k e) ∙ none))
    not_few false e none = e

    by : (b : Bool) → has_place ps k ≡ b → lit js (if b then ps else with_place ps k (Some None)) ≡ (if has_place (lit js ps) k then lit js ps else with_place (lit js ps) k (Some None))
    by true e = sym (ap (λ b. if b then lit js ps else with_place (lit js ps) k (Some None)) (lit_has js ps k ∙ e))
    by false e =
        lit_with js js ps 0 (2 ^ 40) k None m.rises (λ i d. refl)
        ∙ ap (λ b. with_place (lit js ps) k (Some (if b then Some tt else None))) (not_few (is_in k js) refl e)
        ∙ sym (ap (λ b. if b then lit js ps else with_place (lit js ps) k (Some None)) (lit_has js ps k ∙ e))

-- and the set holds with it, or as it was where it was refused
pub reserved_set : {X E : Type 0} (js : List ℕ) (ps new : Marks) (k : ℕ) (s : Bool) (x : Result X E) → IsMarkSet js ps s → k < 2 ^ 40 → OnOk x (new ≡ with_free ps k) → OnErr x (new ≡ ps) → IsMarkSet js new s
reserved_set js ps new k s (Err e) m below made kept = subst (λ qs. IsMarkSet js qs s) (sym kept) m
reserved_set js ps new k s (Ok x) m below made kept =
    subst (λ qs. IsMarkSet js qs s) (sym made)
    (record { rises = free_rises ps k m.rises below; climbs = m.climbs; placed = λ j i. free_has j (has_place ps k) (m.placed j i); listed = λ e. free_same ps k ∙ m.listed e; spread = m.spread })
  where
    free_has : (j : ℕ) (b : Bool) → has_place ps j ≡ true → has_place (if b then ps else with_place ps k (Some None)) j ≡ true
    free_has j true h = h
    free_has j false h = keeps_place ps k j None h

-- a mark that comes among the few
pub put_set : (js ks : List ℕ) (ps v : Marks) (k : ℕ) (s : Bool) → IsMarkSet js ps s → lit js ps ≡ v → has_place v k ≡ true → s ≡ false → ks ≡ with_number js k → IsMarkSet ks ps s
put_set js ks ps v k s m is h few now =
    subst (λ ns. IsMarkSet ns ps s) (sym now)
    (record {
      rises = m.rises;
      climbs = climbs_with js 0 k m.climbs (omega arith);
      placed = λ j i. by j (k == j) refl i;
      listed = m.listed;
      spread = λ e. absurd (true≢false (sym e ∙ few));
    })
  where
    by : (j : ℕ) (b : Bool) → (k == j) ≡ b → is_in j (with_number js k) ≡ true → has_place ps j ≡ true
    by j true e i = subst (λ n. has_place ps n ≡ true) (eqb-true k j e) (there_too js ps v k is h)
    by j false e i = m.placed j (sym (other_with js k j e) ∙ i)

-- it shows as a mark at its place
pub put_shows : (js ks : List ℕ) (ps v : Marks) (k : ℕ) (s : Bool) → IsMarkSet js ps s → lit js ps ≡ v → has_place v k ≡ true → ks ≡ with_number js k → lit ks ps ≡ with_place v k (Some (Some tt))
put_shows js ks ps v k s m is h now =
    ap (λ ns. lit ns ps) now ∙ few_change js (with_number js k) ps k m.rises (there_too js ps v k is h) (other_with js k)
    ∙ ap (λ b. with_place (lit js ps) k (Some (if b then Some tt else item_at ps k))) (in_with js k) ∙ ap (λ qs. with_place qs k (Some (Some tt))) is

-- one that goes from the few
pub out_set : (js ks : List ℕ) (ps : Marks) (k : ℕ) (s : Bool) → IsMarkSet js ps s → s ≡ false → ks ≡ without_number js k → IsMarkSet ks ps s
out_set js ks ps k s m few now =
    subst (λ ns. IsMarkSet ns ps s) (sym now)
    (record {
      rises = m.rises;
      climbs = climbs_without js 0 k m.climbs;
      placed = λ j i. by j (k == j) refl i;
      listed = m.listed;
      spread = λ e. absurd (true≢false (sym e ∙ few));
    })
  where
    by : (j : ℕ) (b : Bool) → (k == j) ≡ b → is_in j (without_number js k) ≡ true → has_place ps j ≡ true
    by j true e i = absurd (true≢false (sym i ∙ ap (λ n. is_in n (without_number js k)) (sym (eqb-true k j e)) ∙ in_without js 0 k m.climbs))
    by j false e i = m.placed j (sym (other_without js k j e) ∙ i)

-- it shows as a place without a mark
pub out_shows : (js ks : List ℕ) (ps v : Marks) (k : ℕ) (s : Bool) → IsMarkSet js ps s → lit js ps ≡ v → has_place v k ≡ true → s ≡ false → ks ≡ without_number js k → lit ks ps ≡ with_place v k (Some None)
out_shows js ks ps v k s m is h few now =
    ap (λ ns. lit ns ps) now ∙ few_change js (without_number js k) ps k m.rises (there_too js ps v k is h) (other_without js k)
    ∙ ap (λ b. with_place (lit js ps) k (Some (if b then Some tt else item_at ps k))) (in_without js 0 k m.climbs)
    ∙ ap (λ x. with_place (lit js ps) k (Some x)) (no_item ps k (m.listed few)) ∙ ap (λ qs. with_place qs k (Some None)) is

-- with no few what is seen are the places
pub seen_places : (js : List ℕ) (ps v : Marks) → js ≡ [] → lit js ps ≡ v → ps ≡ v
seen_places js ps v none is = sym (ap (λ ns. lit ns ps) none ∙ lit_none ps) ∙ is

-- a change at the places, where no number is among the few
pub spread_set : (js : List ℕ) (ps new : Marks) (k : ℕ) (s : Bool) (x : Option (Unit {0})) → Rises 0 (2 ^ 40) ps → has_place ps k ≡ true → js ≡ [] → s ≡ true → new ≡ with_place ps k (Some x) → IsMarkSet js new s
spread_set js ps new k s x r h none on now =
    record {
      rises = subst (Rises 0 (2 ^ 40)) (sym now) (changed_rises ps k x r h);
      climbs = subst (Climbs 0) (sym none) tt;
      placed = λ j i. absurd (true≢false (sym i ∙ ap (is_in j) none));
      listed = λ e. absurd (true≢false (sym on ∙ e));
      spread = λ e. none;
    }

-- it shows as the same change
pub spread_shows : (js : List ℕ) (ps new v : Marks) (k : ℕ) (x : Option (Unit {0})) → js ≡ [] → new ≡ with_place ps k (Some x) → ps ≡ v → lit js new ≡ with_place v k (Some x)
spread_shows js ps new v k x none now is = ap (λ ns. lit ns new) none ∙ lit_none new ∙ now ∙ ap (λ qs. with_place qs k (Some x)) is

-- MARKS THAT MOVE

-- the last of the few has a place
pub last_there : (js ks : List ℕ) (ps : Marks) (k : ℕ) → HavePlaces js ps → js ≡ ks ++ k ∷ [] → has_place ps k ≡ true
last_there js ks ps k h is = h k (ap (is_in k) is ∙ in_last ks k)

-- it goes there
pub spill_step : (js ks : List ℕ) (ps new : Marks) (k : ℕ) → Rises 0 (2 ^ 40) ps → HavePlaces js ps → js ≡ ks ++ k ∷ [] → new ≡ with_place ps k (Some (Some tt)) → (lit ks new ≡ lit js ps) × Rises 0 (2 ^ 40) new × HavePlaces ks new
spill_step js ks ps new k r h is now =
    (ap (lit ks) now ∙ moved js ks ps k (Some tt) r others (either (is_in k ks) (Some tt)) (lit_item js ps k here in_it), subst (Rises 0 (2 ^ 40)) (sym now) (changed_rises ps k (Some tt) r here), λ j i. ap (λ qs. has_place qs j) now ∙ keeps_place ps k j (Some tt) (kept j (k == j) refl i))
  where
    in_it : is_in k js ≡ true
    in_it = ap (is_in k) is ∙ in_last ks k

    here : has_place ps k ≡ true
    here = h k in_it

    others : (i : ℕ) → (k == i) ≡ false → is_in i ks ≡ is_in i js
    others i d = sym (ap (is_in i) is ∙ other_last ks k i d)

    kept : (j : ℕ) (b : Bool) → (k == j) ≡ b → is_in j ks ≡ true → has_place ps j ≡ true
    kept j true e i = subst (λ n. has_place ps n ≡ true) (eqb-true k j e) here
    kept j false e i = h j (sym (others j e) ∙ i)

-- the first of the marked places goes to the list
pub record IsComing (start : Marks) (js : List ℕ) (ps : Marks) : Type 0 where
  pub rises : Rises 0 (2 ^ 40) ps
  pub placed : HavePlaces js ps
  pub order : js ++ numbers ps ≡ numbers start
  pub same : lit js ps ≡ start

-- the last of some numbers is the next before others
append_next : (js ks : List ℕ) (k : ℕ) → (js ++ k ∷ []) ++ ks ≡ js ++ k ∷ ks
append_next [] ks k = refl
append_next (j ∷ js) ks k = ap (λ ns. j ∷ ns) (append_next js ks k)

-- the first entry
pub record IsFirst (ps new : Marks) (k : ℕ) : Type 0 where
  pub there : place_at ps k ≡ Some (Some tt)
  pub rest : numbers ps ≡ k ∷ numbers new

-- the entry of the first rank, once it goes
pub first_taken : (ps new : Marks) (k : ℕ) → Rises 0 (2 ^ 40) ps → option_map (λ e. e.key) (slice_get (entries ps) 0) ≡ Some k → new ≡ with_place ps k (Some None) → IsFirst ps new k
first_taken ps new k r h now = by (entries ps) refl h
  where
    by : (es : List (Entry (Unit {0}))) → entries ps ≡ es → option_map (λ e. e.key) (slice_get es 0) ≡ Some k → IsFirst ps new k
    by [] is g = absurd cc
    by (e ∷ es) is g =
        let same : e.key ≡ k = cc in
        let first : slice_get (entries ps) 0 ≡ Some e = ap (λ fs. slice_get fs 0) is in
        record {
          there = ap (place_at ps) (sym same) ∙ entry_place ps 0 (2 ^ 40) 0 e r first;
          rest =
              ap (map (λ e. e.key)) is ∙ ap (λ n. n ∷ map (λ e. e.key) es) same
              ∙ ap (λ fs. k ∷ map (λ e. e.key) fs) (sym (ap entries now ∙ ap (λ n. entries (with_place ps n (Some None))) (sym same) ∙ entry_removed ps 0 (2 ^ 40) 0 e (Some None) refl r first ∙ ap (λ fs. remove fs 0) is));
        }

-- before the first one comes
pub coming_start : (js : List ℕ) (ps : Marks) → js ≡ [] → Rises 0 (2 ^ 40) ps → IsComing ps js ps
coming_start js ps none r =
    record {
      rises = r;
      placed = λ k i. absurd (true≢false (sym i ∙ ap (is_in k) none));
      order = ap (λ ns. ns ++ numbers ps) none;
      same = ap (λ ns. lit ns ps) none ∙ lit_none ps;
    }

-- once one more has come
pub coming_step : (start : Marks) (js ks : List ℕ) (ps new : Marks) (k : ℕ) → IsComing start js ps → option_map (λ e. e.key) (slice_get (entries ps) 0) ≡ Some k → new ≡ with_place ps k (Some None) → ks ≡ js ++ k ∷ [] → IsComing start ks new
coming_step start js ks ps new k m h now is =
    let first = first_taken ps new k m.rises h now in
    let here : has_place ps k ≡ true = ap is_some first.there in
    record {
      rises = subst (Rises 0 (2 ^ 40)) (sym now) (changed_rises ps k None m.rises here);
      placed = λ j i. ap (λ qs. has_place qs j) now ∙ keeps_place ps k j None (kept here j (k == j) refl i);
      order = ap (λ ns. ns ++ numbers new) is ∙ append_next js (numbers new) k ∙ ap (λ ns. js ++ ns) (sym first.rest) ∙ m.order;
      same = ap (lit ks) now ∙ moved js ks ps k None m.rises others (ap (λ b. if b then Some tt else None) in_it) (lit_marked js ps k first.there) ∙ m.same;
    }
  where
    in_it : is_in k ks ≡ true
    in_it = ap (is_in k) is ∙ in_last js k

    others : (i : ℕ) → (k == i) ≡ false → is_in i ks ≡ is_in i js
    others i d = ap (is_in i) is ∙ other_last js k i d

    kept : has_place ps k ≡ true → (j : ℕ) (b : Bool) → (k == j) ≡ b → is_in j ks ≡ true → has_place ps j ≡ true
    kept here j true e i = subst (λ n. has_place ps n ≡ true) (eqb-true k j e) here
    kept here j false e i = m.placed j (sym (others j e) ∙ i)

-- it has a place
pub first_there : (start : Marks) (js : List ℕ) (ps : Marks) (k : ℕ) → IsComing start js ps → option_map (λ e. e.key) (slice_get (entries ps) 0) ≡ Some k → has_place ps k ≡ true
first_there start js ps k m h = ap is_some (first_taken ps (with_place ps k (Some None)) k m.rises h refl).there

-- fewer are left
pub coming_fewer : (start : Marks) (js : List ℕ) (ps new : Marks) (k : ℕ) → IsComing start js ps → option_map (λ e. e.key) (slice_get (entries ps) 0) ≡ Some k → new ≡ with_place ps k (Some None) → length (entries new) < length (entries ps)
coming_fewer start js ps new k m h now =
    let first = first_taken ps new k m.rises h now in
    let all = sym (length_keys (entries ps)) ∙ ap length first.rest in
    let rest = length_keys (entries new) in
    omega (arith, all, rest)

-- once no place is marked
pub all_came : (start : Marks) (js : List ℕ) (ps : Marks) → IsComing start js ps → option_map (λ e. e.key) (slice_get (entries ps) 0) ≡ None → (entries ps ≡ []) × (js ≡ numbers start)
all_came start js ps m h = by (entries ps) refl h
  where
    end : (ns : List ℕ) → ns ++ [] ≡ ns
    end [] = refl
    end (n ∷ ns) = ap (λ ks. n ∷ ks) (end ns)

    by : (es : List (Entry (Unit {0}))) → entries ps ≡ es → option_map (λ e. e.key) (slice_get es 0) ≡ None → (entries ps ≡ []) × (js ≡ numbers start)
    by [] is g = (is, sym (end js) ∙ ap (λ es. js ++ map (λ e. e.key) es) (sym is) ∙ m.order)
    by (e ∷ es) is g = absurd cc

-- the marked numbers rise as the places do
numbers_climb : (ps : Marks) (low high : ℕ) → Rises low high ps → Climbs low (numbers ps)
numbers_climb [] low high r = tt
numbers_climb (p ∷ ps) low high r = by p.item (numbers_climb ps (p.key + 1) high r.1)
  where
    by : (o : Option (Unit {0})) → Climbs (p.key + 1) (numbers ps) → Climbs low (map (λ e. e.key) (entry_first p.key o (entries ps)))
    by None ih = climbs_lower (numbers ps) low (p.key + 1) (omega (arith, r.0)) ih
    by (Some x) ih = (r.0, ih)

-- the set once they came
pub came_set : (start : Marks) (js : List ℕ) (ps : Marks) (s : Bool) → Rises 0 (2 ^ 40) start → js ≡ numbers start → entries ps ≡ [] → Rises 0 (2 ^ 40) ps → HavePlaces js ps → s ≡ false → IsMarkSet js ps s
came_set start js ps s r is none rises placed off =
    record {
      rises = rises;
      climbs = subst (Climbs 0) (sym is) (numbers_climb start 0 (2 ^ 40) r);
      placed = placed;
      listed = λ e. none;
      spread = λ e. absurd (true≢false (sym e ∙ off));
    }

-- how many marks there are is how many the few are
pub few_count : (js : List ℕ) (ps v : Marks) (s : Bool) → IsMarkSet js ps s → lit js ps ≡ v → s ≡ false → length js ≡ length (entries v)
few_count js ps v s m is off = ap length (sym (few_seen js ps v s m is off)) ∙ length_keys (entries v)

-- the mark of some rank is the one there among the few
pub few_nth : (js : List ℕ) (ps v : Marks) (s : Bool) (i : ℕ) → IsMarkSet js ps s → lit js ps ≡ v → s ≡ false → slice_get js i ≡ option_map (λ e. e.key) (slice_get (entries v) i)
few_nth js ps v s i m is off = ap (λ ns. slice_get ns i) (sym (few_seen js ps v s m is off)) ∙ get_keys (entries v) i
