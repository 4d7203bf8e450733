-- A map and a set of marked keys, once an item comes or goes at both.
use Rattle.std.proofs.Common.{◌≡◌, ℕ, ◌+◌, ◌^◌, ◌<◌, Bool, true, false, true≢false, is_some, ◌==◌, nat_lt, if◌then◌else◌, List, [], ◌∷◌, slice_get, Option, None, Some, option_map, refl, sym, subst, ap, ◌∙◌, arith}
use Rattle.std.proofs.lemmas.Bool.{eqb-true, eq-eqb, ltb-true, lt-ltb, le-ltb}
use Rattle.rank_map.specs.Places.{Place, Entry, place_at, has_place, put_first, with_place, with_free, entry_first, entries, Rises}
use Rattle.rank_map.specs.Marks.{mark_of, marked, IsMarked}
use Rattle.rank_map.proofs.PlaceLemmas.{rises_with, entries_free}
use Rattle.rank_map.proofs.RankLemmas.{entry_place}
use Rattle.rank_map.proofs.ForkLemmas.{place_bounds}

-- an entry among others, by rising key, or none at that key
abbrev pub with_entry : {T : Type 0} → List (Entry T) → ℕ → Option T → List (Entry T)
with_entry [] k y = entry_first k y []
with_entry (e ∷ es) k y = if nat_lt k e.key then entry_first k y (e ∷ es) else (if e.key == k then entry_first k y es else e ∷ with_entry es k y)

-- a key before all of them
ahead : {T : Type 0} (ps : List (Place T)) (low high k : ℕ) (y : Option T) → Rises low high ps → k < low → with_entry (entries ps) k y ≡ entry_first k y (entries ps)
ahead [] low high k y r h = refl
ahead (p ∷ ps) low high k y r h = by p.item (ahead ps (p.key + 1) high k y r.1 (omega (arith, h, r.0)))
  where
    by : (x : Option _) → with_entry (entries ps) k y ≡ entry_first k y (entries ps) → with_entry (entry_first p.key x (entries ps)) k y ≡ entry_first k y (entry_first p.key x (entries ps))
    by None ih = ih
    by (Some x) ih = rw (lt-ltb k p.key (omega (arith, h, r.0))) refl

-- what a change of one place does to the entries
pub entries_with : {T : Type 0} (ps : List (Place T)) (low high k : ℕ) (y : Option T) → Rises low high ps → entries (with_place ps k (Some y)) ≡ with_entry (entries ps) k y
entries_with [] low high k y r = refl
entries_with (p ∷ ps) low high k y r =
    by (nat_lt k p.key) (p.key == k) refl refl (entries_with ps (p.key + 1) high k y r.1) (λ h. ahead (p ∷ ps) p.key high k y (omega arith, r.1) h) (λ h. ahead ps (p.key + 1) high k y r.1 h)
  where
    here : (x : Option _) → (p.key == k) ≡ true → with_entry (entries ps) k y ≡ entry_first k y (entries ps) → entry_first k y (entries ps) ≡ with_entry (entry_first p.key x (entries ps)) k y
    here None e first = sym first
    here (Some x) e first = rw (le-ltb k p.key (omega (arith, eqb-true p.key k e)), e) refl

    after : (x : Option _) → nat_lt k p.key ≡ false → (p.key == k) ≡ false → entries (with_place ps k (Some y)) ≡ with_entry (entries ps) k y → entry_first p.key x (entries (with_place ps k (Some y))) ≡ with_entry (entry_first p.key x (entries ps)) k y
    after None is e ih = ih
    after (Some x) is e ih = rw (is, e) (ap (λ es. record { key = p.key; item = x } ∷ es) ih)

    by : (a b : Bool) → nat_lt k p.key ≡ a → (p.key == k) ≡ b → entries (with_place ps k (Some y)) ≡ with_entry (entries ps) k y
        → (k < p.key → with_entry (entries (p ∷ ps)) k y ≡ entry_first k y (entries (p ∷ ps))) → (k < p.key + 1 → with_entry (entries ps) k y ≡ entry_first k y (entries ps))
        → entries (if a then put_first k (Some y) (p ∷ ps) else (if b then put_first k (Some y) ps else p ∷ with_place ps k (Some y))) ≡ with_entry (entries (p ∷ ps)) k y
    by true b is e ih all rest = sym (all (ltb-true k p.key is))
    by false true is e ih all rest = here p.item e (rest (omega (arith, eqb-true p.key k e)))
    by false false is e ih all rest = after p.item is e ih

pub marked_with : {T : Type 0} (f : T → Bool) (ps : List (Place T)) (k : ℕ) (y : Option T) → marked f (with_place ps k (Some y)) ≡ with_place (marked f ps) k (Some (mark_of f y))
marked_with f [] k y = refl
marked_with f (p ∷ ps) k y = by (nat_lt k p.key) (p.key == k) (marked_with f ps k y)
  where
    by : (a b : Bool) → marked f (with_place ps k (Some y)) ≡ with_place (marked f ps) k (Some (mark_of f y))
        → marked f (if a then put_first k (Some y) (p ∷ ps) else (if b then put_first k (Some y) ps else p ∷ with_place ps k (Some y)))
        ≡ (if a then put_first k (Some (mark_of f y)) (marked f (p ∷ ps)) else (if b then put_first k (Some (mark_of f y)) (marked f ps) else record { key = p.key; item = mark_of f p.item } ∷ with_place (marked f ps) k (Some (mark_of f y))))
    by true b ih = refl
    by false true ih = refl
    by false false ih = ap (λ xs. record { key = p.key; item = mark_of f p.item } ∷ xs) ih

pub marked_rises : {T : Type 0} (f : T → Bool) (ps : List (Place T)) (low high : ℕ) → Rises low high ps → Rises low high (marked f ps)
marked_rises f [] low high r = r
marked_rises f (p ∷ ps) low high r = (r.0, marked_rises f ps (p.key + 1) high r.1)

pub marked_place : {T : Type 0} (f : T → Bool) (ps : List (Place T)) (k : ℕ) → has_place (marked f ps) k ≡ has_place ps k
marked_place f [] k = refl
marked_place f (p ∷ ps) k = by (p.key == k) (marked_place f ps k)
  where
    by : (b : Bool) → has_place (marked f ps) k ≡ has_place ps k → is_some (if b then Some (mark_of f p.item) else place_at (marked f ps) k) ≡ is_some (if b then Some p.item else place_at ps k)
    by true ih = refl
    by false ih = ih

-- a place stays where one comes or changes
pub keeps_place : {T : Type 0} (ps : List (Place T)) (k j : ℕ) (x : Option T) → has_place ps j ≡ true → has_place (with_place ps k (Some x)) j ≡ true
keeps_place [] k j x h = absurd (true≢false (sym h))
keeps_place (p ∷ ps) k j x h = by (nat_lt k p.key) (p.key == k) refl (λ g. keeps_place ps k j x g)
  where
    first : (qs : List (Place _)) → has_place qs j ≡ true → has_place (put_first k (Some x) qs) j ≡ true
    first qs g = go (k == j)
      where
        go : (b : Bool) → is_some (if b then Some x else place_at qs j) ≡ true
        go true = refl
        go false = g

    elsewhere : (p.key == j) ≡ false → has_place ps j ≡ true
    elsewhere e = sym (ap (λ b. is_some (if b then Some p.item else place_at ps j)) e) ∙ h

    second : (q : Bool) → (p.key == j) ≡ q → (has_place ps j ≡ true → has_place (with_place ps k (Some x)) j ≡ true) → is_some (if q then Some p.item else place_at (with_place ps k (Some x)) j) ≡ true
    second true e ih = refl
    second false e ih = ih (elsewhere e)

    here : (q : Bool) → (p.key == j) ≡ q → (p.key == k) ≡ true → has_place (put_first k (Some x) ps) j ≡ true
    here true e is = let same = sym (eqb-true p.key k is) ∙ eqb-true p.key j e in rw (eq-eqb k j same) refl
    here false e is = first ps (elsewhere e)

    by : (a b : Bool) → (p.key == k) ≡ b → (has_place ps j ≡ true → has_place (with_place ps k (Some x)) j ≡ true)
        → has_place (if a then put_first k (Some x) (p ∷ ps) else (if b then put_first k (Some x) ps else p ∷ with_place ps k (Some x))) j ≡ true
    by true b e ih = first (p ∷ ps) h
    by false true e ih = here (p.key == j) refl e
    by false false e ih = second (p.key == j) refl ih

-- only the key itself has a place more
pub only_place : {T : Type 0} (ps : List (Place T)) (k j : ℕ) (x : Option T) → (k == j) ≡ false → has_place (with_place ps k (Some x)) j ≡ has_place ps j
only_place [] k j x d = ap (λ b. is_some (if b then Some x else None)) d
only_place (p ∷ ps) k j x d = by (nat_lt k p.key) (p.key == k) refl (only_place ps k j x d)
  where
    first : (qs : List (Place _)) → has_place (put_first k (Some x) qs) j ≡ has_place qs j
    first qs = ap (λ b. is_some (if b then Some x else place_at qs j)) d

    second : (q : Bool) → has_place (with_place ps k (Some x)) j ≡ has_place ps j → is_some (if q then Some p.item else place_at (with_place ps k (Some x)) j) ≡ is_some (if q then Some p.item else place_at ps j)
    second true ih = refl
    second false ih = ih

    other : (p.key == k) ≡ true → (p.key == j) ≡ false
    other e = ap (λ i. i == j) (eqb-true p.key k e) ∙ d

    by : (a b : Bool) → (p.key == k) ≡ b → has_place (with_place ps k (Some x)) j ≡ has_place ps j
        → has_place (if a then put_first k (Some x) (p ∷ ps) else (if b then put_first k (Some x) ps else p ∷ with_place ps k (Some x))) j ≡ has_place (p ∷ ps) j
    by true b e ih = first (p ∷ ps)
    by false true e ih = first ps ∙ sym (ap (λ b. is_some (if b then Some p.item else place_at ps j)) (other e))
    by false false e ih = second (p.key == j) ih

-- the item of a key and its mark change together
pub marked_change : {T : Type 0} {f : T → Bool} {all after : List (Place T)} {set new : List (Place (Unit {0}))} (k : ℕ) (y : Option T) → IsMarked f all set → Rises 0 (2 ^ 40) all → has_place all k ≡ true → k < 2 ^ 40
    → after ≡ with_place all k (Some y) → new ≡ with_place set k (Some (mark_of f y)) → IsMarked f after new
marked_change {f = f} {all} {after} {set} {new} k y m r there below is now =
    record {
      rises = subst (Rises 0 (2 ^ 40)) (sym now) (rises_with set 0 (2 ^ 40) k (Some (mark_of f y)) m.rises (omega arith) below);
      same =
          ap entries now ∙ entries_with set 0 (2 ^ 40) k (mark_of f y) m.rises ∙ ap (λ es. with_entry es k (mark_of f y)) m.same
          ∙ sym (ap (λ ps. entries (marked f ps)) is ∙ ap entries (marked_with f all k y) ∙ entries_with (marked f all) 0 (2 ^ 40) k (mark_of f y) (marked_rises f all 0 (2 ^ 40) r));
      places = λ j h. ap (λ ps. has_place ps j) now ∙ keeps_place set k j (mark_of f y) (m.places j (by (k == j) j refl h));
    }
  where
    by : (b : Bool) (j : ℕ) → (k == j) ≡ b → has_place after j ≡ true → has_place all j ≡ true
    by true j e h = subst (λ i. has_place all i ≡ true) (eqb-true k j e) there
    by false j e h = sym (only_place all k j y e) ∙ sym (ap (λ ps. has_place ps j) is) ∙ h

pub free_rises : {T : Type 0} (ps : List (Place T)) (k : ℕ) → Rises 0 (2 ^ 40) ps → k < 2 ^ 40 → Rises 0 (2 ^ 40) (with_free ps k)
free_rises ps k r below = by (has_place ps k)
  where
    by : (b : Bool) → Rises 0 (2 ^ 40) (if b then ps else with_place ps k (Some None))
    by true = r
    by false = rises_with ps 0 (2 ^ 40) k (Some None) r (omega arith) below

-- a free place for a key leaves the entries
pub free_same : {T : Type 0} (ps : List (Place T)) (k : ℕ) → entries (with_free ps k) ≡ entries ps
free_same ps k = by (has_place ps k) refl
  where
    by : (b : Bool) → has_place ps k ≡ b → entries (if b then ps else with_place ps k (Some None)) ≡ entries ps
    by true e = refl
    by false e = entries_free ps k e

free_keeps : {T : Type 0} (ps : List (Place T)) (k j : ℕ) → has_place ps j ≡ true → has_place (with_free ps k) j ≡ true
free_keeps ps k j h = by (has_place ps k)
  where
    by : (b : Bool) → has_place (if b then ps else with_place ps k (Some None)) j ≡ true
    by true = h
    by false = keeps_place ps k j None h

-- the set has a free place more
pub set_free : {T : Type 0} {f : T → Bool} {all : List (Place T)} {set new : List (Place (Unit {0}))} (k : ℕ) → IsMarked f all set → k < 2 ^ 40 → new ≡ with_free set k → IsMarked f all new
set_free {f = f} {all} {set} {new} k m below is =
    record {
      rises = subst (Rises 0 (2 ^ 40)) (sym is) (free_rises set k m.rises below);
      same = ap entries is ∙ free_same set k ∙ m.same;
      places = λ j h. ap (λ ps. has_place ps j) is ∙ free_keeps set k j (m.places j h);
    }

pub place_new : {T : Type 0} (ps : List (Place T)) (k : ℕ) (x : Option T) → has_place (with_place ps k (Some x)) k ≡ true
place_new [] k x = rw (eq-eqb k k refl) refl
place_new (p ∷ ps) k x = by (nat_lt k p.key) (p.key == k) refl (place_new ps k x)
  where
    by : (a b : Bool) → (p.key == k) ≡ b → has_place (with_place ps k (Some x)) k ≡ true
        → has_place (if a then put_first k (Some x) (p ∷ ps) else (if b then put_first k (Some x) ps else p ∷ with_place ps k (Some x))) k ≡ true
    by true b e ih = rw (eq-eqb k k refl) refl
    by false true e ih = rw (eq-eqb k k refl) refl
    by false false e ih = ap (λ b. is_some (if b then Some p.item else place_at (with_place ps k (Some x)) k)) e ∙ ih

pub free_there : {T : Type 0} (ps : List (Place T)) (k : ℕ) → has_place (with_free ps k) k ≡ true
free_there ps k = by (has_place ps k) refl
  where
    by : (b : Bool) → has_place ps k ≡ b → has_place (if b then ps else with_place ps k (Some None)) k ≡ true
    by true e = e
    by false e = place_new ps k None

-- the map has a free place more, as the set has already
pub map_free : {T : Type 0} {f : T → Bool} {all after : List (Place T)} {set : List (Place (Unit {0}))} (k : ℕ) → IsMarked f all set → has_place set k ≡ true → after ≡ with_free all k → IsMarked f after set
map_free {f = f} {all} {after} {set} k m there is = record { rises = m.rises; same = m.same ∙ sym (ap (λ ps. entries (marked f ps)) is ∙ same (has_place all k) refl); places = λ j h. places (k == j) j refl (ap (λ ps. has_place ps j) (sym is) ∙ h) }
  where
    same : (b : Bool) → has_place all k ≡ b → entries (marked f (if b then all else with_place all k (Some None))) ≡ entries (marked f all)
    same true e = refl
    same false e = ap entries (marked_with f all k None) ∙ entries_free (marked f all) k (marked_place f all k ∙ e)

    others : (b : Bool) (j : ℕ) → (k == j) ≡ false → has_place (if b then all else with_place all k (Some None)) j ≡ has_place all j
    others true j e = refl
    others false j e = only_place all k j None e

    places : (b : Bool) (j : ℕ) → (k == j) ≡ b → has_place (with_free all k) j ≡ true → has_place set j ≡ true
    places true j e h = subst (λ i. has_place set i ≡ true) (eqb-true k j e) there
    places false j e h = m.places j (sym (others (has_place all k) j e) ∙ h)

-- the key of the item of some rank is below the bound
pub nth_below : {T : Type 0} (ps : List (Place T)) (high i k : ℕ) → Rises 0 high ps → option_map (λ e. e.key) (slice_get (entries ps) i) ≡ Some k → k < high
nth_below {T} ps high i k r h = by (slice_get (entries ps) i) refl h
  where
    by : (o : Option (Entry T)) → slice_get (entries ps) i ≡ o → option_map (λ e. e.key) o ≡ Some k → k < high
    by None is h = absurd cc
    by (Some e) is h =
        let bounds = place_bounds ps 0 high e.key r (ap is_some (entry_place ps 0 high i e r is)) in
        let same : e.key ≡ k = cc in
        subst (λ j. j < high) same bounds.1
