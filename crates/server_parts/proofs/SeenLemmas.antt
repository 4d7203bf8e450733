-- A set whose last one to leave may still stand in the map.
use Rattle.std.proofs.Common.{if◌then◌else◌, ◌≡◌, inl, inr, is_some, true≢false, ℕ, zero, suc, ◌+◌, ◌<◌, ◌≤◌, ◌^◌, Bool, true, false, ◌==◌, nat_lt, List, [], ◌∷◌, length, slice_get, Option, None, Some, option_map, Result, Ok, Err, OnOk, OnErr, refl, sym, ap, subst, ◌∙◌, arith}
use Rattle.std.proofs.Math.Bool.{beq}
use Rattle.std.proofs.lemmas.Bool.{eq-eqb, eqb-true, eqb-false, ltb-true, ltb-false, le-ltb, lt-ltb}
use Rattle.rank_map.specs.Places.{Place, Entry, place_at, item_in, item_at, put_first, with_place, with_free, has_place, entry_first, entries, count_of, Rises}
use Rattle.rank_map.specs.Marks.{mark_if, mark_of, marked, IsMarked}
use Rattle.rank_map.proofs.PlaceLemmas.{below_all, above_all, rises_with, few_entries, count_with}
use Rattle.rank_map.proofs.MarkLemmas.{free_rises, marked_rises}
use Rattle.server_parts.specs.declared.kind.Kind.{Kind}
use Rattle.server_parts.specs.declared.kind.Kind.TheVariants as kind
use Rattle.server_parts.specs.Seen.{SetsView, seen, IsSet, StandsAs, IsFreed, left_if, left_of, in_runnable, in_waiting, in_movable, AreSets, HasMarks, with_marks}

-- a place that changes twice
pub twice : {T : Type 0} (ps : List (Place T)) (k : ℕ) (x y : Option T) → with_place (with_place ps k (Some x)) k (Some y) ≡ with_place ps k (Some y)
twice [] k x y = rw (le-ltb k k (omega arith), eq-eqb k k refl) refl
twice {T} (p ∷ ps) k x y = by (nat_lt k p.key) (p.key == k) refl refl (twice ps k x y)
  where
    front : (qs : List (Place T)) → with_place (put_first k (Some x) qs) k (Some y) ≡ put_first k (Some y) qs
    front qs = rw (le-ltb k k (omega arith), eq-eqb k k refl) refl

    by : (a b : Bool) → nat_lt k p.key ≡ a → (p.key == k) ≡ b → with_place (with_place ps k (Some x)) k (Some y) ≡ with_place ps k (Some y)
        → with_place (if a then put_first k (Some x) (p ∷ ps) else (if b then put_first k (Some x) ps else p ∷ with_place ps k (Some x))) k (Some y)
        ≡ (if a then put_first k (Some y) (p ∷ ps) else (if b then put_first k (Some y) ps else p ∷ with_place ps k (Some y)))
    by true b is e ih = front (p ∷ ps)
    by false true is e ih = front ps
    by false false is e ih =
        ap (λ a. if a then put_first k (Some y) (p ∷ with_place ps k (Some x)) else (if p.key == k then put_first k (Some y) (with_place ps k (Some x)) else p ∷ with_place (with_place ps k (Some x)) k (Some y))) is
        ∙ ap (λ b. if b then put_first k (Some y) (with_place ps k (Some x)) else p ∷ with_place (with_place ps k (Some x)) k (Some y)) e
        ∙ ap (λ qs. p ∷ qs) ih

-- one that becomes what it is
pub same : {T : Type 0} (ps : List (Place T)) (low high k : ℕ) (x : Option T) → Rises low high ps → place_at ps k ≡ Some x → with_place ps k (Some x) ≡ ps
same [] low high k x r h = absurd cc
same {T} (p ∷ ps) low high k x r h = by (nat_lt k p.key) (p.key == k) refl refl (λ g. same ps (p.key + 1) high k x r.1 g)
  where
    none : place_at (p ∷ ps) k ≡ None → ⊥
    none g = true≢false (sym (ap is_some (sym g ∙ h)))

    first : (p.key == k) ≡ true → Some p.item ≡ Some x → put_first k (Some x) ps ≡ p ∷ ps
    first e g =
        let item : p.item ≡ x = cc in
        ap (λ j. record { key = j; item = x } ∷ ps) (sym (eqb-true p.key k e)) ∙ ap (λ y. record { key = p.key; item = y } ∷ ps) (sym item)

    by : (a b : Bool) → nat_lt k p.key ≡ a → (p.key == k) ≡ b → (place_at ps k ≡ Some x → with_place ps k (Some x) ≡ ps)
        → (if a then put_first k (Some x) (p ∷ ps) else (if b then put_first k (Some x) ps else p ∷ with_place ps k (Some x))) ≡ p ∷ ps
    by true b is e ih = absurd (none (below_all (p ∷ ps) p.key high k (omega arith, r.1) (ltb-true k p.key is)))
    by false true is e ih = first e (sym (ap (λ b. if b then Some p.item else place_at ps k) e) ∙ h)
    by false false is e ih = ap (λ qs. p ∷ qs) (ih (sym (ap (λ b. if b then Some p.item else place_at ps k) e) ∙ h))

-- the place of an item
pub place_of : {T : Type 0} (ps : List (Place T)) (k : ℕ) (x : T) → item_at ps k ≡ Some x → place_at ps k ≡ Some (Some x)
place_of {T} ps k x h = by (place_at ps k) h
  where
    by : (o : Option (Option T)) → item_in o ≡ Some x → o ≡ Some (Some x)
    by None g = absurd cc
    by (Some o) g = ap Some g

-- a key that has a place is below the bound
pub place_below : {T : Type 0} (ps : List (Place T)) (low high k : ℕ) → Rises low high ps → has_place ps k ≡ true → k < high
place_below ps low high k r h = by (nat_lt k high) refl
  where
    by : (b : Bool) → nat_lt k high ≡ b → k < high
    by true e = ltb-true k high e
    by false e = absurd (true≢false (sym h ∙ ap is_some (above_all ps low high k r (ltb-false k high e))))

-- the key of some rank
abbrev pub key_at : {T : Type 0} → List (Place T) → ℕ → Option ℕ
key_at ps i = option_map (λ e. e.key) (slice_get (entries ps) i)

-- the one at a rank where it comes before k, and else the next
abbrev pub passed : ℕ → Option ℕ → Option ℕ → Option ℕ
passed k None next = None
passed k (Some j) next = if nat_lt j k then Some j else next

-- past the end there is no next one
pub none_after : {T : Type 0} (es : List (Entry T)) (i : ℕ) → slice_get es i ≡ None → slice_get es (suc i) ≡ None
none_after [] i h = refl
none_after (e ∷ es) zero h = absurd cc
none_after (e ∷ es) (suc i) h = none_after es i h

-- all keys are from the lower bound on
from_low : {T : Type 0} (ps : List (Place T)) (low high i j : ℕ) → Rises low high ps → key_at ps i ≡ Some j → low ≤ j
from_low [] low high i j r h = absurd cc
from_low {T} (p ∷ ps) low high i j r h = by p.item i h (λ m g. from_low ps (p.key + 1) high m j r.1 g)
  where
    by : (x : Option T) (i : ℕ) → option_map (λ e. e.key) (slice_get (entry_first p.key x (entries ps)) i) ≡ Some j → ((m : ℕ) → key_at ps m ≡ Some j → p.key + 1 ≤ j) → low ≤ j
    by None i g ih = let later = ih i g in omega (arith, later, r.0)
    by (Some x) zero g ih = let same : p.key ≡ j = cc in omega (arith, same, r.0)
    by (Some x) (suc i) g ih = let later = ih i g in omega (arith, later, r.0)

-- the ranks once the item of a key went
pub rank_left : {T : Type 0} (ps : List (Place T)) (low high k : ℕ) (x : T) (i : ℕ) → Rises low high ps → item_at ps k ≡ Some x → key_at (with_place ps k (Some None)) i ≡ passed k (key_at ps i) (key_at ps (suc i))
rank_left [] low high k x i r h = absurd cc
rank_left {T} (p ∷ ps) low high k x i r h = by (nat_lt k p.key) (p.key == k) refl refl (λ m g. rank_left ps (p.key + 1) high k x m r.1 g)
  where
    above : (o : Option ℕ) (n : Option ℕ) → ((j : ℕ) → o ≡ Some j → k < j) → (o ≡ None → n ≡ None) → n ≡ passed k o n
    above None n more none = none refl
    above (Some j) n more none = sym (ap (λ b. if b then Some j else n) (le-ltb j k (let m = more j refl in omega (arith, m))))

    first : (o : Option T) (m : ℕ) → o ≡ Some x → p.key ≡ k → key_at ps m ≡ passed k (option_map (λ e. e.key) (slice_get (entry_first p.key o (entries ps)) m)) (option_map (λ e. e.key) (slice_get (entry_first p.key o (entries ps)) (suc m)))
    first None m g e = absurd cc
    first (Some y) zero g e = sym (ap (λ b. if b then Some p.key else key_at ps 0) (le-ltb p.key k (omega (arith, e))))
    first (Some y) (suc m) g e =
        above (key_at ps m) (key_at ps (suc m)) (λ j q. let low = from_low ps (p.key + 1) high m j r.1 q in omega (arith, low, e))
        (λ q. ap (option_map (λ e. e.key)) (none_after (entries ps) m (none_got (slice_get (entries ps) m) q)))
      where
        none_got : (o : Option (Entry T)) → option_map (λ e. e.key) o ≡ None → o ≡ None
        none_got None q = refl
        none_got (Some e) q = absurd cc

    later : (o : Option T) (m : ℕ) → p.key < k → ((m : ℕ) → key_at (with_place ps k (Some None)) m ≡ passed k (key_at ps m) (key_at ps (suc m)))
        → option_map (λ e. e.key) (slice_get (entry_first p.key o (entries (with_place ps k (Some None)))) m) ≡ passed k (option_map (λ e. e.key) (slice_get (entry_first p.key o (entries ps)) m)) (option_map (λ e. e.key) (slice_get (entry_first p.key o (entries ps)) (suc m)))
    later None m less ih = ih m
    later (Some y) zero less ih = sym (ap (λ b. if b then Some p.key else key_at ps 0) (lt-ltb p.key k less))
    later (Some y) (suc m) less ih = ih m

    by : (a b : Bool) → nat_lt k p.key ≡ a → (p.key == k) ≡ b → ((m : ℕ) → item_at ps k ≡ Some x → key_at (with_place ps k (Some None)) m ≡ passed k (key_at ps m) (key_at ps (suc m)))
        → key_at (if a then put_first k (Some None) (p ∷ ps) else (if b then put_first k (Some None) ps else p ∷ with_place ps k (Some None))) i ≡ passed k (key_at (p ∷ ps) i) (key_at (p ∷ ps) (suc i))
    by true b is e ih = absurd (true≢false (sym (ap is_some (sym (ap item_in (below_all (p ∷ ps) p.key high k (omega arith, r.1) (ltb-true k p.key is))) ∙ h))))
    by false true is e ih = first p.item i (sym (ap (λ b. item_in (if b then Some p.item else place_at ps k)) e) ∙ h) (eqb-true p.key k e)
    by false false is e ih =
        let other = eqb-false p.key k e in
        later p.item i (less p.key (ltb-false k p.key is) other) (λ m. ih m (sym (ap (λ b. item_in (if b then Some p.item else place_at ps k)) e) ∙ h))
      where
        less : (j : ℕ) → j ≤ k → (j ≡ k → ⊥) → j < k
        less j least other = omega (arith, least, other)

-- SETS OF MARKS

abbrev Set : Type 0
Set = List (Place (Unit {0}))

pub seen_rises : (ps : Set) (l : Option ℕ) → IsSet ps l → Rises 0 (2 ^ 40) (seen ps l)
seen_rises ps None s = s.0
seen_rises ps (Some k) s = rises_with ps 0 (2 ^ 40) k (Some None) s.0 (omega arith) s.1.0

-- a set for which a place was made, or refused
pub reserved_freed : {X E : Type 0} (ps before new : Set) (k : ℕ) (x : Result X E) → before ≡ ps → OnOk x (new ≡ with_free before k) → OnErr x (new ≡ before) → IsFreed ps new k
reserved_freed ps before new k (Ok x) is made kept = inr (made ∙ ap (λ qs. with_free qs k) is)
reserved_freed ps before new k (Err e) is made kept = inl (kept ∙ is)

freed_rises : {ps new : Set} (k : ℕ) → Rises 0 (2 ^ 40) ps → k < 2 ^ 40 → IsFreed ps new k → Rises 0 (2 ^ 40) new
freed_rises k r below (inl is) = subst (Rises 0 (2 ^ 40)) (sym is) r
freed_rises {ps} k r below (inr is) = subst (Rises 0 (2 ^ 40)) (sym is) (free_rises ps k r below)

pub alike : (a b : Bool) → beq a b ≡ true → a ≡ b
alike true true e = refl
alike false false e = refl
alike true false e = absurd (true≢false (sym e))
alike false true e = absurd (true≢false (sym e))

place_kept : {T : Type 0} (ps : List (Place T)) (k : ℕ) → has_place ps k ≡ true → place_at ps k ≡ Some (item_at ps k)
place_kept {T} ps k h = by (place_at ps k) h
  where
    by : (o : Option (Option T)) → is_some o ≡ true → o ≡ Some (item_in o)
    by None g = absurd (true≢false (sym g))
    by (Some o) g = refl

-- a mark that stays as it is
pub mark_kept : (v : Set) (k : ℕ) (was on : Bool) → Rises 0 (2 ^ 40) v → place_at v k ≡ Some (mark_if was) → was ≡ on → v ≡ with_place v k (Some (mark_if on))
mark_kept v k was on r m e = sym (same v 0 (2 ^ 40) k (mark_if on) r (m ∙ ap (λ b. Some (mark_if b)) e))

-- A NUMBER WHOSE MARK CHANGES

-- a set in which the number stands as told, and to which a change of its place does what it does to what was seen
pub record Stands (ps v : Set) (k : ℕ) (b : Bool) : Type 0 where
  pub mark : StandsAs ps k b
  pub changes : (x : Option (Unit {0})) → with_place ps k (Some x) ≡ with_place v k (Some x)

-- the number is the one that left
stands_back : (ps v : Set) (k : ℕ) (had : Bool) → IsSet ps (left_if had k) → seen ps (left_if had k) ≡ v → place_at v k ≡ Some None → Stands ps v k had
stands_back ps v k true s is m = record { mark = (s.0, place_of ps k tt s.1.1); changes = λ x. sym (ap (λ u. with_place u k (Some x)) (sym is) ∙ twice ps k None x) }
stands_back ps v k false s is m = record { mark = (s.0, ap (λ u. place_at u k) is ∙ m); changes = λ x. ap (λ u. with_place u k (Some x)) is }

-- the one that left went from the set
stands_other : (ps v new : Set) (l : Option ℕ) (k : ℕ) (was : Bool) → IsSet ps l → seen ps l ≡ v → new ≡ seen ps l → place_at v k ≡ Some (mark_if was) → Stands new v k was
stands_other ps v new l k was s is now m =
    record {
      mark = (subst (Rises 0 (2 ^ 40)) (sym now) (seen_rises ps l s), ap (λ u. place_at u k) (now ∙ is) ∙ m);
      changes = λ x. ap (λ u. with_place u k (Some x)) (now ∙ is);
    }

-- the number leaves with its mark, or without one
left_set : {ps v : Set} {k : ℕ} {b : Bool} → Stands ps v k b → IsSet ps (left_if b k)
left_set {ps} {v} {k} {b = true} s = (s.mark.0, (place_below ps 0 (2 ^ 40) k s.mark.0 (ap is_some s.mark.1), ap item_in s.mark.1))
left_set {ps} {v} {k} {b = false} s = (s.mark.0, tt)

left_seen : {ps v : Set} {k : ℕ} {b : Bool} → Stands ps v k b → seen ps (left_if b k) ≡ with_place v k (Some None)
left_seen {b = true} s = s.changes None
left_seen {ps} {v} {k} {b = false} s = mark_kept ps k false false s.mark.0 s.mark.1 refl ∙ s.changes None

-- it comes back with the mark that it had
kept_seen : {ps v : Set} {k : ℕ} {b : Bool} (on : Bool) → Stands ps v k b → b ≡ on → ps ≡ with_place v k (Some (mark_if on))
kept_seen {ps} {v} {k} {b} on s is = mark_kept ps k b on s.mark.0 s.mark.1 is ∙ s.changes (mark_if on)

-- and with another mark it stands there
renewed_set : {ps v new : Set} {k : ℕ} {b : Bool} (on : Bool) → Stands ps v k b → new ≡ with_place ps k (Some (mark_if on)) → IsSet new None
renewed_set {ps} {v} {new} {k} on s is =
    (subst (Rises 0 (2 ^ 40)) (sym is) (rises_with ps 0 (2 ^ 40) k (Some (mark_if on)) s.mark.0 (omega arith) (place_below ps 0 (2 ^ 40) k s.mark.0 (ap is_some s.mark.1))), tt)

renewed_seen : {ps v new : Set} {k : ℕ} {b : Bool} (on : Bool) → Stands ps v k b → new ≡ with_place ps k (Some (mark_if on)) → new ≡ with_place v k (Some (mark_if on))
renewed_seen on s is = is ∙ s.changes (mark_if on)

-- THE SETS OF ALL KINDS

-- what is seen of each
abbrev pub AreSeen : Set → Set → Set → Option (ℕ × Kind) → SetsView → Type 0
AreSeen r w m left v = record { runnable = seen r (left_of in_runnable left); waiting = seen w (left_of in_waiting left); movable = seen m (left_of in_movable left) } ≡ v

-- a number that stands in each set as told
pub record AllStand (r w m : Set) (v : SetsView) (k : ℕ) (has : Kind) : Type 0 where
  pub runnable : Stands r v.runnable k (in_runnable has)
  pub waiting : Stands w v.waiting k (in_waiting has)
  pub movable : Stands m v.movable k (in_movable has)

pub comes_back : {r w m : Set} {left : Option (ℕ × Kind)} {v : SetsView} (k : ℕ) (had : Kind) → AreSets r w m left → AreSeen r w m left v → left ≡ Some (k, had) → HasMarks v k kind.Other → AllStand r w m v k had
comes_back {r} {w} {m} {left} {v} k had sets is here marks = by (subst (AreSets r w m) here sets) (subst (λ l. AreSeen r w m l v) here is)
  where
    by : AreSets r w m (Some (k, had)) → AreSeen r w m (Some (k, had)) v → AllStand r w m v k had
    by s e =
        record {
          runnable = stands_back r v.runnable k (in_runnable had) s.runnable_set (ap (λ x. x.runnable) e) marks.runnable;
          waiting = stands_back w v.waiting k (in_waiting had) s.waiting_set (ap (λ x. x.waiting) e) marks.waiting;
          movable = stands_back m v.movable k (in_movable had) s.movable_set (ap (λ x. x.movable) e) marks.movable;
        }

pub other_left : {r w m r2 w2 m2 : Set} {left : Option (ℕ × Kind)} {v : SetsView} (k : ℕ) (has : Kind) → AreSets r w m left → AreSeen r w m left v → HasMarks v k has
    → r2 ≡ seen r (left_of in_runnable left) → w2 ≡ seen w (left_of in_waiting left) → m2 ≡ seen m (left_of in_movable left) → AllStand r2 w2 m2 v k has
other_left {r} {w} {m} {r2} {w2} {m2} {left} {v} k has sets is marks rs ws ms =
    record {
      runnable = stands_other r v.runnable r2 (left_of in_runnable left) k (in_runnable has) sets.runnable_set (ap (λ x. x.runnable) is) rs marks.runnable;
      waiting = stands_other w v.waiting w2 (left_of in_waiting left) k (in_waiting has) sets.waiting_set (ap (λ x. x.waiting) is) ws marks.waiting;
      movable = stands_other m v.movable m2 (left_of in_movable left) k (in_movable has) sets.movable_set (ap (λ x. x.movable) is) ms marks.movable;
    }

-- three sets, each with the mark
as_told : {r w m : Set} (v : SetsView) (k : ℕ) (has : Kind) → r ≡ with_place v.runnable k (Some (mark_if (in_runnable has))) → w ≡ with_place v.waiting k (Some (mark_if (in_waiting has)))
    → m ≡ with_place v.movable k (Some (mark_if (in_movable has))) → record { runnable = r; waiting = w; movable = m } ≡ with_marks v k has
as_told {r} {w} {m} v k has rs ws ms =
    let told = with_marks v k has in
    ap (λ x. record { runnable = x; waiting = w; movable = m }) rs ∙ ap (λ x. record { runnable = told.runnable; waiting = x; movable = m }) ws ∙ ap (λ x. record { runnable = told.runnable; waiting = told.waiting; movable = x }) ms

-- a number whose marks stay
pub same_marks : {r w m : Set} {left : Option (ℕ × Kind)} {v : SetsView} (k : ℕ) (had has : Kind) → AreSets r w m left → AreSeen r w m left v → HasMarks v k had → had ≡ has → v ≡ with_marks v k has
same_marks {r} {w} {m} {left} {v} k had has s is marks e =
    as_told v k has (mark_kept v.runnable k (in_runnable had) (in_runnable has) (rises (λ u. u.runnable) (seen_rises r (left_of in_runnable left) s.runnable_set)) marks.runnable (ap in_runnable e))
    (mark_kept v.waiting k (in_waiting had) (in_waiting has) (rises (λ u. u.waiting) (seen_rises w (left_of in_waiting left) s.waiting_set)) marks.waiting (ap in_waiting e))
    (mark_kept v.movable k (in_movable had) (in_movable has) (rises (λ u. u.movable) (seen_rises m (left_of in_movable left) s.movable_set)) marks.movable (ap in_movable e))
  where
    rises : (part : SetsView → Set) → Rises 0 (2 ^ 40) (part (record { runnable = seen r (left_of in_runnable left); waiting = seen w (left_of in_waiting left); movable = seen m (left_of in_movable left) })) → Rises 0 (2 ^ 40) (part v)
    rises part h = subst (λ u. Rises 0 (2 ^ 40) (part u)) is h

-- it leaves with its marks
pub left_all : {r w m : Set} {v : SetsView} {k : ℕ} {had : Kind} → AllStand r w m v k had → AreSets r w m (Some (k, had))
left_all s = record { runnable_set = left_set s.runnable; waiting_set = left_set s.waiting; movable_set = left_set s.movable }

pub left_marks : {r w m : Set} {v : SetsView} {k : ℕ} {had : Kind} → AllStand r w m v k had → AreSeen r w m (Some (k, had)) (with_marks v k kind.Other)
left_marks {v = v} {k} s = as_told v k kind.Other (left_seen s.runnable) (left_seen s.waiting) (left_seen s.movable)

-- it comes back with those that it had
pub kept_marks : {r w m : Set} {v : SetsView} {k : ℕ} {had : Kind} (has : Kind) → AllStand r w m v k had → had ≡ has → AreSeen r w m None (with_marks v k has)
kept_marks {v = v} {k} has s e = as_told v k has (kept_seen (in_runnable has) s.runnable (ap in_runnable e)) (kept_seen (in_waiting has) s.waiting (ap in_waiting e)) (kept_seen (in_movable has) s.movable (ap in_movable e))

-- or with others
pub renewed_all : {r w m r2 w2 m2 : Set} {v : SetsView} {k : ℕ} {had : Kind} (has : Kind) → AllStand r w m v k had → r2 ≡ with_place r k (Some (mark_if (in_runnable has))) → w2 ≡ with_place w k (Some (mark_if (in_waiting has)))
    → m2 ≡ with_place m k (Some (mark_if (in_movable has))) → AreSets r2 w2 m2 None
renewed_all has s rs ws ms = record { runnable_set = renewed_set (in_runnable has) s.runnable rs; waiting_set = renewed_set (in_waiting has) s.waiting ws; movable_set = renewed_set (in_movable has) s.movable ms }

pub renewed_marks : {r w m r2 w2 m2 : Set} {v : SetsView} {k : ℕ} {had : Kind} (has : Kind) → AllStand r w m v k had → r2 ≡ with_place r k (Some (mark_if (in_runnable has))) → w2 ≡ with_place w k (Some (mark_if (in_waiting has)))
    → m2 ≡ with_place m k (Some (mark_if (in_movable has))) → AreSeen r2 w2 m2 None (with_marks v k has)
renewed_marks {v = v} {k} has s rs ws ms = as_told v k has (renewed_seen (in_runnable has) s.runnable rs) (renewed_seen (in_waiting has) s.waiting ws) (renewed_seen (in_movable has) s.movable ms)

-- places that were made where none has left
pub freed_sets : {r w m r2 w2 m2 : Set} {left after : Option (ℕ × Kind)} (k : ℕ) → AreSets r w m left → k < 2 ^ 40 → IsFreed (seen r (left_of in_runnable left)) r2 k → IsFreed (seen w (left_of in_waiting left)) w2 k
    → IsFreed (seen m (left_of in_movable left)) m2 k → after ≡ None → AreSets r2 w2 m2 after
freed_sets {r} {w} {m} {r2} {w2} {m2} {left} k s below rf wf mf none =
    subst (AreSets r2 w2 m2) (sym none)
    (record {
      runnable_set = (freed_rises k (seen_rises r (left_of in_runnable left) s.runnable_set) below rf, tt);
      waiting_set = (freed_rises k (seen_rises w (left_of in_waiting left) s.waiting_set) below wf, tt);
      movable_set = (freed_rises k (seen_rises m (left_of in_movable left) s.movable_set) below mf, tt);
    })

-- BY RANK

-- one mark fewer than stand in the map
pub one_fewer : (ps : Set) (l : Option ℕ) (k : ℕ) → IsSet ps l → l ≡ Some k → length (entries (seen ps l)) + 1 ≡ length (entries ps)
one_fewer ps None k s e = absurd cc
one_fewer ps (Some j) k s e =
    let count = count_with ps 0 (2 ^ 40) j (Some None) s.0 (ap is_some (place_of ps j tt s.1.1)) in
    let item : count_of (item_at ps j) ≡ 1 = ap count_of s.1.1 in
    omega (arith, count, item)

-- the mark of some rank
pub rank_seen : (ps : Set) (l : Option ℕ) (k i : ℕ) → IsSet ps l → l ≡ Some k → key_at (seen ps l) i ≡ passed k (key_at ps i) (key_at ps (i + 1))
rank_seen ps None k i s e = absurd cc
rank_seen ps (Some j) k i s e =
    let key : j ≡ k = cc in
    rank_left ps 0 (2 ^ 40) j tt i s.0 s.1.1 ∙ ap (λ q. passed q (key_at ps i) (key_at ps (suc i))) key ∙ ap (λ m. passed k (key_at ps i) (key_at ps m)) next
  where
    next : suc i ≡ i + 1
    next = omega arith

pub passed_none : (k : ℕ) (o next v : Option ℕ) → v ≡ passed k o next → None ≡ o → None ≡ v
passed_none k o next v e n = sym (e ∙ ap (λ p. passed k p next) (sym n))

pub passed_before : (k j : ℕ) (o next v : Option ℕ) → v ≡ passed k o next → Some j ≡ o → j < k → Some j ≡ v
passed_before k j o next v e n less = sym (e ∙ ap (λ p. passed k p next) (sym n) ∙ ap (λ b. if b then Some j else next) (lt-ltb j k less))

pub passed_after : (k j : ℕ) (o next v : Option ℕ) → v ≡ passed k o next → Some j ≡ o → k ≤ j → next ≡ v
passed_after k j o next v e n least = sym (e ∙ ap (λ p. passed k p next) (sym n) ∙ ap (λ b. if b then Some j else next) (le-ltb j k least))

-- a rank is no more than all keys
pub rank_few : (ps : Set) (i j : ℕ) → Rises 0 (2 ^ 40) ps → key_at ps i ≡ Some j → i < 2 ^ 40
rank_few ps i j r h = let few = few_entries ps 0 (2 ^ 40) r in let within = by (entries ps) i h in omega (arith, few, within)
  where
    by : (es : List (Entry (Unit {0}))) (i : ℕ) → option_map (λ e. e.key) (slice_get es i) ≡ Some j → i < length es
    by [] i g = absurd cc
    by (e ∷ es) zero g = omega arith
    by (e ∷ es) (suc i) g = let ih = by es i g in omega (arith, ih)

-- MARKS OF A MAP

-- the item of a key among items
abbrev find : {T : Type 0} → List (Entry T) → ℕ → Option T
find [] k = None
find (e ∷ es) k = if e.key == k then Some e.item else find es k

-- it is that of its place
item_found : {T : Type 0} (ps : List (Place T)) (low high k : ℕ) → Rises low high ps → item_at ps k ≡ find (entries ps) k
item_found [] low high k r = refl
item_found {T} (p ∷ ps) low high k r = by p.item (p.key == k) refl (item_found ps (p.key + 1) high k r.1)
  where
    by : (o : Option T) (b : Bool) → (p.key == k) ≡ b → item_at ps k ≡ find (entries ps) k → item_in (if b then Some o else place_at ps k) ≡ find (entry_first p.key o (entries ps)) k
    by None true e ih = let here = eqb-true p.key k e in sym (ap item_in (below_all ps (p.key + 1) high k r.1 (omega (arith, here)))) ∙ ih
    by None false e ih = ih
    by (Some x) true e ih = sym (ap (λ b. if b then Some x else find (entries ps) k) e)
    by (Some x) false e ih = ih ∙ sym (ap (λ b. if b then Some x else find (entries ps) k) e)

-- the marks at places are those of the items
pub marks_at : {T : Type 0} (f : T → Bool) (ps : List (Place T)) (k : ℕ) → place_at (marked f ps) k ≡ option_map (mark_of f) (place_at ps k)
marks_at f [] k = refl
marks_at f (p ∷ ps) k = by (p.key == k) (marks_at f ps k)
  where
    by : (b : Bool) → place_at (marked f ps) k ≡ option_map (mark_of f) (place_at ps k) → (if b then Some (mark_of f p.item) else place_at (marked f ps) k) ≡ option_map (mark_of f) (if b then Some p.item else place_at ps k)
    by true ih = refl
    by false ih = ih

mark_in : {T : Type 0} (f : T → Bool) (o : Option (Option T)) → item_in (option_map (mark_of f) o) ≡ mark_of f (item_in o)
mark_in f None = refl
mark_in f (Some x) = refl

-- each item is marked as its test tells
marked_item : {T : Type 0} {f : T → Bool} {all : List (Place T)} {set : Set} (k : ℕ) → Rises 0 (2 ^ 40) all → IsMarked f all set → item_at set k ≡ mark_of f (item_at all k)
marked_item {f = f} {all} {set} k r m =
    item_found set 0 (2 ^ 40) k m.rises ∙ ap (λ es. find es k) m.same ∙ sym (item_found (marked f all) 0 (2 ^ 40) k (marked_rises f all 0 (2 ^ 40) r)) ∙ ap item_in (marks_at f all k) ∙ mark_in f (place_at all k)

-- and so is the place of a key, with an item or without one
pub mark_at : {T : Type 0} {f : T → Bool} {all : List (Place T)} {set : Set} (k : ℕ) (x : Option T) → Rises 0 (2 ^ 40) all → IsMarked f all set → has_place all k ≡ true → item_at all k ≡ x → place_at set k ≡ Some (mark_of f x)
mark_at {f = f} {all} {set} k x r m place here = place_kept set k (m.places k place) ∙ ap Some (marked_item k r m ∙ ap (mark_of f) here)
