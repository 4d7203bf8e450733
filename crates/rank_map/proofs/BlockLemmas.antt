-- The places of a block's slots, once one is read or changed.
use Rattle.std.proofs.Common.{◌≡◌, ◌⊎◌, inl, inr, ℕ, zero, suc, ◌+◌, ◌-◌, ◌<◌, ◌≤◌, true, false, true≢false, is_some, List, [], ◌∷◌, ◌++◌, length, get_or, set, drop, slice_get, Option, None, Some, option_map, refl, sym, subst, ap, ◌∙◌, arith}
use Rattle.std.proofs.lemmas.Bool.{ne_eqb, eq-eqb, le-ltb}
use Rattle.std.proofs.lemmas.List.{length-set, drop_more, drop_all}
use Rattle.rank_map.specs.Places.{Place, place_at, has_place, item_in, put_first, with_place, count_of, entries, Rises}
use Rattle.rank_map.specs.Blocks.{BlockView, from_slots, IsBlock}
use Rattle.rank_map.proofs.PlaceLemmas.{below_all, above_all, with_below, first_rises, put_count, count_most}
use Rattle.rank_map.proofs.ForkLemmas.{place_bounds}

-- the keys of the places rise within the block
pub slots_rise : {T : Type 0} (ss : List (Option (Option T))) (first : ℕ) → Rises first (first + length ss) (from_slots first ss)
slots_rise [] first = omega arith
slots_rise (s ∷ ss) first =
    let e : first + 1 + length ss ≡ first + length (s ∷ ss) = omega arith in
    first_rises first s (from_slots (first + 1) ss) first (first + length (s ∷ ss)) (omega arith) (subst (λ h. Rises (first + 1) h (from_slots (first + 1) ss)) e (slots_rise ss (first + 1)))

pub block_rises : {T : Type 0} {first items places : ℕ} {ss : List (Option (Option T))} → IsBlock first items places ss → Rises first (first + 16) (from_slots first ss)
block_rises {first = first} {ss = ss} b = subst (λ n. Rises first (first + n) (from_slots first ss)) b.whole (slots_rise ss first)

-- a key that has a place is one of the block's
pub block_bounds : {T : Type 0} {v : BlockView T} {first items places : ℕ} {ss : List (Option (Option T))} (k : ℕ) → record { first = first; places = from_slots first ss } ≡ v → IsBlock first items places ss → has_place v.places k ≡ true → (first ≤ k) × (k < first + 16)
block_bounds {first = first} {ss = ss} k seen b there = place_bounds (from_slots first ss) first (first + 16) k (block_rises b) (ap (λ u. has_place u.places k) seen ∙ there)

-- and the others have none
pub block_outside : {T : Type 0} {v : BlockView T} {first items places : ℕ} {ss : List (Option (Option T))} (k : ℕ) → record { first = first; places = from_slots first ss } ≡ v → IsBlock first items places ss → (k < first) ⊎ (first + 16 ≤ k) → None ≡ place_at v.places k
block_outside {first = first} {ss = ss} k seen b (inl h) = sym (below_all (from_slots first ss) first (first + 16) k (block_rises b) h) ∙ ap (λ u. place_at u.places k) seen
block_outside {first = first} {ss = ss} k seen b (inr h) = sym (above_all (from_slots first ss) first (first + 16) k (block_rises b) h) ∙ ap (λ u. place_at u.places k) seen

slot_here : {T : Type 0} (s : Option (Option T)) (ps : List (Place T)) (k high : ℕ) → Rises (k + 1) high ps → place_at (put_first k s ps) k ≡ s
slot_here None ps k high r = below_all ps (k + 1) high k r (omega arith)
slot_here (Some x) ps k high r = rw (eq-eqb k k refl) refl

past_first : {T : Type 0} (s : Option (Option T)) (ps : List (Place T)) (k j : ℕ) → k < j → place_at (put_first k s ps) j ≡ place_at ps j
past_first None ps k j h = refl
past_first (Some x) ps k j h = rw (ne_eqb k j (λ e. omega (arith, h, e))) refl

read : {T : Type 0} (ss : List (Option (Option T))) (first i k : ℕ) (x : Option (Option T)) → k ≡ first + i → i < length ss → x ≡ get_or ss i x → place_at (from_slots first ss) k ≡ x
read [] first i k x is h e = absurd (omega (arith, h))
read (s ∷ ss) first zero k x is h e =
    let same : k ≡ first = omega (arith, is) in
    ap (λ j. place_at (from_slots first (s ∷ ss)) j) same ∙ slot_here s (from_slots (first + 1) ss) first (first + 1 + length ss) (slots_rise ss (first + 1)) ∙ sym e
read (s ∷ ss) first (suc i) k x is h e =
    past_first s (from_slots (first + 1) ss) first k (omega (arith, is)) ∙ read ss (first + 1) i k x (omega (arith, is)) (omega (arith, h)) e

-- another slot is another place
slot_set : {T : Type 0} (ss : List (Option (Option T))) (first i k : ℕ) (s : Option (Option T)) → k ≡ first + i → i < length ss → from_slots first (set ss i s) ≡ with_place (from_slots first ss) k s
slot_set [] first i k s is h = absurd (omega (arith, h))
slot_set {T} (x ∷ ss) first zero k s is h =
    let same : k ≡ first = omega (arith, is) in
    by x ∙ sym (ap (λ j. with_place (from_slots first (x ∷ ss)) j s) same)
  where
    by : (y : Option (Option T)) → put_first first s (from_slots (first + 1) ss) ≡ with_place (put_first first y (from_slots (first + 1) ss)) first s
    by None = sym (with_below (from_slots (first + 1) ss) (first + 1) (first + 1 + length ss) first s (slots_rise ss (first + 1)) (omega arith))
    by (Some y) = rw (le-ltb first first (omega arith), eq-eqb first first refl) refl
slot_set {T} (x ∷ ss) first (suc i) k s is h = by x (slot_set ss (first + 1) i k s (omega (arith, is)) (omega (arith, h)))
  where
    by : (y : Option (Option T)) → from_slots (first + 1) (set ss i s) ≡ with_place (from_slots (first + 1) ss) k s → put_first first y (from_slots (first + 1) (set ss i s)) ≡ with_place (put_first first y (from_slots (first + 1) ss)) k s
    by None ih = ih
    by (Some y) ih = rw (le-ltb k first (omega (arith, is)), ne_eqb first k (λ e. omega (arith, is, e))) (ap (λ ps. record { key = first; item = y } ∷ ps) ih)

set_items : {T : Type 0} (ss : List (Option (Option T))) (first i : ℕ) (x s : Option (Option T)) → i < length ss → x ≡ get_or ss i x
    → length (entries (from_slots first (set ss i s))) + count_of (item_in x) ≡ length (entries (from_slots first ss)) + count_of (item_in s)
set_items [] first i x s h e = absurd (omega (arith, h))
set_items (y ∷ ss) first zero x s h e =
    let rest = from_slots (first + 1) ss in
    omega (arith, put_count first s rest, put_count first y rest, ap (λ o. count_of (item_in o)) e)
set_items (y ∷ ss) first (suc i) x s h e =
    let ih = set_items ss (first + 1) i x s (omega (arith, h)) e in
    omega (arith, ih, put_count first y (from_slots (first + 1) (set ss i s)), put_count first y (from_slots (first + 1) ss))

-- one place, or none
abbrev pub one_place : {T : Type 0} → Option (Option T) → ℕ
one_place None = 0
one_place (Some x) = 1

put_one : {T : Type 0} (k : ℕ) (s : Option (Option T)) (ps : List (Place T)) → length (put_first k s ps) ≡ one_place s + length ps
put_one k None ps = omega arith
put_one k (Some x) ps = omega arith

set_places : {T : Type 0} (ss : List (Option (Option T))) (first i : ℕ) (x s : Option (Option T)) → i < length ss → x ≡ get_or ss i x
    → length (from_slots first (set ss i s)) + one_place x ≡ length (from_slots first ss) + one_place s
set_places [] first i x s h e = absurd (omega (arith, h))
set_places (y ∷ ss) first zero x s h e =
    let rest = from_slots (first + 1) ss in
    omega (arith, put_one first s rest, put_one first y rest, ap one_place e)
set_places (y ∷ ss) first (suc i) x s h e =
    let ih = set_places ss (first + 1) i x s (omega (arith, h)) e in
    omega (arith, ih, put_one first y (from_slots (first + 1) (set ss i s)), put_one first y (from_slots (first + 1) ss))

-- a key of a block that is seen as v, and what stands in its slot
pub record AtSlot {T : Type 0} (v : BlockView T) (first items places k : ℕ) (ss : List (Option (Option T))) (x : Option (Option T)) : Type 0 where
  pub seen : record { first = first; places = from_slots first ss } ≡ v
  pub block : IsBlock first items places ss
  pub bounds : (first ≤ k) × (k < first + 16)
  pub read : x ≡ get_or ss (k - first) x

-- the place of the key is what stands in the slot
pub slot_place : {T : Type 0} {v : BlockView T} {first items places k : ℕ} {ss : List (Option (Option T))} {x : Option (Option T)} → AtSlot v first items places k ss x → place_at v.places k ≡ x
slot_place {first = first} {k = k} {ss} {x} a =
    sym (ap (λ u. place_at u.places k) a.seen) ∙ read ss first (k - first) k x (omega (arith, a.bounds.0)) (omega (arith, a.block.whole, a.bounds.0, a.bounds.1)) a.read

-- a key of the block, and one that has a place
pub at_slot : {T : Type 0} {v : BlockView T} {first items places k : ℕ} {ss : List (Option (Option T))} {x : Option (Option T)} → record { first = first; places = from_slots first ss } ≡ v → IsBlock first items places ss → v.first ≤ k → k < v.first + 16 → x ≡ get_or ss (k - first) x → AtSlot v first items places k ss x
at_slot seen b least most e = record { seen = seen; block = b; bounds = (omega (arith, least, ap (λ u. u.first) seen), omega (arith, most, ap (λ u. u.first) seen)); read = e }

pub there_slot : {T : Type 0} {v : BlockView T} {first items places k : ℕ} {ss : List (Option (Option T))} {x : Option (Option T)} → record { first = first; places = from_slots first ss } ≡ v → IsBlock first items places ss → has_place v.places k ≡ true → x ≡ get_or ss (k - first) x → AtSlot v first items places k ss x
there_slot {k = k} seen b there e = record { seen = seen; block = b; bounds = block_bounds k seen b there; read = e }

-- a slot stands without a place exactly where the key has none
pub slot_bare : {T : Type 0} {v : BlockView T} {first items places k : ℕ} {ss : List (Option (Option T))} {x : Option (Option T)} → AtSlot v first items places k ss x → has_place v.places k ≡ true → x ≡ None → ⊥
slot_bare a there none = true≢false (sym there ∙ ap is_some (slot_place a ∙ none))

pub slot_free : {T : Type 0} {v : BlockView T} {first items places k : ℕ} {ss : List (Option (Option T))} {x : Option (Option T)} → AtSlot v first items places k ss x → has_place v.places k ≡ false → x ≡ None
slot_free {T} {x = x} a new = by x (sym (ap is_some (slot_place a)) ∙ new)
  where
    by : (z : Option (Option T)) → is_some z ≡ false → z ≡ None
    by None e = refl
    by (Some y) e = absurd (true≢false e)

-- what there is once one slot is another one
pub record IsChanged {T : Type 0} (v : BlockView T) (first items places k : ℕ) (s : Option (Option T)) (ss : List (Option (Option T))) : Type 0 where
  pub block : IsBlock first items places ss
  pub seen : from_slots first ss ≡ with_place v.places k s

pub changed : {T : Type 0} {v : BlockView T} {first items places items2 places2 k : ℕ} {ss : List (Option (Option T))} {x : Option (Option T)} (s : Option (Option T)) → AtSlot v first items places k ss x
    → items2 + count_of (item_in x) ≡ items + count_of (item_in s) → places2 + one_place x ≡ places + one_place s → IsChanged v first items2 places2 k s (set ss (k - first) s)
changed {first = first} {k = k} {ss} {x} s a items places =
    let within : k - first < length ss = omega (arith, a.block.whole, a.bounds.0, a.bounds.1) in
    record {
      block = record {
        whole = length-set ss (k - first) s ∙ a.block.whole;
        few = a.block.few;
        items_count = omega (arith, items, a.block.items_count, set_items ss first (k - first) x s within a.read);
        places_count = omega (arith, places, a.block.places_count, set_places ss first (k - first) x s within a.read);
      };
      seen = slot_set ss first (k - first) k s (omega (arith, a.bounds.0)) within ∙ ap (λ u. with_place u.places k s) a.seen;
    }

-- what is counted is not more than there are
items_most : {T : Type 0} (ss : List (Option (Option T))) (first : ℕ) → length (entries (from_slots first ss)) ≤ length ss
items_most [] first = omega arith
items_most (s ∷ ss) first = omega (arith, items_most ss (first + 1), put_count first s (from_slots (first + 1) ss), count_most (item_in s))

places_most : {T : Type 0} (ss : List (Option (Option T))) (first : ℕ) → length (from_slots first ss) ≤ length ss
places_most [] first = omega arith
places_most (None ∷ ss) first = omega (arith, places_most ss (first + 1))
places_most (Some x ∷ ss) first = omega (arith, places_most ss (first + 1))

-- the counts are small
pub few_items : {T : Type 0} {first items places : ℕ} {ss : List (Option (Option T))} → IsBlock first items places ss → items ≤ 16
few_items {first = first} {ss = ss} b = omega (arith, b.items_count, b.whole, items_most ss first)

pub few_places : {T : Type 0} {first items places : ℕ} {ss : List (Option (Option T))} → IsBlock first items places ss → places ≤ 16
few_places {first = first} {ss = ss} b = omega (arith, b.places_count, b.whole, places_most ss first)

-- what stands in a slot is counted
pub item_counted : {T : Type 0} {v : BlockView T} {first items places k : ℕ} {ss : List (Option (Option T))} {x : Option (Option T)} → AtSlot v first items places k ss x → count_of (item_in x) ≤ items
item_counted {first = first} {k = k} {ss} {x} a =
    omega (arith, a.block.items_count, set_items ss first (k - first) x None (omega (arith, a.block.whole, a.bounds.0, a.bounds.1)) a.read)

pub place_counted : {T : Type 0} {v : BlockView T} {first items places k : ℕ} {ss : List (Option (Option T))} {x : Option (Option T)} → AtSlot v first items places k ss x → one_place x ≤ places
place_counted {first = first} {k = k} {ss} {x} a =
    omega (arith, a.block.places_count, set_places ss first (k - first) x None (omega (arith, a.block.whole, a.bounds.0, a.bounds.1)) a.read)

-- one slot more without a place is no more
pub slots_push : {T : Type 0} (ss : List (Option (Option T))) (first : ℕ) → from_slots first (ss ++ None ∷ []) ≡ from_slots first ss
slots_push [] first = refl
slots_push (s ∷ ss) first = ap (put_first first s) (slots_push ss (first + 1))

-- the key of the item of some rank
abbrev pub nth_from : {T : Type 0} → ℕ → List (Option (Option T)) → ℕ → Option ℕ
nth_from first ss left = option_map (λ e. e.key) (slice_get (entries (from_slots first ss)) left)

-- the slots from one on are that one and the later ones
slots_next : {T : Type 0} (ss : List (Option (Option T))) (first i : ℕ) (x : Option (Option T)) → i < length ss → x ≡ get_or ss i x → from_slots (first + i) (drop i ss) ≡ put_first (first + i) x (from_slots (first + (i + 1)) (drop (i + 1) ss))
slots_next ss first i x h e =
    let next : first + i + 1 ≡ first + (i + 1) = omega arith in
    ap (from_slots (first + i)) (drop_more ss i x h) ∙ ap (λ y. put_first (first + i) y (from_slots (first + i + 1) (drop (i + 1) ss))) (sym e)
    ∙ ap (λ j. put_first (first + i) x (from_slots j (drop (i + 1) ss))) next

pub nth_here : {T : Type 0} (ss : List (Option (Option T))) (first i left n : ℕ) (x : Option (Option T)) → i < length ss → x ≡ get_or ss i x → n ≡ count_of (item_in x) → left < n → nth_from (first + i) (drop i ss) left ≡ Some (first + i)
nth_here {T} ss first i left n x h e is less = ap (λ ps. option_map (λ e. e.key) (slice_get (entries ps) left)) (slots_next ss first i x h e) ∙ by x (omega (arith, is, less))
  where
    by : (z : Option (Option T)) → left < count_of (item_in z) → option_map (λ e. e.key) (slice_get (entries (put_first (first + i) z (from_slots (first + (i + 1)) (drop (i + 1) ss)))) left) ≡ Some (first + i)
    by None less = absurd (omega (arith, less))
    by (Some None) less = absurd (omega (arith, less))
    by (Some (Some y)) less = let none : left ≡ 0 = omega (arith, less) in rw none refl

pub nth_later : {T : Type 0} (ss : List (Option (Option T))) (first i left n : ℕ) (x : Option (Option T)) → i < length ss → x ≡ get_or ss i x → n ≡ count_of (item_in x) → n ≤ left
    → nth_from (first + i) (drop i ss) left ≡ nth_from (first + (i + 1)) (drop (i + 1) ss) (left - n)
nth_later {T} ss first i left n x h e is most =
    ap (λ ps. option_map (λ e. e.key) (slice_get (entries ps) left)) (slots_next ss first i x h e) ∙ by x (omega (arith, is, most)) ∙ ap (λ m. nth_from (first + (i + 1)) (drop (i + 1) ss) (left - m)) (sym is)
  where
    by : (z : Option (Option T)) → count_of (item_in z) ≤ left
        → option_map (λ e. e.key) (slice_get (entries (put_first (first + i) z (from_slots (first + (i + 1)) (drop (i + 1) ss)))) left) ≡ nth_from (first + (i + 1)) (drop (i + 1) ss) (left - count_of (item_in z))
    by None most = let e : left ≡ left - 0 = omega arith in ap (nth_from (first + (i + 1)) (drop (i + 1) ss)) e
    by (Some None) most = let e : left ≡ left - 0 = omega arith in ap (nth_from (first + (i + 1)) (drop (i + 1) ss)) e
    by (Some (Some y)) most =
        let e : left ≡ suc (left - 1) = omega (arith, most) in
        ap (λ m. option_map (λ e. e.key) (slice_get (entries (put_first (first + i) (Some (Some y)) (from_slots (first + (i + 1)) (drop (i + 1) ss)))) m)) e

pub nth_end : {T : Type 0} (ss : List (Option (Option T))) (first i left : ℕ) → length ss ≤ i → nth_from first (drop i ss) left ≡ None
nth_end ss first i left h = ap (λ xs. nth_from first xs left) (drop_all i ss h)
