-- Items that stand by rank, whatever the order in which they came, and each under its word.
use Rattle.std.proofs.Common.{◌≡◌, ◌≢◌, ℕ, zero, suc, ◌+◌, ◌≤◌, ◌<◌, Bool, true, false, true≢false, ◌==◌, nat_lt, if◌then◌else◌, List, [], ◌∷◌, ◌++◌, length, take, remove, swap_remove, slice_index_or, slice_set, ◌-◌, Option, None, Some, refl, sym, ap, subst, ◌∙◌, arith}
use Rattle.std.proofs.lemmas.Bool.{eq-eqb, ltb-true, ltb-false, lt-ltb, le-ltb}
use Rattle.indexmap.specs.IndexMap.{set_value_at}
use Rattle.read_cache.specs.declared.slot.Slot.{Slot}
use Rattle.read_cache.specs.Slots.{put_by, put_some, sorted_by, IsAbsent, StandsAt}
use Rattle.read_cache.specs.Ages.{RisesBy}

-- the item under a word
abbrev pub item_of : {X : Type 0} → (X → ℕ) → List X → ℕ → Option X
item_of word [] w = None
item_of word (x ∷ xs) w = if word x == w then Some x else item_of word xs w

-- the items without it
abbrev pub without_item : {X : Type 0} → (X → ℕ) → List X → ℕ → List X
without_item word [] w = []
without_item word (x ∷ xs) w = if word x == w then xs else x ∷ without_item word xs w

-- an item is there or not
none_some : {X : Type 0} {x : X} → Some x ≡ None → true ≡ false
none_some e = cc

module _ {X : Type 0} (rank : X → ℕ) where
  -- what rises has its bounds in order
  rise_bound : (xs : List X) (low high : ℕ) → RisesBy rank low high xs → low ≤ high
  rise_bound [] low high r = r
  rise_bound (x ∷ xs) low high r = omega (arith, r.0, rise_bound xs (rank x + 1) high r.1)

  -- what rises with an item rises without it
  pub parts : (x : X) (xs : List X) (low high : ℕ) → RisesBy rank low high (put_by rank x xs) → (low ≤ rank x) × (rank x < high) × RisesBy rank low high xs
  parts x [] low high r = (r.0, omega (arith, r.1), omega (arith, r.0, r.1))
  parts x (y ∷ ys) low high r = by (nat_lt (rank x) (rank y)) (parts x ys (rank y + 1) high) r
    where
      by : (b : Bool) → (RisesBy rank (rank y + 1) high (put_by rank x ys) → (rank y + 1 ≤ rank x) × (rank x < high) × RisesBy rank (rank y + 1) high ys)
          → RisesBy rank low high (if b then x ∷ y ∷ ys else y ∷ put_by rank x ys) → (low ≤ rank x) × (rank x < high) × RisesBy rank low high (y ∷ ys)
      by true ih r = (r.0, omega (arith, r.1.0, rise_bound ys (rank y + 1) high r.1.1), (omega (arith, r.0, r.1.0), r.1.1))
      by false ih r = let p = ih r.1 in (omega (arith, r.0, p.0), p.1, (r.0, p.2))

  -- two items that rise have two ranks
  pub apart : (x y : X) (xs : List X) (low high : ℕ) → RisesBy rank low high (put_by rank x (put_by rank y xs)) → rank x ≢ rank y
  apart x y [] low high r e = by (nat_lt (rank x) (rank y)) r
    where
      by : (b : Bool) → RisesBy rank low high (if b then x ∷ y ∷ [] else y ∷ x ∷ []) → ⊥
      by true r = omega (arith, e, r.1.0)
      by false r = omega (arith, e, r.1.0)
  apart x y (z ∷ zs) low high r e = by (nat_lt (rank y) (rank z)) (λ s. apart x y zs (rank z + 1) high s e) r
    where
      front : (b : Bool) → RisesBy rank low high (if b then x ∷ y ∷ z ∷ zs else y ∷ put_by rank x (z ∷ zs)) → ⊥
      front true r = omega (arith, e, r.1.0)
      front false r = omega (arith, e, (parts x (z ∷ zs) (rank y + 1) high r.1).0)

      back : (b : Bool) → (RisesBy rank (rank z + 1) high (put_by rank x (put_by rank y zs)) → ⊥) → RisesBy rank low high (if b then x ∷ z ∷ put_by rank y zs else z ∷ put_by rank x (put_by rank y zs)) → ⊥
      back true ih r = omega (arith, e, r.1.0, (parts y zs (rank z + 1) high r.1.1).0)
      back false ih r = ih r.1

      by : (b : Bool) → (RisesBy rank (rank z + 1) high (put_by rank x (put_by rank y zs)) → ⊥) → RisesBy rank low high (put_by rank x (if b then y ∷ z ∷ zs else z ∷ put_by rank y zs)) → ⊥
      by true ih r = front (nat_lt (rank x) (rank y)) r
      by false ih r = back (nat_lt (rank x) (rank z)) ih r

  -- items of two ranks stand by rank whichever comes first
  pub either : (x y : X) (zs : List X) → rank x < rank y → put_by rank x (put_by rank y zs) ≡ put_by rank y (put_by rank x zs)
  either x y [] l = rw (lt-ltb (rank x) (rank y) l, le-ltb (rank y) (rank x) (omega (arith, l))) refl
  either x y (z ∷ zs) l = by (nat_lt (rank x) (rank z)) (nat_lt (rank y) (rank z)) refl refl (either x y zs l)
    where
      first : nat_lt (rank x) (rank y) ≡ true
      first = lt-ltb (rank x) (rank y) l

      second : nat_lt (rank y) (rank x) ≡ false
      second = le-ltb (rank y) (rank x) (omega (arith, l))

      by : (a b : Bool) → nat_lt (rank x) (rank z) ≡ a → nat_lt (rank y) (rank z) ≡ b → put_by rank x (put_by rank y zs) ≡ put_by rank y (put_by rank x zs)
          → put_by rank x (if b then y ∷ z ∷ zs else z ∷ put_by rank y zs) ≡ put_by rank y (if a then x ∷ z ∷ zs else z ∷ put_by rank x zs)
      by true true p q ih = rw (first, second, q) refl
      by true false p q ih = rw (p, second, q) refl
      by false true p q ih = absurd (omega (arith, l, ltb-false (rank x) (rank z) p, ltb-true (rank y) (rank z) q))
      by false false p q ih = rw (p, q) (ap (λ xs. z ∷ xs) ih)

  -- the same of any two
  put_swap : (x y : X) (zs : List X) → rank x ≢ rank y → put_by rank x (put_by rank y zs) ≡ put_by rank y (put_by rank x zs)
  put_swap x y zs d = by (nat_lt (rank x) (rank y)) refl
    where
      by : (b : Bool) → nat_lt (rank x) (rank y) ≡ b → put_by rank x (put_by rank y zs) ≡ put_by rank y (put_by rank x zs)
      by true p = either x y zs (ltb-true (rank x) (rank y) p)
      by false p = sym (either y x zs (omega (arith, d, ltb-false (rank x) (rank y) p)))

  -- what rises with an item or none rises without it
  rises_some : (o : Option X) (xs : List X) (low high : ℕ) → RisesBy rank low high (put_some rank o xs) → RisesBy rank low high xs
  rises_some None xs low high r = r
  rises_some (Some x) xs low high r = (parts x xs low high r).2

  -- items or none stand by rank whichever comes first
  some_swap : (a b : Option X) (xs : List X) (low high : ℕ) → RisesBy rank low high (put_some rank a (put_some rank b xs)) → put_some rank b (put_some rank a xs) ≡ put_some rank a (put_some rank b xs)
  some_swap None b xs low high r = refl
  some_swap (Some x) None xs low high r = refl
  some_swap (Some x) (Some y) xs low high r = sym (put_swap x y xs (apart x y xs low high r))

  -- an item of the highest rank goes last
  pub put_last : (x : X) (xs : List X) (low : ℕ) → RisesBy rank low (rank x) xs → put_by rank x xs ≡ xs ++ x ∷ []
  put_last x [] low r = refl
  put_last x (y ∷ ys) low r =
      let l : rank y + 1 ≤ rank x = rise_bound ys (rank y + 1) (rank x) r.1 in
      rw (le-ltb (rank x) (rank y) (omega (arith, l))) (ap (λ zs. y ∷ zs) (put_last x ys (rank y + 1) r.1))

  -- an item of the highest rank goes last, and all rises
  pub push_rises : (x : X) (xs : List X) (low : ℕ) → low ≤ rank x → RisesBy rank low (rank x) xs → RisesBy rank low (rank x + 1) (xs ++ x ∷ [])
  push_rises x [] low l r = (l, omega arith)
  push_rises x (y ∷ ys) low l r = (r.0, push_rises x ys (rank y + 1) (rise_bound ys (rank y + 1) (rank x) r.1) r.1)

  -- what rises does so without an item
  lower : (xs : List X) (low high below : ℕ) → below ≤ low → RisesBy rank low high xs → RisesBy rank below high xs
  lower [] low high below l r = omega (arith, l, r)
  lower (x ∷ xs) low high below l r = (omega (arith, l, r.0), r.1)

  pub without_rises : (word : X → ℕ) (xs : List X) (low high w : ℕ) → RisesBy rank low high xs → RisesBy rank low high (without_item word xs w)
  without_rises word [] low high w r = r
  without_rises word (x ∷ xs) low high w r = by (word x == w) (without_rises word xs (rank x + 1) high w r.1)
    where
      by : (b : Bool) → RisesBy rank (rank x + 1) high (without_item word xs w) → RisesBy rank low high (if b then xs else x ∷ without_item word xs w)
      by true ih = lower xs (rank x + 1) high low (omega (arith, r.0)) r.1
      by false ih = (r.0, ih)

  -- an item of the lowest rank goes first
  put_first : (x : X) (xs : List X) (low high : ℕ) → rank x < low → RisesBy rank low high xs → put_by rank x xs ≡ x ∷ xs
  put_first x [] low high l r = refl
  put_first x (y ∷ ys) low high l r = rw (lt-ltb (rank x) (rank y) (omega (arith, l, r.0))) refl

  -- an item that goes before the last one
  put_push : (x y : X) (xs : List X) → rank x < rank y → put_by rank x (xs ++ y ∷ []) ≡ put_by rank x xs ++ y ∷ []
  put_push x y [] l = rw (lt-ltb (rank x) (rank y) l) refl
  put_push x y (z ∷ zs) l = by (nat_lt (rank x) (rank z)) (put_push x y zs l)
    where
      by : (b : Bool) → put_by rank x (zs ++ y ∷ []) ≡ put_by rank x zs ++ y ∷ [] → (if b then x ∷ z ∷ (zs ++ y ∷ []) else z ∷ put_by rank x (zs ++ y ∷ [])) ≡ (if b then x ∷ z ∷ zs else z ∷ put_by rank x zs) ++ y ∷ []
      by true ih = refl
      by false ih = ap (λ xs. z ∷ xs) ih

  -- the same of an item or none
  some_push : (o : Option X) (y : X) (xs : List X) (low : ℕ) → RisesBy rank low (rank y) (put_some rank o xs) → put_some rank o (xs ++ y ∷ []) ≡ put_some rank o xs ++ y ∷ []
  some_push None y xs low r = refl
  some_push (Some x) y xs low r = put_push x y xs (parts x xs low (rank y) r).1

  -- one item more
  pub put_length : (x : X) (xs : List X) → length (put_by rank x xs) ≡ length xs + 1
  put_length x [] = refl
  put_length x (y ∷ ys) = by (nat_lt (rank x) (rank y)) (put_length x ys)
    where
      by : (b : Bool) → length (put_by rank x ys) ≡ length ys + 1 → length (if b then x ∷ y ∷ ys else y ∷ put_by rank x ys) ≡ suc (length ys) + 1
      by true ih = omega arith
      by false ih = omega (arith, ih)

  module _ (word : X → ℕ) (w : ℕ) where
    -- an item of another word changes nothing under this one
    pub of_other : (x : X) (xs : List X) → (word x == w) ≡ false → item_of word (put_by rank x xs) w ≡ item_of word xs w
    of_other x [] p = rw p refl
    of_other x (y ∷ ys) p = by (nat_lt (rank x) (rank y)) (of_other x ys p)
      where
        by : (b : Bool) → item_of word (put_by rank x ys) w ≡ item_of word ys w → item_of word (if b then x ∷ y ∷ ys else y ∷ put_by rank x ys) w ≡ item_of word (y ∷ ys) w
        by true ih = rw p refl
        by false ih = ap (λ o. if word y == w then Some y else o) ih

    -- the item of a word goes, and one of another word stays
    without_other : (x : X) (xs : List X) (low high : ℕ) → RisesBy rank low high xs → (word x == w) ≡ false → without_item word (put_by rank x xs) w ≡ put_by rank x (without_item word xs w)
    without_other x [] low high r p = rw p refl
    without_other x (y ∷ ys) low high r p = by (nat_lt (rank x) (rank y)) (word y == w) refl refl (without_other x ys (rank y + 1) high r.1 p)
      where
        by : (a b : Bool) → nat_lt (rank x) (rank y) ≡ a → (word y == w) ≡ b → without_item word (put_by rank x ys) w ≡ put_by rank x (without_item word ys w)
            → without_item word (if a then x ∷ y ∷ ys else y ∷ put_by rank x ys) w ≡ put_by rank x (if b then ys else y ∷ without_item word ys w)
        by true true q d ih = rw (p, d) (sym (put_first x ys (rank y + 1) high (omega (arith, ltb-true (rank x) (rank y) q)) r.1))
        by true false q d ih = rw (p, d, q) refl
        by false true q d ih = rw d refl
        by false false q d ih = rw (d, q) (ap (λ zs. y ∷ zs) ih)

    -- a word that has no item is no item's
    pub lacks : (y : X) (ys : List X) → item_of word (y ∷ ys) w ≡ None → ((word y == w) ≡ false) × (item_of word ys w ≡ None)
    lacks y ys h = by (word y == w) refl
      where
        by : (b : Bool) → (word y == w) ≡ b → ((word y == w) ≡ false) × (item_of word ys w ≡ None)
        by true p = absurd (true≢false (none_some (rw p at h)))
        by false p = (p, (rw p at h))

    -- the one item of a word is found
    of_here : (x : X) (xs : List X) → (word x == w) ≡ true → item_of word xs w ≡ None → item_of word (put_by rank x xs) w ≡ Some x
    of_here x [] p h = rw p refl
    of_here x (y ∷ ys) p h = by (nat_lt (rank x) (rank y)) (of_here x ys p (lacks y ys h).1)
      where
        by : (b : Bool) → item_of word (put_by rank x ys) w ≡ Some x → item_of word (if b then x ∷ y ∷ ys else y ∷ put_by rank x ys) w ≡ Some x
        by true ih = rw p refl
        by false ih = rw (lacks y ys h).0 ih

    -- and goes
    without_here : (x : X) (xs : List X) → (word x == w) ≡ true → item_of word xs w ≡ None → without_item word (put_by rank x xs) w ≡ xs
    without_here x [] p h = rw p refl
    without_here x (y ∷ ys) p h = by (nat_lt (rank x) (rank y)) (without_here x ys p (lacks y ys h).1)
      where
        by : (b : Bool) → without_item word (put_by rank x ys) w ≡ ys → without_item word (if b then x ∷ y ∷ ys else y ∷ put_by rank x ys) w ≡ y ∷ ys
        by true ih = rw p refl
        by false ih = rw (lacks y ys h).0 (ap (λ zs. y ∷ zs) ih)

-- what the entries of a map give: an item or none each, which has the word of its entry
module _ {X : Type 0} (rank word : X → ℕ) (of : ℕ → Slot → Option X) (named : (w : ℕ) (slot : Slot) (x : X) → of w slot ≡ Some x → word x ≡ w) where
  -- what all entries give
  abbrev given : List (ℕ × Slot) → List X
  given es = sorted_by rank (λ e. of e.0 e.1) es

  -- an entry of another word, and what its item changes
  some_other : (k w : ℕ) (slot : Slot) (xs : List X) → (k == w) ≡ false → item_of word (put_some rank (of k slot) xs) w ≡ item_of word xs w
  some_other k w slot xs p = by (of k slot) refl
    where
      by : (o : Option X) → of k slot ≡ o → item_of word (put_some rank o xs) w ≡ item_of word xs w
      by None e = refl
      by (Some x) e = of_other rank word w x xs (ap (λ n. n == w) (named k slot x e) ∙ p)

  -- and which items stay where one goes
  some_without : (k w : ℕ) (slot : Slot) (xs : List X) (low high : ℕ) → RisesBy rank low high xs → (k == w) ≡ false → without_item word (put_some rank (of k slot) xs) w ≡ put_some rank (of k slot) (without_item word xs w)
  some_without k w slot xs low high r p = by (of k slot) refl
    where
      by : (o : Option X) → of k slot ≡ o → without_item word (put_some rank o xs) w ≡ put_some rank o (without_item word xs w)
      by None e = refl
      by (Some x) e = without_other rank word w x xs low high r (ap (λ n. n == w) (named k slot x e) ∙ p)

  -- a word without an entry has no item
  pub none_given : (es : List (ℕ × Slot)) (w : ℕ) → IsAbsent es w → item_of word (given es) w ≡ None
  none_given [] w h = refl
  none_given (e ∷ es) w h = some_other e.0 w e.1 (given es) h.0 ∙ none_given es w h.1

  -- nor has one whose entry gives none
  pub lacks_given : (es : List (ℕ × Slot)) (at w : ℕ) (slot : Slot) → StandsAt es w at slot → of w slot ≡ None → item_of word (given es) w ≡ None
  lacks_given [] at w slot h g = absurd (true≢false h)
  lacks_given (e ∷ es) zero w slot h g = rw (h.0, h.1, g) (none_given es w h.2)
  lacks_given (e ∷ es) (suc at) w slot h g = some_other e.0 w e.1 (given es) h.0 ∙ lacks_given es at w slot h.1 g

  -- the item of an entry is the one under its word
  pub item_given : (es : List (ℕ × Slot)) (at w : ℕ) (slot : Slot) (x : X) → StandsAt es w at slot → of w slot ≡ Some x → item_of word (given es) w ≡ Some x
  item_given [] at w slot x h g = absurd (true≢false h)
  item_given (e ∷ es) zero w slot x h g = rw (h.0, h.1, g) (of_here rank word w x (given es) (eq-eqb (word x) w (named w slot x g)) (none_given es w h.2))
  item_given (e ∷ es) (suc at) w slot x h g = some_other e.0 w e.1 (given es) h.0 ∙ item_given es at w slot x h.1 g

  -- an entry that gave none and gives none
  pub set_none : (es : List (ℕ × Slot)) (at w : ℕ) (slot new : Slot) → StandsAt es w at slot → of w slot ≡ None → of w new ≡ None → given (set_value_at es at new) ≡ given es
  set_none [] at w slot new h g k = absurd (true≢false h)
  set_none (e ∷ es) zero w slot new h g k = rw (h.0, h.1, g, k) refl
  set_none (e ∷ es) (suc at) w slot new h g k = ap (put_some rank (of e.0 e.1)) (set_none es at w slot new h.1 g k)

  -- an entry that gave an item and gives none
  pub set_gone : (es : List (ℕ × Slot)) (at w : ℕ) (slot new : Slot) (x : X) (low high : ℕ) → RisesBy rank low high (given es) → StandsAt es w at slot → of w slot ≡ Some x → of w new ≡ None
      → given (set_value_at es at new) ≡ without_item word (given es) w
  set_gone [] at w slot new x low high r h g k = absurd (true≢false h)
  set_gone (e ∷ es) zero w slot new x low high r h g k = rw (h.0, h.1, g, k) (sym (without_here rank word w x (given es) (eq-eqb (word x) w (named w slot x g)) (none_given es w h.2)))
  set_gone (e ∷ es) (suc at) w slot new x low high r h g k =
      let s = rises_some rank (of e.0 e.1) (given es) low high r in
      ap (put_some rank (of e.0 e.1)) (set_gone es at w slot new x low high s h.1 g k) ∙ sym (some_without e.0 w e.1 (given es) low high s h.0)

  -- an entry that gave none and gives an item of the highest rank
  pub set_last : (es : List (ℕ × Slot)) (at w : ℕ) (slot new : Slot) (x : X) (low : ℕ) → RisesBy rank low (rank x) (given es) → StandsAt es w at slot → of w slot ≡ None → of w new ≡ Some x
      → given (set_value_at es at new) ≡ given es ++ x ∷ []
  set_last [] at w slot new x low r h g k = absurd (true≢false h)
  set_last (e ∷ es) zero w slot new x low r h g k =
      let s = rises_some rank (of e.0 e.1) (given es) low (rank x) r in
      rw (h.0, h.1, g, k) (put_last rank x (given es) low s)
  set_last (e ∷ es) (suc at) w slot new x low r h g k =
      ap (put_some rank (of e.0 e.1)) (set_last es at w slot new x low (rises_some rank (of e.0 e.1) (given es) low (rank x) r) h.1 g k) ∙ some_push rank (of e.0 e.1) x (given es) low r

  -- an entry more, which gives none, or an item of the highest rank
  pub push_none : (es : List (ℕ × Slot)) (w : ℕ) (new : Slot) → of w new ≡ None → given (es ++ (w, new) ∷ []) ≡ given es
  push_none [] w new k = rw k refl
  push_none (e ∷ es) w new k = ap (put_some rank (of e.0 e.1)) (push_none es w new k)

  pub push_last : (es : List (ℕ × Slot)) (w : ℕ) (new : Slot) (x : X) (low : ℕ) → RisesBy rank low (rank x) (given es) → of w new ≡ Some x → given (es ++ (w, new) ∷ []) ≡ given es ++ x ∷ []
  push_last [] w new x low r k = rw k refl
  push_last (e ∷ es) w new x low r k =
      ap (put_some rank (of e.0 e.1)) (push_last es w new x low (rises_some rank (of e.0 e.1) (given es) low (rank x) r) k) ∙ some_push rank (of e.0 e.1) x (given es) low r

  -- an entry that is taken out
  remove_none : (es : List (ℕ × Slot)) (at w : ℕ) (slot : Slot) → StandsAt es w at slot → of w slot ≡ None → given (remove es at) ≡ given es
  remove_none [] at w slot h g = absurd (true≢false h)
  remove_none (e ∷ es) zero w slot h g = rw (h.0, h.1, g) refl
  remove_none (e ∷ es) (suc at) w slot h g = ap (put_some rank (of e.0 e.1)) (remove_none es at w slot h.1 g)

  -- and its item goes
  remove_gone : (es : List (ℕ × Slot)) (at w : ℕ) (slot : Slot) (x : X) (low high : ℕ) → RisesBy rank low high (given es) → StandsAt es w at slot → of w slot ≡ Some x → given (remove es at) ≡ without_item word (given es) w
  remove_gone [] at w slot x low high r h g = absurd (true≢false h)
  remove_gone (e ∷ es) zero w slot x low high r h g = rw (h.0, h.1, g) (sym (without_here rank word w x (given es) (eq-eqb (word x) w (named w slot x g)) (none_given es w h.2)))
  remove_gone (e ∷ es) (suc at) w slot x low high r h g =
      let s = rises_some rank (of e.0 e.1) (given es) low high r in
      ap (put_some rank (of e.0 e.1)) (remove_gone es at w slot x low high s h.1 g) ∙ sym (some_without e.0 w e.1 (given es) low high s h.0)

  -- the last entry stands as well first
  last_front : (e : ℕ × Slot) (es : List (ℕ × Slot)) (d : ℕ × Slot) (low high : ℕ) → RisesBy rank low high (given (e ∷ es))
      → given (slice_index_or (e ∷ es) (length es) d ∷ take (length es) (e ∷ es)) ≡ given (e ∷ es)
  last_front e [] d low high r = refl
  last_front e (f ∷ es) d low high r =
      let last = slice_index_or (f ∷ es) (length es) d in
      let front = given (take (length es) (f ∷ es)) in
      let ih : put_some rank (of last.0 last.1) front ≡ given (f ∷ es) = last_front f es d low high (rises_some rank (of e.0 e.1) (given (f ∷ es)) low high r) in
      some_swap rank (of e.0 e.1) (of last.0 last.1) front low high (subst (λ xs. RisesBy rank low high (put_some rank (of e.0 e.1) xs)) (sym ih) r) ∙ ap (put_some rank (of e.0 e.1)) ih

  -- the first so many, with the last of all in a place
  abbrev ended : ℕ → List (ℕ × Slot) → ℕ → ℕ × Slot → List (ℕ × Slot)
  ended n es at d = take n (slice_set es at (slice_index_or es n d))

  -- where the last comes in a place, this is as if the place were left out
  swapped : (es : List (ℕ × Slot)) (at : ℕ) (d : ℕ × Slot) (low high : ℕ) → at < length es → RisesBy rank low high (given (remove es at)) → given (swap_remove es at d) ≡ given (remove es at)
  swapped [] at d low high l r = absurd (omega (arith, l))
  swapped (e ∷ []) zero d low high l r = refl
  swapped (e ∷ f ∷ es) zero d low high l r =
      let n : length (e ∷ f ∷ es) - 1 ≡ suc (length es) = omega arith in
      ap (λ k. given (ended k (e ∷ f ∷ es) zero d)) n ∙ last_front f es d low high r
  swapped (e ∷ []) (suc at) d low high l r = absurd (omega (arith, l))
  swapped (e ∷ f ∷ es) (suc at) d low high l r =
      let n : length (e ∷ f ∷ es) - 1 ≡ suc (length es) = omega arith in
      let m : length es ≡ length (f ∷ es) - 1 = omega arith in
      ap (λ k. given (ended k (e ∷ f ∷ es) (suc at) d)) n ∙ ap (λ k. given (e ∷ ended k (f ∷ es) at d)) m
      ∙ ap (put_some rank (of e.0 e.1)) (swapped (f ∷ es) at d low high (omega (arith, l)) (rises_some rank (of e.0 e.1) (given (remove (f ∷ es) at)) low high r))

  -- an entry in whose place the last one comes
  pub swap_none : (es : List (ℕ × Slot)) (at w : ℕ) (slot : Slot) (d : ℕ × Slot) (low high : ℕ) → at < length es → RisesBy rank low high (given es) → StandsAt es w at slot → of w slot ≡ None → given (swap_remove es at d) ≡ given es
  swap_none es at w slot d low high l r h g =
      let e = remove_none es at w slot h g in
      swapped es at d low high l (subst (RisesBy rank low high) (sym e) r) ∙ e

  -- and its item goes
  pub swap_gone : (es : List (ℕ × Slot)) (at w : ℕ) (slot : Slot) (x : X) (d : ℕ × Slot) (low high : ℕ) → at < length es → RisesBy rank low high (given es) → StandsAt es w at slot → of w slot ≡ Some x
      → given (swap_remove es at d) ≡ without_item word (given es) w
  swap_gone es at w slot x d low high l r h g =
      let e = remove_gone es at w slot x low high r h g in
      swapped es at d low high l (subst (RisesBy rank low high) (sym e) (without_rises rank word (given es) low high w r)) ∙ e
