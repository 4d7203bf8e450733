-- What the entries of a cache's map stand for, once one of them is found or changed.
use Rattle.std.proofs.Common.{nat_lt, ◌≡◌, ℕ, zero, suc, ◌+◌, ◌-◌, ◌^◌, ◌<◌, Bool, true, false, true≢false, is_some, ◌==◌, cond, ◌||◌, List, [], ◌∷◌, ◌++◌, length, slice_get, swap_remove, Option, None, Some, IfSome, option_map, refl, sym, ap, ◌∙◌, subst, arith}
use Rattle.std.specs.List.{AllByRecursion, IsDistinct}
use Rattle.std.specs.Map.{keys_of, lookup, lookup_key}
use Rattle.std.proofs.lemmas.Bool.{eq-eqb, eqb-true, ltb-true, or_right}
use Rattle.std.proofs.lemmas.Option.{slice_get_within}
use Rattle.heap_partition.specs.declared.value.Cell.{Cell}
use Rattle.indexmap.specs.IndexMap.{set_value_at, insert_entry}
use Rattle.read_cache.specs.declared.slot.Slot.{Slot}
use Rattle.read_cache.specs.declared.slot.Slot.TheVariants.{Room, Held}
use Rattle.read_cache.specs.Ages.{AgesRise, RisesBy}
use Rattle.read_cache.specs.Cache.{Copy, copy_of, is_cached, hit, users, can_pin, can_unpin, can_evict, evict, fill, without_copy, oldest_unused}
use Rattle.read_cache.specs.Slots.{Aged, Numbered, put_by, held, numbered, held_in, numbered_in, copies_of, copies_in, words_of, rooms_in, IsAbsent, StandsAt}
use Rattle.read_cache.specs.View.{is_among, without_room}
use Rattle.read_cache.proofs.AgeLemmas.{aged, aged_of, aged_users, without_aged, copies_push}
use Rattle.read_cache.proofs.OrderLemmas as order

abbrev Entries : Type 0
Entries = List (ℕ × Slot)

abbrev pub copy : ℕ → Cell → ℕ → Copy
copy w cell users = record { word = w; cell = cell; users = users }

none_is_some : {X : Type 0} {x : X} → None ≡ Some x → true ≡ false
none_is_some e = cc

ap₁ : {e : ℕ × Slot} {w : ℕ} {slot : Slot} → Some e ≡ Some (w, slot) → e.1 ≡ slot
ap₁ h = cc

ap₀ : {e : ℕ × Slot} {w : ℕ} {slot : Slot} → Some e ≡ Some (w, slot) → e.0 ≡ w
ap₀ h = cc

other : (w k : ℕ) → (w == k) ≡ false → (k == w) ≡ false
other w k h = by (k == w) refl
  where
    by : (b : Bool) → (k == w) ≡ b → b ≡ false
    by true p = absurd (true≢false (sym (eq-eqb w k (sym (eqb-true k w p))) ∙ h))
    by false p = refl

same : (w : ℕ) → (w == w) ≡ true
same w = eq-eqb w w refl

-- the entry that stands at a place is found there
pub found_at : (w : ℕ) (es : Entries) (at : ℕ) (slot : Slot) → StandsAt es w at slot → slice_get es at ≡ Some (w, slot)
found_at w [] at slot h = absurd (true≢false h)
found_at w (e ∷ es) zero slot h = rw (← h.0, ← h.1) refl
found_at w (e ∷ es) (suc at) slot h = found_at w es at slot h.1

-- what is taken out of a place is the entry that stands there
pub taken_out : (es fs : Entries) (at w : ℕ) (slot : Slot) (o : Option (ℕ × Slot)) → StandsAt es w at slot → o ≡ slice_get es at → IfSome o (λ p. fs ≡ swap_remove es at p) → fs ≡ swap_remove es at (w, slot)
taken_out es fs at w slot None h q s = absurd (true≢false (none_is_some (q ∙ found_at w es at slot h)))
taken_out es fs at w slot (Some p) h q s = let m : Some p ≡ Some (w, slot) = q ∙ found_at w es at slot h in let e : p ≡ (w, slot) = cc in s ∙ ap (swap_remove es at) e

found_within : (w : ℕ) (es : Entries) (at : ℕ) (slot : Slot) → StandsAt es w at slot → at < length es
found_within w es at slot h = slice_get_within es at _ (found_at w es at slot h)

abbrev age : Aged → ℕ
age h = h.age

abbrev pub number : Numbered → ℕ
number r = r.number

abbrev held_word : Aged → ℕ
held_word h = h.word

abbrev room_word : Numbered → ℕ
room_word r = r.word

held_named : (w : ℕ) (slot : Slot) (h : Aged) → held w slot ≡ Some h → h.word ≡ w
held_named w (Room n) h e = absurd (true≢false (none_is_some e))
held_named w (Held c u a) h e = let s : aged w c u a ≡ h = cc in ap held_word (sym s)

room_named : (w : ℕ) (slot : Slot) (r : Numbered) → numbered w slot ≡ Some r → r.word ≡ w
room_named w (Room n) r e = let s : record { word = w; number = n } ≡ r = cc in ap room_word (sym s)
room_named w (Held c u a) r e = absurd (true≢false (none_is_some e))

-- copies and rooms by their words
copy_item : (hs : List Aged) (w : ℕ) → copy_of (copies_of hs) w ≡ option_map (λ h. copy h.word h.cell h.users) (aged_of hs w)
copy_item [] w = refl
copy_item (h ∷ hs) w = by (h.word == w) (copy_item hs w)
  where
    by : (b : Bool) → copy_of (copies_of hs) w ≡ option_map (λ g. copy g.word g.cell g.users) (aged_of hs w)
        → cond b (Some (copy h.word h.cell h.users)) (copy_of (copies_of hs) w) ≡ option_map (λ g. copy g.word g.cell g.users) (cond b (Some h) (aged_of hs w))
    by true ih = refl
    by false ih = ih

room_item : (rs : List Numbered) (w : ℕ) → is_among (words_of rs) w ≡ is_some (order.item_of room_word rs w)
room_item [] w = refl
room_item (r ∷ rs) w = by (r.word == w) (room_item rs w)
  where
    by : (b : Bool) → is_among (words_of rs) w ≡ is_some (order.item_of room_word rs w) → (b || is_among (words_of rs) w) ≡ is_some (cond b (Some r) (order.item_of room_word rs w))
    by true ih = refl
    by false ih = ih

words_without : (rs : List Numbered) (w : ℕ) → words_of (order.without_item room_word rs w) ≡ without_room (words_of rs) w
words_without [] w = refl
words_without (r ∷ rs) w = by (r.word == w) (words_without rs w)
  where
    by : (b : Bool) → words_of (order.without_item room_word rs w) ≡ without_room (words_of rs) w → words_of (cond b rs (r ∷ order.without_item room_word rs w)) ≡ cond b (words_of rs) (r.word ∷ without_room (words_of rs) w)
    by true ih = refl
    by false ih = ap (λ ws. r.word ∷ ws) ih

words_push : (rs : List Numbered) (r : Numbered) → words_of (rs ++ r ∷ []) ≡ words_of rs ++ r.word ∷ []
words_push [] r = refl
words_push (q ∷ rs) r = ap (λ ws. q.word ∷ ws) (words_push rs r)

-- a copy gets so many users where it stands
users_other : (g : Aged) (hs : List Aged) (w n : ℕ) → (g.word == w) ≡ false → aged_users (put_by age g hs) w n ≡ put_by age g (aged_users hs w n)
users_other g [] w n p = rw p refl
users_other g (h ∷ hs) w n p = by (nat_lt g.age h.age) (h.word == w) refl refl (users_other g hs w n p)
  where
    by : (a b : Bool) → nat_lt g.age h.age ≡ a → (h.word == w) ≡ b → aged_users (put_by age g hs) w n ≡ put_by age g (aged_users hs w n)
        → aged_users (cond a (g ∷ h ∷ hs) (h ∷ put_by age g hs)) w n ≡ put_by age g (cond b (record h { users = n } ∷ hs) (h ∷ aged_users hs w n))
    by true true q d ih = rw (p, d, q) refl
    by true false q d ih = rw (p, d, q) refl
    by false true q d ih = rw (d, q) refl
    by false false q d ih = rw (d, q) (ap (λ gs. h ∷ gs) ih)

users_here : (w : ℕ) (c : Cell) (u a n : ℕ) (hs : List Aged) → aged_of hs w ≡ None → put_by age (aged w c n a) hs ≡ aged_users (put_by age (aged w c u a) hs) w n
users_here w c u a n [] h = rw (same w) refl
users_here w c u a n (g ∷ hs) h = by (nat_lt a g.age) (users_here w c u a n hs (order.lacks age held_word w g hs h).1)
  where
    by : (b : Bool) → put_by age (aged w c n a) hs ≡ aged_users (put_by age (aged w c u a) hs) w n
        → cond b (aged w c n a ∷ g ∷ hs) (g ∷ put_by age (aged w c n a) hs) ≡ aged_users (cond b (aged w c u a ∷ g ∷ hs) (g ∷ put_by age (aged w c u a) hs)) w n
    by true ih = rw (same w) refl
    by false ih = rw (order.lacks age held_word w g hs h).0 (ap (λ gs. g ∷ gs) ih)

module _ (w : ℕ) where
  -- a word without an entry has neither a copy nor room
  pub no_copy : (es : Entries) → IsAbsent es w → copy_of (copies_in es) w ≡ None
  no_copy es h = rw (copy_item (held_in es) w, order.none_given age held_word held held_named es w h) refl

  pub no_room : (es : Entries) → IsAbsent es w → is_among (rooms_in es) w ≡ false
  no_room es h = rw (room_item (numbered_in es) w, order.none_given number room_word numbered room_named es w h) refl

  -- a copy that is found is the one under the word, and the word has no room beside it
  pub held_aged : (es : Entries) (at : ℕ) (c : Cell) (u a : ℕ) → StandsAt es w at (Held c u a) → aged_of (held_in es) w ≡ Some (aged w c u a)
  held_aged es at c u a h = order.item_given age held_word held held_named es at w (Held c u a) (aged w c u a) h refl

  pub held_copy : (es : Entries) (at : ℕ) (c : Cell) (u a : ℕ) → StandsAt es w at (Held c u a) → copy_of (copies_in es) w ≡ Some (copy w c u)
  held_copy es at c u a h = rw (copy_item (held_in es) w, held_aged es at c u a h) refl

  pub held_no_room : (es : Entries) (at : ℕ) (c : Cell) (u a : ℕ) → StandsAt es w at (Held c u a) → is_among (rooms_in es) w ≡ false
  held_no_room es at c u a h = rw (room_item (numbered_in es) w, order.lacks_given number room_word numbered room_named es at w (Held c u a) h refl) refl

  -- room that is found is the word's, and no copy is under the word
  pub room_no_copy : (es : Entries) (at n : ℕ) → StandsAt es w at (Room n) → copy_of (copies_in es) w ≡ None
  room_no_copy es at n h = rw (copy_item (held_in es) w, order.lacks_given age held_word held held_named es at w (Room n) h refl) refl

  pub room_is_there : (es : Entries) (at n : ℕ) → StandsAt es w at (Room n) → is_among (rooms_in es) w ≡ true
  room_is_there es at n h = rw (room_item (numbered_in es) w, order.item_given number room_word numbered room_named es at w (Room n) (record { word = w; number = n }) h refl) refl

  -- a word that has an entry has one of them
  pub is_one : (es : Entries) (at : ℕ) (slot : Slot) → StandsAt es w at slot → (is_cached (copies_in es) w || is_among (rooms_in es) w) ≡ true
  is_one es at (Room n) h = or_right (is_cached (copies_in es) w) (is_among (rooms_in es) w) (room_is_there es at n h)
  is_one es at (Held c u a) h = rw (held_copy es at c u a h) refl

  -- a copy gets so many users
  pub users_set : (es : Entries) (at : ℕ) (c : Cell) (u a n : ℕ) → StandsAt es w at (Held c u a) → held_in (set_value_at es at (Held c n a)) ≡ aged_users (held_in es) w n
  users_set [] at c u a n h = absurd (true≢false h)
  users_set (e ∷ es) zero c u a n h = rw (h.1, h.0) (users_here w c u a n (held_in es) (order.none_given age held_word held held_named es w h.2))
  users_set ((k, Room m) ∷ es) (suc at) c u a n h = users_set es at c u a n h.1
  users_set ((k, Held d v b) ∷ es) (suc at) c u a n h = ap (put_by age (aged k d v b)) (users_set es at c u a n h.1) ∙ sym (users_other (aged k d v b) (held_in es) w n h.0)

  pub rooms_stay : (es : Entries) (at : ℕ) (c : Cell) (u a n : ℕ) → StandsAt es w at (Held c u a) → numbered_in (set_value_at es at (Held c n a)) ≡ numbered_in es
  rooms_stay es at c u a n h = order.set_none number room_word numbered room_named es at w (Held c u a) (Held c n a) h refl refl

  -- a copy goes, and the last entry comes in its place
  pub copy_goes : (es : Entries) (at : ℕ) (c : Cell) (u a next : ℕ) (d : ℕ × Slot) → AgesRise 0 next (held_in es) → StandsAt es w at (Held c u a) → held_in (swap_remove es at d) ≡ without_aged (held_in es) w
  copy_goes es at c u a next d r h = order.swap_gone age held_word held held_named es at w (Held c u a) (aged w c u a) d 0 next (found_within w es at (Held c u a) h) r h refl

  pub rooms_left : (es : Entries) (at : ℕ) (c : Cell) (u a high : ℕ) (d : ℕ × Slot) → RisesBy number 0 high (numbered_in es) → StandsAt es w at (Held c u a) → numbered_in (swap_remove es at d) ≡ numbered_in es
  rooms_left es at c u a high d r h = order.swap_none number room_word numbered room_named es at w (Held c u a) d 0 high (found_within w es at (Held c u a) h) r h refl

  -- a new key goes last
  pub entered : (es : Entries) (v : Slot) → lookup (λ k. w == k) es ≡ None → insert_entry (λ x y. x == y) es w v ≡ es ++ (w, v) ∷ []
  entered [] v h = refl
  entered (e ∷ es) v h = by (w == e.0) refl (entered es v)
    where
      by : (b : Bool) → (w == e.0) ≡ b → (lookup (λ k. w == k) es ≡ None → insert_entry (λ x y. x == y) es w v ≡ es ++ (w, v) ∷ []) → insert_entry (λ x y. x == y) (e ∷ es) w v ≡ e ∷ (es ++ (w, v) ∷ [])
      by true p ih = let m : Some e.1 ≡ None = (rw p at h) in absurd (true≢false (none_is_some (sym m)))
      by false p ih = rw p (ap (λ xs. e ∷ xs) (ih (rw p at h)))

  pub fill_new : (cs : List Copy) (cell : Cell) → copy_of cs w ≡ None → fill cs w cell ≡ cs ++ copy w cell 0 ∷ []
  fill_new [] cell h = refl
  fill_new (c ∷ cs) cell h = by (c.word == w) refl (fill_new cs cell)
    where
      by : (b : Bool) → (c.word == w) ≡ b → (copy_of cs w ≡ None → fill cs w cell ≡ cs ++ copy w cell 0 ∷ []) → fill (c ∷ cs) w cell ≡ c ∷ (cs ++ copy w cell 0 ∷ [])
      by true e ih = absurd (true≢false (none_is_some (sym (rw e at h))))
      by false e ih = rw e (ap (λ xs. c ∷ xs) (ih (rw e at h)))

  pub fill_old : (cs : List Copy) (cell : Cell) (c : Copy) → copy_of cs w ≡ Some c → fill cs w cell ≡ cs
  fill_old [] cell d h = absurd (true≢false (none_is_some h))
  fill_old (c ∷ cs) cell d h = by (c.word == w) refl (fill_old cs cell d)
    where
      by : (b : Bool) → (c.word == w) ≡ b → (copy_of cs w ≡ Some d → fill cs w cell ≡ cs) → fill (c ∷ cs) w cell ≡ c ∷ cs
      by true e ih = rw e refl
      by false e ih = rw e (ap (λ xs. c ∷ xs) (ih (rw e at h)))

  pub without_none : (ws : List ℕ) → is_among ws w ≡ false → without_room ws w ≡ ws
  without_none [] h = refl
  without_none (x ∷ xs) h = by (x == w) refl (without_none xs)
    where
      by : (b : Bool) → (x == w) ≡ b → (is_among xs w ≡ false → without_room xs w ≡ xs) → without_room (x ∷ xs) w ≡ x ∷ xs
      by true e ih = absurd (true≢false (rw e at h))
      by false e ih = rw e (ap (λ ys. x ∷ ys) (ih (rw e at h)))

-- a word without an entry is not looked up
pub not_looked_up : (es : Entries) (w : ℕ) → IsAbsent es w → lookup (λ k. w == k) es ≡ None
not_looked_up [] w h = refl
not_looked_up (e ∷ es) w h = rw (other e.0 w h.0) (not_looked_up es w h.1)

-- what a look-up by key finds
pub absent : (es : Entries) (w : ℕ) → lookup (λ k. w == k) es ≡ None → IsAbsent es w
absent [] w h = tt
absent (e ∷ es) w h = by (w == e.0) refl (absent es w)
  where
    by : (b : Bool) → (w == e.0) ≡ b → (lookup (λ k. w == k) es ≡ None → IsAbsent es w) → IsAbsent (e ∷ es) w
    by true p ih = let m : Some e.1 ≡ None = (rw p at h) in absurd (true≢false (none_is_some (sym m)))
    by false p ih = (other w e.0 p, ih (rw p at h))

-- no later key is one that stands before it
no_later : (es : Entries) (w : ℕ) → AllByRecursion (λ k. (w == k) ≡ false) (keys_of es) → IsAbsent es w
no_later [] w h = tt
no_later (e ∷ es) w h = (other w e.0 h.0, no_later es w h.1)

differs : (es : Entries) (at k w : ℕ) (slot : Slot) → AllByRecursion (λ x. (k == x) ≡ false) (keys_of es) → slice_get es at ≡ Some (w, slot) → (k == w) ≡ false
differs [] at k w slot h g = absurd (true≢false (none_is_some g))
differs (e ∷ es) zero k w slot h g = rw (← ap₀ g) h.0
differs (e ∷ es) (suc at) k w slot h g = differs es at k w slot h.1 g

pub stands : (es : Entries) (at w : ℕ) (slot : Slot) → IsDistinct (λ x y. x == y) (keys_of es) → slice_get es at ≡ Some (w, slot) → StandsAt es w at slot
unfolding IsDistinct
stands [] at w slot d g = absurd (true≢false (none_is_some g))
stands (e ∷ es) zero w slot d g = (ap₀ g, ap₁ g, subst (λ x. IsAbsent es x) (ap₀ g) (no_later es e.0 d.0))
stands (e ∷ es) (suc at) w slot d g = (differs es at e.0 w slot d.0 g, stands es at w slot d.1 g)

-- the key that is found is the word
pub found_key : (es : Entries) (w k : ℕ) → Some k ≡ lookup_key (λ x. w == x) es → k ≡ w
found_key [] w k h = absurd (true≢false (none_is_some (sym h)))
found_key (e ∷ es) w k h = by (w == e.0) refl (found_key es w k)
  where
    by : (b : Bool) → (w == e.0) ≡ b → (Some k ≡ lookup_key (λ x. w == x) es → k ≡ w) → k ≡ w
    by true p ih = let m : Some k ≡ Some e.0 = (rw p at h) in let q : k ≡ e.0 = cc in q ∙ sym (eqb-true w e.0 p)
    by false p ih = ih (rw p at h)

-- what calls answer of a copy that is there
pub in_use : (u : ℕ) → 0 < u → (u == 0) ≡ false
in_use u l = by (u == 0) refl
  where
    by : (b : Bool) → (u == 0) ≡ b → b ≡ false
    by true p = let e : u ≡ 0 = eqb-true u 0 p in absurd (omega (arith, e, l))
    by false p = refl

module _ (cs : List Copy) (w : ℕ) (c : Cell) (u : ℕ) (h : copy_of cs w ≡ Some (copy w c u)) where
  pub hit_is : hit cs w ≡ Some c
  hit_is = rw h refl

  pub users_is : users cs w ≡ u
  users_is = rw h refl

  pub can_evict_is : can_evict cs w ≡ (u == 0)
  can_evict_is = rw h refl

  pub stays : 0 < u → evict cs w ≡ cs
  stays l = rw (can_evict_is, in_use u l) refl

  pub goes : u ≡ 0 → evict cs w ≡ without_copy cs w
  goes e = rw (can_evict_is, e) refl

  pub can_pin_is : can_pin cs w ≡ true → u + 1 < 2 ^ 64
  can_pin_is p = let q : nat_lt u (2 ^ 64 - 1) ≡ true = (rw h at p) in omega (arith, ltb-true u (2 ^ 64 - 1) q)

  pub can_unpin_is : can_unpin cs w ≡ true → 0 < u
  can_unpin_is p = let q : nat_lt 0 u ≡ true = (rw h at p) in ltb-true 0 u q

-- a word that is among others, which are one fewer without it
pub some_among : (ws : List ℕ) (w : ℕ) → is_among ws w ≡ true → 0 < length ws
some_among [] w h = absurd (true≢false (sym h))
some_among (x ∷ xs) w h = omega arith

pub one_less : (ws : List ℕ) (w : ℕ) → is_among ws w ≡ true → length (without_room ws w) + 1 ≡ length ws
one_less [] w h = absurd (true≢false (sym h))
one_less (x ∷ xs) w h = by (x == w) refl (one_less xs w)
  where
    by : (b : Bool) → (x == w) ≡ b → (is_among xs w ≡ true → length (without_room xs w) + 1 ≡ length xs) → length (cond b xs (x ∷ without_room xs w)) + 1 ≡ suc (length xs)
    by true p ih = omega arith
    by false p ih = omega (arith, ih (rw p at h))

-- where a word has no room it has a copy
pub old_copy : (cs : List Copy) (ws : List ℕ) (w : ℕ) (c : Cell) → (is_cached cs w || is_among ws w) ≡ true → is_among ws w ≡ false → fill cs w c ≡ cs
old_copy cs ws w c h r = by (copy_of cs w) refl (rw r at h)
  where
    by : (o : Option Copy) → copy_of cs w ≡ o → (is_cached cs w || false) ≡ true → fill cs w c ≡ cs
    by None e q = absurd (true≢false (sym (rw e at q)))
    by (Some d) e q = fill_old w cs c d e

pub among_last : (ws : List ℕ) (w : ℕ) → is_among (ws ++ w ∷ []) w ≡ true
among_last [] w = rw (same w) refl
among_last (x ∷ xs) w = or_right (x == w) (is_among (xs ++ w ∷ []) w) (among_last xs w)

-- room that is filled: what comes of the copies and the rooms
module _ (w : ℕ) (es : Entries) (at n : ℕ) (c : Cell) (a : ℕ) (h : StandsAt es w at (Room n)) where
  pub filled_held : AgesRise 0 a (held_in es) → held_in (set_value_at es at (Held c 0 a)) ≡ held_in es ++ aged w c 0 a ∷ []
  filled_held r = order.set_last age held_word held held_named es at w (Room n) (Held c 0 a) (aged w c 0 a) 0 r h refl refl

  pub filled_copies : AgesRise 0 a (held_in es) → copies_in (set_value_at es at (Held c 0 a)) ≡ fill (copies_in es) w c
  filled_copies r = rw (filled_held r, copies_push (held_in es) (aged w c 0 a), fill_new w (copies_in es) c (room_no_copy w es at n h)) refl

  pub filled_numbered : (high : ℕ) → RisesBy number 0 high (numbered_in es) → numbered_in (set_value_at es at (Held c 0 a)) ≡ order.without_item room_word (numbered_in es) w
  filled_numbered high r = order.set_gone number room_word numbered room_named es at w (Room n) (Held c 0 a) (record { word = w; number = n }) 0 high r h refl refl

  pub filled_rooms : (high : ℕ) → RisesBy number 0 high (numbered_in es) → rooms_in (set_value_at es at (Held c 0 a)) ≡ without_room (rooms_in es) w
  filled_rooms high r = ap words_of (filled_numbered high r) ∙ words_without (numbered_in es) w

  pub filled_rises : (high : ℕ) → RisesBy number 0 high (numbered_in es) → RisesBy number 0 high (numbered_in (set_value_at es at (Held c 0 a)))
  filled_rises high r = subst (RisesBy number 0 high) (sym (filled_numbered high r)) (order.without_rises number room_word (numbered_in es) 0 high w r)

-- room that is added
module _ (w : ℕ) (es : Entries) (n : ℕ) where
  pub added_held : held_in (es ++ (w, Room n) ∷ []) ≡ held_in es
  added_held = order.push_none age held_word held held_named es w (Room n) refl

  module _ (r : RisesBy number 0 n (numbered_in es)) where
    added_numbered : numbered_in (es ++ (w, Room n) ∷ []) ≡ numbered_in es ++ record { word = w; number = n } ∷ []
    added_numbered = order.push_last number room_word numbered room_named es w (Room n) (record { word = w; number = n }) 0 r refl

    pub added_rooms : rooms_in (es ++ (w, Room n) ∷ []) ≡ rooms_in es ++ w ∷ []
    added_rooms = ap words_of added_numbered ∙ words_push (numbered_in es) (record { word = w; number = n })

    pub added_rises : RisesBy number 0 (n + 1) (numbered_in (es ++ (w, Room n) ∷ []))
    added_rises = subst (RisesBy number 0 (n + 1)) (sym added_numbered) (order.push_rises number (record { word = w; number = n }) (numbered_in es) 0 (omega arith) r)

-- each entry is a copy or room
pub all_count : (es : Entries) → length (copies_in es) + length (rooms_in es) ≡ length es
all_count es = rw (copies_length (held_in es), words_length (numbered_in es)) (parts_count es)
  where
    copies_length : (hs : List Aged) → length (copies_of hs) ≡ length hs
    copies_length [] = refl
    copies_length (h ∷ hs) = ap suc (copies_length hs)

    words_length : (rs : List Numbered) → length (words_of rs) ≡ length rs
    words_length [] = refl
    words_length (r ∷ rs) = ap suc (words_length rs)

    parts_count : (fs : Entries) → length (held_in fs) + length (numbered_in fs) ≡ length fs
    parts_count [] = refl
    parts_count ((k, Room n) ∷ fs) = omega (arith, parts_count fs, order.put_length number (record { word = k; number = n }) (numbered_in fs))
    parts_count ((k, Held d v a) ∷ fs) = omega (arith, parts_count fs, order.put_length age (aged k d v a) (held_in fs))

-- no copy has the word of one before it
abbrev AreSingle : List Aged → Type 0
AreSingle [] = Unit {0}
AreSingle (h ∷ hs) = (aged_of hs h.word ≡ None) × AreSingle hs

put_single : (g : Aged) (hs : List Aged) → aged_of hs g.word ≡ None → AreSingle hs → AreSingle (put_by age g hs)
put_single g [] n s = (refl, tt)
put_single g (h ∷ hs) n s = by (nat_lt g.age h.age) (put_single g hs l.1 s.1)
  where
    l : ((h.word == g.word) ≡ false) × (aged_of hs g.word ≡ None)
    l = order.lacks age held_word g.word h hs n

    by : (b : Bool) → AreSingle (put_by age g hs) → AreSingle (cond b (g ∷ h ∷ hs) (h ∷ put_by age g hs))
    by true ih = (n, s)
    by false ih = (order.of_other age held_word h.word g hs (other h.word g.word l.0) ∙ s.0, ih)

all_single : (es : Entries) → IsDistinct (λ x y. x == y) (keys_of es) → AreSingle (held_in es)
unfolding IsDistinct
all_single [] d = tt
all_single ((k, Room n) ∷ es) d = all_single es d.1
all_single ((k, Held c u a) ∷ es) d = put_single (aged k c u a) (held_in es) (order.none_given age held_word held held_named es k (no_later es k d.0)) (all_single es d.1)

-- the oldest copy that nobody uses can be evicted
single_goes : (hs : List Aged) (w : ℕ) → AreSingle hs → oldest_unused (copies_of hs) ≡ Some w → can_evict (copies_of hs) w ≡ true
single_goes [] w d h = absurd (true≢false (none_is_some h))
single_goes (g ∷ hs) w d h = by (g.users == 0) refl (single_goes hs w d.1)
  where
    later : (q : Bool) → (g.word == w) ≡ q → can_evict (copies_of hs) w ≡ true → can_evict (copies_of (g ∷ hs)) w ≡ true
    later true q ih =
        let e : copy_of (copies_of hs) w ≡ None = copy_item hs w ∙ ap (option_map (λ h. copy h.word h.cell h.users)) (subst (λ k. aged_of hs k ≡ None) (eqb-true g.word w q) d.0) in
        let m : false ≡ true = (rw e at ih) in
        absurd (true≢false (sym m))
    later false q ih = rw q ih

    by : (b : Bool) → (g.users == 0) ≡ b → (oldest_unused (copies_of hs) ≡ Some w → can_evict (copies_of hs) w ≡ true) → can_evict (copies_of (g ∷ hs)) w ≡ true
    by true p ih = let m : Some g.word ≡ Some w = (rw p at h) in let e : g.word ≡ w = cc in rw (← e, same g.word, p) refl
    by false p ih = later (g.word == w) refl (ih (rw p at h))

pub oldest_goes : (es : Entries) → IsDistinct (λ x y. x == y) (keys_of es) → (w : ℕ) → oldest_unused (copies_in es) ≡ Some w → can_evict (copies_in es) w ≡ true
oldest_goes es d w h = single_goes (held_in es) w (all_single es d) h
