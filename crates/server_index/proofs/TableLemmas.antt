-- What a table's slots and index say of its places, once an item or a place comes or goes.
use Rattle.std.proofs.Common.{◌≡◌, ◌≢◌, ◌⊎◌, inl, inr, ℕ, zero, suc, ◌+◌, ◌^◌, ◌<◌, Bool, true, false, true≢false, is_some, ◌==◌, nat_lt, if◌then◌else◌, List, [], ◌∷◌, ◌++◌, length, get_or, set, slice_get, Option, None, Some, option_map, refl, sym, subst, ap, ◌∙◌, arith}
use Rattle.std.proofs.lemmas.Bool.{eqb-true, eqb-false, eq-eqb, ne_eqb, ltb-true}
use Rattle.std.proofs.lemmas.Option.{slice_get_within, slice_get_read}
use Rattle.rank_map.specs.Places.{Place, place_at, has_place, item_in, item_at, put_first, with_place, with_free, Rises}
use Rattle.rank_map.proofs.PlaceLemmas.{below_all, rises_with}
use Rattle.server_index.specs.Tables.{key_in, item_of, item_in_slot, placed, Leads, IsTable}
use Rattle.server_index.specs.declared.table.Slot.{Slot}

-- the place that came is there
pub place_same : {T : Type 0} (ps : List (Place T)) (k : ℕ) (x : Option T) → place_at (with_place ps k (Some x)) k ≡ Some x
place_same [] k x = rw (eq-eqb k k refl) refl
place_same (p ∷ ps) k x = by (nat_lt k p.key) (p.key == k) refl (place_same ps k x)
  where
    by : (a b : Bool) → (p.key == k) ≡ b → place_at (with_place ps k (Some x)) k ≡ Some x
        → place_at (if a then put_first k (Some x) (p ∷ ps) else (if b then put_first k (Some x) ps else p ∷ with_place ps k (Some x))) k ≡ Some x
    by true b e ih = rw (eq-eqb k k refl) refl
    by false true e ih = rw (eq-eqb k k refl) refl
    by false false e ih = ap (λ b. if b then Some p.item else place_at (with_place ps k (Some x)) k) e ∙ ih

-- and the others stay
pub place_other : {T : Type 0} (ps : List (Place T)) (k j : ℕ) (x : Option T) → (k == j) ≡ false → place_at (with_place ps k (Some x)) j ≡ place_at ps j
place_other [] k j x d = ap (λ b. if b then Some x else None) d
place_other (p ∷ ps) k j x d = by (nat_lt k p.key) (p.key == k) refl (place_other ps k j x d)
  where
    first : (qs : List (Place _)) → place_at (put_first k (Some x) qs) j ≡ place_at qs j
    first qs = ap (λ b. if b then Some x else place_at qs j) d

    other : (p.key == k) ≡ true → (p.key == j) ≡ false
    other e = ap (λ i. i == j) (eqb-true p.key k e) ∙ d

    by : (a b : Bool) → (p.key == k) ≡ b → place_at (with_place ps k (Some x)) j ≡ place_at ps j
        → place_at (if a then put_first k (Some x) (p ∷ ps) else (if b then put_first k (Some x) ps else p ∷ with_place ps k (Some x))) j ≡ place_at (p ∷ ps) j
    by true b e ih = first (p ∷ ps)
    by false true e ih = first ps ∙ sym (ap (λ b. if b then Some p.item else place_at ps j) (other e))
    by false false e ih = ap (λ o. if p.key == j then Some p.item else o) ih

-- a table's place is the index's, with the item of the slot
pub placed_place : {T : Type 0} (slots : List (Slot T)) (index : List (Place ℕ)) (k : ℕ) → place_at (placed slots index) k ≡ option_map (item_in_slot slots) (place_at index k)
placed_place slots [] k = refl
placed_place slots (p ∷ ps) k = by (p.key == k) (placed_place slots ps k)
  where
    by : (b : Bool) → place_at (placed slots ps) k ≡ option_map (item_in_slot slots) (place_at ps k)
        → (if b then Some (item_in_slot slots p.item) else place_at (placed slots ps) k) ≡ option_map (item_in_slot slots) (if b then Some p.item else place_at ps k)
    by true ih = refl
    by false ih = ih

-- the keys that have a place are the index's
pub placed_has : {T : Type 0} (slots : List (Slot T)) (index : List (Place ℕ)) (k : ℕ) → has_place (placed slots index) k ≡ has_place index k
placed_has slots index k = ap is_some (placed_place slots index k) ∙ by (place_at index k)
  where
    by : (o : Option (Option ℕ)) → is_some (option_map (item_in_slot slots) o) ≡ is_some o
    by None = refl
    by (Some x) = refl

-- a key's item stands in the slot that the index tells
pub placed_item : {T : Type 0} (slots : List (Slot T)) (index : List (Place ℕ)) (k : ℕ) → item_at (placed slots index) k ≡ item_in_slot slots (item_at index k)
placed_item slots index k = ap item_in (placed_place slots index k) ∙ by (place_at index k)
  where
    by : (o : Option (Option ℕ)) → item_in (option_map (item_in_slot slots) o) ≡ item_in_slot slots (item_in o)
    by None = refl
    by (Some x) = refl

-- another place of the index is another place of the table
pub placed_with : {T : Type 0} (slots : List (Slot T)) (index : List (Place ℕ)) (k : ℕ) (y : Option ℕ) → placed slots (with_place index k (Some y)) ≡ with_place (placed slots index) k (Some (item_in_slot slots y))
placed_with slots [] k y = refl
placed_with slots (p ∷ ps) k y = by (nat_lt k p.key) (p.key == k) (placed_with slots ps k y)
  where
    by : (a b : Bool) → placed slots (with_place ps k (Some y)) ≡ with_place (placed slots ps) k (Some (item_in_slot slots y))
        → placed slots (if a then put_first k (Some y) (p ∷ ps) else (if b then put_first k (Some y) ps else p ∷ with_place ps k (Some y)))
        ≡ (if a then put_first k (Some (item_in_slot slots y)) (placed slots (p ∷ ps)) else (if b then put_first k (Some (item_in_slot slots y)) (placed slots ps) else record { key = p.key; item = item_in_slot slots p.item } ∷ with_place (placed slots ps) k (Some (item_in_slot slots y))))
    by true b ih = refl
    by false true ih = refl
    by false false ih = ap (λ xs. record { key = p.key; item = item_in_slot slots p.item } ∷ xs) ih

-- the slot that the index tells has the key
pub leads_key : {T : Type 0} (slots : List (Slot T)) (index : List (Place ℕ)) (k s : ℕ) → Leads slots index → item_at index k ≡ Some s → key_in slots (Some s) ≡ Some k
leads_key slots [] k s l h = absurd cc
leads_key slots (p ∷ ps) k s l h = by (p.key == k) refl h (leads_key slots ps k s l.1)
  where
    by : (b : Bool) → (p.key == k) ≡ b → item_in (if b then Some p.item else place_at ps k) ≡ Some s → (item_at ps k ≡ Some s → key_in slots (Some s) ≡ Some k) → key_in slots (Some s) ≡ Some k
    by true e h ih = sym (ap (key_in slots) h) ∙ l.0 ∙ ap Some (eqb-true p.key k e)
    by false e h ih = ih h

-- there is a place exactly where the index tells a slot
pub leads_has : {T : Type 0} (slots : List (Slot T)) (index : List (Place ℕ)) (k : ℕ) → Leads slots index → is_some (item_at index k) ≡ has_place index k
leads_has slots [] k l = refl
leads_has slots (p ∷ ps) k l = by (p.key == k) (leads_has slots ps k l.1)
  where
    some : (o : Option ℕ) → key_in slots o ≡ Some p.key → is_some o ≡ true
    some None e = absurd cc
    some (Some s) e = refl

    by : (b : Bool) → is_some (item_at ps k) ≡ has_place ps k → is_some (item_in (if b then Some p.item else place_at ps k)) ≡ is_some (if b then Some p.item else place_at ps k)
    by true ih = some p.item l.0
    by false ih = ih

-- so it tells a slot exactly for the keys of the table
pub slot_has : {T : Type 0} {slots : List (Slot T)} {index : List (Place ℕ)} (k : ℕ) → IsTable slots index → is_some (item_at index k) ≡ has_place (placed slots index) k
slot_has {slots = slots} {index} k w = leads_has slots index k w.leads ∙ sym (placed_has slots index k)

-- the slot that the index tells is there
pub within : {T : Type 0} {slots : List (Slot T)} {index : List (Place ℕ)} (s k : ℕ) → IsTable slots index → Some s ≡ item_at index k → s < length slots
within {T} {slots} {index} s k w is = by (slice_get slots s) refl (leads_key slots index k s w.leads (sym is))
  where
    by : (o : Option (Slot T)) → slice_get slots s ≡ o → option_map (λ t. t.key) o ≡ Some k → s < length slots
    by None e h = absurd cc
    by (Some t) e h = slice_get_within slots s t e

-- and what stands in it is the key's item
pub item_here : {T : Type 0} {slots : List (Slot T)} {index : List (Place ℕ)} (s k : ℕ) (t : Slot T) → IsTable slots index → Some s ≡ item_at index k → t ≡ get_or slots s t → t.item ≡ item_at (placed slots index) k
item_here {slots = slots} {index} s k t w is read =
    ap item_of (sym (slice_get_read slots (length slots) s t refl (within s k w is) read)) ∙ ap (item_in_slot slots) is ∙ sym (placed_item slots index k)

-- where it tells none there is no item
pub item_none : {T : Type 0} (slots : List (Slot T)) (index : List (Place ℕ)) (k : ℕ) → None ≡ item_at index k → None ≡ item_at (placed slots index) k
item_none slots index k is = ap (item_in_slot slots) is ∙ sym (placed_item slots index k)

-- a key that has a place gets no other one
pub had : {T : Type 0} (ps : List (Place T)) (k : ℕ) → has_place ps k ≡ true → ps ≡ with_free ps k
had ps k h = sym (ap (λ b. if b then ps else with_place ps k (Some None)) h)

-- another item in a slot leaves the keys of all
key_set : {T : Type 0} (slots : List (Slot T)) (s k : ℕ) (x : Option T) (o : Option ℕ) → key_in slots (Some s) ≡ Some k → key_in (set slots s (record { key = k; item = x })) o ≡ key_in slots o
key_set slots s k x None h = refl
key_set [] s k x (Some j) h = absurd cc
key_set (t ∷ ts) zero k x (Some zero) h = sym h
key_set (t ∷ ts) zero k x (Some (suc j)) h = refl
key_set (t ∷ ts) (suc s) k x (Some zero) h = refl
key_set (t ∷ ts) (suc s) k x (Some (suc j)) h = key_set ts s k x (Some j) h

-- it stands there
item_set : {T : Type 0} (slots : List (Slot T)) (s k : ℕ) (x : Option T) → key_in slots (Some s) ≡ Some k → item_in_slot (set slots s (record { key = k; item = x })) (Some s) ≡ x
item_set [] s k x h = absurd cc
item_set (t ∷ ts) zero k x h = refl
item_set (t ∷ ts) (suc s) k x h = item_set ts s k x h

-- and the items of other keys stay
item_apart : {T : Type 0} (slots : List (Slot T)) (s k j : ℕ) (x : Option T) (o : Option ℕ) → key_in slots (Some s) ≡ Some k → key_in slots o ≡ Some j → j ≢ k → item_in_slot (set slots s (record { key = k; item = x })) o ≡ item_in_slot slots o
item_apart slots s k j x None h g d = refl
item_apart [] s k j x (Some i) h g d = absurd cc
item_apart (t ∷ ts) zero k j x (Some zero) h g d = let same : j ≡ k = cc in absurd (d same)
item_apart (t ∷ ts) zero k j x (Some (suc i)) h g d = refl
item_apart (t ∷ ts) (suc s) k j x (Some zero) h g d = refl
item_apart (t ∷ ts) (suc s) k j x (Some (suc i)) h g d = item_apart ts s k j x (Some i) h g d

-- and the index leads to them as before
leads_set : {T : Type 0} (slots : List (Slot T)) (index : List (Place ℕ)) (s k : ℕ) (x : Option T) → key_in slots (Some s) ≡ Some k → Leads slots index → Leads (set slots s (record { key = k; item = x })) index
leads_set slots [] s k x h l = tt
leads_set slots (p ∷ ps) s k x h l = (key_set slots s k x p.item h ∙ l.0, leads_set slots ps s k x h l.1)

-- the places of later keys stay
placed_apart : {T : Type 0} (slots : List (Slot T)) (index : List (Place ℕ)) (low high s k : ℕ) (x : Option T) → Rises low high index → k < low → key_in slots (Some s) ≡ Some k → Leads slots index
    → placed (set slots s (record { key = k; item = x })) index ≡ placed slots index
placed_apart slots [] low high s k x r h is l = refl
placed_apart slots (p ∷ ps) low high s k x r h is l =
    let item = item_apart slots s k p.key x p.item is l.0 (λ e. omega (arith, e, h, r.0)) in
    let rest = placed_apart slots ps (p.key + 1) high s k x r.1 (omega (arith, h, r.0)) is l.1 in
    ap (λ y. record { key = p.key; item = y } ∷ placed (set slots s (record { key = k; item = x })) ps) item ∙ ap (λ qs. record { key = p.key; item = item_in_slot slots p.item } ∷ qs) rest

-- another item in a key's slot is another item at the key's place
placed_set : {T : Type 0} (slots : List (Slot T)) (index : List (Place ℕ)) (low high s k : ℕ) (x : Option T) → Rises low high index → Leads slots index → key_in slots (Some s) ≡ Some k → item_at index k ≡ Some s
    → placed (set slots s (record { key = k; item = x })) index ≡ with_place (placed slots index) k (Some x)
placed_set slots [] low high s k x r l is h = absurd cc
placed_set {T} slots (p ∷ ps) low high s k x r l is h = by (nat_lt k p.key) (p.key == k) refl refl h (placed_set slots ps (p.key + 1) high s k x r.1 l.1 is)
  where
    by : (a b : Bool) → nat_lt k p.key ≡ a → (p.key == k) ≡ b → item_in (if b then Some p.item else place_at ps k) ≡ Some s
        → (item_at ps k ≡ Some s → placed (set slots s (record { key = k; item = x })) ps ≡ with_place (placed slots ps) k (Some x))
        → record { key = p.key; item = item_in_slot (set slots s (record { key = k; item = x })) p.item } ∷ placed (set slots s (record { key = k; item = x })) ps
        ≡ (if a then put_first k (Some x) (placed slots (p ∷ ps)) else (if b then put_first k (Some x) (placed slots ps) else record { key = p.key; item = item_in_slot slots p.item } ∷ with_place (placed slots ps) k (Some x)))
    by true b a e at ih =
        let none = below_all (p ∷ ps) p.key high k (omega arith, r.1) (ltb-true k p.key a) in
        absurd (true≢false (sym (ap is_some (sym (ap item_in none) ∙ h))))
    by false true a e at ih =
        let item = ap (item_in_slot (set slots s (record { key = k; item = x }))) at ∙ item_set slots s k x is in
        let same = eqb-true p.key k e in
        let rest = placed_apart slots ps (p.key + 1) high s k x r.1 (omega (arith, same)) is l.1 in
        ap (λ y. record { key = p.key; item = y } ∷ placed (set slots s (record { key = k; item = x })) ps) item ∙ ap (λ i. record { key = i; item = x } ∷ placed (set slots s (record { key = k; item = x })) ps) same ∙ ap (λ qs. record { key = k; item = x } ∷ qs) rest
    by false false a e at ih =
        let item = item_apart slots s k p.key x p.item is l.0 (eqb-false p.key k e) in
        ap (λ y. record { key = p.key; item = y } ∷ placed (set slots s (record { key = k; item = x })) ps) item ∙ ap (λ qs. record { key = p.key; item = item_in_slot slots p.item } ∷ qs) (ih at)

-- what a table is once the item of a key's slot changed
pub record IsChanged {T : Type 0} (slots after : List (Slot T)) (index : List (Place ℕ)) (k : ℕ) (x : Option T) : Type 0 where
  pub table : IsTable after index
  pub places : placed after index ≡ with_place (placed slots index) k (Some x)

-- it has another item at the key's place
pub changed : {T : Type 0} {slots : List (Slot T)} {index : List (Place ℕ)} (s k : ℕ) (t : Slot T) (x : Option T) → IsTable slots index → Some s ≡ item_at index k → t ≡ get_or slots s t
    → IsChanged slots (set slots s (record { key = t.key; item = x })) index k x
changed {T} {slots} {index} s k t x w told read = subst (λ i. IsChanged slots (set slots s (record { key = i; item = x })) index k x) (sym same) (record {
  table = record { rises = w.rises; leads = leads_set slots index s k x is w.leads; back = λ i j g. w.back i j (sym (key_set slots s k x (Some i) is) ∙ g) };
  places = placed_set slots index 0 (2 ^ 40) s k x w.rises w.leads is (sym told);
})
  where
    is : key_in slots (Some s) ≡ Some k
    is = leads_key slots index k s w.leads (sym told)

    same : t.key ≡ k
    same = let e = sym (ap (option_map (λ t. t.key)) (slice_get_read slots (length slots) s t refl (within s k w told) read)) ∙ is in cc

-- one slot more leaves the keys of the others
key_push : {T : Type 0} (slots : List (Slot T)) (t : Slot T) (k : ℕ) (o : Option ℕ) → key_in slots o ≡ Some k → key_in (slots ++ t ∷ []) o ≡ Some k
key_push slots t k None h = absurd cc
key_push [] t k (Some j) h = absurd cc
key_push (u ∷ us) t k (Some zero) h = h
key_push (u ∷ us) t k (Some (suc j)) h = key_push us t k (Some j) h

-- and their items
item_push : {T : Type 0} (slots : List (Slot T)) (t : Slot T) (k : ℕ) (o : Option ℕ) → key_in slots o ≡ Some k → item_in_slot (slots ++ t ∷ []) o ≡ item_in_slot slots o
item_push slots t k None h = refl
item_push [] t k (Some j) h = absurd cc
item_push (u ∷ us) t k (Some zero) h = refl
item_push (u ∷ us) t k (Some (suc j)) h = item_push us t k (Some j) h

-- so the index leads to them as before
leads_push : {T : Type 0} (slots : List (Slot T)) (t : Slot T) (index : List (Place ℕ)) → Leads slots index → Leads (slots ++ t ∷ []) index
leads_push slots t [] l = tt
leads_push slots t (p ∷ ps) l = (key_push slots t p.key p.item l.0, leads_push slots t ps l.1)

-- and the places stay
placed_push : {T : Type 0} (slots : List (Slot T)) (t : Slot T) (index : List (Place ℕ)) → Leads slots index → placed (slots ++ t ∷ []) index ≡ placed slots index
placed_push slots t [] l = refl
placed_push slots t (p ∷ ps) l = ap (λ y. record { key = p.key; item = y } ∷ placed (slots ++ t ∷ []) ps) (item_push slots t p.key p.item l.0) ∙ ap (λ qs. record { key = p.key; item = item_in_slot slots p.item } ∷ qs) (placed_push slots t ps l.1)

-- the slot that came is the last one
last_slot : {T : Type 0} (slots : List (Slot T)) (t : Slot T) → slice_get (slots ++ t ∷ []) (length slots) ≡ Some t
last_slot [] t = refl
last_slot (u ∷ us) t = last_slot us t

-- a key of the slots is one of those before or the last one's
key_pushed : {T : Type 0} (slots : List (Slot T)) (t : Slot T) (s k : ℕ) → key_in (slots ++ t ∷ []) (Some s) ≡ Some k → (key_in slots (Some s) ≡ Some k) ⊎ ((s ≡ length slots) × (t.key ≡ k))
key_pushed [] t zero k h = inr (refl, cc)
key_pushed [] t (suc s) k h = absurd cc
key_pushed (u ∷ us) t zero k h = inl h
key_pushed (u ∷ us) t (suc s) k h = by (key_pushed us t s k h)
  where
    by : (key_in us (Some s) ≡ Some k) ⊎ ((s ≡ length us) × (t.key ≡ k)) → (key_in us (Some s) ≡ Some k) ⊎ ((suc s ≡ length (u ∷ us)) × (t.key ≡ k))
    by (inl g) = inl g
    by (inr g) = inr (ap suc g.0, g.1)

-- another place leads to a slot with its key
leads_with : {T : Type 0} (slots : List (Slot T)) (index : List (Place ℕ)) (k : ℕ) (y : Option ℕ) → key_in slots y ≡ Some k → Leads slots index → Leads slots (with_place index k (Some y))
leads_with slots [] k y h l = (h, tt)
leads_with slots (p ∷ ps) k y h l = by (nat_lt k p.key) (p.key == k) (leads_with slots ps k y h l.1)
  where
    by : (a b : Bool) → Leads slots (with_place ps k (Some y)) → Leads slots (if a then put_first k (Some y) (p ∷ ps) else (if b then put_first k (Some y) ps else p ∷ with_place ps k (Some y)))
    by true b ih = (h, l)
    by false true ih = (h, l.1)
    by false false ih = (l.0, ih)

-- what a table is once a place came
pub record IsPlaced {T : Type 0} (slots after : List (Slot T)) (index new : List (Place ℕ)) (k : ℕ) : Type 0 where
  pub table : IsTable after new
  pub places : placed after new ≡ with_free (placed slots index) k

-- it has a free place more
pub came : {T : Type 0} {slots after : List (Slot T)} {index new : List (Place ℕ)} (s k : ℕ) → IsTable slots index → k < 2 ^ 40 → is_some (item_at index k) ≡ false → s ≡ length slots
    → new ≡ with_place index k (Some (Some s)) → after ≡ slots ++ record { key = k; item = None } ∷ [] → IsPlaced slots after index new k
came {T} {slots} {after} {index} {new} s k w below none last now pushed = record {
  table = record {
    rises = subst (Rises 0 (2 ^ 40)) (sym now) (rises_with index 0 (2 ^ 40) k (Some (Some s)) w.rises (omega arith) below);
    leads = subst (λ ps. Leads after ps) (sym now) (leads_with after index k (Some s) key (subst (λ ts. Leads ts index) (sym pushed) (leads_push slots (record { key = k; item = None }) index w.leads)));
    back = λ i j g. back i j (key_pushed slots (record { key = k; item = None }) i j (sym (ap (λ ts. key_in ts (Some i)) pushed) ∙ g));
  };
  places =
      ap (placed after) now ∙ placed_with after index k (Some s) ∙ ap (λ y. with_place (placed after index) k (Some y)) (ap item_of at)
      ∙ ap (λ ps. with_place ps k (Some None)) (ap (λ ts. placed ts index) pushed ∙ placed_push slots (record { key = k; item = None }) index w.leads)
      ∙ sym (ap (λ b. if b then placed slots index else with_place (placed slots index) k (Some None)) (placed_has slots index k ∙ bare));
}
  where
    bare : has_place index k ≡ false
    bare = sym (leads_has slots index k w.leads) ∙ none

    at : slice_get after s ≡ Some (record { key = k; item = None })
    at = ap (λ ts. slice_get ts s) pushed ∙ ap (slice_get (slots ++ record { key = k; item = None } ∷ [])) last ∙ last_slot slots (record { key = k; item = None })

    key : key_in after (Some s) ≡ Some k
    key = ap (option_map (λ t. t.key)) at

    back : (i j : ℕ) → (key_in slots (Some i) ≡ Some j) ⊎ ((i ≡ length slots) × (k ≡ j)) → item_at new j ≡ Some i
    back i j (inl g) =
        let there = w.back i j g in
        let other : (k == j) ≡ false = ne_eqb k j (λ e. true≢false (sym (sym none ∙ ap is_some (ap (item_at index) e ∙ there)))) in
        ap (λ ps. item_at ps j) now ∙ ap item_in (place_other index k j (Some s) other) ∙ there
    back i j (inr g) = ap (λ ps. item_at ps j) now ∙ ap (item_at (with_place index k (Some (Some s)))) (sym g.1) ∙ ap item_in (place_same index k (Some s)) ∙ ap Some (last ∙ sym g.0)
