-- The environment after a write to one of its places.
use Rattle.fr_store.proofs.Keys.{key_same, key_other}
use Rattle.fr_typing.proofs.PlaceLemmas.{eq_cases}
use Rattle.std.proofs.Common.{◌≡◌, ◌≢◌, ◌⊎◌, inl, inr, ℕ, zero, suc, ◌<◌, List, [], ◌∷◌, length, refl, sym, ap, subst, ◌∙◌, arith}
use Rattle.std.specs.Prelude.{if◌then◌else◌}
use Rattle.fr_base.specs.declared.place.Lval.{Lval}
use Rattle.fr_typing.specs.Kinds.{unit, int, box, mutex, task, Kind, own, shared, mutable, view, Piece, whole, gone, boxed, box_of}
use Rattle.fr_typing.specs.Places.{Slot, found, type_at, put_under, put_at, IsNested, AreBelow, piece_places}
use Rattle.fr_store.specs.Keys.{Key}
use Rattle.fr_store.specs.Store.{Place}
use Rattle.fr_store.specs.Typed.{hole, Exact, owns, KeyTypes, Unnamed}
use Rattle.fr_store.specs.Below.{ExactOf, SlotsBelow, Apart}
use Rattle.fr_store.specs.Rows.{with_type}
use Rattle.fr_typing.proofs.PlaceLemmas.{FoundBelow, type_at_below, AreBelow-weaker}
use Rattle.fr_store.proofs.ThreadKept.{exact_with, slots_with}

-- a write changes no number of slots
pub length_put : (e : List Slot) (w : Lval) (new : Piece) → length (put_at e w new) ≡ length e
length_put [] w new = refl
length_put (s ∷ e) w new = eq_cases (λ b. length (if b then record s { part = put_under w.depth new s.part } ∷ e else s ∷ put_at e w new) ≡ length (s ∷ e)) w.slot (length e) (λ _. refl) (λ _. ap suc (length_put e w new))

-- a box names what its part names
places_box : (n : ℕ) (p : Piece) → AreBelow n (piece_places p) → AreBelow n (piece_places (box_of p))
places_box n (whole (own o)) h = tt
places_box n (whole (shared us)) h = h
places_box n (whole (mutable us)) h = h
places_box n (whole (view o)) h = tt
places_box n (gone k) h = h
places_box n (boxed p) h = h

-- a part after a write names what it named, or what the new part names
places_put : (n d : ℕ) (new p : Piece) → AreBelow n (piece_places new) → AreBelow n (piece_places p) → AreBelow n (piece_places (put_under d new p))
places_put n zero new p h g = h
places_put n (suc d) new (whole (own (box o))) h g = places_box n (put_under d new (whole (own o))) (places_put n d new (whole (own o)) h tt)
places_put n (suc d) new (boxed p) h g = places_box n (put_under d new p) (places_put n d new p h g)
places_put n (suc d) new (whole (own unit)) h g = g
places_put n (suc d) new (whole (own int)) h g = g
places_put n (suc d) new (whole (own (mutex o))) h g = g
places_put n (suc d) new (whole (own (task o))) h g = g
places_put n (suc d) new (whole (shared us)) h g = g
places_put n (suc d) new (whole (mutable us)) h g = g
places_put n (suc d) new (whole (view o)) h g = g
places_put n (suc d) new (gone k) h g = g

-- slots still name only slots before them
pub nested_put : (e : List Slot) (w : Lval) (new : Piece) → AreBelow w.slot (piece_places new) → IsNested e → IsNested (put_at e w new)
nested_put [] w new h n = tt
nested_put (s ∷ e) w new h n =
    eq_cases (λ b. IsNested (if b then record s { part = put_under w.depth new s.part } ∷ e else s ∷ put_at e w new)) w.slot (length e)
    (λ is. (places_put (length e) w.depth new s.part (subst (λ z. AreBelow z (piece_places new)) is h) n.0, n.1))
    (λ ne. (subst (λ z. AreBelow z (piece_places s.part)) (sym (length_put e w new)) n.0, nested_put e w new h n.1))

-- the exact types after a variable has moved away
pub slots_gone : (key : ℕ → Key) (E : KeyTypes) (e : List Slot) (x : ℕ) (k : Kind) → Apart key → SlotsBelow key E e → Unnamed E (key x)
    → SlotsBelow key (with_type E (key x) (owns hole)) (put_at e (record { slot = x; depth = 0 }) (gone k))
slots_gone key E [] x k differ h free = tt
slots_gone key E (s ∷ e) x k differ h free =
    eq_cases (λ b. SlotsBelow key (with_type E (key x) (owns hole)) (if b then record s { part = gone k } ∷ e else s ∷ put_at e (record { slot = x; depth = 0 }) (gone k))) x (length e)
    (λ at. (
      subst (ExactOf key (with_type E (key x) (owns hole)) (gone k)) (sym (ap (λ z. with_type E (key x) (owns hole) (key z)) (sym at) ∙ key_same (key x) (owns hole) (E (key x)))) refl,
      slots_with key E (key x) (owns hole) e free (λ i lt z. not_self i (differ i x z) lt at) h.1,
    ))
    (λ ne.
    let same = key_other (key (length e)) (key x) (owns hole) (E (key (length e))) (λ z. ne (sym (differ (length e) x z))) in (
      subst (λ z. ExactOf key (with_type E (key x) (owns hole)) s.part (with_type E (key x) (owns hole) (key z))) (sym (length_put e (record { slot = x; depth = 0 }) (gone k)))
          (subst (ExactOf key (with_type E (key x) (owns hole)) s.part) (sym same) (exact_with key E (key x) (owns hole) s.part (E (key (length e))) free (λ m u js. free (key (length e)) m u js) h.0)),
      slots_gone key E e x k differ h.1 free,
    ))
  where
    not_self : (i : ℕ) → i ≡ x → i < length e → x ≡ length e → ⊥
    not_self i a lt b = omega arith

-- a mutable reference's type names variables below its own
pub places_found : (e : List Slot) (x : ℕ) (us : List Lval) → IsNested e → type_at e (record { slot = x; depth = 0 }) ≡ found (whole (mutable us)) → x < length e → AreBelow x us
places_found e x us n is lt = subst (FoundBelow x) is (type_at_below e (record { slot = x; depth = 0 }) n)

-- the exact types after a variable has another one
pub slots_set : (key : ℕ → Key) (E : KeyTypes) (e : List Slot) (x : ℕ) (new : Piece) (p : Exact) → Apart key → SlotsBelow key E e → Unnamed E (key x) → ExactOf key (with_type E (key x) p) new p
    → SlotsBelow key (with_type E (key x) p) (put_at e (record { slot = x; depth = 0 }) new)
slots_set key E [] x new p differ h free exact = tt
slots_set key E (s ∷ e) x new p differ h free exact =
    eq_cases (λ b. SlotsBelow key (with_type E (key x) p) (if b then record s { part = new } ∷ e else s ∷ put_at e (record { slot = x; depth = 0 }) new)) x (length e)
    (λ at. (
      subst (ExactOf key (with_type E (key x) p) new) (sym (ap (λ z. with_type E (key x) p (key z)) (sym at) ∙ key_same (key x) p (E (key x)))) exact,
      slots_with key E (key x) p e free (λ i lt z. not_self i (differ i x z) lt at) h.1,
    ))
    (λ ne.
    let same = key_other (key (length e)) (key x) p (E (key (length e))) (λ z. ne (sym (differ (length e) x z))) in (
      subst (λ z. ExactOf key (with_type E (key x) p) s.part (with_type E (key x) p (key z))) (sym (length_put e (record { slot = x; depth = 0 }) new))
          (subst (ExactOf key (with_type E (key x) p) s.part) (sym same) (exact_with key E (key x) p s.part (E (key (length e))) free (λ m u js. free (key (length e)) m u js) h.0)),
      slots_set key E e x new p differ h.1 free exact,
    ))
  where
    not_self : (i : ℕ) → i ≡ x → i < length e → x ≡ length e → ⊥
    not_self i a lt b = omega arith

-- slots that are there are there after a write
pub long_put : (key : ℕ → Key) (e : List Slot) (w : Lval) (new : Piece) (j : Key) (u : Place) → ((i : ℕ) × (i < length e) × (j ≡ key i)) ⊎ ((x : ℕ) → u.key ≢ key x) → ((i : ℕ) × (i < length (put_at e w new)) × (j ≡ key i)) ⊎ ((x : ℕ) → u.key ≢ key x)
long_put key e w new j u (inl z) = inl (z.0, subst (λ n. z.0 < n) (sym (length_put e w new)) z.1, z.2)
long_put key e w new j u (inr z) = inr z

-- a shared reference's type at any place names slots that are there
pub places_any : (e : List Slot) (w : Lval) (us : List Lval) → IsNested e → type_at e w ≡ found (whole (shared us)) → w.slot < length e → AreBelow (length e) us
places_any e w us n is lt = AreBelow-weaker w.slot (length e) us (omega arith) (subst (FoundBelow w.slot) is (type_at_below e w n))

-- of two writes to a variable the last one counts
pub put_twice : (e : List Slot) (x : ℕ) (a b : Piece) → put_at (put_at e (record { slot = x; depth = 0 }) a) (record { slot = x; depth = 0 }) b ≡ put_at e (record { slot = x; depth = 0 }) b
put_twice [] x a b = refl
put_twice (s ∷ e) x a b =
    eq_cases (λ c. put_at (if c then record s { part = a } ∷ e else s ∷ put_at e w a) w b ≡ (if c then record s { part = b } ∷ e else s ∷ put_at e w b)) x (length e)
    (λ same. eq_cases (λ c. (if c then record s { part = b } ∷ e else record s { part = a } ∷ put_at e w b) ≡ record s { part = b } ∷ e) x (length e) (λ _. refl) (λ ne. absurd (ne same)))
    (λ ne. eq_cases (λ c. (if c then record s { part = b } ∷ put_at e w a else s ∷ put_at (put_at e w a) w b) ≡ s ∷ put_at e w b) x (length (put_at e w a)) (λ same. absurd (ne (same ∙ length_put e w a))) (λ _. ap (λ z. s ∷ z) (put_twice e x a b)))
  where
    w : Lval
    w = record { slot = x; depth = 0 }
