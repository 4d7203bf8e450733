-- Tests of keys and of objects tell whether they are the same.
use Rattle.std.proofs.Common.{◌≡◌, ◌≢◌, ◌⊎◌, inl, inr, ⊎_elim, ℕ, Bool, true, false, refl, sym, ap, subst, ◌∙◌}
use Rattle.std.specs.Prelude.{◌==◌, ◌&&◌, if◌then◌else◌}
use Rattle.std.proofs.lemmas.Bool.Decides.{eqb_tells}
use Rattle.fr_base.specs.declared.name.ObjNo.{ObjNo}
use Rattle.fr_store.specs.Keys.{Key, slot_k, temp_k, content_k, result_k, hand_k, same_key, same_object}

-- a test tells whether two things are the same
abbrev pub Tells : {A : Type 0} → Bool → A → A → Type 0
Tells b x y = ((b ≡ true) × (x ≡ y)) ⊎ ((b ≡ false) × (x ≢ y))

-- two tests of numbers, under a constructor of two numbers
two_tell : {A : Type 0} (make : ℕ → ℕ → A) (a b c d : ℕ) → (make a b ≡ make c d → (a ≡ c) × (b ≡ d)) → Tells (a == c && b == d) (make a b) (make c d)
two_tell make a b c d back = by (a == c) (b == d) (eqb_tells a c) (eqb_tells b d)
  where
    by : (p q : Bool) → Tells p a c → Tells q b d → Tells (p && q) (make a b) (make c d)
    by _ q (inl x) (inl y) = inl (ap (λ z. z && q) x.0 ∙ y.0, ap (λ z. make z b) x.1 ∙ ap (make c) y.1)
    by _ q (inl x) (inr y) = inr (ap (λ z. z && q) x.0 ∙ y.0, λ e. y.1 (back e).1)
    by _ q (inr x) y = inr (ap (λ z. z && q) x.0, λ e. x.1 (back e).0)

-- the test of keys tells whether they are the same
pub key_tells : (a b : Key) → Tells (same_key a b) a b
key_tells (slot_k t n) (slot_k u m) = two_tell slot_k t n u m (λ e. (cc, cc))
key_tells (temp_k t n) (temp_k u m) = two_tell temp_k t n u m (λ e. (cc, cc))
key_tells (content_k t n) (content_k u m) = two_tell content_k t n u m (λ e. (cc, cc))
key_tells (result_k t) (result_k u) = ⊎_elim (λ (h : (t == u ≡ true) × (t ≡ u)). inl (h.0, ap result_k h.1)) (λ (h : (t == u ≡ false) × (t ≢ u)). inr (h.0, λ (e : result_k t ≡ result_k u). h.1 cc)) (eqb_tells t u)
key_tells (hand_k t) (hand_k u) = ⊎_elim (λ (h : (t == u ≡ true) × (t ≡ u)). inl (h.0, ap hand_k h.1)) (λ (h : (t == u ≡ false) × (t ≢ u)). inr (h.0, λ (e : hand_k t ≡ hand_k u). h.1 cc)) (eqb_tells t u)
key_tells (slot_k t n) (temp_k u m) = inr (refl, λ e. cc)
key_tells (slot_k t n) (content_k u m) = inr (refl, λ e. cc)
key_tells (slot_k t n) (result_k u) = inr (refl, λ e. cc)
key_tells (slot_k t n) (hand_k u) = inr (refl, λ e. cc)
key_tells (temp_k t n) (slot_k u m) = inr (refl, λ e. cc)
key_tells (temp_k t n) (content_k u m) = inr (refl, λ e. cc)
key_tells (temp_k t n) (result_k u) = inr (refl, λ e. cc)
key_tells (temp_k t n) (hand_k u) = inr (refl, λ e. cc)
key_tells (content_k t n) (slot_k u m) = inr (refl, λ e. cc)
key_tells (content_k t n) (temp_k u m) = inr (refl, λ e. cc)
key_tells (content_k t n) (result_k u) = inr (refl, λ e. cc)
key_tells (content_k t n) (hand_k u) = inr (refl, λ e. cc)
key_tells (result_k t) (slot_k u m) = inr (refl, λ e. cc)
key_tells (result_k t) (temp_k u m) = inr (refl, λ e. cc)
key_tells (result_k t) (content_k u m) = inr (refl, λ e. cc)
key_tells (result_k t) (hand_k u) = inr (refl, λ e. cc)
key_tells (hand_k t) (slot_k u m) = inr (refl, λ e. cc)
key_tells (hand_k t) (temp_k u m) = inr (refl, λ e. cc)
key_tells (hand_k t) (content_k u m) = inr (refl, λ e. cc)
key_tells (hand_k t) (result_k u) = inr (refl, λ e. cc)

-- an object by its numbers
abbrev object_of : ℕ → ℕ → ObjNo
object_of t n = record { thread = t; count = n }

-- the test of objects tells whether they are the same
pub object_tells : (o q : ObjNo) → Tells (same_object o q) o q
object_tells o q = two_tell object_of o.thread o.count q.thread q.count (λ (e : object_of o.thread o.count ≡ object_of q.thread q.count). (ap (λ (x : ObjNo). x.thread) e, ap (λ (x : ObjNo). x.count) e))

-- a choice by a test
pub tells_cases : {A : Type 0} (P : Bool → Type 0) (b : Bool) (x y : A) → Tells b x y → (x ≡ y → P true) → (x ≢ y → P false) → P b
tells_cases P b x y t same other = ⊎_elim (λ (h : (b ≡ true) × (x ≡ y)). subst P (sym h.0) (same h.1)) (λ (h : (b ≡ false) × (x ≢ y)). subst P (sym h.0) (other h.1)) t

-- so one may go by cases
pub tells_split : {A : Type 0} (b : Bool) (x y : A) → Tells b x y → (x ≡ y) ⊎ (x ≢ y)
tells_split b x y t = ⊎_elim (λ (h : (b ≡ true) × (x ≡ y)). inl h.1) (λ (h : (b ≡ false) × (x ≢ y)). inr h.1) t

-- a choice by the test of keys
pub key_cases : (P : Bool → Type 0) (a b : Key) → (a ≡ b → P true) → (a ≢ b → P false) → P (same_key a b)
key_cases P a b = tells_cases P (same_key a b) a b (key_tells a b)

-- a choice by the test of objects
pub object_cases : (P : Bool → Type 0) (o q : ObjNo) → (o ≡ q → P true) → (o ≢ q → P false) → P (same_object o q)
object_cases P o q = tells_cases P (same_object o q) o q (object_tells o q)

-- two keys are the same or differ
pub decide_key : (a b : Key) → (a ≡ b) ⊎ (a ≢ b)
decide_key a b = tells_split (same_key a b) a b (key_tells a b)

-- two objects are the same or differ
pub decide_object : (o q : ObjNo) → (o ≡ q) ⊎ (o ≢ q)
decide_object o q = tells_split (same_object o q) o q (object_tells o q)

-- two numbers are the same or differ
pub decide_number : (a b : ℕ) → (a ≡ b) ⊎ (a ≢ b)
decide_number a b = tells_split (a == b) a b (eqb_tells a b)

-- what a test chooses where both are the same, and where they differ
pub key_same : {A : Type 0} (a : Key) (x y : A) → (if same_key a a then x else y) ≡ x
key_same a x y = key_cases (λ b. (if b then x else y) ≡ x) a a (λ _. refl) (λ ne. absurd (ne refl))

-- keys that differ
pub key_other : {A : Type 0} (j a : Key) (x y : A) → j ≢ a → (if same_key j a then x else y) ≡ y
key_other j a x y n = key_cases (λ b. (if b then x else y) ≡ y) j a (λ e. absurd (n e)) (λ _. refl)

-- the same object
pub object_same : {A : Type 0} (o : ObjNo) (x y : A) → (if same_object o o then x else y) ≡ x
object_same o x y = object_cases (λ b. (if b then x else y) ≡ x) o o (λ _. refl) (λ ne. absurd (ne refl))

-- objects that differ
pub object_other : {A : Type 0} (q o : ObjNo) (x y : A) → q ≢ o → (if same_object q o then x else y) ≡ y
object_other q o x y n = object_cases (λ b. (if b then x else y) ≡ y) q o (λ e. absurd (n e)) (λ _. refl)
