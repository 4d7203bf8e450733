-- A value moves between a key and a location: where counted values stand then, and that marks lead where they led.
use Rattle.std.proofs.Common.{◌≡◌, ◌≢◌, ◌⊎◌, inl, inr, ◌∙◌, ℕ, true, Some, refl, sym, ap, subst}
use Rattle.fr_base.specs.declared.name.MutexNo.{MutexNo}
use Rattle.fr_store.specs.Keys.{Key, slot_k}
use Rattle.fr_store.specs.Store.{Location, at_key, ref_v, Store, value_at, below_key}
use Rattle.fr_store.specs.Typed.{Tree, owns, refers, KeyTypes, exact_under, some_owns, tree_under, here, Loaned, self, loan, Unnamed}
use Rattle.fr_store.specs.Changes.{SameButTwo}
use Rattle.fr_store.proofs.Chains.{decide_location}
use Rattle.fr_store.proofs.Rows.{sole}
use Rattle.fr_plain.specs.declared.value.Value.TheVariants.{Held}
use Rattle.fr_plain.specs.State.{slot_at}
use Rattle.fr_plain.specs.PlainState.{Running, PlainState, place_in}
use Rattle.fr_sound.specs.States.{Typing, slot_val}
use Rattle.law_plain_values.specs.acts.Positions.{Position, temps_of, PositionTypes}
use Rattle.law_plain_values.proofs.acts.Lower.{seen_as, seen_is}
use Rattle.law_plain_values.proofs.acts.OneThread.{store, Carried}
use Rattle.law_plain_values.proofs.acts.AtHand.{ref_type}

-- WHERE A VALUE STANDS AFTER TWO CHANGED PLACES

flip_by : (a b q : Location) → (q ≡ a) ⊎ (q ≢ a) → (q ≡ b) ⊎ (q ≢ b) → Location
flip_by a b q (inl e) f = b
flip_by a b q (inr e) (inl f) = a
flip_by a b q (inr e) (inr f) = q

-- the other of two locations; each third one is itself
pub flip : Location → Location → Location → Location
flip a b q = flip_by a b q (decide_location q a) (decide_location q b)

pub flip_first : (a b : Location) → flip a b a ≡ b
unfolding flip flip_by
flip_first a b = by (decide_location a a) (decide_location a b)
  where
    by : (d : (a ≡ a) ⊎ (a ≢ a)) (f : (a ≡ b) ⊎ (a ≢ b)) → flip_by a b a d f ≡ b
    by (inl e) f = refl
    by (inr e) f = absurd (e refl)

pub flip_second : (a b : Location) → flip a b b ≡ a
unfolding flip flip_by
flip_second a b = by (decide_location b a) (decide_location b b)
  where
    by : (d : (b ≡ a) ⊎ (b ≢ a)) (f : (b ≡ b) ⊎ (b ≢ b)) → flip_by a b b d f ≡ a
    by (inl e) f = e
    by (inr e) (inl f) = refl
    by (inr e) (inr f) = absurd (f refl)

pub flip_third : (a b q : Location) → q ≢ a → q ≢ b → flip a b q ≡ q
unfolding flip flip_by
flip_third a b q na nb = by (decide_location q a) (decide_location q b)
  where
    by : (d : (q ≡ a) ⊎ (q ≢ a)) (f : (q ≡ b) ⊎ (q ≢ b)) → flip_by a b q d f ≡ q
    by (inl e) f = absurd (na e)
    by (inr e) (inl f) = absurd (nb f)
    by (inr e) (inr f) = refl

-- by cases on the two
flip_cases : (P : Location → Type 0) (a b q : Location) → P a → P b → (q ≢ a → q ≢ b → P q) → P q
flip_cases P a b q pa pb other = by (decide_location q a) (decide_location q b)
  where
    by : (q ≡ a) ⊎ (q ≢ a) → (q ≡ b) ⊎ (q ≢ b) → P q
    by (inl e) f = subst P (sym e) pa
    by (inr e) (inl f) = subst P (sym f) pb
    by (inr e) (inr f) = other e f

-- twice is not at all
pub flip_twice : (a b q : Location) → flip a b (flip a b q) ≡ q
flip_twice a b q = flip_cases (λ z. flip a b (flip a b z) ≡ z) a b q (ap (flip a b) (flip_first a b) ∙ flip_second a b) (ap (flip a b) (flip_second a b) ∙ flip_first a b) (λ na nb. ap (flip a b) (flip_third a b q na nb) ∙ flip_third a b q na nb)

-- COUNTED VALUES STAND AGAIN where the values of a key and of a location have changed places
pub carried_swap : (s s2 : Store) (h : Key) (l : Location) → SameButTwo (at_key h) l s s2 → value_at s2 l ≡ Some (s.at h) → Some (s2.at h) ≡ value_at s l → Carried s s2
carried_swap s s2 h l same there hand = record {
  to = flip (at_key h) l;
  from = flip (at_key h) l;
  from_to = flip_twice (at_key h) l;
  to_from = flip_twice (at_key h) l;
  there = λ q v c e. all q ∙ e;
  back = λ q v c e. sym (all (flip (at_key h) l q)) ∙ ap (value_at s2) (flip_twice (at_key h) l q) ∙ e;
}
  where
    all : (q : Location) → value_at s2 (flip (at_key h) l q) ≡ value_at s q
    all q = flip_cases (λ z. value_at s2 (flip (at_key h) l z) ≡ value_at s z) (at_key h) l q (ap (value_at s2) (flip_first (at_key h) l) ∙ there) (ap (value_at s2) (flip_second (at_key h) l) ∙ hand) (λ na nb. ap (value_at s2) (flip_third (at_key h) l q na nb) ∙ same q na nb)

-- MARKS

-- what owns lends nothing
owns_self : (E : KeyTypes) (x j : Key) (t : Tree) → E x ≡ owns t → Loaned E x j → j ≡ x
owns_self E x _ t is self = refl
owns_self E x _ t is (loan {t = k} h u f) =
    let same = owns_self E x k t is h in
    let g : owns t ≡ refers true u = sym is ∙ ap E (sym same) ∙ f in
    absurd cc

-- a mark leads to nothing that an unnamed key owns
pub mark_off_owned : (y : Typing) (a : PlainState Position) (u i : ℕ) (m : MutexNo) (w : Running Position) (x : Key) (t t0 : Tree) (d : ℕ) (l : Location) → PositionTypes y a → place_in (a.thread u) ≡ Some w → slot_at w.slots i ≡ Some (Held m) → Unnamed y.exact x → y.exact x ≡ owns t → tree_under d t ≡ Some t0
    → below_key (store y a) x d ≡ Some l → y.marks u i ≢ l
mark_off_owned y a u i m w x t t0 d l st runs mark free is under chain e =
    let v : (store y a).at (slot_k u i) ≡ ref_v (y.marks u i) = ap (slot_val temps_of y u i) runs ∙ seen_is temps_of y u i w ∙ ap (seen_as y.gives u (ref_v (y.marks u i))) mark in
    let r = ref_type y.rank y.exact (store y a) (slot_k u i) (y.marks u i) st.typed v in
    let h = sole y.rank y.exact (store y a) (record { key = x; depth = d }) x d d (owns t0) (slot_k u i) l st.typed free (here (ap (exact_under d) is ∙ ap some_owns under)) (v ∙ ap ref_v e) chain in
    let same = owns_self y.exact x (slot_k u i) t is h.1 in
    let g : owns t ≡ refers r.0 r.1 = sym is ∙ ap y.exact (sym same) ∙ r.2 in
    absurd cc
