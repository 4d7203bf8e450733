-- A value at a key goes, and the value of another place comes there, or nothing does: where the other counted values stand then, and how all is typed.
use Rattle.std.proofs.Common.{◌≡◌, ◌≢◌, ◌⊎◌, inl, inr, ⊎_elim, ◌∙◌, ℕ, Some, refl, sym, ap, subst}
use Rattle.fr_store.specs.Keys.{Key}
use Rattle.fr_store.specs.Store.{Alike, Location, at_key, Val, gone_v, unit_v, int_v, box_v, mutex_v, task_v, ref_v, Store, value_at, put_value, swap}
use Rattle.fr_store.specs.Changes.{SameBut, SameButTwo}
use Rattle.fr_store.specs.Typed.{Tree, hole, owns, KeyTypes, Typed, Unnamed}
use Rattle.fr_store.specs.Rows.{with_type}
use Rattle.fr_store.proofs.Keys.{key_same, key_other}
use Rattle.fr_store.proofs.Chains.{decide_location}
use Rattle.fr_store.proofs.Rows.{forget, swap_own, same_store, unnamed_with, put_there, put_other}
use Rattle.law_plain_values.proofs.acts.OneThread.{CarriedOf, Carried, Counted}
use Rattle.law_plain_values.proofs.acts.Moved.{flip, flip_first, flip_second, flip_third, flip_twice}
use Rattle.law_plain_values.proofs.acts.SlotTurn.{alike_swap}
use Rattle.law_plain_values.proofs.drops.Lost.{Others}
use Rattle.law_plain_values.proofs.acts.Refs.{NoneNew, none_owns}

-- a value isn't other than itself
others_self : (w : Val) → Others w w → ⊥
others_self gone_v h = h
others_self unit_v h = h
others_self (int_v n) h = h
others_self (box_v o) h = h refl
others_self (mutex_v m c) h = h c refl
others_self (task_v t r) h = h r refl
others_self (ref_v l) h = h

-- what is gone isn't counted
others_gone : (w v : Val) → v ≡ gone_v → Others w v → ⊥
others_gone w gone_v e h = h
others_gone w unit_v e h = cc
others_gone w (int_v n) e h = cc
others_gone w (box_v o) e h = cc
others_gone w (mutex_v m c) e h = cc
others_gone w (task_v t r) e h = cc
others_gone w (ref_v l) e h = cc

-- THE VALUE OF ANOTHER PLACE COMES

-- the value w of key h goes, and c comes there from l
pub record Came (s s2 : Store) (h : Key) (l : Location) (w c : Val) : Type 0 where
  pub apart : l ≢ at_key h
  pub was : s.at h ≡ w
  pub from : value_at s l ≡ Some c
  pub now : s2.at h ≡ c
  -- nothing is left there
  pub left : (v : Val) → value_at s2 l ≡ Some v → v ≡ gone_v
  pub same : SameButTwo (at_key h) l s s2

module _ {s s2 : Store} {h : Key} {l : Location} {w c : Val} (k : Came s s2 h l w c) where
  pub came_carried : CarriedOf (Others w) s s2
  came_carried = record { to = flip (at_key h) l; from = flip (at_key h) l; from_to = flip_twice (at_key h) l; to_from = flip_twice (at_key h) l; there = there; back = back }
    where
      there : (q : Location) (v : Val) → Others w v → value_at s q ≡ Some v → value_at s2 (flip (at_key h) l q) ≡ Some v
      there q v o i = by (decide_location q (at_key h)) (decide_location q l)
        where
          by : (q ≡ at_key h) ⊎ (q ≢ at_key h) → (q ≡ l) ⊎ (q ≢ l) → value_at s2 (flip (at_key h) l q) ≡ Some v
          by (inl e) f = let g : Some w ≡ Some v = ap Some (sym k.was) ∙ sym (ap (value_at s) e) ∙ i in let z : w ≡ v = cc in absurd (others_self v (subst (λ n. Others n v) z o))
          by (inr e) (inl f) = ap (λ z. value_at s2 (flip (at_key h) l z)) f ∙ ap (value_at s2) (flip_second (at_key h) l) ∙ ap Some k.now ∙ sym k.from ∙ sym (ap (value_at s) f) ∙ i
          by (inr e) (inr f) = ap (value_at s2) (flip_third (at_key h) l q e f) ∙ k.same q e f ∙ i

      back : (q : Location) (v : Val) → Others w v → value_at s2 q ≡ Some v → value_at s (flip (at_key h) l q) ≡ Some v
      back q v o i = by (decide_location q (at_key h)) (decide_location q l)
        where
          by : (q ≡ at_key h) ⊎ (q ≢ at_key h) → (q ≡ l) ⊎ (q ≢ l) → value_at s (flip (at_key h) l q) ≡ Some v
          by (inl e) f = ap (λ z. value_at s (flip (at_key h) l z)) e ∙ ap (value_at s) (flip_first (at_key h) l) ∙ k.from ∙ ap Some (sym k.now) ∙ sym (ap (value_at s2) e) ∙ i
          by (inr e) (inl f) = absurd (others_gone w v (k.left v (sym (ap (value_at s2) f) ∙ i)) o)
          by (inr e) (inr f) = ap (value_at s) (flip_third (at_key h) l q e f) ∙ sym (k.same q e f) ∙ i

  -- a value that stood nowhere else stands nowhere
  pub came_nowhere : (v : Val) → v ≢ gone_v → ((q : Location) → value_at s q ≡ Some v → q ≡ at_key h) → (q : Location) → value_at s2 q ≡ Some v → ⊥
  came_nowhere v counted only q i = by (decide_location q (at_key h)) (decide_location q l)
    where
      by : (q ≡ at_key h) ⊎ (q ≢ at_key h) → (q ≡ l) ⊎ (q ≢ l) → ⊥
      by (inl e) f = k.apart (only l (k.from ∙ ap Some (sym k.now) ∙ sym (ap (value_at s2) e) ∙ i))
      by (inr e) (inl f) = counted (k.left v (sym (ap (value_at s2) f) ∙ i))
      by (inr e) (inr f) = e (only q (sym (k.same q e f) ∙ i))

-- NOTHING COMES

pub record Went (s s2 : Store) (h : Key) (w : Val) : Type 0 where
  pub was : s.at h ≡ w
  pub now : s2.at h ≡ gone_v
  pub same : SameBut (at_key h) s s2

module _ {s s2 : Store} {h : Key} {w : Val} (k : Went s s2 h w) where
  pub went_carried : CarriedOf (Others w) s s2
  went_carried = record { to = λ q. q; from = λ q. q; from_to = λ q. refl; to_from = λ q. refl; there = there; back = back }
    where
      there : (q : Location) (v : Val) → Others w v → value_at s q ≡ Some v → value_at s2 q ≡ Some v
      there q v o i =
          ⊎_elim (λ (e : q ≡ at_key h). let g : Some w ≡ Some v = ap Some (sym k.was) ∙ sym (ap (value_at s) e) ∙ i in let z : w ≡ v = cc in absurd (others_self v (subst (λ n. Others n v) z o)))
          (λ (ne : q ≢ at_key h). k.same q ne ∙ i) (decide_location q (at_key h))

      back : (q : Location) (v : Val) → Others w v → value_at s2 q ≡ Some v → value_at s q ≡ Some v
      back q v o i =
          ⊎_elim (λ (e : q ≡ at_key h). let g : Some gone_v ≡ Some v = ap Some (sym k.now) ∙ sym (ap (value_at s2) e) ∙ i in let z : v ≡ gone_v = cc in absurd (others_gone w v z o))
          (λ (ne : q ≢ at_key h). sym (k.same q ne) ∙ i) (decide_location q (at_key h))

  pub went_nowhere : (v : Val) → v ≢ gone_v → ((q : Location) → value_at s q ≡ Some v → q ≡ at_key h) → (q : Location) → value_at s2 q ≡ Some v → ⊥
  went_nowhere v counted only q i =
      ⊎_elim (λ (e : q ≡ at_key h). let g : Some gone_v ≡ Some v = ap Some (sym k.now) ∙ sym (ap (value_at s2) e) ∙ i in let z : v ≡ gone_v = cc in counted z)
      (λ (ne : q ≢ at_key h). ne (only q (sym (k.same q ne) ∙ i))) (decide_location q (at_key h))

  pub went_typed : (rank : Key → ℕ) (E : KeyTypes) → Typed rank E s → Unnamed E h → Typed rank (with_type E h (owns hole)) s2
  went_typed rank E typed free = same_store rank (with_type E h (owns hole)) (with_type E h (owns hole)) (put_value s (at_key h) gone_v) s2 (forget rank E s h typed free) (λ j. refl) alike
    where
      alike : Alike (put_value s (at_key h) gone_v) s2
      alike q = ⊎_elim (λ (e : q ≡ at_key h). ap (value_at s2) e ∙ ap Some k.now ∙ sym (put_there s (at_key h) gone_v) ∙ ap (value_at (put_value s (at_key h) gone_v)) (sym e)) (λ (ne : q ≢ at_key h). k.same q ne ∙ sym (put_other s (at_key h) gone_v q ne)) (decide_location q (at_key h))

-- where the value that went is counted nowhere, each counted value stands where it stood
pub light_carried : {s s2 : Store} {h : Key} {w : Val} → Went s s2 h w → (Counted w → ⊥) → Carried s s2
light_carried {s = s} {s2 = s2} {h = h} {w = w} k light = record {
  to = λ q. q;
  from = λ q. q;
  from_to = λ q. refl;
  to_from = λ q. refl;
  there = λ q v c i. ⊎_elim (λ (e : q ≡ at_key h). let g : Some w ≡ Some v = ap Some (sym k.was) ∙ sym (ap (value_at s) e) ∙ i in let z : v ≡ w = cc in absurd (light (subst Counted z c))) (λ (ne : q ≢ at_key h). k.same q ne ∙ i) (decide_location q (at_key h));
  back = λ q v c i. ⊎_elim (λ (e : q ≡ at_key h). let g : Some gone_v ≡ Some v = ap Some (sym k.now) ∙ sym (ap (value_at s2) e) ∙ i in let z : v ≡ gone_v = cc in absurd (subst Counted z c)) (λ (ne : q ≢ at_key h). sym (k.same q ne) ∙ i) (decide_location q (at_key h));
}

-- THE TYPES, where the value of another key comes

-- key k is left with nothing, and key h has what k had
abbrev pub came_types : KeyTypes → Key → Key → Tree → KeyTypes
came_types E h k t = with_type (with_type (with_type E h (owns hole)) k (owns hole)) h (owns t)

-- no mutable reference is new
pub came_none : (E : KeyTypes) (h k : Key) (t : Tree) → NoneNew E (came_types E h k t)
came_none E h k t j u e = let E1 = with_type E h (owns hole) in none_owns E h hole j u (none_owns E1 k hole j u (none_owns (with_type E1 k (owns hole)) h t j u e))

pub came_typed : (rank : Key → ℕ) (E : KeyTypes) (s s2 : Store) (h k : Key) (w c : Val) (t : Tree) → Came s s2 h (at_key k) w c → s2.at k ≡ gone_v → Typed rank E s → Unnamed E h → Unnamed E k → h ≢ k → E k ≡ owns t → Typed rank (came_types E h k t) s2
came_typed rank E s s2 h k w c t came left typed free_h free_k ne full =
    same_store rank (came_types E h k t) (came_types E h k t) (swap (put_value s (at_key h) gone_v) h (at_key k)) s2
    (swap_own rank (with_type E h (owns hole)) (put_value s (at_key h) gone_v) h k 0 hole t t (at_key k) (forget rank E s h typed free_h) (unnamed_with E h hole h free_h) ne (key_same h (owns hole) (E h)) (unnamed_with E h hole k free_k) (key_other k h (owns hole) (E k) (λ q. ne (sym q)) ∙ full) refl refl)
    (λ j. refl) alike
  where
    two : SameButTwo (at_key h) (at_key k) (put_value s (at_key h) gone_v) s2
    two l nh nk = came.same l nh nk ∙ sym (put_other s (at_key h) gone_v l nh)

    alike : Alike (swap (put_value s (at_key h) gone_v) h (at_key k)) s2
    alike = alike_swap (put_value s (at_key h) gone_v) s2 h (at_key k) c came.apart (put_other s (at_key h) gone_v (at_key k) came.apart ∙ came.from) two (ap Some (left ∙ sym (key_same h gone_v (s.at h)))) came.now
