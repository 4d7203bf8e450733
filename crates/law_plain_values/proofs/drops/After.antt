-- What stands at the carrier's keys once its value went, and at all keys that a drop doesn't change.
use Rattle.std.proofs.Common.{◌≡◌, ◌≢◌, ⊎_elim, ◌∙◌, ℕ, Some, None, refl, sym, ap, subst}
use Rattle.fr_base.specs.declared.label.Plain.{Plain}
use Rattle.fr_base.specs.declared.name.MutexNo.{MutexNo}
use Rattle.fr_typing.specs.Kinds.{Owned, Piece}
use Rattle.fr_store.specs.Keys.{Key, slot_k, temp_k, content_k, result_k, hand_k}
use Rattle.fr_store.specs.Store.{Val, gone_v, ref_v, Store}
use Rattle.fr_store.specs.Typed.{KeyTypes}
use Rattle.fr_store.proofs.Keys.{decide_number}
use Rattle.fr_plain.specs.declared.value.Value.{Value}
use Rattle.fr_plain.specs.declared.value.Value.TheVariants.{Held}
use Rattle.fr_plain.specs.State.{slot_at}
use Rattle.fr_plain.specs.MachineThreads.{loose, ended}
use Rattle.fr_plain.specs.PlainState.{Running, PlainState, place_in}
use Rattle.fr_sound.specs.Seen.{owned_val}
use Rattle.fr_sound.specs.States.{Typing, slot_val, temp_val, result_val, IsKept}
use Rattle.law_plain_values.specs.acts.Positions.{Position, temps_of}
use Rattle.law_plain_values.proofs.acts.Lower.{seen_as, seen_is}
use Rattle.law_plain_values.proofs.acts.OneThread.{store, typing_with, RunningCore}
use Rattle.law_plain_values.proofs.acts.Focus.{temp_is}
use Rattle.law_plain_values.specs.drops.Drops.{carries}
use Rattle.law_plain_values.proofs.drops.Carrier.{Carries, carrier_slot, carrier_temp, in_first, no_mark}

-- at its first slot stands that value, and nothing at its other keys
pub record After (y : Typing) (a2 : PlainState Position) (u : ℕ) (E2 : KeyTypes) (v : Val) : Type 0 where
  pub now : (store (typing_with y E2 y.marks) a2).at (slot_k u 0) ≡ v
  pub slots : (i : ℕ) → i ≢ 0 → (store (typing_with y E2 y.marks) a2).at (slot_k u i) ≡ gone_v
  pub temps : (i : ℕ) → (store (typing_with y E2 y.marks) a2).at (temp_k u i) ≡ gone_v
  pub result : (store (typing_with y E2 y.marks) a2).at (result_k u) ≡ gone_v
  pub unmarked : (z : Running Position) (i : ℕ) (m : MutexNo) → place_in (a2.thread u) ≡ Some z → slot_at z.slots i ≡ Some (Held m) → ⊥
  pub unkept : IsKept (a2.thread u) → ⊥
  pub unended : (r : Value) → a2.thread u ≡ Some (ended r) → ⊥

-- it goes on with another value
pub after_carries : (y : Typing) (a2 : PlainState Position) (u : ℕ) (E2 : KeyTypes) (q : Piece) (g : Owned) (w : Plain) → a2.thread u ≡ Some (loose (carries q g w)) → After y a2 u E2 (owned_val y.gives w)
after_carries y a2 u E2 q g w here = record {
  now = ap (slot_val temps_of (typing_with y E2 y.marks) u 0) runs ∙ seen_is temps_of (typing_with y E2 y.marks) u 0 (carries q g w);
  slots = λ i ne. ap (slot_val temps_of (typing_with y E2 y.marks) u i) runs ∙ seen_is temps_of (typing_with y E2 y.marks) u i (carries q g w) ∙ ap (seen_as y.gives u (ref_v (y.marks u i))) (in_first q g w i ne);
  temps = λ i. ap (temp_val temps_of (typing_with y E2 y.marks) u i) runs ∙ temp_is (typing_with y E2 y.marks) u i (carries q g w);
  result = ap (result_val temps_of (typing_with y E2 y.marks) u) here;
  unmarked = λ z i m e f. let k : Some (carries q g w) ≡ Some z = sym runs ∙ e in let is : z ≡ carries q g w = cc in no_mark q g w i m (ap (λ (r : Running Position). slot_at r.slots i) (sym is) ∙ f);
  unkept = λ k. subst IsKept here k;
  unended = λ r e. let f : Some (loose (carries q g w)) ≡ Some (ended r) = sym here ∙ e in cc;
}
  where
    runs : place_in (a2.thread u) ≡ Some (carries q g w)
    runs = ap place_in here

-- it is there no more
pub after_none : (y : Typing) (a2 : PlainState Position) (u : ℕ) (E2 : KeyTypes) → a2.thread u ≡ None → After y a2 u E2 gone_v
after_none y a2 u E2 none = record {
  now = ap (λ z. slot_val temps_of (typing_with y E2 y.marks) u 0 (place_in z)) none;
  slots = λ i ne. ap (λ z. slot_val temps_of (typing_with y E2 y.marks) u i (place_in z)) none;
  temps = λ i. ap (λ z. temp_val temps_of (typing_with y E2 y.marks) u i (place_in z)) none;
  result = ap (result_val temps_of (typing_with y E2 y.marks) u) none;
  unmarked = λ z i m e f. let k : None ≡ Some z = sym (ap place_in none) ∙ e in cc;
  unkept = λ k. subst IsKept none k;
  unended = λ r e. let f : None ≡ Some (ended r) = sym none ∙ e in cc;
}

-- ELSEWHERE the same stands, where contents and results do
module _ {y : Typing} {a : PlainState Position} {u : ℕ} {p : Piece} {v : Plain} (c : Carries y a u p v) (a2 : PlainState Position) (E2 : KeyTypes) {w : Val} (after : After y a2 u E2 w) (others : (n : ℕ) → n ≢ u → place_in (a2.thread n) ≡ place_in (a.thread n)) where
  pub elsewhere : (Off : Key → Type 0)
      → ((h k : ℕ) → Off (content_k h k) → (store (typing_with y E2 y.marks) a2).at (content_k h k) ≡ (store y a).at (content_k h k))
      → ((n : ℕ) → Off (result_k n) → (store (typing_with y E2 y.marks) a2).at (result_k n) ≡ (store y a).at (result_k n))
      → (k : Key) → k ≢ slot_k u 0 → Off k → (store (typing_with y E2 y.marks) a2).at k ≡ (store y a).at k
  elsewhere Off contents results (slot_k n i) ne off =
      ⊎_elim
      (λ (e : n ≡ u). let q : i ≢ 0 = λ f. ne (ap (λ z. slot_k z i) e ∙ ap (slot_k u) f) in ap (λ z. (store (typing_with y E2 y.marks) a2).at (slot_k z i)) e ∙ after.slots i q ∙ sym (carrier_slot c i q) ∙ ap (λ z. (store y a).at (slot_k z i)) (sym e))
      (λ (q : n ≢ u). ap (slot_val temps_of y n i) (others n q)) (decide_number n u)
  elsewhere Off contents results (temp_k n i) ne off =
      ⊎_elim (λ (e : n ≡ u). ap (λ z. (store (typing_with y E2 y.marks) a2).at (temp_k z i)) e ∙ after.temps i ∙ sym (carrier_temp c i) ∙ ap (λ z. (store y a).at (temp_k z i)) (sym e)) (λ (q : n ≢ u). ap (temp_val temps_of y n i) (others n q)) (decide_number n u)
  elsewhere Off contents results (content_k h k) ne off = contents h k off
  elsewhere Off contents results (result_k n) ne off = results n off
  elsewhere Off contents results (hand_k n) ne off = refl

  -- the result of a thread that is as it was
  pub result_same : (n : ℕ) → (n ≢ u → a2.thread n ≡ a.thread n) → (store (typing_with y E2 y.marks) a2).at (result_k n) ≡ (store y a).at (result_k n)
  result_same n same =
      ⊎_elim (λ (e : n ≡ u). ap (λ z. (store (typing_with y E2 y.marks) a2).at (result_k z)) e ∙ after.result ∙ sym (ap (result_val temps_of y u) c.here) ∙ ap (λ z. (store y a).at (result_k z)) (sym e))
      (λ (q : n ≢ u). ap (result_val temps_of y n) (same q)) (decide_number n u)

-- the carrier, as it is, is typed
pub mine_by : (y2 : Typing) (s2 : Store) (a2 : PlainState Position) (u : ℕ) (x z : Running Position) → place_in (a2.thread u) ≡ Some x → RunningCore y2 s2 u (a2.pair u) x → place_in (a2.thread u) ≡ Some z → RunningCore y2 s2 u (a2.pair u) z
mine_by y2 s2 a2 u x z e core f = let g : Some x ≡ Some z = sym e ∙ f in let is : x ≡ z = cc in subst (RunningCore y2 s2 u (a2.pair u)) is core
