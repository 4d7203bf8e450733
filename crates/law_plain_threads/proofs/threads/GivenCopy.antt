-- A thread has given a new one a copy of a variable, or a view of what it refers to.
use Rattle.std.proofs.Common.{◌≡◌, ◌≢◌, ◌⊎◌, inl, inr, ⊎_elim, ◌∙◌, ℕ, Bool, false, ◌∷◌, length, Some, refl, sym, ap, subst, arith}
use Rattle.fr_terms.specs.Terms.{Text}
use Rattle.fr_typing.specs.Kinds.{Owned, Kind, whole}
use Rattle.fr_typing.specs.Places.{Env, AreBelow, kind_places}
use Rattle.fr_store.specs.Keys.{Key, slot_k}
use Rattle.fr_store.specs.Store.{Alike, at_key, Val, ref_v, Store, value_at, Place, put_value}
use Rattle.fr_store.specs.Changes.{SameBut}
use Rattle.fr_store.specs.Typed.{Exact, refers, KeyTypes, Typed, Unnamed}
use Rattle.fr_store.specs.Below.{ExactOf}
use Rattle.fr_store.specs.Rows.{with_type}
use Rattle.fr_store.proofs.Keys.{decide_key, key_same, key_other}
use Rattle.fr_store.proofs.Chains.{decide_location}
use Rattle.fr_store.proofs.Rows.{put_there, put_other, same_store}
use Rattle.fr_store.proofs.ThreadKept.{slots_with}
use Rattle.fr_plain.specs.declared.value.Value.{Value}
use Rattle.fr_plain.specs.State.{slot_at}
use Rattle.fr_plain.specs.PlainState.{Running, PlainState}
use Rattle.fr_sound.specs.States.{Typing, is_held}
use Rattle.law_plain_values.specs.acts.Positions.{Position}
use Rattle.law_plain_values.proofs.acts.Lower.{seen_as}
use Rattle.law_plain_values.proofs.acts.OneThread.{store, typing_with, Counted}
use Rattle.law_plain_values.proofs.acts.AtHand.{mark_off, carried_put}
use Rattle.law_plain_values.proofs.acts.Hand.{pushed_here}
use Rattle.law_plain_threads.proofs.threads.Passed.{Passes, has_slot, has_new, had_slot, passed_same}
use Rattle.law_plain_threads.proofs.threads.Given.{Refers, NewView, Giver, Given, next_free, next_gone, new_many}

-- a value that stays where it is may stand in the new thread's next slot too, with this exact type
pub record Copies (y : Typing) (a : PlainState Position) (t u : ℕ) (x : Running Position) (n : Env) (l : Kind) (v : Value) (i : ℕ) (p : Exact) : Type 0 where
  pub is : slot_at x.slots i ≡ Some v
  pub clear : is_held (Some v) ≡ false
  pub typed : Typed y.rank (with_type y.exact (slot_k u (length n)) p) (put_value (store y a) (at_key (slot_k u (length n))) ((store y a).at (slot_k t i)))
  pub exact : ExactOf (slot_k u) (with_type y.exact (slot_k u (length n)) p) (whole l) p
  pub names : AreBelow (length n) (kind_places l)
  pub view : (b : Bool) (z : Place) → p ≡ refers b z → (b ≡ false) × (z.key ≡ slot_k t i) × Refers (y.exact (slot_k t i))
  pub plain : Counted ((store y a).at (slot_k t i)) → ⊥
  pub sees : (mark : Val) → seen_as y.gives u mark (Some v) ≡ (store y a).at (slot_k t i)

module _ {y : Typing} {a a2 : PlainState Position} {t u : ℕ} {x x2 xu xu2 : Running Position} {e n : Env} {g : Owned} (f : Giver y a t u x xu e n g) (name : Text) {l : Kind} {v : Value} {i : ℕ} {p : Exact} (c : Copies y a t u x n l v i p) (passes : Passes a a2 t u x x2 xu xu2 i (length n)) (left : x2.slots ≡ x.slots) (got : xu2.slots ≡ v ∷ xu.slots) where
  abbrev from : Key
  from = slot_k t i

  abbrev to : Key
  to = slot_k u (length n)

  abbrev E2 : KeyTypes
  E2 = with_type y.exact (slot_k u (length n)) p

  abbrev s1 : Store
  s1 = store y a

  abbrev s2 : Store
  s2 = store (typing_with y (with_type y.exact (slot_k u (length n)) p) y.marks) a2

  free : Unnamed y.exact to
  free = next_free f

  off : (j : Key) → j ≢ to → E2 j ≡ y.exact j
  off j ne = key_other j to p (y.exact j) ne

  is_to : E2 to ≡ p
  is_to = key_same to p (y.exact to)

  -- WHAT STANDS

  at_to : s2.at to ≡ s1.at from
  at_to = has_new y E2 passes (length n) ∙ ap (λ z. seen_as y.gives u (ref_v (y.marks u (length n))) (slot_at z (length n))) got ∙ ap (seen_as y.gives u _) (pushed_here v xu.slots (length n) (sym (new_many f))) ∙ c.sees _

  same : SameBut (at_key to) s1 s2
  same k ne =
      ⊎_elim (λ (q : k ≡ at_key from). ap (value_at s2) q ∙ ap Some (has_slot y E2 passes i ∙ ap (λ z. seen_as y.gives t (ref_v (y.marks t i)) (slot_at z i)) left ∙ sym (had_slot y E2 passes i)) ∙ ap (value_at s1) (sym q)) (λ (nf : k ≢ at_key from). passed_same y E2 passes k ne nf) (decide_location k (at_key from))

  alike : Alike (put_value s1 (at_key to) (s1.at from)) s2
  alike k =
      ⊎_elim (λ (q : k ≡ at_key to). ap (value_at s2) q ∙ ap Some at_to ∙ sym (put_there s1 (at_key to) (s1.at from)) ∙ ap (value_at (put_value s1 (at_key to) (s1.at from))) (sym q))
      (λ (ne : k ≢ at_key to). same k ne ∙ sym (put_other s1 (at_key to) (s1.at from) k ne)) (decide_location k (at_key to))

  refs : (j : Key) (b : Bool) (z : Place) → E2 j ≡ refers b z → (y.exact j ≡ refers b z) ⊎ NewView y t u x n j b z
  refs j b z is = ⊎_elim new (λ (ne : j ≢ to). inl (sym (off j ne) ∙ is)) (decide_key j to)
    where
      new : j ≡ to → (y.exact j ≡ refers b z) ⊎ NewView y t u x n j b z
      new q = let d = c.view b z (sym is_to ∙ ap E2 (sym q) ∙ is) in inr (d.0, i, q, d.1, d.2, ap is_held c.is ∙ c.clear)

  pub copy_given : Given y a a2 t u x xu e e n x.slots (record { name = Some name; part = whole l }) v (with_type y.exact (slot_k u (length n)) p)
  copy_given = record {
    typed = same_store y.rank E2 E2 (put_value s1 (at_key to) (s1.at from)) s2 c.typed (λ k. refl) alike;
    refs = refs;
    off = λ j ne nt. off j ne;
    keeps = λ k h. off (slot_k t k) (λ q. f.differ cc);
    nested = f.nested;
    below = slots_with (slot_k t) y.exact to p e free (λ k lt q. f.differ cc) f.slots;
    long = refl;
    above = λ k le. off (slot_k t k) (λ q. f.differ cc) ∙ f.above k le;
    nested_new = (c.names, f.focus.thread.nested);
    below_new = (subst (ExactOf (slot_k u) E2 (whole l)) (sym is_to) c.exact, slots_with (slot_k u) y.exact to p n free (λ k lt q. let d : k ≡ length n = cc in omega (arith, lt, d)) f.focus.thread.slots);
    below_other = λ w m nt nu h. slots_with (slot_k w) y.exact to p m free (λ k lt q. nu cc) h;
    held = λ b k q z runs mark. same (y.marks b k) (mark_off y a b k q z to f.state runs mark free);
    carried = carried_put s1 s2 to (s1.at from) alike (λ d. subst Counted (next_gone f) d) c.plain;
    slots = f.many;
    hidden = f.hidden;
    marked = λ k q h. h;
    still = λ k q h. h;
    content = λ s k q h d. d;
    clear = c.clear;
    named = refl;
  }
