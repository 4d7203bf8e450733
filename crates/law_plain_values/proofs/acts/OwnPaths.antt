-- What stands under a variable's own boxes and what is at hand change places: the types of both, and of the thread's slots.
use Rattle.std.proofs.Common.{◌≡◌, inl, ◌∙◌, ℕ, zero, suc, ◌<◌, ◌≤◌, Bool, true, false, List, [], ◌∷◌, length, Option, Some, None, refl, sym, ap, subst, arith}
use Rattle.std.specs.Prelude.{◌||◌, not, if◌then◌else◌}
use Rattle.fr_base.specs.declared.place.Lval.{Lval}
use Rattle.fr_typing.proofs.PlaceLemmas.{eq_cases}
use Rattle.fr_typing.specs.Kinds.{unit, int, box, mutex, task, Kind, own, shared, mutable, view, Piece, whole, gone, boxed, box_of}
use Rattle.fr_typing.specs.Places.{Slot, Found, found, type_at, on_path, is_lent, is_mutable, is_own_path, put_under, put_at, AreBelow, piece_places}
use Rattle.fr_store.specs.Keys.{Key}
use Rattle.fr_store.specs.Store.{Store, Place}
use Rattle.fr_store.specs.Typed.{Tree, box_tree, Exact, owns, refers, KeyTypes, tree_under, exact_under, Resolves, here, through, Typed, Unnamed}
use Rattle.fr_store.specs.Changes.{put_tree}
use Rattle.fr_store.specs.Below.{tree_of, TreeOf, ExactOf, SlotsBelow, Apart}
use Rattle.fr_store.specs.Rows.{with_type}
use Rattle.fr_store.specs.Thread.{TempIs, temp_places, ThreadKeys, ThreadTyped}
use Rattle.fr_store.proofs.Keys.{key_same, key_other}
use Rattle.fr_store.proofs.Frame.{part_owns}
use Rattle.fr_store.proofs.Rows.{unnamed_with}
use Rattle.fr_store.proofs.Below.{or_false}
use Rattle.fr_store.proofs.PutAt.{length_put, nested_put}
use Rattle.fr_store.proofs.ThreadKept.{exact_with, known_tree, lent_ref, slots_with}
use Rattle.law_plain_values.proofs.acts.Rethread.{rethread}

-- OWN PATHS

-- a variable has a part, and an exact type of it
variable : (key : ℕ → Key) (E : KeyTypes) (e : List Slot) (x : ℕ) → SlotsBelow key E e → x < length e → (q : Piece) × (type_at e (record { slot = x; depth = 0 }) ≡ found q) × ExactOf key E q (E (key x))
variable key E [] x h lt = absurd (omega (arith, lt))
variable key E (s ∷ e) x h lt =
    eq_cases (λ b. (q : Piece) × ((if b then found s.part else type_at e (record { slot = x; depth = 0 })) ≡ found q) × ExactOf key E q (E (key x))) x (length e)
    (λ is. (s.part, refl, subst (λ z. ExactOf key E s.part (E (key z))) (sym is) h.0))
    (λ ne. variable key E e x h.1 (omega (arith, lt, ne)))

-- what fails on the whole path fails at the variable
on_path_first : (test : Found → Bool) (e : List Slot) (x d : ℕ) → on_path test e x (suc d) ≡ false → test (type_at e (record { slot = x; depth = 0 })) ≡ false
on_path_first test e x zero h = (or_false false (test (type_at e (record { slot = x; depth = 0 }))) h).1
on_path_first test e x (suc d) h = on_path_first test e x d (or_false (on_path test e x (suc d)) (test (type_at e (record { slot = x; depth = suc d }))) h).0

not_false : (b : Bool) → not b ≡ true → b ≡ false
not_false false e = refl
not_false true e = absurd cc

-- the own path of a variable that holds a reference ends there
zero_depth : (key : ℕ → Key) (E : KeyTypes) (e : List Slot) (x : ℕ) → SlotsBelow key E e → x < length e → (m : Bool) (u : Place) (d : ℕ) → E (key x) ≡ refers m u → not (on_path (λ f. is_lent f || is_mutable f) e x d) ≡ true → d ≡ zero
zero_depth key E e x h lt m u zero is o = refl
zero_depth key E e x h lt m u (suc d) is o =
    let v = variable key E e x h lt in
    let f = on_path_first (λ f. is_lent f || is_mutable f) e x d (not_false (on_path (λ f. is_lent f || is_mutable f) e x (suc d)) o) in
    let l = lent_ref key E v.0 m u (subst (ExactOf key E v.0) is v.2) in
    let g : true ≡ false = sym l ∙ ap (λ z. is_lent z || is_mutable z) (sym v.1) ∙ f in absurd cc

-- from a key that owns a tree a place leads down its boxes alone
here_only : (E : KeyTypes) (only : Bool) (k : Key) (d : ℕ) (t : Tree) (b : Key) (n : ℕ) (p : Exact) → E k ≡ owns t → Resolves E only k d b n p → exact_under d (owns t) ≡ Some p
here_only E only k d t _ _ p is (here e) = ap (exact_under d) (sym is) ∙ e
here_only E only k d t b n p is (through m u x js o de r) = let g : owns t ≡ refers m u = sym is ∙ js in absurd cc

-- on an own path an owned value is under the variable's own boxes
pub own_part : (key : ℕ → Key) (E : KeyTypes) (e : List Slot) (w : Lval) (only : Bool) (b : Key) (n : ℕ) (t0 : Tree) → SlotsBelow key E e → w.slot < length e → is_own_path e w ≡ true → Resolves E only (key w.slot) w.depth b n (owns t0)
    → (t : Tree) × (E (key w.slot) ≡ owns t) × (tree_under w.depth t ≡ Some t0)
own_part key E e w only b n t0 h lt mine r = by_type (E (key w.slot)) refl
  where
    no_ref : (m : Bool) (u : Place) (d : ℕ) (b : Key) (n : ℕ) (p : Exact) → E (key w.slot) ≡ refers m u → d ≡ zero → Resolves E only (key w.slot) d b n p → p ≡ owns t0 → ⊥
    no_ref m u d _ _ p is z (here e) f = let g : Some (refers m u) ≡ Some (owns t0) = ap (exact_under zero) (sym is) ∙ ap (λ y. exact_under y (E (key w.slot))) (sym z) ∙ e ∙ ap Some f in cc
    no_ref m u d b n p is z (through m2 u2 x js o de r) f = let g : zero ≡ suc x = sym z ∙ de in cc

    by_type : (y : Exact) → E (key w.slot) ≡ y → (t : Tree) × (E (key w.slot) ≡ owns t) × (tree_under w.depth t ≡ Some t0)
    by_type (owns t) is =
        let x = part_owns w.depth t (owns t0) (here_only E only (key w.slot) w.depth t b n (owns t0) is r) in
        let g : t0 ≡ x.0 = let h : owns t0 ≡ owns x.0 = x.2 in cc in
        (t, is, x.1 ∙ ap Some (sym g))
    by_type (refers m u) is = absurd (no_ref m u w.depth b n (owns t0) is (zero_depth key E e w.slot h lt m u w.depth is mine) r refl)

-- A NEW TREE UNDER BOXES

-- a box around a tree is a tree of the box around its part
tree_box : (p : Piece) (t : Tree) → TreeOf p t → TreeOf (box_of p) (box_tree t)
tree_box (whole (own o)) t h = ap box_tree h
tree_box (whole (shared us)) t h = absurd h
tree_box (whole (mutable us)) t h = absurd h
tree_box (whole (view o)) t h = absurd h
tree_box (gone k) t h = (t, refl, h)
tree_box (boxed p) t h = (t, refl, h)

-- a part with a new tree under it
tree_put : (n : ℕ) (new p : Piece) (th t t0 : Tree) → TreeOf p t → tree_under n t ≡ Some t0 → TreeOf new th → TreeOf (put_under n new p) (put_tree n th t)
tree_put zero new p th t t0 h e f = f
tree_put (suc n) new (whole (own (box o))) th t t0 h e f =
    subst (λ z. TreeOf (box_of (put_under n new (whole (own o)))) (put_tree (suc n) th z)) (sym h)
    (tree_box (put_under n new (whole (own o))) (put_tree n th (tree_of o)) (tree_put n new (whole (own o)) th (tree_of o) t0 refl (ap (tree_under (suc n)) (sym h) ∙ e) f))
tree_put (suc n) new (boxed p) th t t0 h e f =
    subst (λ z. TreeOf (box_of (put_under n new p)) (put_tree (suc n) th z)) (sym h.1)
    (tree_box (put_under n new p) (put_tree n th h.0) (tree_put n new p th h.0 t0 h.2 (ap (tree_under (suc n)) (sym h.1) ∙ e) f))
tree_put (suc n) new (whole (own unit)) th t t0 h e f = let g : None ≡ Some t0 = ap (tree_under (suc n)) (sym h) ∙ e in absurd cc
tree_put (suc n) new (whole (own int)) th t t0 h e f = let g : None ≡ Some t0 = ap (tree_under (suc n)) (sym h) ∙ e in absurd cc
tree_put (suc n) new (whole (own (mutex o))) th t t0 h e f = let g : None ≡ Some t0 = ap (tree_under (suc n)) (sym h) ∙ e in absurd cc
tree_put (suc n) new (whole (own (task o))) th t t0 h e f = let g : None ≡ Some t0 = ap (tree_under (suc n)) (sym h) ∙ e in absurd cc
tree_put (suc n) new (gone k) th t t0 h e f = let g : None ≡ Some t0 = ap (tree_under (suc n)) (sym h) ∙ e in absurd cc
tree_put (suc n) new (whole (shared us)) th t t0 h e f = absurd h
tree_put (suc n) new (whole (mutable us)) th t t0 h e f = absurd h
tree_put (suc n) new (whole (view o)) th t t0 h e f = absurd h

-- the slots after a write under a variable's own boxes
pub slots_put : (key : ℕ → Key) (E : KeyTypes) (e : List Slot) (w : Lval) (new : Piece) (th t t0 : Tree) → Apart key → SlotsBelow key E e → Unnamed E (key w.slot) → E (key w.slot) ≡ owns t → tree_under w.depth t ≡ Some t0 → TreeOf new th
    → SlotsBelow key (with_type E (key w.slot) (owns (put_tree w.depth th t))) (put_at e w new)
slots_put key E [] w new th t t0 differ h free is un f = tt
slots_put key E (s ∷ e) w new th t t0 differ h free is un f =
    eq_cases (λ b. SlotsBelow key (with_type E (key w.slot) (owns (put_tree w.depth th t))) (if b then record s { part = put_under w.depth new s.part } ∷ e else s ∷ put_at e w new)) w.slot (length e)
    (λ at.
    let tree : TreeOf s.part t = subst (ExactOf key E s.part) (ap (λ z. E (key z)) (sym at) ∙ is) h.0 in
    let q = owns (put_tree w.depth th t) in (
      subst (ExactOf key (with_type E (key w.slot) q) (put_under w.depth new s.part)) (sym (ap (λ z. with_type E (key w.slot) q (key z)) (sym at) ∙ key_same (key w.slot) q (E (key w.slot)))) (tree_put w.depth new s.part th t t0 tree un f),
      slots_with key E (key w.slot) q e free (λ i lt z. not_self i (differ i w.slot z) lt at) h.1,
    ))
    (λ ne.
    let q = owns (put_tree w.depth th t) in
    let same = key_other (key (length e)) (key w.slot) q (E (key (length e))) (λ z. ne (sym (differ (length e) w.slot z))) in (
      subst (λ z. ExactOf key (with_type E (key w.slot) q) s.part (with_type E (key w.slot) q (key z))) (sym (length_put e w new)) (subst (ExactOf key (with_type E (key w.slot) q) s.part) (sym same) (exact_with key E (key w.slot) q s.part (E (key (length e))) free (λ m u js. free (key (length e)) m u js) h.0)),
      slots_put key E e w new th t t0 differ h.1 free is un f,
    ))
  where
    not_self : (i : ℕ) → i ≡ w.slot → i < length e → w.slot ≡ length e → ⊥
    not_self i a lt b = omega (arith, a, lt, b)

-- THE THREAD

-- the types after the tree at hand and the one under d boxes of key x have changed places
abbrev pub swapped_types : KeyTypes → Key → Key → ℕ → Tree → Tree → Tree → KeyTypes
swapped_types E a x d th t t0 = with_type (with_type E x (owns (put_tree d th t))) a (owns t0)

-- what refers then referred before
pub swapped_refs : (E : KeyTypes) (a x : Key) (d : ℕ) (th t t0 : Tree) (j : Key) (m : Bool) (u : Place) → swapped_types E a x d th t t0 j ≡ refers m u → E j ≡ refers m u
swapped_refs E a x d th t t0 j m u js = known_tree (λ i. x) a E x (put_tree d th t) j m u (known_tree (λ i. x) a (with_type E x (owns (put_tree d th t))) a t0 j m u js)

pub own_swapped : (key : ℕ → Key) (rank : Key → ℕ) (a : Key) (e : List Slot) (E : KeyTypes) (s s2 : Store) (w : Lval) (o o2 : Option Kind) (new : Piece) (th t t0 : Tree) → ThreadKeys key rank a → ThreadTyped key rank a e E s o
    → E a ≡ owns th → Unnamed E (key w.slot) → E (key w.slot) ≡ owns t → tree_under w.depth t ≡ Some t0 → TreeOf new th → AreBelow w.slot (piece_places new) → w.slot < length e
    → Typed rank (swapped_types E a (key w.slot) w.depth th t t0) s2 → TempIs key (λ _. owns t0) a o2 → temp_places o2 ≡ []
    → ThreadTyped key rank a (put_at e w new) (swapped_types E a (key w.slot) w.depth th t t0) s2 o2
own_swapped key rank a e E s s2 w o o2 new th t t0 ks y ea fw is un f low lt typed temp none =
    let x = key w.slot in
    let q1 = owns (put_tree w.depth th t) in
    let q2 = owns t0 in
    let E1 = with_type E x q1 in
    let fa = unnamed_with E x (put_tree w.depth th t) a y.quiet in
    rethread y (record {
      typed = typed;
      nested = nested_put e w new low y.nested;
      slots = slots_with key E1 a q2 (put_at e w new) fa (λ i _. ks.off i) (slots_put key E e w new th t t0 ks.differ y.slots fw is un f);
      above = λ i le. key_other (key i) a q2 (E1 (key i)) (ks.off i) ∙ key_other (key i) x q1 (E (key i)) (λ z. far i (ks.differ i w.slot z) (subst (λ n. n ≤ i) (length_put e w new) le)) ∙ y.above i (subst (λ n. n ≤ i) (length_put e w new) le);
      temp = temp_is o2 temp;
      names = subst (AreBelow (length (put_at e w new))) (sym none) tt;
      over = λ i il. y.over i (subst (λ n. i < n) (length_put e w new) il);
      stood = λ j m u js. inl (swapped_refs E a x w.depth th t t0 j m u js);
    })
  where
    far : (i : ℕ) → i ≡ w.slot → length e ≤ i → ⊥
    far i z le = omega (arith, z, le, lt)

    temp_is : (o2 : Option Kind) → TempIs key (λ _. owns t0) a o2 → TempIs key (swapped_types E a (key w.slot) w.depth th t t0) a o2
    temp_is None h = key_same a (owns t0) (with_type E (key w.slot) (owns (put_tree w.depth th t)) a) ∙ h
    temp_is (Some k) h = subst (ExactOf key (swapped_types E a (key w.slot) w.depth th t t0) (whole k)) (sym (key_same a (owns t0) (with_type E (key w.slot) (owns (put_tree w.depth th t)) a))) h
