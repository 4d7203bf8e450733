-- Moving out of an own path, and assignment to it.
use Rattle.fr_store.proofs.Keys.{decide_key, key_same, key_other}
use Rattle.fr_typing.proofs.PlaceLemmas.{eq_cases}
use Rattle.std.proofs.Common.{◌≡◌, ◌≢◌, ◌⊎◌, inl, inr, ⊎_elim, ℕ, zero, suc, ◌<◌, ◌≤◌, Bool, true, false, List, [], ◌∷◌, length, Option, Some, None, refl, sym, ap, subst, ◌∙◌, arith}
use Rattle.std.specs.Prelude.{◌||◌, not, if◌then◌else◌}
use Rattle.fr_base.specs.declared.place.Lval.{Lval}
use Rattle.fr_typing.specs.Kinds.{unit, int, box, mutex, task, Kind, own, shared, mutable, view, Piece, whole, gone, boxed, box_of, Owned}
use Rattle.fr_typing.specs.Places.{Slot, Found, found, type_at, write_blocked, on_path, is_lent, is_mutable, is_own_path, put_under, put_at, AreBelow, piece_places}
use Rattle.fr_store.specs.Keys.{Key}
use Rattle.fr_store.specs.Store.{Store, Place, swap, drop_value, Location, locate}
use Rattle.fr_store.specs.Typed.{Tree, hole, box_tree, Exact, owns, refers, KeyTypes, tree_under, exact_under, Resolves, here, through, Typed, Unnamed}
use Rattle.fr_store.specs.Changes.{put_tree}
use Rattle.fr_store.specs.Below.{tree_of, TreeOf, ExactOf, SlotsBelow, Apart, piece_depth}
use Rattle.fr_store.specs.Rows.{with_type, tree_depth}
use Rattle.fr_store.specs.Thread.{TempIs, temp_places, place_of, ThreadKeys, ThreadTyped, After}
use Rattle.fr_store.specs.OwnedRows.{MoveRow, AssignRow}
use Rattle.fr_store.proofs.Frame.{part_owns}
use Rattle.fr_store.proofs.Rows.{found_place, swap_own, unnamed_with, drop_hand, same_env, with_twice}
use Rattle.fr_store.proofs.Below.{mut_place, resolved, or_false}
use Rattle.fr_store.proofs.PutAt.{length_put, nested_put}
use Rattle.fr_store.proofs.ThreadKept.{exact_owned, exact_with, known_tree, lent_ref, no_temp, slots_with, stood, unnamed_key, depth_of_piece}

-- a variable has a part, and an exact type of it
variable : (key : ℕ → Key) (E : KeyTypes) (e : List Slot) (x : ℕ) → SlotsBelow key E e → x < length e → (q : Piece) × (type_at e (record { slot = x; depth = 0 }) ≡ found q) × ExactOf key E q (E (key x))
variable key E [] x h lt = absurd (omega arith)
variable key E (s ∷ e) x h lt =
    eq_cases (λ b. (q : Piece) × ((if b then found s.part else type_at e (record { slot = x; depth = 0 })) ≡ found q) × ExactOf key E q (E (key x))) x (length e)
    (λ is. (s.part, refl, subst (λ z. ExactOf key E s.part (E (key z))) (sym is) h.0))
    (λ ne. variable key E e x h.1 (omega arith))

-- what fails on the whole path fails at the variable
on_path_first : (test : Found → Bool) (e : List Slot) (x d : ℕ) → on_path test e x (suc d) ≡ false → test (type_at e (record { slot = x; depth = 0 })) ≡ false
on_path_first test e x zero h = (or_false false (test (type_at e (record { slot = x; depth = 0 }))) h).1
on_path_first test e x (suc d) h = on_path_first test e x d (or_false (on_path test e x (suc d)) (test (type_at e (record { slot = x; depth = suc d }))) h).0

-- a test whose opposite holds fails
not_false : (b : Bool) → not b ≡ true → b ≡ false
not_false false e = refl
not_false true e = absurd cc

-- what stands on no own path
own_test : Found → Bool
own_test f = is_lent f || is_mutable f

-- from a key that owns a tree a place leads down its boxes alone
here_only : (E : KeyTypes) (only : Bool) (k : Key) (d : ℕ) (t : Tree) (b : Key) (n : ℕ) (p : Exact) → E k ≡ owns t → Resolves E only k d b n p → exact_under d (owns t) ≡ Some p
here_only E only k d t _ _ p is (here e) = ap (exact_under d) (sym is) ∙ e
here_only E only k d t b n p is (through m u x js o de r) = let g : owns t ≡ refers m u = sym is ∙ js in absurd cc

-- the own path of a variable that holds a reference ends there
zero_depth : (key : ℕ → Key) (E : KeyTypes) (e : List Slot) (x : ℕ) → SlotsBelow key E e → x < length e → (m : Bool) (u : Place) (d : ℕ) → E (key x) ≡ refers m u → not (on_path (λ f. is_lent f || is_mutable f) e x d) ≡ true → d ≡ zero
zero_depth key E e x h lt m u zero is o = refl
zero_depth key E e x h lt m u (suc d) is o =
    let v = variable key E e x h lt in
    let f = on_path_first (λ f. is_lent f || is_mutable f) e x d (not_false (on_path (λ f. is_lent f || is_mutable f) e x (suc d)) o) in
    let l = lent_ref key E v.0 m u (subst (ExactOf key E v.0) is v.2) in
    let g : true ≡ false = sym l ∙ ap (λ z. is_lent z || is_mutable z) (sym v.1) ∙ f in absurd cc

-- on an own path an owned value is under the variable's own boxes
own_part : (key : ℕ → Key) (E : KeyTypes) (e : List Slot) (w : Lval) (only : Bool) (b : Key) (n : ℕ) (t0 : Tree) → SlotsBelow key E e → w.slot < length e → is_own_path e w ≡ true → Resolves E only (key w.slot) w.depth b n (owns t0)
    → (t : Tree) × (E (key w.slot) ≡ owns t) × (tree_under w.depth t ≡ Some t0)
own_part key E e w only b n t0 h lt mine r = by_type (E (key w.slot)) refl
  where
    no_ref : (m : Bool) (u : Place) (d : ℕ) (b : Key) (n : ℕ) (p : Exact) → E (key w.slot) ≡ refers m u → d ≡ zero → Resolves E only (key w.slot) d b n p → p ≡ owns t0 → ⊥
    no_ref m u d _ _ p is z (here e) f = let g : Some (refers m u) ≡ Some (owns t0) = ap (exact_under zero) (sym is) ∙ ap (λ y. exact_under y (E (key w.slot))) (sym z) ∙ e ∙ ap Some f in cc
    no_ref m u d b n p is z (through m2 u2 x js o de r) f = let g : zero ≡ suc x = sym z ∙ de in cc

    by_type : (y : Exact) → E (key w.slot) ≡ y → (t : Tree) × (E (key w.slot) ≡ owns t) × (tree_under w.depth t ≡ Some t0)
    by_type (owns t) is =
        let x = part_owns w.depth t (owns t0) (here_only E only (key w.slot) w.depth t b n (owns t0) is r) in
        let g : t0 ≡ x.0 = let h : owns t0 ≡ owns x.0 = x.2 in cc in
        (t, is, x.1 ∙ ap Some (sym g))
    by_type (refers m u) is = absurd (no_ref m u w.depth b n (owns t0) is (zero_depth key E e w.slot h lt m u w.depth is mine) r refl)

-- on an own path a reference stands in the variable itself
pub own_reference : (key : ℕ → Key) (E : KeyTypes) (e : List Slot) (w : Lval) (only : Bool) (b : Key) (n : ℕ) (m : Bool) (u : Place) → SlotsBelow key E e → w.slot < length e → is_own_path e w ≡ true → Resolves E only (key w.slot) w.depth b n (refers m u) → w.depth ≡ zero
own_reference key E e w only b n m u h lt mine r = by_type (E (key w.slot)) refl
  where
    by_type : (y : Exact) → E (key w.slot) ≡ y → w.depth ≡ zero
    by_type (owns t) is = let x = part_owns w.depth t (refers m u) (here_only E only (key w.slot) w.depth t b n (refers m u) is r) in let g : refers m u ≡ owns x.0 = x.2 in absurd cc
    by_type (refers q v) is = zero_depth key E e w.slot h lt q v w.depth is mine

-- a box around a tree is a tree of the box around its part
tree_box : (p : Piece) (t : Tree) → TreeOf p t → TreeOf (box_of p) (box_tree t)
tree_box (whole (own o)) t h = ap box_tree h
tree_box (whole (shared us)) t h = absurd h
tree_box (whole (mutable us)) t h = absurd h
tree_box (whole (view o)) t h = absurd h
tree_box (gone k) t h = (t, refl, h)
tree_box (boxed p) t h = (t, refl, h)

-- a part with a new tree under it
tree_put : (n : ℕ) (new p : Piece) (th t t0 : Tree) → TreeOf p t → tree_under n t ≡ Some t0 → TreeOf new th → TreeOf (put_under n new p) (put_tree n th t)
tree_put zero new p th t t0 h e f = f
tree_put (suc n) new (whole (own (box o))) th t t0 h e f =
    subst (λ z. TreeOf (box_of (put_under n new (whole (own o)))) (put_tree (suc n) th z)) (sym h)
    (tree_box (put_under n new (whole (own o))) (put_tree n th (tree_of o)) (tree_put n new (whole (own o)) th (tree_of o) t0 refl (ap (tree_under (suc n)) (sym h) ∙ e) f))
tree_put (suc n) new (boxed p) th t t0 h e f =
    subst (λ z. TreeOf (box_of (put_under n new p)) (put_tree (suc n) th z)) (sym h.1)
    (tree_box (put_under n new p) (put_tree n th h.0) (tree_put n new p th h.0 t0 h.2 (ap (tree_under (suc n)) (sym h.1) ∙ e) f))
tree_put (suc n) new (whole (own unit)) th t t0 h e f = let g : None ≡ Some t0 = ap (tree_under (suc n)) (sym h) ∙ e in absurd cc
tree_put (suc n) new (whole (own int)) th t t0 h e f = let g : None ≡ Some t0 = ap (tree_under (suc n)) (sym h) ∙ e in absurd cc
tree_put (suc n) new (whole (own (mutex o))) th t t0 h e f = let g : None ≡ Some t0 = ap (tree_under (suc n)) (sym h) ∙ e in absurd cc
tree_put (suc n) new (whole (own (task o))) th t t0 h e f = let g : None ≡ Some t0 = ap (tree_under (suc n)) (sym h) ∙ e in absurd cc
tree_put (suc n) new (gone k) th t t0 h e f = let g : None ≡ Some t0 = ap (tree_under (suc n)) (sym h) ∙ e in absurd cc
tree_put (suc n) new (whole (shared us)) th t t0 h e f = absurd h
tree_put (suc n) new (whole (mutable us)) th t t0 h e f = absurd h
tree_put (suc n) new (whole (view o)) th t t0 h e f = absurd h

-- the slots after a write under a variable's own boxes
slots_put : (key : ℕ → Key) (E : KeyTypes) (e : List Slot) (w : Lval) (new : Piece) (th t t0 : Tree) → Apart key → SlotsBelow key E e → Unnamed E (key w.slot) → E (key w.slot) ≡ owns t → tree_under w.depth t ≡ Some t0 → TreeOf new th
    → SlotsBelow key (with_type E (key w.slot) (owns (put_tree w.depth th t))) (put_at e w new)
slots_put key E [] w new th t t0 differ h free is un f = tt
slots_put key E (s ∷ e) w new th t t0 differ h free is un f =
    eq_cases (λ b. SlotsBelow key (with_type E (key w.slot) (owns (put_tree w.depth th t))) (if b then record s { part = put_under w.depth new s.part } ∷ e else s ∷ put_at e w new)) w.slot (length e)
    (λ at.
    let tree : TreeOf s.part t = subst (ExactOf key E s.part) (ap (λ z. E (key z)) (sym at) ∙ is) h.0 in
    let q = owns (put_tree w.depth th t) in (
      subst (ExactOf key (with_type E (key w.slot) q) (put_under w.depth new s.part)) (sym (ap (λ z. with_type E (key w.slot) q (key z)) (sym at) ∙ key_same (key w.slot) q (E (key w.slot)))) (tree_put w.depth new s.part th t t0 tree un f),
      slots_with key E (key w.slot) q e free (λ i lt z. not_self i (differ i w.slot z) lt at) h.1,
    ))
    (λ ne.
    let q = owns (put_tree w.depth th t) in
    let same = key_other (key (length e)) (key w.slot) q (E (key (length e))) (λ z. ne (sym (differ (length e) w.slot z))) in (
      subst (λ z. ExactOf key (with_type E (key w.slot) q) s.part (with_type E (key w.slot) q (key z))) (sym (length_put e w new)) (subst (ExactOf key (with_type E (key w.slot) q) s.part) (sym same) (exact_with key E (key w.slot) q s.part (E (key (length e))) free (λ m u js. free (key (length e)) m u js) h.0)),
      slots_put key E e w new th t t0 differ h.1 free is un f,
    ))
  where
    not_self : (i : ℕ) → i ≡ w.slot → i < length e → w.slot ≡ length e → ⊥
    not_self i a lt b = omega arith

-- the tree of the temporary and one on an own path have changed places
own_swapped : (key : ℕ → Key) (rank : Key → ℕ) (a : Key) (e : List Slot) (E : KeyTypes) (s : Store) (w : Lval) (o : Option Kind) (new : Piece) (th t t0 : Tree) → ThreadKeys key rank a → ThreadTyped key rank a e E s o
    → E a ≡ owns th → w.slot < length e → write_blocked e w.slot ≡ false → E (key w.slot) ≡ owns t → tree_under w.depth t ≡ Some t0 → TreeOf new th → AreBelow w.slot (piece_places new)
    → (s2 : Store) (o2 : Option Kind) (t2 : Tree) → Typed rank (with_type (with_type E (key w.slot) (owns (put_tree w.depth th t))) a (owns t2)) s2 → TempIs key (λ _. owns t2) a o2 → temp_places o2 ≡ []
    → After key rank a E (put_at e w new) s2 o2
own_swapped key rank a e E s w o new th t t0 ks y ea lt free is un f low s2 o2 t2 typed temp none =
    let x = key w.slot in
    let fw = unnamed_key key rank a e E s o ks y w.slot free (λ m u z. let g : owns th ≡ refers m u = sym ea ∙ z in absurd cc) in
    let q1 = owns (put_tree w.depth th t) in
    let q2 = owns t2 in
    let E1 = with_type E x q1 in
    let E2 = with_type E1 a q2 in
    let fa = unnamed_with E x (put_tree w.depth th t) a y.quiet in
    record {
      env = E2;
      others = λ j ja jk. key_other j a q2 (E1 j) ja ∙ key_other j x q1 (E j) (jk w.slot);
      new = λ j m u js. stood key a E j m u (known_tree key a E x (put_tree w.depth th t) j m u (known_tree key a E1 a t2 j m u js));
      thread = record {
        typed = typed;
        nested = nested_put e w new low y.nested;
        over = λ i il. y.over i (subst (λ n. i < n) (length_put e w new) il);
        slots = slots_with key E1 a q2 (put_at e w new) fa (λ i _. ks.off i) (slots_put key E e w new th t t0 ks.differ y.slots fw is un f);
        above = λ i le. key_other (key i) a q2 (E1 (key i)) (ks.off i) ∙ key_other (key i) x q1 (E (key i)) (λ z. far i (ks.differ i w.slot z) (subst (λ n. n ≤ i) (length_put e w new) le)) ∙ y.above i (subst (λ n. n ≤ i) (length_put e w new) le);
        temp = temp_is o2 temp;
        names = subst (AreBelow (length (put_at e w new))) (sym none) tt;
        quiet = unnamed_with E1 a t2 a fa;
        alone = λ j m u js ne. shorter j u (y.alone j m u (back j m u js ne) ne);
      };
    }
  where
    far : (i : ℕ) → i ≡ w.slot → length e ≤ i → ⊥
    far i z le = omega arith

    temp_is : (o2 : Option Kind) → TempIs key (λ _. owns t2) a o2 → TempIs key (with_type (with_type E (key w.slot) (owns (put_tree w.depth th t))) a (owns t2)) a o2
    temp_is None h = key_same a (owns t2) (with_type E (key w.slot) (owns (put_tree w.depth th t)) a) ∙ h
    temp_is (Some k) h = subst (ExactOf key (with_type (with_type E (key w.slot) (owns (put_tree w.depth th t))) a (owns t2)) (whole k)) (sym (key_same a (owns t2) (with_type E (key w.slot) (owns (put_tree w.depth th t)) a))) h

    back : (j : Key) (m : Bool) (u : Place) → with_type (with_type E (key w.slot) (owns (put_tree w.depth th t))) a (owns t2) j ≡ refers m u → j ≢ a → E j ≡ refers m u
    back j m u js ne =
        let g = sym (key_other j a (owns t2) (with_type E (key w.slot) (owns (put_tree w.depth th t)) j) ne) ∙ js in
        ⊎_elim (λ (z : j ≡ key w.slot). let q : owns (put_tree w.depth th t) ≡ refers m u = sym (key_same (key w.slot) (owns (put_tree w.depth th t)) (E (key w.slot))) ∙ ap (with_type E (key w.slot) (owns (put_tree w.depth th t))) (sym z) ∙ g in absurd cc)
        (λ (z : j ≢ key w.slot). sym (key_other j (key w.slot) (owns (put_tree w.depth th t)) (E j) z) ∙ g) (decide_key j (key w.slot))

    shorter : (j : Key) (u : Place) → ((i : ℕ) × (i < length e) × (j ≡ key i)) ⊎ ((x : ℕ) → u.key ≢ key x) → ((i : ℕ) × (i < length (put_at e w new)) × (j ≡ key i)) ⊎ ((x : ℕ) → u.key ≢ key x)
    shorter j u (inl z) = inl (z.0, subst (λ n. z.0 < n) (sym (length_put e w new)) z.1, z.2)
    shorter j u (inr z) = inr z

-- moving out of an own path
pub move_row : MoveRow
move_row key rank a e E s w o ks y lt is free mine =
    let r = resolved key E (mut_place rank E s y.typed) e y.nested y.slots w (whole (own o)) lt is in
    let res : Resolves E false (key w.slot) w.depth r.base r.boxes (owns (tree_of o)) = subst (Resolves E false (key w.slot) w.depth r.base r.boxes) (exact_owned key E o r.type r.exact) r.res in
    let p = own_part key E e w false r.base r.boxes (tree_of o) y.slots lt mine res in
    let fw = unnamed_key key rank a e E s None ks y w.slot free (λ m u z. absurd (no_temp E a m u y.temp z)) in
    let f = found_place rank E s false (place_of key w) r.base r.boxes (owns (tree_of o)) y.typed res in
    let typed = swap_own rank E s a (key w.slot) w.depth hole p.0 (tree_of o) f.loc y.typed y.quiet (λ z. ks.off w.slot (sym z)) y.temp fw p.1 p.2 f.at in
    (f.loc, f.at, own_swapped key rank a e E s w None (gone (own o)) hole p.0 (tree_of o) ks y y.temp lt free p.1 p.2 refl tt (swap s a f.loc) (Some (own o)) (tree_of o) typed refl refl)

-- an exact type of a part that is no reference is owned
owned_found : (key : ℕ → Key) (E : KeyTypes) (q : Piece) (x : Exact) → ExactOf key E q x → (is_lent (found q) || is_mutable (found q)) ≡ false → (t : Tree) × (x ≡ owns t) × TreeOf q t
owned_found key E q (owns t) h f = (t, refl, h)
owned_found key E q (refers m u) h f = let g : true ≡ false = sym (lent_ref key E q m u h) ∙ f in absurd cc

-- an assignment on an own path, before what stood there is dropped at the hand
pub record Assigned (key : ℕ → Key) (rank : Key → ℕ) (a : Key) (e : List Slot) (E : KeyTypes) (s : Store) (w : Lval) (o : Owned) (q : Piece) : Type 0 where
  pub loc : Location
  pub at : locate s (place_of key w) ≡ Some loc
  pub tree : Tree
  pub of : TreeOf q tree
  pub types : KeyTypes
  pub typed : Typed rank types (swap s a loc)
  pub free : Unnamed types a
  pub owned : types a ≡ owns tree
  pub after : (fuel : ℕ) → piece_depth q ≤ fuel → After key rank a E (put_at e w (whole (own o))) (drop_value fuel a (swap s a loc)) None

-- assignment on an own path, up to the drop
pub assigned : (key : ℕ → Key) (rank : Key → ℕ) (a : Key) (e : List Slot) (E : KeyTypes) (s : Store) (w : Lval) (o : Owned) (q : Piece) → ThreadKeys key rank a → ThreadTyped key rank a e E s (Some (own o)) → w.slot < length e → type_at e w ≡ found q
    → (is_lent (found q) || is_mutable (found q)) ≡ false → write_blocked e w.slot ≡ false → is_own_path e w ≡ true → Assigned key rank a e E s w o q
assigned key rank a e E s w o q ks y lt is plain free mine =
    let r = resolved key E (mut_place rank E s y.typed) e y.nested y.slots w q lt is in
    let x = owned_found key E q r.type r.exact plain in
    let res : Resolves E false (key w.slot) w.depth r.base r.boxes (owns x.0) = subst (Resolves E false (key w.slot) w.depth r.base r.boxes) x.1 r.res in
    let p = own_part key E e w false r.base r.boxes x.0 y.slots lt mine res in
    let ea : E a ≡ owns (tree_of o) = exact_owned key E o (E a) y.temp in
    let fw = unnamed_key key rank a e E s (Some (own o)) ks y w.slot free (λ m u z. let g : owns (tree_of o) ≡ refers m u = sym ea ∙ z in absurd cc) in
    let f = found_place rank E s false (place_of key w) r.base r.boxes (owns x.0) y.typed res in
    let typed = swap_own rank E s a (key w.slot) w.depth (tree_of o) p.0 x.0 f.loc y.typed y.quiet (λ z. ks.off w.slot (sym z)) ea fw p.1 p.2 f.at in
    let E1 = with_type E (key w.slot) (owns (put_tree w.depth (tree_of o) p.0)) in
    let E2 = with_type E1 a (owns x.0) in
    let fa = unnamed_with E1 a x.0 a (unnamed_with E (key w.slot) (put_tree w.depth (tree_of o) p.0) a y.quiet) in
    record {
      loc = f.loc;
      at = f.at;
      tree = x.0;
      of = x.2;
      types = E2;
      typed = typed;
      free = fa;
      owned = key_same a (owns x.0) (E1 a);
      after = λ fuel less.
          let deep = depth_of_piece q x.0 x.2 in
          let le : tree_depth x.0 ≤ fuel = omega (arith, deep, less) in
          let dropped = drop_hand rank E2 (swap s a f.loc) a x.0 fuel typed fa (key_same a (owns x.0) (E1 a)) le in
          let typed2 = same_env rank (with_type E2 a (owns hole)) (with_type E1 a (owns hole)) (drop_value fuel a (swap s a f.loc)) dropped (with_twice E1 a (owns x.0) (owns hole)) in
          own_swapped key rank a e E s w (Some (own o)) (whole (own o)) (tree_of o) p.0 x.0 ks y ea lt free p.1 p.2 refl tt (drop_value fuel a (swap s a f.loc)) None hole typed2 refl refl;
    }

-- assignment on an own path
pub assign_row : AssignRow
assign_row key rank a e E s w o q ks y lt is plain free mine =
    let f = assigned key rank a e E s w o q ks y lt is plain free mine in
    (f.loc, f.at, f.after)
