-- What is reached through a reference is whole; writing there.
use Rattle.fr_store.proofs.Keys.{decide_number}
use Rattle.std.proofs.Common.{◌≡◌, ◌≢◌, ◌⊎◌, inl, inr, ⊎_elim, ℕ, zero, suc, ◌<◌, Bool, true, false, List, Option, Some, None, refl, sym, ap, subst, ◌∙◌, arith}
use Rattle.std.specs.Prelude.{◌||◌, not}
use Rattle.fr_base.specs.declared.place.Lval.{Lval}
use Rattle.fr_typing.specs.Kinds.{Owned, box, own, shared, mutable, view, Piece, whole, gone, boxed, map_some}
use Rattle.fr_typing.specs.Places.{Slot, Found, found, undefined, no_target, type_at, on_path, is_lent, is_mutable, Shape, owned_shape, shared_to, mutable_to, same_owned_shape, first_shape, piece_shape}
use Rattle.fr_store.specs.Keys.{Key}
use Rattle.fr_store.specs.Store.{Store, Place, add}
use Rattle.fr_store.specs.Typed.{Tree, box_tree, Exact, owns, refers, KeyTypes, Whole, WholeTree, exact_under, Resolves, here, through, Typed}
use Rattle.fr_store.specs.Below.{tree_of, TreeOf, RefOf, ExactOf}
use Rattle.fr_store.specs.Thread.{place_of}
use Rattle.fr_store.specs.OwnedRows.{WriteThroughRow}
use Rattle.fr_store.proofs.Chains.{part_suc, add_suc}
use Rattle.fr_store.proofs.Sound.{res_part, ref_at}
use Rattle.fr_store.proofs.Below.{res_box, res_once, resolved, resolved_writable, mut_place, add_zero, part_zero}
use Rattle.fr_store.proofs.Rows.{found_place, swap_through}
use Rattle.fr_store.proofs.ThreadKept.{stood, unnamed_key, exact_owned, ref_base}

-- one star less
record Before (E : KeyTypes) (only : Bool) (k : Key) (f : ℕ) (b : Key) (n : ℕ) (p : Exact) : Type 0 where
  base : Key
  boxes : ℕ
  type : Exact
  res : Resolves E only k f base boxes type
  last : ((t : Tree) × (type ≡ owns (box_tree t)) × (p ≡ owns t)) ⊎ ((m : Bool) × (u : Place) × (type ≡ refers m u) × Resolves E only u.key u.depth b n p)

-- what a place resolves to, by the place with one star less
before : (E : KeyTypes) (only : Bool) (k : Key) (d f : ℕ) (b : Key) (n : ℕ) (p : Exact) → Resolves E only k d b n p → d ≡ suc f → Before E only k f b n p
before E only k d f _ _ p (here e) z =
    let x = part_suc f (E k) p (ap (λ y. exact_under y (E k)) (sym z) ∙ e) in
    record { base = k; boxes = f; type = owns (box_tree x.0); res = here x.1; last = inl (x.0, refl, x.2) }
before E only k d f b n p (through m u x is o de r) z = subst (λ y. Before E only k y b n p) (same x f (sym de ∙ z)) (by x r (λ y q. before E only u.key (add u.depth x) y b n p r q))
  where
    same : (x f : ℕ) → suc x ≡ suc f → x ≡ f
    same x f e = omega (arith, e)

    by : (x : ℕ) → Resolves E only u.key (add u.depth x) b n p → ((y : ℕ) → add u.depth x ≡ suc y → Before E only u.key y b n p) → Before E only k x b n p
    by zero r ih = record { base = k; boxes = zero; type = refers m u; res = here (ap (exact_under zero) is ∙ part_zero (refers m u)); last = inr (m, u, refl, subst (λ y. Resolves E only u.key y b n p) (add_zero u.depth) r) }
    by (suc x) r ih =
        let h = ih (add u.depth x) (add_suc u.depth x) in
        record { base = h.base; boxes = h.boxes; type = h.type; res = through m u x is o refl h.res; last = h.last }

module _ (rank : Key → ℕ) (E : KeyTypes) (s : Store) (t : Typed rank E s) where
  -- what a place leads to is in the variable's own chain, or whole
  pub res_whole : (only : Bool) (k : Key) (d : ℕ) (b : Key) (n : ℕ) (p : Exact) → Resolves E only k d b n p → Whole p ⊎ ((k ≡ b) × (d ≡ n))
  res_whole only k zero _ _ p (here e) = inr (refl, refl)
  res_whole only k zero b n p (through m u x is o de r) = absurd cc
  res_whole only k (suc f) b n p r = by (before E only k (suc f) f b n p r refl) (λ b n p r. res_whole only k f b n p r)
    where
      by : Before E only k f b n p → ((b : Key) (n : ℕ) (p : Exact) → Resolves E only k f b n p → Whole p ⊎ ((k ≡ b) × (f ≡ n))) → Whole p ⊎ ((k ≡ b) × (suc f ≡ n))
      by h ih = last h.last
        where
          last : (((t : Tree) × (h.type ≡ owns (box_tree t)) × (p ≡ owns t)) ⊎ ((m : Bool) × (u : Place) × (h.type ≡ refers m u) × Resolves E only u.key u.depth b n p)) → Whole p ⊎ ((k ≡ b) × (suc f ≡ n))
          last (inl x) =
              let g = res_box E only k f h.base h.boxes h.type x.0 h.res x.1 in
              let q = res_once E only only k (suc f) h.base b (suc h.boxes) n (owns x.0) p g r in
              ⊎_elim (λ (z : Whole h.type). inl (subst Whole (sym x.2) (inside x.0 (subst Whole x.1 z)))) (λ (z : (k ≡ h.base) × (f ≡ h.boxes)). inr (z.0 ∙ q.0, ap suc z.1 ∙ q.1)) (ih h.base h.boxes h.type h.res)
            where
              inside : (y : Tree) → Whole (owns (box_tree y)) → Whole (owns y)
              inside y z = z
          last (inr x) =
              let is = ref_base h.boxes (E h.base) x.0 x.1 (res_part E only k f h.base h.boxes h.type h.res ∙ ap Some x.2) in
              let z = ref_at rank E s t h.base x.0 x.1 is in
              let q = res_once E x.0 only x.1.key x.1.depth z.base b z.boxes n z.type p z.res x.3 in
              inl (subst Whole q.2 z.whole)

-- a whole tree of that shape
whole_shape : (look : Lval → Option Shape) (q : Piece) (t : Tree) (o : Owned) → TreeOf q t → WholeTree t → piece_shape look q ≡ Some (owned_shape o) → t ≡ tree_of o
whole_shape look (whole (own x)) t o h w e = let g : x ≡ o = cc in h ∙ ap tree_of g
whole_shape look (whole (shared us)) t o h w e = absurd h
whole_shape look (whole (mutable us)) t o h w e = absurd h
whole_shape look (whole (view x)) t o h w e = absurd h
whole_shape look (gone k) t o h w e = absurd (subst WholeTree h w)
whole_shape look (boxed p) t o h w e = by (piece_shape look p) e (λ x f. whole_shape look p h.0 x h.2 (subst WholeTree h.1 w) f)
  where
    by : (f : Option Shape) → same_owned_shape f ≡ Some (owned_shape o) → ((x : Owned) → f ≡ Some (owned_shape x) → h.0 ≡ tree_of x) → t ≡ tree_of o
    by None e ih = absurd cc
    by (Some (owned_shape x)) e ih = let g : box x ≡ o = cc in h.1 ∙ ap box_tree (ih x refl) ∙ ap tree_of g
    by (Some (shared_to x)) e ih = absurd cc
    by (Some (mutable_to x)) e ih = absurd cc

-- a path that isn't its own has a reference on it
found_on_path : (test : Found → Bool) (e : List Slot) (x d : ℕ) → on_path test e x d ≡ true → (n : ℕ) × (n < d) × (test (type_at e (record { slot = x; depth = n })) ≡ true)
found_on_path test e x zero h = absurd cc
found_on_path test e x (suc d) h = by (on_path test e x d) refl h (found_on_path test e x d)
  where
    by : (b : Bool) → on_path test e x d ≡ b → (b || test (type_at e (record { slot = x; depth = d }))) ≡ true → (on_path test e x d ≡ true → (n : ℕ) × (n < d) × (test (type_at e (record { slot = x; depth = n })) ≡ true)) → (n : ℕ) × (n < suc d) × (test (type_at e (record { slot = x; depth = n })) ≡ true)
    by true is h ih = let y = ih is in let lt = y.1 in (y.0, omega arith, y.2)
    by false is h ih = (d, omega arith, h)

-- in a chain of boxes all is owned
part_before : (d n : ℕ) (q p : Exact) → exact_under d q ≡ Some p → n < d → (t : Tree) × (exact_under n q ≡ Some (owns t))
part_before zero n q p e lt = absurd (omega arith)
part_before (suc d) n q p e lt =
    let x = part_suc d q p e in
    ⊎_elim (λ (z : n ≡ d). (box_tree x.0, ap (λ y. exact_under y q) z ∙ x.1)) (λ (z : n ≢ d). part_before d n q (owns (box_tree x.0)) x.1 (omega arith)) (decide_number n d)

-- no tree is of a part that is a reference
ref_test : (key : ℕ → Key) (E : KeyTypes) (f : Found) (q : Piece) (t : Tree) → f ≡ found q → (is_lent f || is_mutable f) ≡ true → TreeOf q t → ⊥
ref_test key E f (whole (own o)) t is h g = let x : false ≡ true = ap (λ z. is_lent z || is_mutable z) (sym is) ∙ h in cc
ref_test key E f (whole (shared us)) t is h g = g
ref_test key E f (whole (mutable us)) t is h g = g
ref_test key E f (whole (view o)) t is h g = g
ref_test key E f (gone k) t is h g = let x : false ≡ true = ap (λ z. is_lent z || is_mutable z) (sym is) ∙ h in cc
ref_test key E f (boxed p) t is h g = let x : false ≡ true = ap (λ z. is_lent z || is_mutable z) (sym is) ∙ h in cc

-- what the test holds of is found
test_found : (f : Found) → (is_lent f || is_mutable f) ≡ true → (q : Piece) × (f ≡ found q)
test_found (found q) h = (q, refl)
test_found undefined h = absurd cc
test_found no_target h = absurd cc

-- a test whose opposite fails holds
not_true : (b : Bool) → not b ≡ false → b ≡ true
not_true true e = refl
not_true false e = absurd cc

-- `w = t` through mutable references
pub write_through_row : WriteThroughRow
write_through_row key rank a e E s w o q look ks t lt is shape free writable not_own =
    let ea : E a ≡ owns (tree_of o) = exact_owned key E o (E a) t.temp in
    let fw = unnamed_key key rank a e E s (Some (own o)) ks t w.slot free (λ m u z. let g : owns (tree_of o) ≡ refers m u = sym ea ∙ z in absurd cc) in
    let r = resolved_writable key E (mut_place rank E s t.typed) e t.nested t.slots w q lt writable is in
    let tree = by_type r.type r.exact (⊎_elim (λ (z : Whole r.type). z) (λ (z : (key w.slot ≡ r.base) × (w.depth ≡ r.boxes)). absurd (no_chain r.type (ap (λ k. exact_under w.depth (E k)) z.0 ∙ ap (λ n. exact_under n (E r.base)) z.1 ∙ res_part E true (key w.slot) w.depth r.base r.boxes r.type r.res))) (res_whole rank E s t.typed true (key w.slot) w.depth r.base r.boxes r.type r.res)) in
    let res : Resolves E true (key w.slot) w.depth r.base r.boxes (owns (tree_of o)) = subst (Resolves E true (key w.slot) w.depth r.base r.boxes) tree r.res in
    let f = found_place rank E s true (place_of key w) r.base r.boxes (owns (tree_of o)) t.typed res in (
      f.loc,
      f.at,
      record {
        env = E;
        others = λ j ja jk. refl;
        new = λ j m u js. stood key a E j m u js;
        thread = record {
          typed = swap_through rank E s a (place_of key w) r.base r.boxes (tree_of o) f.loc t.typed t.quiet (λ z. ks.off w.slot (sym z)) ea fw res f.at;
          nested = t.nested;
          over = t.over;
          slots = t.slots;
          above = t.above;
          temp = t.temp;
          names = t.names;
          quiet = t.quiet;
          alone = t.alone;
        };
      },
    )
  where
    no_ref : (m : Bool) (u : Place) (p : Piece) → RefOf key E p m u → piece_shape look p ≡ Some (owned_shape o) → ⊥
    no_ref m u (whole (own x)) h e = h
    no_ref m u (whole (shared us)) h e = by (first_shape look us) e
      where
        by : (f : Option Shape) → map_some shared_to f ≡ Some (owned_shape o) → ⊥
        by None e = cc
        by (Some x) e = cc
    no_ref m u (whole (mutable us)) h e = by (first_shape look us) e
      where
        by : (f : Option Shape) → map_some mutable_to f ≡ Some (owned_shape o) → ⊥
        by None e = cc
        by (Some x) e = cc
    no_ref m u (whole (view x)) h e = cc
    no_ref m u (gone k) h e = h
    no_ref m u (boxed p) h e = h

    by_type : (x : Exact) → ExactOf key E q x → Whole x → x ≡ owns (tree_of o)
    by_type (owns y) h z = ap owns (whole_shape look q y o h z shape)
    by_type (refers m u) h z = absurd (no_ref m u q h shape)

    no_chain : (p : Exact) → exact_under w.depth (E (key w.slot)) ≡ Some p → ⊥
    no_chain p h =
        let x = found_on_path (λ f. is_lent f || is_mutable f) e w.slot w.depth (not_true (on_path (λ f. is_lent f || is_mutable f) e w.slot w.depth) not_own) in
        let y = test_found (type_at e (record { slot = w.slot; depth = x.0 })) x.2 in
        let z = part_before w.depth x.0 (E (key w.slot)) p h x.1 in
        let v : Lval = record { slot = w.slot; depth = x.0 } in
        let r = resolved key E (mut_place rank E s t.typed) e t.nested t.slots v y.0 lt y.1 in
        let same = res_once E false false (key w.slot) x.0 r.base (key w.slot) r.boxes x.0 r.type (owns z.0) r.res (here z.1) in
        ref_test key E (type_at e v) y.0 z.0 y.1 x.2 (subst (ExactOf key E y.0) same.2 r.exact)
