-- The operations keep the typing.
use Rattle.fr_store.proofs.Keys.{decide_key}
use Rattle.fr_base.specs.declared.name.ObjNo.{ObjNo}
use Rattle.std.proofs.Common.{◌≡◌, ◌≢◌, ◌⊎◌, inl, inr, ℕ, zero, suc, ◌<◌, Bool, true, false, Some, None, refl, sym, ap, subst, ◌∙◌}
use Rattle.fr_store.specs.Keys.{Key}
use Rattle.fr_store.specs.Store.{Location, at_key, at_object, Val, gone_v, unit_v, int_v, box_v, task_v, ref_v, Store, value_at, Place, below_location, below_key, add}
use Rattle.fr_store.specs.Typed.{Tree, hole, unit_tree, int_tree, task_tree, box_tree, Exact, owns, refers, KeyTypes, tree_under, some_owns, exact_under, TopFits, RefFits, Stands, Typed, Unnamed}
use Rattle.fr_store.specs.Changes.{TypesBut, SameBut, New, new_hole, new_unit, new_int, new_task, new_ref, SetLaw, UnboxLaw, MakeLaw}
use Rattle.fr_store.proofs.Chains.{decide_location, from_same, from_add, from_moved, from_box, from_suc}
use Rattle.fr_store.proofs.Sound.{res_part}
use Rattle.fr_store.proofs.Frame.{part_owns, apart, levels, stands_move, Frame, res_in, fits_kept, stands_kept}

-- SET

-- a key that no type names changes, and with it only what no other key's chain has
module _ (rank : Key → ℕ) (E E2 : KeyTypes) (s s2 : Store) (a : Key) (t : Typed rank E s) (free : Unnamed E a) (types : TypesBut a E E2)
    (same : (k : Key) → k ≢ a → (i : ℕ) (m : Location) → below_key s k i ≡ Some m → value_at s2 m ≡ value_at s m) where
  -- references of other keys stay, and lead to other keys
  one_refs : (k : Key) (m : Bool) (u : Place) → k ≢ a → E k ≡ refers m u → (E2 k ≡ refers m u) × (u.key ≢ a)
  one_refs k m u ne e = (types k ne ∙ e, free k m u e)

  -- chains of other keys stay
  one_down : (k : Key) → k ≢ a → (n : ℕ) → below_key s2 k n ≡ below_key s k n
  one_down k ne n = from_same s s2 (at_key k) n (λ i m _ e. same k ne i m e)

  -- what stays where one key changes
  one_frame : Frame (λ k. k ≢ a) E E2 s s2
  one_frame = record {
    refs = one_refs;
    roots = λ j m u b n p jp js bp r. (ap (exact_under n) (types b bp) ∙ res_part E m u.key u.depth b n p r, one_down b bp n);
  }

  -- what other keys' types say is there
  one_stands : (k : Key) → k ≢ a → (n : ℕ) (p : Exact) → exact_under n (E2 k) ≡ Some p → Stands E2 s2 (at_key k) n p
  one_stands k ne = stands_kept (λ k. k ≢ a) E E2 s s2 one_frame k ne (types k ne) (same k ne) (t.stands k)

  -- it is enough to look at the key itself
  one_typed : ((n : ℕ) (p : Exact) → exact_under n (E2 a) ≡ Some p → Stands E2 s2 (at_key a) n p)
      → ((m : Bool) (u : Place) → E2 a ≡ refers m u → (rank u.key < rank a) × ((j : Key) (q : Bool) (w : Place) → E j ≡ refers q w → j ≢ a → w.key ≡ u.key → (m ≡ false) × (q ≡ false)))
      → ((l1 l2 : Location) (o : ObjNo) → value_at s2 l1 ≡ Some (box_v o) → value_at s2 l2 ≡ Some (box_v o) → l1 ≡ l2) → Typed rank E2 s2
  one_typed st new owner = record { stands = stands; below = below; once = once; owner = owner }
    where
      stands : (k : Key) (n : ℕ) (p : Exact) → exact_under n (E2 k) ≡ Some p → Stands E2 s2 (at_key k) n p
      stands k n p e = by (decide_key k a)
        where
          by : (k ≡ a) ⊎ (k ≢ a) → Stands E2 s2 (at_key k) n p
          by (inl is) = subst (λ x. Stands E2 s2 (at_key x) n p) (sym is) (st n p (ap (λ x. exact_under n (E2 x)) (sym is) ∙ e))
          by (inr ne) = one_stands k ne n p e

      below : (k : Key) (m : Bool) (u : Place) → E2 k ≡ refers m u → rank u.key < rank k
      below k m u e = by (decide_key k a)
        where
          by : (k ≡ a) ⊎ (k ≢ a) → rank u.key < rank k
          by (inl is) = subst (λ x. rank u.key < rank x) (sym is) (new m u (ap E2 (sym is) ∙ e)).0
          by (inr ne) = t.below k m u (sym (types k ne) ∙ e)

      once : (i j : Key) (m : Bool) (u v : Place) → E2 i ≡ refers true u → E2 j ≡ refers m v → v.key ≡ u.key → j ≡ i
      once i j m u v ei ej k = by (decide_key i a) (decide_key j a)
        where
          by : (i ≡ a) ⊎ (i ≢ a) → (j ≡ a) ⊎ (j ≢ a) → j ≡ i
          by (inl x) (inl y) = y ∙ sym x
          by (inl x) (inr y) = let z = (new true u (ap E2 (sym x) ∙ ei)).1 j m v (sym (types j y) ∙ ej) y k in absurd cc
          by (inr x) (inl y) = let z = (new m v (ap E2 (sym y) ∙ ej)).1 i true u (sym (types i x) ∙ ei) x (sym k) in absurd (true_false z.1)
            where
              true_false : true ≡ false → ⊥
              true_false z = cc
          by (inr x) (inr y) = t.once i j m u v (sym (types i x) ∙ ei) (sym (types j y) ∙ ej) k

-- a key gets a value that owns no object
pub set : SetLaw
set rank E E2 s s2 a t free types same new = one_typed rank E E2 s s2 a t free types values (by_stands (E2 a) (s2.at a) new refl) (by_new (E2 a) (s2.at a) new) owner
  where
    values : (k : Key) → k ≢ a → (i : ℕ) (m : Location) → below_key s k i ≡ Some m → value_at s2 m ≡ value_at s m
    values k ne i m e = same m (apart s t.owner k a i zero m (at_key a) ne e refl)

    flat : (t : Tree) (v : Val) (n : ℕ) (p : Exact) → s2.at a ≡ v → TopFits t v → ((i : ℕ) → tree_under (suc i) t ≡ None) → exact_under n (owns t) ≡ Some p → Stands E2 s2 (at_key a) n p
    flat t v zero p is f none e =
        let g : owns t ≡ p = cc in
        subst (Stands E2 s2 (at_key a) zero) g (record { spot = at_key a; value = v; leads = refl; there = ap Some is; fits = f })
    flat t v (suc n) p is f none e =
        let x = part_owns (suc n) t p e in
        let g : Some x.0 ≡ None = sym x.1 ∙ none n in absurd cc

    by_stands : (q : Exact) (v : Val) → New rank E s a q v → s2.at a ≡ v → (n : ℕ) (p : Exact) → exact_under n q ≡ Some p → Stands E2 s2 (at_key a) n p
    by_stands _ _ new_hole is n p e = flat hole gone_v n p is refl (λ i. refl) e
    by_stands _ _ new_unit is n p e = flat unit_tree unit_v n p is refl (λ i. refl) e
    by_stands _ _ (new_int x) is n p e = flat int_tree (int_v x) n p is (x, refl) (λ i. refl) e
    by_stands _ _ (new_task x g) is n p e = flat (task_tree g) (task_v x g) n p is (x, refl) (λ i. refl) e
    by_stands _ v (new_ref m u _ r ne lt alone) is zero p e =
        let g : refers m u ≡ p = cc in
        let refs = one_refs rank E E2 s s2 a t free types values in
        let bp = res_in (λ k. k ≢ a) E E2 s s2 refs m u.key u.depth r.base r.boxes r.type r.res ne in
        let f = fits_kept (λ k. k ≢ a) E E2 s s2 refs m u v r ne (ap (exact_under r.boxes) (types r.base bp) ∙ res_part E m u.key u.depth r.base r.boxes r.type r.res, one_down rank E E2 s s2 a t free types values r.base bp r.boxes) in
        subst (Stands E2 s2 (at_key a) zero) g (record { spot = at_key a; value = v; leads = refl; there = ap Some is; fits = f })
    by_stands _ _ (new_ref m u _ r ne lt alone) is (suc n) p e = absurd cc

    by_new : (q : Exact) (v : Val) → New rank E s a q v → (m : Bool) (u : Place) → q ≡ refers m u → (rank u.key < rank a) × ((j : Key) (q : Bool) (w : Place) → E j ≡ refers q w → j ≢ a → w.key ≡ u.key → (m ≡ false) × (q ≡ false))
    by_new _ _ new_hole m u e = absurd cc
    by_new _ _ new_unit m u e = absurd cc
    by_new _ _ (new_int x) m u e = absurd cc
    by_new _ _ (new_task x g) m u e = absurd cc
    by_new _ _ (new_ref m2 u2 _ r ne lt alone) m u e =
        let sm : m2 ≡ m = cc in
        let su : u2 ≡ u = cc in
        (subst (λ (z : Place). rank z.key < rank a) su lt, λ j q w js jn k. let z = alone j q w js jn (k ∙ ap (λ (z : Place). z.key) (sym su)) in (sym sm ∙ z.0, z.1))

    not_box : (q : Exact) (v : Val) → New rank E s a q v → (o : ObjNo) → v ≡ box_v o → ⊥
    not_box _ _ new_hole o e = cc
    not_box _ _ new_unit o e = cc
    not_box _ _ (new_int x) o e = cc
    not_box _ _ (new_task x g) o e = cc
    not_box _ _ (new_ref m u v r ne lt alone) o e = let g : ref_v r.target ≡ box_v o = sym r.is ∙ e in cc

    origin : (l : Location) (o : ObjNo) → value_at s2 l ≡ Some (box_v o) → value_at s l ≡ Some (box_v o)
    origin l o e = by (decide_location l (at_key a))
      where
        by : (l ≡ at_key a) ⊎ (l ≢ at_key a) → value_at s l ≡ Some (box_v o)
        by (inl is) = let g : Some (s2.at a) ≡ Some (box_v o) = ap (value_at s2) (sym is) ∙ e in absurd (not_box (E2 a) (s2.at a) new o cc)
        by (inr ne) = sym (same l ne) ∙ e

    owner : (l1 l2 : Location) (o : ObjNo) → value_at s2 l1 ≡ Some (box_v o) → value_at s2 l2 ≡ Some (box_v o) → l1 ≡ l2
    owner l1 l2 o e f = t.owner l1 l2 o (origin l1 o e) (origin l2 o f)

-- a reference that stands nowhere yet survives the change of a key that it doesn't name
pub set_fits : (rank : Key → ℕ) (E E2 : KeyTypes) (s s2 : Store) (a : Key) → Typed rank E s → Unnamed E a → TypesBut a E E2 → SameBut (at_key a) s s2
    → (m : Bool) (u : Place) (v : Val) → RefFits E s m u v → u.key ≢ a → RefFits E2 s2 m u v
set_fits rank E E2 s s2 a t free types same m u v r ne =
    let values = λ (k : Key) (kn : k ≢ a) (i : ℕ) (m : Location) (e : below_key s k i ≡ Some m). same m (apart s t.owner k a i zero m (at_key a) kn e refl) in
    let refs = one_refs rank E E2 s s2 a t free types values in
    let bp = res_in (λ k. k ≢ a) E E2 s s2 refs m u.key u.depth r.base r.boxes r.type r.res ne in
    fits_kept (λ k. k ≢ a) E E2 s s2 refs m u v r ne (ap (exact_under r.boxes) (types r.base bp) ∙ res_part E m u.key u.depth r.base r.boxes r.type r.res, one_down rank E E2 s s2 a t free types values r.base bp r.boxes)

-- UNBOX

-- one link of a drop
pub unbox_link : UnboxLaw
unbox_link rank E E2 s s2 h t o ty free types is is2 same v c left = one_typed rank E E2 s s2 h ty free types values stands (λ m u e. let g : owns t ≡ refers m u = sym is2 ∙ e in absurd cc) owner
  where
    first : below_key s h 1 ≡ Some (at_object o)
    first = from_box s (at_key h) (at_key h) zero o refl (ap Some v)

    values : (k : Key) → k ≢ h → (i : ℕ) (m : Location) → below_key s k i ≡ Some m → value_at s2 m ≡ value_at s m
    values k ne i m e = same m (apart s ty.owner k h i zero m (at_key h) ne e refl) (apart s ty.owner k h i 1 m (at_object o) ne e first)

    deeper : (i : ℕ) (m : Location) → below_key s h (suc (suc i)) ≡ Some m → value_at s2 m ≡ value_at s m
    deeper i m e = same m (levels s ty.owner h (suc (suc i)) zero m (at_key h) (λ z. cc) e refl) (levels s ty.owner h (suc (suc i)) 1 m (at_object o) (λ z. cc) e first)

    shift : (i : ℕ) → below_key s h (add i 1) ≡ below_location s (at_object o) i
    shift i = from_add s (at_key h) (at_object o) 1 i first

    one_more : (i : ℕ) → add i 1 ≡ suc i
    one_more zero = refl
    one_more (suc i) = ap suc (one_more i)

    stands_tree : (n : ℕ) (x : Tree) → tree_under n t ≡ Some x → Stands E2 s2 (at_key h) n (owns x)
    stands_tree n x e = by n (ty.stands h (suc n) (owns x) (ap (exact_under (suc n)) is ∙ ap some_owns e))
      where
        by : (n : ℕ) → Stands E s (at_key h) (suc n) (owns x) → Stands E2 s2 (at_key h) n (owns x)
        by zero st =
            let m : at_object o ≡ st.spot = let g : Some (at_object o) ≡ Some st.spot = sym first ∙ st.leads in cc in
            stands_move E E2 s s2 (at_key h) (at_key h) 1 zero x (at_key h) st refl (c ∙ ap (value_at s) m)
        by (suc i) st =
            let moved = from_moved s s2 (at_object o) (at_key h) c i (λ j m g. deeper j m (ap (below_key s h) (sym (one_more (suc j))) ∙ shift (suc j) ∙ g)) in
            stands_move E E2 s s2 (at_key h) (at_key h) (suc (suc i)) (suc i) x st.spot st (moved ∙ sym (shift (suc i)) ∙ ap (below_key s h) (one_more (suc i)) ∙ st.leads) (deeper i st.spot st.leads)

    stands : (n : ℕ) (p : Exact) → exact_under n (E2 h) ≡ Some p → Stands E2 s2 (at_key h) n p
    stands n p e =
        let x = part_owns n t p (ap (exact_under n) (sym is2) ∙ e) in
        subst (Stands E2 s2 (at_key h) n) (sym x.2) (stands_tree n x.0 x.1)

    origin : (l : Location) (q : ObjNo) → value_at s2 l ≡ Some (box_v q) → (l0 : Location) × (value_at s l0 ≡ Some (box_v q)) × (((l ≡ at_key h) × (l0 ≡ at_object o)) ⊎ ((l ≢ at_key h) × (l ≢ at_object o) × (l0 ≡ l)))
    origin l q e = by (decide_location l (at_key h)) (decide_location l (at_object o))
      where
        by : (l ≡ at_key h) ⊎ (l ≢ at_key h) → (l ≡ at_object o) ⊎ (l ≢ at_object o) → (l0 : Location) × (value_at s l0 ≡ Some (box_v q)) × (((l ≡ at_key h) × (l0 ≡ at_object o)) ⊎ ((l ≢ at_key h) × (l ≢ at_object o) × (l0 ≡ l)))
        by (inl x) y = (at_object o, sym c ∙ ap (value_at s2) (sym x) ∙ e, inl (x, refl))
        by (inr x) (inl y) = let g : None ≡ Some (box_v q) = sym left ∙ ap (value_at s2) (sym y) ∙ e in absurd cc
        by (inr x) (inr y) = (l, sym (same l x y) ∙ e, inr (x, y, refl))

    owner : (l1 l2 : Location) (q : ObjNo) → value_at s2 l1 ≡ Some (box_v q) → value_at s2 l2 ≡ Some (box_v q) → l1 ≡ l2
    owner l1 l2 q e f =
        let a = origin l1 q e in
        let b = origin l2 q f in
        by a.0 b.0 (ty.owner a.0 b.0 q a.1 b.1) a.2 b.2
      where
        by : (a b : Location) → a ≡ b → (((l1 ≡ at_key h) × (a ≡ at_object o)) ⊎ ((l1 ≢ at_key h) × (l1 ≢ at_object o) × (a ≡ l1))) → (((l2 ≡ at_key h) × (b ≡ at_object o)) ⊎ ((l2 ≢ at_key h) × (l2 ≢ at_object o) × (b ≡ l2))) → l1 ≡ l2
        by a b ab (inl x) (inl y) = x.0 ∙ sym y.0
        by a b ab (inl x) (inr y) = absurd (y.1 (sym y.2 ∙ sym ab ∙ x.1))
        by a b ab (inr x) (inl y) = absurd (x.1 (sym x.2 ∙ ab ∙ y.1))
        by a b ab (inr x) (inr y) = sym x.2 ∙ ab ∙ y.2

-- MAKE

-- a new object
pub make_object : MakeLaw
make_object rank E E2 s s2 h t o ty free types is is2 same none fresh v c = one_typed rank E E2 s s2 h ty free types values stands (λ m u e. let g : owns (box_tree t) ≡ refers m u = sym is2 ∙ e in absurd cc) owner
  where
    unheld : (k : Key) (i : ℕ) (m : Location) → below_key s k i ≡ Some m → m ≢ at_object o
    unheld k zero m e = λ (z : m ≡ at_object o). let g : Some (at_key k) ≡ Some (at_object o) = e ∙ ap Some z in cc
    unheld k (suc i) m e = λ (z : m ≡ at_object o).
        let x = from_suc s (at_key k) m i e in
        let g : at_object x.1 ≡ at_object o = sym x.4 ∙ z in
        let q : x.1 ≡ o = cc in
        fresh x.0 (x.3 ∙ ap (λ y. Some (box_v y)) q)

    values : (k : Key) → k ≢ h → (i : ℕ) (m : Location) → below_key s k i ≡ Some m → value_at s2 m ≡ value_at s m
    values k ne i m e = same m (apart s ty.owner k h i zero m (at_key h) ne e refl) (unheld k i m e)

    first : below_key s2 h 1 ≡ Some (at_object o)
    first = from_box s2 (at_key h) (at_key h) zero o refl (ap Some v)

    deeper : (j : ℕ) (m : Location) → below_location s (at_key h) (suc j) ≡ Some m → value_at s2 m ≡ value_at s m
    deeper j m e = same m (levels s ty.owner h (suc j) zero m (at_key h) (λ z. cc) e refl) (unheld h (suc j) m e)

    one_more : (i : ℕ) → add i 1 ≡ suc i
    one_more zero = refl
    one_more (suc i) = ap suc (one_more i)

    stands_tree : (n : ℕ) (x : Tree) → tree_under n (box_tree t) ≡ Some x → Stands E2 s2 (at_key h) n (owns x)
    stands_tree zero x e = let g : box_tree t ≡ x = cc in subst (λ y. Stands E2 s2 (at_key h) zero (owns y)) g (record { spot = at_key h; value = box_v o; leads = refl; there = ap Some v; fits = (o, refl) })
    stands_tree (suc n) x e = by n (ty.stands h n (owns x) (ap (exact_under n) is ∙ ap some_owns e))
      where
        by : (n : ℕ) → Stands E s (at_key h) n (owns x) → Stands E2 s2 (at_key h) (suc n) (owns x)
        by zero st =
            let m : at_key h ≡ st.spot = let g : Some (at_key h) ≡ Some st.spot = st.leads in cc in
            stands_move E E2 s s2 (at_key h) (at_key h) zero 1 x (at_object o) st first (c ∙ ap (value_at s) m)
        by (suc i) st =
            let moved = from_moved s s2 (at_key h) (at_object o) c i deeper in
            stands_move E E2 s s2 (at_key h) (at_key h) (suc i) (suc (suc i)) x st.spot st (ap (below_key s2 h) (sym (one_more (suc i))) ∙ from_add s2 (at_key h) (at_object o) 1 (suc i) first ∙ moved ∙ st.leads) (deeper i st.spot st.leads)

    stands : (n : ℕ) (p : Exact) → exact_under n (E2 h) ≡ Some p → Stands E2 s2 (at_key h) n p
    stands n p e =
        let x = part_owns n (box_tree t) p (ap (exact_under n) (sym is2) ∙ e) in
        subst (Stands E2 s2 (at_key h) n) (sym x.2) (stands_tree n x.0 x.1)

    origin : (l : Location) (q : ObjNo) → value_at s2 l ≡ Some (box_v q) → ((l ≡ at_key h) × (q ≡ o)) ⊎ ((q ≢ o) × (l0 : Location) × (value_at s l0 ≡ Some (box_v q)) × (((l ≡ at_object o) × (l0 ≡ at_key h)) ⊎ ((l ≢ at_key h) × (l ≢ at_object o) × (l0 ≡ l))))
    origin l q e = by (decide_location l (at_key h)) (decide_location l (at_object o))
      where
        not_o : (l0 : Location) → value_at s l0 ≡ Some (box_v q) → q ≢ o
        not_o l0 e = λ (z : q ≡ o). fresh l0 (e ∙ ap (λ y. Some (box_v y)) z)

        by : (l ≡ at_key h) ⊎ (l ≢ at_key h) → (l ≡ at_object o) ⊎ (l ≢ at_object o) → ((l ≡ at_key h) × (q ≡ o)) ⊎ ((q ≢ o) × (l0 : Location) × (value_at s l0 ≡ Some (box_v q)) × (((l ≡ at_object o) × (l0 ≡ at_key h)) ⊎ ((l ≢ at_key h) × (l ≢ at_object o) × (l0 ≡ l))))
        by (inl x) y = let g : Some (box_v q) ≡ Some (box_v o) = sym e ∙ ap (value_at s2) x ∙ ap Some v in inl (x, cc)
        by (inr x) (inl y) = let g : value_at s (at_key h) ≡ Some (box_v q) = sym c ∙ ap (value_at s2) (sym y) ∙ e in inr (not_o (at_key h) g, at_key h, g, inl (y, refl))
        by (inr x) (inr y) = let g = sym (same l x y) ∙ e in inr (not_o l g, l, g, inr (x, y, refl))

    owner : (l1 l2 : Location) (q : ObjNo) → value_at s2 l1 ≡ Some (box_v q) → value_at s2 l2 ≡ Some (box_v q) → l1 ≡ l2
    owner l1 l2 q e f = by (origin l1 q e) (origin l2 q f)
      where
        two : (a b : Location) → a ≡ b → (((l1 ≡ at_object o) × (a ≡ at_key h)) ⊎ ((l1 ≢ at_key h) × (l1 ≢ at_object o) × (a ≡ l1))) → (((l2 ≡ at_object o) × (b ≡ at_key h)) ⊎ ((l2 ≢ at_key h) × (l2 ≢ at_object o) × (b ≡ l2))) → l1 ≡ l2
        two a b ab (inl x) (inl y) = x.0 ∙ sym y.0
        two a b ab (inl x) (inr y) = absurd (y.0 (sym y.2 ∙ sym ab ∙ x.1))
        two a b ab (inr x) (inl y) = absurd (x.0 (sym x.2 ∙ ab ∙ y.1))
        two a b ab (inr x) (inr y) = sym x.2 ∙ ab ∙ y.2

        by : ((l1 ≡ at_key h) × (q ≡ o)) ⊎ ((q ≢ o) × (l0 : Location) × (value_at s l0 ≡ Some (box_v q)) × (((l1 ≡ at_object o) × (l0 ≡ at_key h)) ⊎ ((l1 ≢ at_key h) × (l1 ≢ at_object o) × (l0 ≡ l1))))
            → ((l2 ≡ at_key h) × (q ≡ o)) ⊎ ((q ≢ o) × (l0 : Location) × (value_at s l0 ≡ Some (box_v q)) × (((l2 ≡ at_object o) × (l0 ≡ at_key h)) ⊎ ((l2 ≢ at_key h) × (l2 ≢ at_object o) × (l0 ≡ l2)))) → l1 ≡ l2
        by (inl x) (inl y) = x.0 ∙ sym y.0
        by (inl x) (inr y) = absurd (y.0 x.1)
        by (inr x) (inl y) = absurd (x.0 y.1)
        by (inr x) (inr y) = two x.1 y.1 (ty.owner x.1 y.1 q x.2 y.2) x.3 y.3
