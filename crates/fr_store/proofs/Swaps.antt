-- A tree under a key and the tree of the hand change places: writing, moving out, a new slot.
use Rattle.fr_store.proofs.Keys.{decide_key}
use Rattle.fr_base.specs.declared.name.ObjNo.{ObjNo}
use Rattle.std.proofs.Common.{◌≡◌, ◌≢◌, ◌⊎◌, inl, inr, ⊎_elim, ℕ, zero, suc, ◌<◌, ◌≤◌, Bool, true, Some, refl, sym, ap, subst, ◌∙◌, arith}
use Rattle.fr_store.specs.Keys.{Key}
use Rattle.fr_store.specs.Store.{Location, at_key, box_v, Store, value_at, Place, below_location, below_key, add}
use Rattle.fr_store.specs.Typed.{Tree, hole, unit_tree, int_tree, mutex_tree, task_tree, box_tree, Exact, owns, refers, KeyTypes, tree_under, some_owns, exact_under, Resolves, Stands, Typed, Unnamed}
use Rattle.fr_store.specs.Changes.{put_tree, TypesButTwo, SameButTwo, SwapLaw}
use Rattle.fr_store.proofs.Chains.{decide_location, from_same, from_add, from_moved, under_add, add_comm, add_plus}
use Rattle.fr_store.proofs.Sound.{res_part}
use Rattle.fr_store.proofs.Frame.{part_owns, apart, levels, stands_move, Frame, stands_kept}

-- above the tree that was put there are boxes as before
under_put_low : (n i : ℕ) (th t t0 x : Tree) → i < n → tree_under n t ≡ Some t0 → tree_under i (put_tree n th t) ≡ Some x → (y : Tree) × (z : Tree) × (x ≡ box_tree y) × (tree_under i t ≡ Some (box_tree z))
under_put_low zero i th t t0 x lt e g = absurd (omega arith)
under_put_low (suc n) zero th (box_tree t) t0 x lt e g = let h : box_tree (put_tree n th t) ≡ x = cc in (put_tree n th t, t, sym h, refl)
under_put_low (suc n) (suc i) th (box_tree t) t0 x lt e g = under_put_low n i th t t0 x (omega arith) e g
under_put_low (suc n) i th hole t0 x lt e g = absurd cc
under_put_low (suc n) i th unit_tree t0 x lt e g = absurd cc
under_put_low (suc n) i th int_tree t0 x lt e g = absurd cc
under_put_low (suc n) i th (mutex_tree t) t0 x lt e g = absurd cc
under_put_low (suc n) i th (task_tree t) t0 x lt e g = absurd cc

-- below what was put stands what is below the new tree
under_put_high : (n j : ℕ) (th t t0 : Tree) → tree_under n t ≡ Some t0 → tree_under (add n j) (put_tree n th t) ≡ tree_under j th
under_put_high zero j th t t0 e = refl
under_put_high (suc n) j th (box_tree t) t0 e = under_put_high n j th t t0 e
under_put_high (suc n) j th hole t0 e = absurd cc
under_put_high (suc n) j th unit_tree t0 e = absurd cc
under_put_high (suc n) j th int_tree t0 e = absurd cc
under_put_high (suc n) j th (mutex_tree t) t0 e = absurd cc
under_put_high (suc n) j th (task_tree t) t0 e = absurd cc

-- a depth above another, or so far below it
split : (n i : ℕ) → (i < n) ⊎ ((j : ℕ) × (i ≡ add n j))
split zero i = inr (i, refl)
split (suc n) zero = inl (omega arith)
split (suc n) (suc i) = ⊎_elim (λ (lt : i < n). inl (omega arith)) (λ (x : (j : ℕ) × (i ≡ add n j)). inr (x.0, ap suc x.1)) (split n i)

module _ (rank : Key → ℕ) (E E2 : KeyTypes) (s s2 : Store) (h b : Key) (n : ℕ) (th t t0 : Tree) (l : Location) (ty : Typed rank E s) (free : Unnamed E h) (hb : h ≢ b)
    (eh : E h ≡ owns th) (eb : E b ≡ owns t) (un : tree_under n t ≡ Some t0) (eh2 : E2 h ≡ owns t0) (eb2 : E2 b ≡ owns (put_tree n th t)) (types : TypesButTwo h b E E2)
    (mine : (j : Key) (m : Bool) (u : Place) (i : ℕ) (p : Exact) → E j ≡ refers m u → Resolves E m u.key u.depth b i p → (i ≤ n) × (exact_under i (E2 b) ≡ Some p))
    (at : below_key s b n ≡ Some l) (same : SameButTwo (at_key h) l s s2) (vl : value_at s2 l ≡ Some (s.at h)) (vh : Some (s2.at h) ≡ value_at s l) where
  -- the keys differ
  bh : b ≢ h
  bh = λ (e : b ≡ h). hb (sym e)

  -- chains of other keys stay
  values : (k : Key) → k ≢ h → k ≢ b → (i : ℕ) (m : Location) → below_key s k i ≡ Some m → value_at s2 m ≡ value_at s m
  values k kh kb i m e = same m (apart s ty.owner k h i zero m (at_key h) kh e refl) (apart s ty.owner k b i n m l kb e at)

  -- the chain of b down to l
  down_b : (i : ℕ) → i ≤ n → below_key s2 b i ≡ below_key s b i
  down_b i le = from_same s s2 (at_key b) i (λ j m lt e. same m (apart s ty.owner b h j zero m (at_key h) bh e refl) (levels s ty.owner b j n m l (omega arith) e at))

  -- references of other keys stay
  refs : (k : Key) (m : Bool) (u : Place) → k ≢ h → E k ≡ refers m u → (E2 k ≡ refers m u) × (u.key ≢ h)
  refs k m u kh e = (types k kh (λ (z : k ≡ b). let g : owns t ≡ refers m u = sym eb ∙ ap E (sym z) ∙ e in cc) ∙ e, free k m u e)

  -- and are the ones that were there
  back : (k : Key) (m : Bool) (u : Place) → E2 k ≡ refers m u → E k ≡ refers m u
  back k m u e = sym (types k (λ (z : k ≡ h). let g : owns t0 ≡ refers m u = sym eh2 ∙ ap E2 (sym z) ∙ e in cc) (λ (z : k ≡ b). let g : owns (put_tree n th t) ≡ refers m u = sym eb2 ∙ ap E2 (sym z) ∙ e in cc)) ∙ e

  -- what stays
  frame : Frame (λ k. k ≢ h) E E2 s s2
  frame = record { refs = refs; roots = roots }
    where
      roots : (j : Key) (m : Bool) (u : Place) (c : Key) (i : ℕ) (p : Exact) → j ≢ h → E j ≡ refers m u → c ≢ h → Resolves E m u.key u.depth c i p → (exact_under i (E2 c) ≡ Some p) × (below_key s2 c i ≡ below_key s c i)
      roots j m u c i p jh js ch r = by (decide_key c b)
        where
          by : (c ≡ b) ⊎ (c ≢ b) → (exact_under i (E2 c) ≡ Some p) × (below_key s2 c i ≡ below_key s c i)
          by (inl z) =
              let x = mine j m u i p js (subst (λ y. Resolves E m u.key u.depth y i p) z r) in
              subst (λ y. (exact_under i (E2 y) ≡ Some p) × (below_key s2 y i ≡ below_key s y i)) (sym z) (x.1, down_b i x.0)
          by (inr z) = (ap (exact_under i) (types c ch z) ∙ res_part E m u.key u.depth c i p r, from_same s s2 (at_key c) i (λ y m _ e. values c ch z y m e))

  -- the hand's old tree stands at l
  of_hand : (j : ℕ) (m : Location) → below_location s (at_key h) (suc j) ≡ Some m → value_at s2 m ≡ value_at s m
  of_hand j m e = same m (levels s ty.owner h (suc j) zero m (at_key h) (λ z. cc) e refl) (apart s ty.owner h b (suc j) n m l hb e at)

  -- what stands above the place in b's chain
  stands_low : (i : ℕ) (x : Tree) → i < n → tree_under i (put_tree n th t) ≡ Some x → Stands E2 s2 (at_key b) i (owns x)
  stands_low i x lt e =
      let y = under_put_low n i th t t0 x lt un e in
      let st = ty.stands b i (owns (box_tree y.1)) (ap (exact_under i) eb ∙ ap some_owns y.3) in
      subst (λ z. Stands E2 s2 (at_key b) i (owns z)) (sym y.2) (record {
        spot = st.spot;
        value = st.value;
        leads = down_b i (omega arith) ∙ st.leads;
        there = same st.spot (apart s ty.owner b h i zero st.spot (at_key h) bh st.leads refl) (levels s ty.owner b i n st.spot l (omega arith) st.leads at) ∙ st.there;
        fits = st.fits;
      })

  -- what stands from there on: the hand's old tree
  stands_high : (j : ℕ) (x : Tree) → tree_under j th ≡ Some x → Stands E2 s2 (at_key b) (add n j) (owns x)
  stands_high j x e = by j (ty.stands h j (owns x) (ap (exact_under j) eh ∙ ap some_owns e))
    where
      down_l : (j : ℕ) → below_key s2 b (add n j) ≡ below_location s2 l j
      down_l j = ap (below_key s2 b) (add_comm n j) ∙ from_add s2 (at_key b) l n j (down_b n (omega arith) ∙ at)

      by : (j : ℕ) → Stands E s (at_key h) j (owns x) → Stands E2 s2 (at_key b) (add n j) (owns x)
      by zero st =
          let m : at_key h ≡ st.spot = let g : Some (at_key h) ≡ Some st.spot = st.leads in cc in
          stands_move E E2 s s2 (at_key h) (at_key b) zero (add n zero) x l st (down_l zero) (vl ∙ ap (value_at s) m)
      by (suc i) st = stands_move E E2 s s2 (at_key h) (at_key b) (suc i) (add n (suc i)) x st.spot st (down_l (suc i) ∙ from_moved s s2 (at_key h) l vl i of_hand ∙ st.leads) (of_hand i st.spot st.leads)

  -- the old tree of l stands at the hand
  of_l : (j : ℕ) (m : Location) → below_location s l (suc j) ≡ Some m → value_at s2 m ≡ value_at s m
  of_l j m e =
      let d : below_key s b (add (suc j) n) ≡ Some m = from_add s (at_key b) l n (suc j) at ∙ e in
      let a = add_plus (suc j) n in
      same m (apart s ty.owner b h (add (suc j) n) zero m (at_key h) bh d refl) (levels s ty.owner b (add (suc j) n) n m l (omega (arith, a)) d at)

  -- what stands at the hand: the old tree of the place
  stands_hand : (j : ℕ) (x : Tree) → tree_under j t0 ≡ Some x → Stands E2 s2 (at_key h) j (owns x)
  stands_hand j x e = by j (ty.stands b (add n j) (owns x) (ap (exact_under (add n j)) eb ∙ ap some_owns (under_add n j t t0 un ∙ e)))
    where
      down_l : (j : ℕ) → below_key s b (add n j) ≡ below_location s l j
      down_l j = ap (below_key s b) (add_comm n j) ∙ from_add s (at_key b) l n j at

      by : (j : ℕ) → Stands E s (at_key b) (add n j) (owns x) → Stands E2 s2 (at_key h) j (owns x)
      by zero st =
          let m : l ≡ st.spot = let g : Some l ≡ Some st.spot = sym (down_l zero) ∙ st.leads in cc in
          stands_move E E2 s s2 (at_key b) (at_key h) (add n zero) zero x (at_key h) st refl (vh ∙ ap (value_at s) m)
      by (suc i) st =
          let g = sym (down_l (suc i)) ∙ st.leads in
          stands_move E E2 s s2 (at_key b) (at_key h) (add n (suc i)) (suc i) x st.spot st (from_moved s s2 l (at_key h) vh i of_l ∙ g) (of_l i st.spot g)

  -- so b's type is there
  stands_b : (i : ℕ) (x : Tree) → tree_under i (put_tree n th t) ≡ Some x → Stands E2 s2 (at_key b) i (owns x)
  stands_b i x e = by (split n i)
    where
      by : (i < n) ⊎ ((j : ℕ) × (i ≡ add n j)) → Stands E2 s2 (at_key b) i (owns x)
      by (inl lt) = stands_low i x lt e
      by (inr y) =
          let g : tree_under y.0 th ≡ Some x = sym (under_put_high n y.0 th t t0 un) ∙ ap (λ z. tree_under z (put_tree n th t)) (sym y.1) ∙ e in
          subst (λ z. Stands E2 s2 (at_key b) z (owns x)) (sym y.1) (stands_high y.0 x g)

  -- and each key's
  stands : (k : Key) (i : ℕ) (p : Exact) → exact_under i (E2 k) ≡ Some p → Stands E2 s2 (at_key k) i p
  stands k i p e = by (decide_key k h) (decide_key k b)
    where
      by : (k ≡ h) ⊎ (k ≢ h) → (k ≡ b) ⊎ (k ≢ b) → Stands E2 s2 (at_key k) i p
      by (inl z) y =
          let x = part_owns i t0 p (ap (exact_under i) (sym eh2) ∙ ap (λ q. exact_under i (E2 q)) (sym z) ∙ e) in
          subst (λ q. Stands E2 s2 (at_key q) i p) (sym z) (subst (Stands E2 s2 (at_key h) i) (sym x.2) (stands_hand i x.0 x.1))
      by (inr z) (inl y) =
          let x = part_owns i (put_tree n th t) p (ap (exact_under i) (sym eb2) ∙ ap (λ q. exact_under i (E2 q)) (sym y) ∙ e) in
          subst (λ q. Stands E2 s2 (at_key q) i p) (sym y) (subst (Stands E2 s2 (at_key b) i) (sym x.2) (stands_b i x.0 x.1))
      by (inr z) (inr y) = stands_kept (λ k. k ≢ h) E E2 s s2 frame k z (types k z y) (values k z y) (ty.stands k) i p e

  -- the place is not the hand
  lh : l ≢ at_key h
  lh = apart s ty.owner b h n zero l (at_key h) bh at refl

  -- where a value stood
  Was : Location → Location → Type 0
  Was a c = ((a ≡ at_key h) × (c ≡ l)) ⊎ (((a ≡ l) × (c ≡ at_key h)) ⊎ ((a ≢ at_key h) × (a ≢ l) × (c ≡ a)))

  -- each value stood somewhere
  origin : (a : Location) → (c : Location) × (value_at s2 a ≡ value_at s c) × Was a c
  unfolding Was
  origin a = by (decide_location a (at_key h)) (decide_location a l)
    where
      by : (a ≡ at_key h) ⊎ (a ≢ at_key h) → (a ≡ l) ⊎ (a ≢ l) → (c : Location) × (value_at s2 a ≡ value_at s c) × Was a c
      by (inl z) y = (l, ap (value_at s2) z ∙ vh, inl (z, refl))
      by (inr z) (inl y) = (at_key h, ap (value_at s2) y ∙ vl, inr (inl (y, refl)))
      by (inr z) (inr y) = (a, same a z y, inr (inr (z, y, refl)))

  -- no two in one location
  was_once : (a b c d : Location) → c ≡ d → Was a c → Was b d → a ≡ b
  unfolding Was
  was_once a b c d e (inl x) (inl y) = x.0 ∙ sym y.0
  was_once a b c d e (inl x) (inr (inl y)) = absurd (lh (sym x.1 ∙ e ∙ y.1))
  was_once a b c d e (inl x) (inr (inr y)) = absurd (y.1 (sym y.2 ∙ sym e ∙ x.1))
  was_once a b c d e (inr (inl x)) (inl y) = absurd (lh (sym y.1 ∙ sym e ∙ x.1))
  was_once a b c d e (inr (inl x)) (inr (inl y)) = x.0 ∙ sym y.0
  was_once a b c d e (inr (inl x)) (inr (inr y)) = absurd (y.0 (sym y.2 ∙ sym e ∙ x.1))
  was_once a b c d e (inr (inr x)) (inl y) = absurd (x.1 (sym x.2 ∙ e ∙ y.1))
  was_once a b c d e (inr (inr x)) (inr (inl y)) = absurd (x.0 (sym x.2 ∙ e ∙ y.1))
  was_once a b c d e (inr (inr x)) (inr (inr y)) = sym x.2 ∙ e ∙ y.2

  -- so an object has one owner
  owner : (a b : Location) (o : ObjNo) → value_at s2 a ≡ Some (box_v o) → value_at s2 b ≡ Some (box_v o) → a ≡ b
  owner a b o e f =
      let x = origin a in
      let y = origin b in
      was_once a b x.0 y.0 (ty.owner x.0 y.0 o (sym x.1 ∙ e) (sym y.1 ∙ f)) x.2 y.2

  -- the store is typed
  swapped : Typed rank E2 s2
  swapped = record {
    stands = stands;
    below = λ k m u e. ty.below k m u (back k m u e);
    once = λ i j m u v ei ej k. ty.once i j m u v (back i true u ei) (back j m v ej) k;
    owner = owner;
  }

-- two trees change places
pub swap_trees : SwapLaw
swap_trees rank E E2 s s2 h b n th t t0 l ty free hb eh eb un eh2 eb2 types mine at same vl vh = swapped rank E E2 s s2 h b n th t t0 l ty free hb eh eb un eh2 eb2 types mine at same vl vh
