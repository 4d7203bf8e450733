-- Each pointer to what a place writes is the one that its last star follows, or stands above it.
use Rattle.std.proofs.Common.{◌≡◌, ◌⊎◌, inl, inr, ℕ, zero, suc, Bool, true, Some, None, refl, sym, ap, subst, ◌∙◌, arith}
use Rattle.coherent_types.specs.Below.fr_base.declared.name.ObjNo.{ObjNo}
use Rattle.coherent_types.specs.Below.fr_store.Keys.{Key}
use Rattle.coherent_types.specs.Below.fr_store.Store.{Location, at_key, at_object, Val, box_v, ref_v, Store, value_at, then_location, star_target, star_hop, walk, Place, locate, below_key, add}
use Rattle.coherent_types.specs.Below.fr_store.Typed.{Tree, hole, unit_tree, int_tree, mutex_tree, task_tree, box_tree, Exact, owns, refers, KeyTypes, exact_under, Resolves, here, through, Loaned, self, loan, RefFits, Typed, Unnamed, TopFits}
use Rattle.coherent_types.proofs.Below.fr_store.Chains.{then_some, from_suc, part_suc, add_plus, unique}
use Rattle.coherent_types.proofs.Below.fr_store.Sound.{walk_add, walk_last, walk_boxes, ref_at, sound}
use Rattle.coherent_types.proofs.Below.fr_store.Rows.{sole, top_fits}
use Rattle.coherent_types.proofs.Below.fr_store.ThreadKept.{res_low}
use Rattle.law_words_paths.specs.paths.Above.{IsMadeFrom, StandsAbove, holder, higher, PointsTo, its_box, a_reference, SolePointer}

-- the first loan of a key, and the rest
pub loaned_first : (E : KeyTypes) (k j : Key) → Loaned E k j → (j ≡ k) ⊎ ((u : Place) × (E k ≡ refers true u) × Loaned E u.key j)
loaned_first E k j self = inl refl
loaned_first E k j (loan {t = t} r u is) = by (loaned_first E k t r)
  where
    by : (t ≡ k) ⊎ ((v : Place) × (E k ≡ refers true v) × Loaned E v.key t) → (u.key ≡ k) ⊎ ((v : Place) × (E k ≡ refers true v) × Loaned E v.key u.key)
    by (inl e) = inr (u, sym (ap E e) ∙ is, self)
    by (inr x) = inr (x.0, x.1, loan x.2 u is)

-- a key that no type names is lent by itself alone
unnamed_loan : (E : KeyTypes) (k j : Key) → Unnamed E j → Loaned E k j → j ≡ k
unnamed_loan E k _ free self = refl
unnamed_loan E k _ free (loan {t = i} q u e) = absurd (free i true u e refl)

-- what a longer walk passes
pub walk_prefix : (s : Store) (d : ℕ) (l m : Location) → walk s (suc d) l ≡ Some m → (h : Location) × (walk s d l ≡ Some h) × (star_hop s h ≡ Some m)
walk_prefix s zero l m e =
    let x = then_some (star_hop s l) (walk s zero) m e in
    (l, refl, x.1 ∙ x.2)
walk_prefix s (suc d) l m e =
    let x = then_some (star_hop s l) (walk s (suc d)) m e in
    let y = walk_prefix s d x.0 m x.2 in
    (y.0, ap (λ z. then_location z (walk s d)) x.1 ∙ y.1, y.2)

pub some_is : {A : Type 0} {x y : A} → Some x ≡ Some y → x ≡ y
some_is e = cc

-- a pointer below a place: a mutable reference on the way, or the object's box
pub data Points (E : KeyTypes) (s : Store) (k : Key) (o : ObjNo) : Location → Type 0 where
  by_reference : {j : Key} → Loaned E k j → s.at j ≡ ref_v (at_object o) → Points E s k o (at_key j)
  by_box : {l : Location} → value_at s l ≡ Some (box_v o) → Points E s k o l

-- a place resolves at its key, or through the reference there
how_resolved : (E : KeyTypes) (only : Bool) (k : Key) (d : ℕ) (b : Key) (n : ℕ) (p : Exact) → Resolves E only k d b n p
    → ((b ≡ k) × (n ≡ d)) ⊎ ((m : Bool) × (u : Place) × (e : ℕ) × (E k ≡ refers m u) × (d ≡ suc e) × Resolves E only u.key (add u.depth e) b n p)
how_resolved E only k d _ _ p (here x) = inl (refl, refl)
how_resolved E only k d b n p (through m u e is o de r) = inr (m, u, e, is, de, r)

module _ (rank : Key → ℕ) (E : KeyTypes) (s : Store) (t : Typed rank E s) where
  -- what stands at a key that owns a box is no reference
  no_reference : (k : Key) (n : ℕ) (p : Exact) (l : Location) → exact_under (suc n) (E k) ≡ Some p → s.at k ≡ ref_v l → ⊥
  no_reference k n p l e is = by (E k) refl
    where
      by_tree : (q : Tree) → exact_under (suc n) (owns q) ≡ Some p → TopFits q (s.at k) → ⊥
      by_tree hole e2 f = absurd cc
      by_tree unit_tree e2 f = absurd cc
      by_tree int_tree e2 f = absurd cc
      by_tree (mutex_tree q) e2 f = absurd cc
      by_tree (task_tree q) e2 f = absurd cc
      by_tree (box_tree q) e2 f = let g : ref_v l ≡ box_v f.0 = sym is ∙ f.1 in cc

      by : (q : Exact) → E k ≡ q → ⊥
      by (owns q) eq = by_tree q (sym (ap (exact_under (suc n)) eq) ∙ e) (top_fits rank E s t k q eq)
      by (refers m u) eq = let g : None ≡ Some p = sym (ap (exact_under (suc n)) eq) ∙ e in cc

  -- a place that leads as far with more stars has none more
  pub more_stars : (m o : Bool) (k : Key) (d e : ℕ) (b : Key) (n : ℕ) (p q : Exact) → Resolves E m k d b n p → Resolves E o k (add d e) b n q → e ≡ 0
  more_stars m o k d e _ _ p q (here x) r = by (how_resolved E o k (add d e) k d q r)
    where
      by : ((k ≡ k) × (d ≡ add d e)) ⊎ ((m : Bool) × (u : Place) × (f : ℕ) × (E k ≡ refers m u) × (add d e ≡ suc f) × Resolves E o u.key (add u.depth f) k d q) → e ≡ 0
      by (inl y) = let c = add_plus d e in omega (arith, c, y.1)
      by (inr y) =
          let low = res_low rank E s t o y.1.key (add y.1.depth y.2) k d q y.5 in
          let lt = t.below k y.0 y.1 y.3 in
          absurd (omega (arith, low, lt))
  more_stars m o k d e b n p q (through m2 u f is on de r) r2 = by (λ x. more_stars m o u.key (add u.depth f) e b n p q r x) (how_resolved E o k (add d e) b n q r2)
    where
      by : (Resolves E o u.key (add (add u.depth f) e) b n q → e ≡ 0) → ((b ≡ k) × (n ≡ add d e)) ⊎ ((m : Bool) × (v : Place) × (g : ℕ) × (E k ≡ refers m v) × (add d e ≡ suc g) × Resolves E o v.key (add v.depth g) b n q) → e ≡ 0
      by go (inl y) =
          let low = res_low rank E s t m u.key (add u.depth f) b n p r in
          let lt = t.below k m2 u is in
          let same = ap rank y.0 in
          absurd (omega (arith, low, lt, same))
      by go (inr y) =
          let same : refers m2 u ≡ refers y.0 y.1 = sym is ∙ y.3 in
          let v : y.1 ≡ u = cc in
          let c = add_plus d e in
          let c2 = add_plus u.depth y.2 in
          let c3 = add_plus u.depth f in
          let c4 = add_plus (add u.depth f) e in
          let stars : add u.depth y.2 ≡ add (add u.depth f) e = omega (arith, c, c2, c3, c4, y.4, de) in
          let r3 = subst (λ (z : Place). Resolves E o z.key (add z.depth y.2) b n q) v y.5 in
          go (subst (λ z. Resolves E o u.key z b n q) stars r3)

  -- a pointer below a key stands there, or is below the place that the key's reference names
  narrow : (k : Key) (u : Place) (o : ObjNo) (l : Location) → E k ≡ refers true u → Points E s k o l → ((l ≡ at_key k) × (s.at k ≡ ref_v (at_object o))) ⊎ Points E s u.key o l
  narrow k u o l is (by_box v) = inr (by_box v)
  narrow k u o _ is (by_reference {j = j} loans at) = from (loaned_first E k j loans)
    where
      from : (j ≡ k) ⊎ ((v : Place) × (E k ≡ refers true v) × Loaned E v.key j) → ((at_key j ≡ at_key k) × (s.at k ≡ ref_v (at_object o))) ⊎ Points E s u.key o (at_key j)
      from (inl q) = inl (ap at_key q, sym (ap s.at q) ∙ at)
      from (inr q) =
          let same : refers true q.0 ≡ refers true u = sym q.1 ∙ is in
          let v : q.0 ≡ u = cc in
          inr (by_reference (subst (λ (z : Place). Loaned E z.key j) v q.2) at)

  -- by induction on how the place resolves
  pub above : (k : Key) (d : ℕ) (b : Key) (n : ℕ) (p : Exact) (d1 : ℕ) (h l : Location) (o : ObjNo)
      → Resolves E true k d b n p
      → d ≡ suc d1
      → walk s d1 (at_key k) ≡ Some h
      → walk s d (at_key k) ≡ Some (at_object o)
      → Points E s k o l
      → (l ≡ h) ⊎ StandsAbove E s l h
  above k d _ _ p d1 h _ o (here x) de hw w (by_reference {j = j} loans is) = by (loaned_first E k j loans)
    where
      x1 : exact_under (suc d1) (E k) ≡ Some p
      x1 = subst (λ z. exact_under z (E k) ≡ Some p) de x

      by : (j ≡ k) ⊎ ((u : Place) × (E k ≡ refers true u) × Loaned E u.key j) → (at_key j ≡ h) ⊎ StandsAbove E s (at_key j) h
      by (inl e) = absurd (no_reference k d1 p (at_object o) x1 (sym (ap s.at e) ∙ is))
      by (inr y) = let g : None ≡ Some p = sym (ap (exact_under (suc d1)) y.1) ∙ x1 in absurd cc
  above k d _ _ p d1 h l o (here x) de hw w (by_box v) =
      let x1 : exact_under (suc d1) (E k) ≡ Some p = subst (λ z. exact_under z (E k) ≡ Some p) de x in
      let y = part_suc d1 (E k) p x1 in
      let st = t.stands k d1 (owns (box_tree y.0)) y.1 in
      let here_it = walk_boxes rank E s t k d1 (owns (box_tree y.0)) y.1 ∙ st.leads in
      let same : h ≡ st.spot = let g : Some h ≡ Some st.spot = sym hw ∙ here_it in cc in
      let box : value_at s st.spot ≡ Some (box_v st.fits.0) = st.there ∙ ap Some st.fits.1 in
      let deeper : walk s (suc d1) (at_key k) ≡ Some (at_object st.fits.0) = walk_last s d1 (at_key k) st.spot here_it ∙ ap star_target box in
      let objects : Some (at_object o) ≡ Some (at_object st.fits.0) = sym w ∙ ap (λ z. walk s z (at_key k)) de ∙ deeper in
      let one : o ≡ st.fits.0 = cc in
      inl (t.owner l st.spot o v (box ∙ ap (λ z. Some (box_v z)) (sym one)) ∙ sym same)
  above k d b n p d1 h l o (through m u e is on de2 r) de hw w pts =
      by (λ x z g y. above u.key (add u.depth e) b n p x z l o r g y) e refl
    where
      f : RefFits E s m u (s.at k)
      f = ref_at rank E s t k m u is

      mutable : E k ≡ refers true u
      mutable = is ∙ ap (λ z. refers z u) (on refl)

      first : walk s u.depth (at_key u.key) ≡ Some f.target
      first = sound rank E s t m u.key u.depth f.base f.boxes f.type f.res ∙ f.leads

      -- a walk from the key goes on where its reference leads
      goes_on : (z : ℕ) → walk s (suc z) (at_key k) ≡ walk s (add u.depth z) (at_key u.key)
      goes_on z = ap (λ (v : Val). then_location (star_target (Some v)) (walk s z)) f.is ∙ sym (walk_add s u.depth z (at_key u.key) f.target first)

      here_w : walk s (add u.depth e) (at_key u.key) ≡ Some (at_object o)
      here_w = sym (goes_on e) ∙ sym (ap (λ z. walk s z (at_key k)) de2) ∙ w

      stars : e ≡ d1
      stars = let g : suc e ≡ suc d1 = sym de2 ∙ de in cc

      Goes : Type 0
      Goes = (x : ℕ) (z : Location) → add u.depth e ≡ suc x → walk s x (at_key u.key) ≡ Some z → walk s (add u.depth e) (at_key u.key) ≡ Some (at_object o) → Points E s u.key o l → (l ≡ z) ⊎ StandsAbove E s l z

      -- the last star follows the key's own reference
      last_here : Goes → e ≡ zero → ((l ≡ at_key k) × (s.at k ≡ ref_v (at_object o))) ⊎ Points E s u.key o l → (l ≡ h) ⊎ StandsAbove E s l h
      last_here go ez (inl q) =
          let same : Some (at_key k) ≡ Some h = sym (ap (λ z. walk s z (at_key k)) (sym stars ∙ ez)) ∙ hw in
          inl (q.0 ∙ some_is same)
      last_here go ez (inr q) = by_depth u.depth refl
        where
          by_depth : (z : ℕ) → u.depth ≡ z → (l ≡ h) ⊎ StandsAbove E s l h
          by_depth zero uz =
              let c = add_plus u.depth e in
              let none : add u.depth e ≡ 0 = omega (arith, c, uz, ez) in
              let same : Some (at_key u.key) ≡ Some (at_object o) = sym (ap (λ x. walk s x (at_key u.key)) none) ∙ here_w in
              absurd cc
          by_depth (suc z) uz =
              let c = add_plus u.depth e in
              let one : add u.depth e ≡ suc z = omega (arith, c, uz, ez) in
              let w2 : walk s (suc z) (at_key u.key) ≡ Some (at_object o) = sym (ap (λ x. walk s x (at_key u.key)) one) ∙ here_w in
              let y = walk_prefix s z (at_key u.key) (at_object o) w2 in
              let same : Some (at_key k) ≡ Some h = sym (ap (λ x. walk s x (at_key k)) (sym stars ∙ ez)) ∙ hw in
              let made : IsMadeFrom E s k y.0 = record { place = u; stars = z; refers = mutable; last = uz; leads = y.1 } in
              inr (subst (StandsAbove E s l) (some_is same) (then_above y.0 made (go z y.0 one y.1 here_w q)))
            where
              then_above : (g : Location) → IsMadeFrom E s k g → (l ≡ g) ⊎ StandsAbove E s l g → StandsAbove E s l (at_key k)
              then_above g made (inl q2) = holder (subst (IsMadeFrom E s k) (sym q2) made)
              then_above g made (inr q2) = higher made q2

      -- the key's own reference leads elsewhere where more stars follow
      not_here : (z : ℕ) → e ≡ suc z → s.at k ≡ ref_v (at_object o) → ⊥
      not_here z ez at =
          let same : ref_v f.target ≡ ref_v (at_object o) = sym f.is ∙ at in
          let target : f.target ≡ at_object o = cc in
          let there = sym (sound rank E s t true u.key (add u.depth e) b n p r) ∙ here_w in
          let one = unique s t.owner f.base b f.boxes n (at_object o) (f.leads ∙ ap Some target) there in
          let f2 = subst (λ x. Resolves E m u.key u.depth x f.boxes f.type) one.0 f.res in
          let f3 = subst (λ x. Resolves E m u.key u.depth b x f.type) one.1 f2 in
          let none = more_stars m true u.key u.depth e b n f.type p f3 r in
          omega (arith, none, ez)

      by : Goes → (z : ℕ) → e ≡ z → (l ≡ h) ⊎ StandsAbove E s l h
      by go zero ez = last_here go ez (narrow k u o l mutable pts)
      by go (suc z) ez = below (narrow k u o l mutable pts)
        where
          below : ((l ≡ at_key k) × (s.at k ≡ ref_v (at_object o))) ⊎ Points E s u.key o l → (l ≡ h) ⊎ StandsAbove E s l h
          below (inl q) = absurd (not_here z ez q.1)
          below (inr q) =
              let c = add_plus u.depth e in
              let c2 = add_plus u.depth z in
              let one : add u.depth e ≡ suc (add u.depth z) = omega (arith, c, c2, ez) in
              let hw2 = sym (goes_on z) ∙ sym (ap (λ x. walk s x (at_key k)) (sym stars ∙ ez)) ∙ hw in
              go (add u.depth z) h one hw2 here_w q

  -- a reference that the last star of such a place follows is mutable
  last_mutable : (k : Key) (d : ℕ) (b : Key) (n : ℕ) (p : Exact) (d1 : ℕ) (j : Key) (l : Location) → Resolves E true k d b n p → d ≡ suc d1 → walk s d1 (at_key k) ≡ Some (at_key j) → s.at j ≡ ref_v l → (u : Place) × (E j ≡ refers true u)
  last_mutable k d _ _ p d1 j l (here x) de w is = by d1 refl
    where
      x1 : exact_under (suc d1) (E k) ≡ Some p
      x1 = subst (λ z. exact_under z (E k) ≡ Some p) de x

      chain : below_key s k d1 ≡ Some (at_key j)
      chain = let y = part_suc d1 (E k) p x1 in sym (walk_boxes rank E s t k d1 (owns (box_tree y.0)) y.1) ∙ w

      by : (z : ℕ) → d1 ≡ z → (u : Place) × (E j ≡ refers true u)
      by zero e =
          let same : Some (at_key k) ≡ Some (at_key j) = sym (ap (below_key s k) e) ∙ chain in
          let one : k ≡ j = cc in
          absurd (no_reference k d1 p l x1 (ap s.at one ∙ is))
      by (suc z) e =
          let y = from_suc s (at_key k) (at_key j) z (sym (ap (below_key s k) e) ∙ chain) in
          let q : at_key j ≡ at_object y.1 = y.4 in
          absurd cc
  last_mutable k d b n p d1 j l (through m u e is on de2 r) de w at = by (λ x y z. last_mutable u.key (add u.depth e) b n p x j l r y z at) e refl
    where
      f : RefFits E s m u (s.at k)
      f = ref_at rank E s t k m u is

      first : walk s u.depth (at_key u.key) ≡ Some f.target
      first = sound rank E s t m u.key u.depth f.base f.boxes f.type f.res ∙ f.leads

      stars : e ≡ d1
      stars = let g : suc e ≡ suc d1 = sym de2 ∙ de in cc

      by : ((x : ℕ) → add u.depth e ≡ suc x → walk s x (at_key u.key) ≡ Some (at_key j) → (v : Place) × (E j ≡ refers true v)) → (z : ℕ) → e ≡ z → (v : Place) × (E j ≡ refers true v)
      by go zero ez =
          let same : Some (at_key k) ≡ Some (at_key j) = sym (ap (λ z. walk s z (at_key k)) (sym stars ∙ ez)) ∙ w in
          let one : j ≡ k = cc in
          (u, ap E one ∙ is ∙ ap (λ z. refers z u) (on refl))
      by go (suc z) ez =
          let c = add_plus u.depth e in
          let c2 = add_plus u.depth z in
          let one : add u.depth e ≡ suc (add u.depth z) = omega (arith, c, c2, ez) in
          let on_it = ap (λ (v : Val). then_location (star_target (Some v)) (walk s z)) f.is ∙ sym (walk_add s u.depth z (at_key u.key) f.target first) in
          go (add u.depth z) one (sym on_it ∙ sym (ap (λ x. walk s x (at_key k)) (sym stars ∙ ez)) ∙ w)

  -- and so is each that stands above one
  above_mutable : (j : Key) (l m : Location) → s.at j ≡ ref_v l → StandsAbove E s (at_key j) m → (u : Place) × (E j ≡ refers true u)
  above_mutable j l _ is (holder {k = k} made) =
      let f = ref_at rank E s t k true made.place made.refers in
      last_mutable made.place.key made.place.depth f.base f.boxes f.type made.stars j l f.res made.last made.leads is
  above_mutable j l _ is (higher {k = k} {h = h} made rest) = above_mutable j l h is rest

-- EACH POINTER TO WHAT A PLACE WRITES IS THE ONE THAT ITS LAST STAR FOLLOWS, OR STANDS ABOVE IT
pub sole_pointer : SolePointer
sole_pointer rank E s k d b n p h l o t free r hw w pts = above rank E s t k (suc d) b n p d h l o r refl hw w (points l pts)
  where
    chain : below_key s b n ≡ Some (at_object o)
    chain = sym (sound rank E s t true k (suc d) b n p r) ∙ w

    points : (m : Location) → PointsTo s o m → Points E s k o m
    points m (its_box v) = by_box v
    points _ (a_reference {k = j} v) = by_reference (sole rank E s (record { key = k; depth = suc d }) b n n p j (at_object o) t free r v chain).1 v

-- so no reference to it that isn't mutable stands anywhere
pub sole_mutable : (rank : Key → ℕ) (E : KeyTypes) (s : Store) (k : Key) (d : ℕ) (b : Key) (n : ℕ) (p : Exact) (h : Location) (j : Key) (o : ObjNo) → Typed rank E s → Unnamed E k → Resolves E true k (suc d) b n p
    → walk s d (at_key k) ≡ Some h → locate s (record { key = k; depth = suc d }) ≡ Some (at_object o) → s.at j ≡ ref_v (at_object o) → (u : Place) × (E j ≡ refers true u)
sole_mutable rank E s k d b n p h j o t free r hw w is = by (sole_pointer rank E s k d b n p h (at_key j) o t free r hw w (a_reference is))
  where
    by : (at_key j ≡ h) ⊎ StandsAbove E s (at_key j) h → (u : Place) × (E j ≡ refers true u)
    by (inl e) = last_mutable rank E s t k (suc d) b n p d j (at_object o) r refl (hw ∙ ap Some (sym e)) is
    by (inr q) = above_mutable rank E s t j (at_object o) h is q

-- and such a reference stands at a key that is named, or at the place's own
pub sole_named : (rank : Key → ℕ) (E : KeyTypes) (s : Store) (k : Key) (d : ℕ) (b : Key) (n : ℕ) (p : Exact) (j : Key) (o : ObjNo) → Typed rank E s → Unnamed E k → Resolves E true k (suc d) b n p
    → locate s (record { key = k; depth = suc d }) ≡ Some (at_object o) → s.at j ≡ ref_v (at_object o) → Unnamed E j → j ≡ k
sole_named rank E s k d b n p j o t free r w is unnamed =
    unnamed_loan E k j unnamed ((sole rank E s (record { key = k; depth = suc d }) b n n p j (at_object o) t free r is (sym (sound rank E s t true k (suc d) b n p r) ∙ w)).1)
