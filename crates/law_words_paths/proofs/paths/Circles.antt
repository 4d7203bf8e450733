-- A place that may be written: shorter places may be too, walks go down in rank, and no reference was made from what it was made of.
use Rattle.std.proofs.Common.{◌≡◌, ◌⊎◌, inl, inr, ℕ, zero, suc, ◌+◌, ◌<◌, ◌≤◌, Bool, true, Option, Some, None, refl, sym, ap, subst, ◌∙◌, arith}
use Rattle.coherent_types.specs.Below.fr_base.declared.name.ObjNo.{ObjNo}
use Rattle.coherent_types.specs.Below.fr_store.Keys.{Key}
use Rattle.coherent_types.specs.Below.fr_store.Store.{Location, at_key, at_object, Val, box_v, ref_v, Store, star_target, star_hop, walk, Place, add}
use Rattle.coherent_types.specs.Below.fr_store.Typed.{box_tree, Exact, owns, refers, KeyTypes, exact_under, Resolves, here, through, Typed}
use Rattle.coherent_types.proofs.Below.fr_store.Chains.{part_suc, add_plus, unique}
use Rattle.coherent_types.proofs.Below.fr_store.Below.{part_zero}
use Rattle.coherent_types.proofs.Below.fr_store.Sound.{ref_at}
use Rattle.coherent_types.proofs.Below.fr_store.ThreadKept.{res_low}
use Rattle.law_words_paths.proofs.paths.Sole.{walk_prefix}
use Rattle.law_words_paths.proofs.paths.Alike.{ref_type}
use Rattle.law_words_paths.specs.paths.Above.{IsMadeFrom, StandsAbove, holder, higher}

-- a place with fewer stars resolves too
pub record Shorter (E : KeyTypes) (only : Bool) (k : Key) (d : ℕ) : Type 0 where
  pub base : Key
  pub boxes : ℕ
  pub type : Exact
  pub res : Resolves E only k d base boxes type

-- one star less
one_shorter : (E : KeyTypes) (only : Bool) (k : Key) (c d : ℕ) (b : Key) (n : ℕ) (p : Exact) → c ≡ suc d → Resolves E only k c b n p → Shorter E only k d
one_shorter E only k c d _ _ p e (here h) =
    let x = part_suc d (E k) p (subst (λ z. exact_under z (E k) ≡ Some p) e h) in
    record { base = k; boxes = d; type = owns (box_tree x.0); res = here x.1 }
one_shorter E only k c d b n p e (through m u f is on de r) = by (λ x y. one_shorter E only u.key (add u.depth f) x b n p y r) f refl
  where
    stars : f ≡ d
    stars = let g : suc f ≡ suc d = sym de ∙ e in cc

    none : Resolves E only k 0 k 0 (E k)
    none = here (part_zero (E k))

    by : ((x : ℕ) → add u.depth f ≡ suc x → Shorter E only u.key x) → (z : ℕ) → f ≡ z → Shorter E only k d
    by go zero fz =
        let dz : 0 ≡ d = sym fz ∙ stars in
        record { base = k; boxes = 0; type = E k; res = subst (λ z. Resolves E only k z k 0 (E k)) dz none }
    by go (suc z) fz =
        let c1 = add_plus u.depth f in
        let c2 = add_plus u.depth z in
        let one : add u.depth f ≡ suc (add u.depth z) = omega (arith, c1, c2, fz) in
        let q = go (add u.depth z) one in
        let dz : d ≡ suc z = sym stars ∙ fz in
        record { base = q.base; boxes = q.boxes; type = q.type; res = through m u z is on dz q.res }

-- some stars less
pub shorter : (E : KeyTypes) (only : Bool) (k : Key) (j c d : ℕ) (b : Key) (n : ℕ) (p : Exact) → c ≡ j + d → Resolves E only k c b n p → Shorter E only k d
shorter E only k zero c d b n p e r =
    let same : c ≡ d = omega (arith, e) in
    record { base = b; boxes = n; type = p; res = subst (λ z. Resolves E only k z b n p) same r }
shorter E only k (suc j) c d b n p e r =
    let one : c ≡ suc (j + d) = omega (arith, e) in
    let q = one_shorter E only k c (j + d) b n p one r in
    shorter E only k j (j + d) d q.base q.boxes q.type refl q.res

-- the base is one of the keys that mutable references lead to from there
pub base_in : (P : Key → Type 0) (E : KeyTypes) → ((k : Key) (u : Place) → P k → E k ≡ refers true u → P u.key) → (k : Key) (d : ℕ) (b : Key) (n : ℕ) (p : Exact) → P k → Resolves E true k d b n p → P b
base_in P E on k d _ _ p h (here x) = h
base_in P E on k d b n p h (through m u e is o de r) = base_in P E on u.key (add u.depth e) b n p (on k u h (is ∙ ap (λ z. refers z u) (o refl))) r

-- what stands above a pointer stands above one at a key
above_key : (E : KeyTypes) (s : Store) (l h : Location) → StandsAbove E s l h → (k : Key) × (h ≡ at_key k)
above_key E s l _ (holder {k = k} made) = (k, refl)
above_key E s l _ (higher {k = k} made rest) = (k, refl)

one_key : {a b : Key} → at_key a ≡ at_key b → a ≡ b
one_key e = cc

module _ (rank : Key → ℕ) (E : KeyTypes) (s : Store) (t : Typed rank E s) (flat : (o : ObjNo) (l : Location) → s.heap o ≡ Some (ref_v l) → ⊥) where
  -- a key to which a star leads from a key ranks lower
  star_rank : (k j : Key) → star_hop s (at_key k) ≡ Some (at_key j) → rank j < rank k
  star_rank k j e = by (reference (s.at k) e)
    where
      reference : (v : Val) → star_target (Some v) ≡ Some (at_key j) → v ≡ ref_v (at_key j)
      reference (ref_v m) h = cc
      reference (box_v o) h = absurd cc
      reference _ h = absurd cc

      by : s.at k ≡ ref_v (at_key j) → rank j < rank k
      by is =
          let q = ref_type rank E s t k (at_key j) is in
          let f = ref_at rank E s t k q.0 q.1 q.2 in
          let same : ref_v f.target ≡ ref_v (at_key j) = sym f.is ∙ is in
          let target : f.target ≡ at_key j = cc in
          let one = unique s t.owner f.base j f.boxes 0 (at_key j) (f.leads ∙ ap Some target) refl in
          let low = res_low rank E s t q.0 q.1.key q.1.depth f.base f.boxes f.type f.res in
          let lt = t.below k q.0 q.1 q.2 in
          let names = ap rank one.0 in
          omega (arith, low, lt, names)

  -- from an object a star leads to an object
  from_object : (o : ObjNo) (j : Key) → star_hop s (at_object o) ≡ Some (at_key j) → ⊥
  from_object o j e = by (s.heap o) refl e
    where
      by : (v : Option Val) → s.heap o ≡ v → star_target v ≡ Some (at_key j) → ⊥
      by (Some (ref_v m)) is h = flat o m is
      by (Some (box_v q)) is h = absurd cc
      by None is h = absurd cc
      by (Some _) is h = absurd cc

  last_rank : {o : Option Location} (k j : Key) → ((i : Key) → o ≡ Some (at_key i) → rank i ≤ rank k) → (h : Location) → o ≡ Some h → star_hop s h ≡ Some (at_key j) → rank j ≤ rank k
  last_rank k j go (at_key i) w e = let a = go i w in let b = star_rank i j e in omega (arith, a, b)
  last_rank k j go (at_object o) w e = absurd (from_object o j e)

  -- a key to which a place leads ranks no higher than the place's
  walk_rank : (d : ℕ) (k j : Key) → walk s d (at_key k) ≡ Some (at_key j) → rank j ≤ rank k
  walk_rank zero k j e =
      let same : Some (at_key k) ≡ Some (at_key j) = e in
      let one : k ≡ j = cc in
      let names = ap rank one in
      omega (arith, names)
  walk_rank (suc d) k j e =
      let p = walk_prefix s d (at_key k) (at_key j) e in
      last_rank k j (λ i w. walk_rank d k i w) p.0 p.1 p.2

  -- so does the pointer from which a reference was made
  pub made_rank : (k j : Key) → IsMadeFrom E s k (at_key j) → rank j < rank k
  made_rank k j made =
      let w = walk_rank made.stars made.place.key j made.leads in
      let lt = t.below k true made.place made.refers in
      omega (arith, w, lt)

  above_rank : (j : Key) (h : Location) (k : Key) → StandsAbove E s (at_key j) h → h ≡ at_key k → rank j < rank k
  above_rank j _ k (holder {k = i} made) e =
      let r = made_rank i j made in
      let names = ap rank (one_key e) in
      omega (arith, r, names)
  above_rank j _ k (higher {k = i} {h = h} made rest) e =
      let q = above_key E s (at_key j) h rest in
      let low = above_rank j h q.0 rest q.1 in
      let r = made_rank i q.0 (subst (IsMadeFrom E s i) q.1 made) in
      let names = ap rank (one_key e) in
      omega (arith, low, r, names)

  -- NO CIRCLE: a reference that was made from a pointer neither is that pointer nor stands above it
  pub no_circle : (m : Key) (l : Location) → IsMadeFrom E s m l → (at_key m ≡ l) ⊎ StandsAbove E s (at_key m) l → ⊥
  no_circle m l made (inl e) = let r = made_rank m m (subst (IsMadeFrom E s m) (sym e) made) in omega (arith, r)
  no_circle m l made (inr q) =
      let k = above_key E s (at_key m) l q in
      let low = above_rank m l k.0 q k.1 in
      let r = made_rank m k.0 (subst (IsMadeFrom E s m) k.1 made) in
      omega (arith, low, r)
