-- A place leads to where it resolves to; who resolves below a place that may be written.
use Rattle.std.proofs.Common.{◌≡◌, ℕ, zero, suc, ◌<◌, ◌≤◌, Bool, true, Option, Some, None, refl, sym, ap, subst, ◌∙◌, arith}
use Rattle.fr_store.specs.Keys.{Key}
use Rattle.fr_store.specs.Store.{Location, at_key, Val, box_v, Store, value_at, then_location, star_target, star_hop, walk, Place, below_key, add}
use Rattle.fr_store.specs.Typed.{box_tree, Exact, owns, refers, KeyTypes, exact_under, Resolves, here, through, Loaned, self, loan, RefFits, Typed, Unnamed}
use Rattle.fr_store.proofs.Chains.{then_some, from_box, part_suc, add_plus}

-- so many stars, and then so many more
pub walk_add : (s : Store) (d e : ℕ) (l m : Location) → walk s d l ≡ Some m → walk s (add d e) l ≡ walk s e m
walk_add s zero e l m h = let f : l ≡ m = cc in ap (walk s e) f
walk_add s (suc d) e l m h =
    let x = then_some (star_hop s l) (walk s d) m h in
    ap (λ y. then_location y (walk s (add d e))) x.1 ∙ walk_add s d e x.0 m x.2

-- one star more
pub walk_last : (s : Store) (d : ℕ) (l m : Location) → walk s d l ≡ Some m → walk s (suc d) l ≡ star_hop s m
walk_last s zero l m h = let f : l ≡ m = cc in subst (λ x. walk s 1 x ≡ star_hop s m) (sym f) (by (star_hop s m))
  where
    by : (x : Option Location) → then_location x (walk s zero) ≡ x
    by None = refl
    by (Some y) = refl
walk_last s (suc d) l m h =
    let x = then_some (star_hop s l) (walk s d) m h in
    ap (λ y. then_location y (walk s (suc d))) x.1 ∙ walk_last s d x.0 m x.2

module _ (rank : Key → ℕ) (E : KeyTypes) (s : Store) (t : Typed rank E s) where
  -- over boxes alone
  pub walk_boxes : (k : Key) (n : ℕ) (p : Exact) → exact_under n (E k) ≡ Some p → walk s n (at_key k) ≡ below_key s k n
  walk_boxes k zero p e = refl
  walk_boxes k (suc n) p e =
      let x = part_suc n (E k) p e in
      let st = t.stands k n (owns (box_tree x.0)) x.1 in
      let w = walk_boxes k n (owns (box_tree x.0)) x.1 ∙ st.leads in
      let o = st.fits.0 in
      let v : value_at s st.spot ≡ Some (box_v o) = st.there ∙ ap Some st.fits.1 in
      walk_last s n (at_key k) st.spot w ∙ ap star_target v ∙ sym (from_box s (at_key k) st.spot n o st.leads v)

  -- a key of a reference's type has a reference that fits
  pub ref_at : (k : Key) (m : Bool) (u : Place) → E k ≡ refers m u → RefFits E s m u (s.at k)
  ref_at k m u e =
      let st = t.stands k zero (refers m u) (ap (exact_under zero) e) in
      let l : at_key k ≡ st.spot = let g : Some (at_key k) ≡ Some st.spot = st.leads in cc in
      let v : s.at k ≡ st.value = let g : Some (s.at k) ≡ Some st.value = ap (value_at s) l ∙ st.there in cc in
      subst (RefFits E s m u) (sym v) st.fits

  -- the same by the key's rank
  sound_by : (fuel : ℕ) (only : Bool) (k : Key) (d : ℕ) (b : Key) (n : ℕ) (p : Exact) → rank k < fuel → Resolves E only k d b n p → walk s d (at_key k) ≡ below_key s b n
  sound_by zero only k d b n p lt r = absurd (omega arith)
  sound_by (suc fuel) only k _ _ _ p lt (here {n = n} e) = walk_boxes k n p e
  sound_by (suc fuel) only k d b n p lt (through m u e is o de r) =
      let lower = t.below k m u is in
      let f = ref_at k m u is in
      let a : walk s u.depth (at_key u.key) ≡ Some f.target = sound_by fuel m u.key u.depth f.base f.boxes f.type (omega arith) f.res ∙ f.leads in
      let g = sound_by fuel only u.key (add u.depth e) b n p (omega arith) r in
      ap (λ x. walk s x (at_key k)) de ∙ ap (λ (v : Val). then_location (star_target (Some v)) (walk s e)) f.is ∙ sym (walk_add s u.depth e (at_key u.key) f.target a) ∙ g

  -- THE TYPE OF A PLACE IS SOUND: a place leads to where it resolves to
  pub sound : (only : Bool) (k : Key) (d : ℕ) (b : Key) (n : ℕ) (p : Exact) → Resolves E only k d b n p → walk s d (at_key k) ≡ below_key s b n
  sound only k d b n p r = sound_by (suc (rank k)) only k d b n p (omega arith) r

-- what a place resolves to stands there by the types
pub res_part : (E : KeyTypes) (only : Bool) (k : Key) (d : ℕ) (b : Key) (n : ℕ) (p : Exact) → Resolves E only k d b n p → exact_under n (E b) ≡ Some p
res_part E only k d b n p (here e) = e
res_part E only k d b n p (through m u e is o de r) = res_part E only u.key (add u.depth e) b n p r

-- EXCLUSIVITY

-- from the place with d stars at key k, references lead to the place with i stars at key b: the same with the last reference last
pub data Reach (E : KeyTypes) (k : Key) (d : ℕ) : Key → ℕ → Type 0 where
  stop : Reach E k d k d
  go : {y b : Key} {n i : ℕ} → Reach E k d y n → (m : Bool) (u : Place) (e : ℕ) → E y ≡ refers m u → n ≡ suc e → b ≡ u.key → i ≡ add u.depth e → Reach E k d b i

-- a place that is reached resolves to what is reached
pub res_reach : (E : KeyTypes) (only : Bool) (k : Key) (d : ℕ) (x : Key) (a : ℕ) (b : Key) (n : ℕ) (p : Exact) → Reach E x a k d → Resolves E only k d b n p → Reach E x a b n
res_reach E only k d x a b n p h (here e) = h
res_reach E only k d x a b n p h (through m u e is o de r) = res_reach E only u.key (add u.depth e) x a b n p (go h m u e is de refl refl) r

-- who reaches place (y, d) stands between x and y, and names no more stars
abbrev pub Guard : KeyTypes → Key → Key → ℕ → Type 0
Guard E x y d = (j : Key) (m : Bool) (v : Place) (i : ℕ) → E j ≡ refers m v → Reach E v.key v.depth y i → (i ≤ d) × Loaned E x j

module _ (E : KeyTypes) (once : (i j : Key) (m : Bool) (u v : Place) → E i ≡ refers true u → E j ≡ refers m v → v.key ≡ u.key → j ≡ i) (x : Key) where
  -- nobody reaches a place whose variable no type names
  guard_start : (d : ℕ) → Unnamed E x → Guard E x x d
  guard_start d free j m v i is stop = absurd (free j m v is refl)
  guard_start d free j m v i is (go r m2 u e is2 de ke ie) = absurd (free _ m2 u is2 (sym ke))

  -- one mutable reference further
  guard_next : (y : Key) (d e : ℕ) (u : Place) → E y ≡ refers true u → d ≡ suc e → Loaned E x y → Guard E x y d → Guard E x u.key (add u.depth e)
  guard_next y d e u is de l g j m v i js stop =
      let same = once y j m u v is js refl in
      let a : refers m v ≡ refers true u = sym js ∙ ap E same ∙ is in
      let b : v ≡ u = cc in
      let c = add_plus u.depth e in
      (subst (λ z. z ≤ add u.depth e) (ap (λ (z : Place). z.depth) (sym b)) (omega (arith, c)), subst (Loaned E x) (sym same) l)
  guard_next y d e u is de l g j m v i js (go {y = z} {n = f} r m2 u2 e2 is2 fe ke ie) =
      let same = once y z m2 u u2 is is2 (sym ke) in
      let a : refers m2 u2 ≡ refers true u = sym is2 ∙ ap E same ∙ is in
      let b : u2 ≡ u = cc in
      let h = g j m v f js (subst (λ q. Reach E v.key v.depth q f) same r) in
      let c = add_plus u.depth e in
      let c2 = add_plus u.depth e2 in
      let ie2 : i ≡ add u.depth e2 = ie ∙ ap (λ (q : Place). add q.depth e2) b in
      let lt : f ≤ d = h.0 in
      (omega (arith, c, c2, ie2, lt, de, fe), h.1)

  -- all the way
  guard_res : (k : Key) (d : ℕ) (b : Key) (n : ℕ) (p : Exact) → Resolves E true k d b n p → Loaned E x k → Guard E x k d → Guard E x b n
  guard_res k d b n p (here e) l g = g
  guard_res k d b n p (through m u e is o de r) l g =
      let is2 : E k ≡ refers true u = is ∙ ap (λ q. refers q u) (o refl) in
      guard_res u.key (add u.depth e) b n p r (loan l u is2) (guard_next k d e u is2 de l g)

  -- WHO RESOLVES TO THE KEY THAT IS WRITTEN: only references on the way, to no deeper place
  pub exclusive : (d : ℕ) (b : Key) (n : ℕ) (p : Exact) → Unnamed E x → Resolves E true x d b n p
      → (j : Key) (m : Bool) (v : Place) (only : Bool) (i : ℕ) (q : Exact) → E j ≡ refers m v → Resolves E only v.key v.depth b i q → (i ≤ n) × Loaned E x j
  exclusive d b n p free r j m v only i q js rj =
      guard_res x d b n p r self (guard_start d free) j m v i js (res_reach E only v.key v.depth v.key v.depth b i q stop rj)
