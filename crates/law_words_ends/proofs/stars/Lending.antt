-- Who refers to an object to which the place of a key leads that one unnamed key lent: mutable references alone, each lent on from there, and all of them above the
-- pointer that the place follows last.
use Rattle.std.proofs.Common.{◌≡◌, ◌⊎◌, inl, inr, ℕ, suc, ◌-◌, ◌≤◌, Bool, true, Some, refl, sym, ap, subst, ◌∙◌, arith}
use Rattle.law_words_ends.specs.Below.fr_base.declared.name.ObjNo.{ObjNo}
use Rattle.law_words_ends.specs.Below.fr_store.Keys.{Key}
use Rattle.law_words_ends.specs.Below.fr_store.Store.{Location, at_key, at_object, ref_v, Store, walk, Place, add}
use Rattle.law_words_ends.specs.Below.fr_store.Typed.{Exact, refers, KeyTypes, Resolves, here, through, Loaned, self, loan, RefFits, Typed, Unnamed}
use Rattle.law_words_ends.proofs.Below.fr_store.Chains.{unique}
use Rattle.law_words_ends.proofs.Below.fr_store.Sound.{ref_at, sound, Reach, stop, go, res_reach}
use Rattle.law_words_ends.specs.Below.law_words_paths.paths.Above.{StandsAbove, PointsTo, its_box, a_reference}
use Rattle.law_words_ends.proofs.Below.law_words_paths.paths.Alike.{ref_type}
use Rattle.law_words_ends.proofs.Below.law_words_paths.paths.Sole.{Points, by_reference, by_box, loaned_first, above}
use Rattle.law_words_ends.proofs.Below.law_words_paths.paths.Circles.{Shorter, shorter}

same_place : {u v : Place} → refers true u ≡ refers true v → u ≡ v
same_place e = cc

same_target : {l m : Location} → ref_v l ≡ ref_v m → l ≡ m
same_target e = cc

-- mutable references lend from key to key
lent_through : (E : KeyTypes) (j k : Key) (d : ℕ) (b : Key) (n : ℕ) (p : Exact) → Resolves E true k d b n p → Loaned E j k → Loaned E j b
lent_through E j k d _ _ p (here e) l = l
lent_through E j k d b n p (through m u e is o de r) l = lent_through E j u.key (add u.depth e) b n p r (loan l u (is ∙ ap (λ z. refers z u) (o refl)))

-- a key is lent from another one, and refers mutably itself
abbrev pub IsLender : KeyTypes → Key → Key → Type 0
IsLender E j y = Loaned E j y × ((u : Place) × (E y ≡ refers true u))

module _ (rank : Key → ℕ) (E : KeyTypes) (s : Store) (t : Typed rank E s) (j : Key) (free : Unnamed E j) where
  -- whoever reaches a key that is lent from an unnamed key is lent from it too, and lends on
  all_lent : (b : Key) → Loaned E j b → (y : Key) (m : Bool) (v : Place) (i : ℕ) → E y ≡ refers m v → Reach E v.key v.depth b i → IsLender E j y
  all_lent _ self y m v i is stop = absurd (free y m v is refl)
  all_lent _ self y m v i is (go r m2 u2 e2 is2 fe ke ie) = absurd (free _ m2 u2 is2 (sym ke))
  all_lent _ (loan {t = z0} l u0 is0) y m v i is stop =
      let same : y ≡ z0 = t.once z0 y m u0 v is0 is refl in
      (subst (Loaned E j) (sym same) l, (u0, ap E same ∙ is0))
  all_lent _ (loan {t = z0} l u0 is0) y m v i is (go {y = z} {n = f} r m2 u2 e2 is2 fe ke ie) =
      let same = t.once z0 z m2 u0 u2 is0 is2 (sym ke) in
      all_lent z0 l y m v f is (subst (λ q. Reach E v.key v.depth q f) same r)

  module _ (u : Place) (is : E j ≡ refers true u) where
    f : RefFits E s true u (s.at j)
    f = ref_at rank E s t j true u is

    -- the place with fewer stars
    fewer : (d : ℕ) → d ≤ u.depth → Shorter E true u.key d
    fewer d le = shorter E true u.key (u.depth - d) u.depth d f.base f.boxes f.type (omega (arith, le)) f.res

    -- who refers to what it leads to
    pub refers_there : (d : ℕ) (o : ObjNo) → d ≤ u.depth → walk s d (at_key u.key) ≡ Some (at_object o) → (y : Key) → s.at y ≡ ref_v (at_object o) → IsLender E j y
    refers_there d o le w y there =
        let v = ref_type rank E s t y (at_object o) there in
        let fy = ref_at rank E s t y v.0 v.1 v.2 in
        let target : fy.target ≡ at_object o = same_target (sym fy.is ∙ there) in
        let a = fewer d le in
        let one = unique s t.owner a.base fy.base a.boxes fy.boxes (at_object o) (sym (sound rank E s t true u.key d a.base a.boxes a.type a.res) ∙ w) (fy.leads ∙ ap Some target) in
        let reach = res_reach E v.0 v.1.key v.1.depth v.1.key v.1.depth fy.base fy.boxes fy.type stop fy.res in
        all_lent a.base (lent_through E j u.key d a.base a.boxes a.type a.res (loan self u is)) y v.0 v.1 fy.boxes v.2 (subst (λ z. Reach E v.1.key v.1.depth z fy.boxes) (sym one.0) reach)

    -- who points there
    pub points_there : (d : ℕ) (h l : Location) (o : ObjNo) → suc d ≤ u.depth → walk s d (at_key u.key) ≡ Some h → walk s (suc d) (at_key u.key) ≡ Some (at_object o) → (s.at j ≡ ref_v (at_object o) → ⊥) → PointsTo s o l → (l ≡ h) ⊎ StandsAbove E s l h
    points_there d h l o le hw w other pts =
        let a = fewer (suc d) le in
        above rank E s t u.key (suc d) a.base a.boxes a.type d h l o a.res refl hw w (points l pts)
      where
        points : (m : Location) → PointsTo s o m → Points E s u.key o m
        points m (its_box v) = by_box v
        points _ (a_reference {k = y} v) = by (loaned_first E j y (refers_there (suc d) o le w y v).0)
          where
            by : (y ≡ j) ⊎ ((z : Place) × (E j ≡ refers true z) × Loaned E z.key y) → Points E s u.key o (at_key y)
            by (inl q) = absurd (other (sym (ap s.at q) ∙ v))
            by (inr q) =
                let same : q.0 ≡ u = same_place (sym q.1 ∙ is) in
                by_reference (subst (λ (z : Place). Loaned E z.key y) same q.2) v
