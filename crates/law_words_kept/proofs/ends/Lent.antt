-- A key that one unnamed key lent: no reference was made from a pointer that its place follows before the last one.
use Rattle.std.proofs.Common.{◌≡◌, ◌⊎◌, inl, inr, ℕ, suc, ◌-◌, ◌<◌, true, Bool, Some, refl, sym, ap, subst, ◌∙◌, arith}
use Rattle.law_words_kept.specs.Below.fr_base.declared.name.ObjNo.{ObjNo}
use Rattle.law_words_kept.specs.Below.fr_store.Keys.{Key}
use Rattle.law_words_kept.specs.Below.fr_store.Store.{Location, at_key, at_object, ref_v, Store, star_hop, walk, Place, add}
use Rattle.law_words_kept.specs.Below.fr_store.Typed.{Exact, refers, KeyTypes, Resolves, here, through, Loaned, self, loan, RefFits, Typed, Unnamed}
use Rattle.law_words_kept.proofs.Below.fr_store.Chains.{add_plus, unique}
use Rattle.law_words_kept.proofs.Below.fr_store.Sound.{walk_last, ref_at, sound, Reach, stop, go, res_reach}
use Rattle.law_words_kept.specs.Below.law_words_paths.paths.Above.{IsMadeFrom}
use Rattle.law_words_kept.proofs.Below.law_words_paths.paths.Sole.{loaned_first, some_is, by_reference, above, more_stars}
use Rattle.law_words_kept.proofs.Below.law_words_paths.paths.Circles.{shorter, no_circle}

same_place : {u v : Place} → refers true u ≡ refers true v → u ≡ v
same_place e = cc

same_target : {l m : Location} → ref_v l ≡ ref_v m → l ≡ m
same_target e = cc

-- mutable references lend from key to key
loaned_res : (E : KeyTypes) (j k : Key) (d : ℕ) (b : Key) (n : ℕ) (p : Exact) → Resolves E true k d b n p → Loaned E j k → Loaned E j b
loaned_res E j k d _ _ p (here e) l = l
loaned_res E j k d b n p (through m u e is o de r) l = loaned_res E j u.key (add u.depth e) b n p r (loan l u (is ∙ ap (λ z. refers z u) (o refl)))

module _ (rank : Key → ℕ) (E : KeyTypes) (s : Store) (t : Typed rank E s) (j : Key) (free : Unnamed E j) where
  -- whoever reaches a key that is lent from an unnamed key is lent from it too
  all_loaned : (b : Key) → Loaned E j b → (y : Key) (m : Bool) (v : Place) (i : ℕ) → E y ≡ refers m v → Reach E v.key v.depth b i → Loaned E j y
  all_loaned _ self y m v i is stop = absurd (free y m v is refl)
  all_loaned _ self y m v i is (go r m2 u2 e2 is2 fe ke ie) = absurd (free _ m2 u2 is2 (sym ke))
  all_loaned _ (loan {t = z0} l u0 is0) y m v i is stop = subst (Loaned E j) (sym (t.once z0 y m u0 v is0 is refl)) l
  all_loaned _ (loan {t = z0} l u0 is0) y m v i is (go {y = z} {n = f} r m2 u2 e2 is2 fe ke ie) =
      let same = t.once z0 z m2 u0 u2 is0 is2 (sym ke) in
      all_loaned z0 l y m v f is (subst (λ q. Reach E v.key v.depth q f) same r)

  module _ (flat : (o : ObjNo) (l : Location) → s.heap o ≡ Some (ref_v l) → ⊥) (u : Place) (is : E j ≡ refers true u) where
    f : RefFits E s true u (s.at j)
    f = ref_at rank E s t j true u is

    -- its own reference was made from the last one
    not_its_own : (d e : ℕ) (h : Location) → u.depth ≡ suc e → d < e → walk s d (at_key u.key) ≡ Some h → IsMadeFrom E s j h → ⊥
    not_its_own d e h last lt hw made =
        let p : made.place ≡ u = same_place (sym made.refers ∙ is) in
        let stars : made.stars ≡ e = (let g : suc made.stars ≡ suc e = sym made.last ∙ ap (λ (z : Place). z.depth) p ∙ last in omega (arith, g)) in
        let hw2 : walk s e (at_key u.key) ≡ Some h = subst (λ (z : Place). walk s e (at_key z.key) ≡ Some h) p (subst (λ z. walk s z (at_key made.place.key) ≡ Some h) stars made.leads) in
        let a = shorter E true u.key (suc e - d) u.depth d f.base f.boxes f.type (omega (arith, last, lt)) f.res in
        let b = shorter E true u.key 1 u.depth e f.base f.boxes f.type (omega (arith, last)) f.res in
        let one = unique s t.owner a.base b.base a.boxes b.boxes h (sym (sound rank E s t true u.key d a.base a.boxes a.type a.res) ∙ hw) (sym (sound rank E s t true u.key e b.base b.boxes b.type b.res) ∙ hw2) in
        let more : e ≡ add d (e - d) = (let q = add_plus d (e - d) in omega (arith, q, lt)) in
        let r = subst (λ z. Resolves E true u.key z b.base b.boxes b.type) more b.res in
        let r2 = subst (λ z. Resolves E true u.key (add d (e - d)) a.base z b.type) (sym one.1) (subst (λ z. Resolves E true u.key (add d (e - d)) z b.boxes b.type) (sym one.0) r) in
        let none = more_stars rank E s t true true u.key d (e - d) a.base a.boxes a.type b.type a.res r2 in
        omega (arith, none, lt)

    pub none_before : (d e : ℕ) (h : Location) (o : ObjNo) → u.depth ≡ suc e → d < e → walk s d (at_key u.key) ≡ Some h → star_hop s h ≡ Some (at_object o) → (y : Key) → IsMadeFrom E s y h → ⊥
    none_before d e h o last lt hw star y made = by (loaned_first E j y lent)
      where
        w : walk s (suc d) (at_key u.key) ≡ Some (at_object o)
        w = walk_last s d (at_key u.key) h hw ∙ star

        v : Place
        v = made.place

        fy : RefFits E s true v (s.at y)
        fy = ref_at rank E s t y true v made.refers

        whole_walk : walk s v.depth (at_key v.key) ≡ Some fy.target
        whole_walk = sound rank E s t true v.key v.depth fy.base fy.boxes fy.type fy.res ∙ fy.leads

        target : fy.target ≡ at_object o
        target = some_is (sym whole_walk ∙ ap (λ z. walk s z (at_key v.key)) made.last ∙ walk_last s made.stars (at_key v.key) h made.leads ∙ star)

        lent : Loaned E j y
        lent =
            let a = shorter E true u.key (e - d) u.depth (suc d) f.base f.boxes f.type (omega (arith, last, lt)) f.res in
            let one = unique s t.owner a.base fy.base a.boxes fy.boxes (at_object o) (sym (sound rank E s t true u.key (suc d) a.base a.boxes a.type a.res) ∙ w) (fy.leads ∙ ap Some target) in
            let reach = res_reach E true v.key v.depth v.key v.depth fy.base fy.boxes fy.type stop fy.res in
            all_loaned a.base (loaned_res E j u.key (suc d) a.base a.boxes a.type a.res (loan self u is)) y true v fy.boxes made.refers (subst (λ z. Reach E v.key v.depth z fy.boxes) (sym one.0) reach)

        by : (y ≡ j) ⊎ ((z : Place) × (E j ≡ refers true z) × Loaned E z.key y) → ⊥
        by (inl q) = not_its_own d e h last lt hw (subst (λ z. IsMadeFrom E s z h) q made)
        by (inr q) =
            let same : q.0 ≡ u = same_place (sym q.1 ∙ is) in
            let below = subst (λ (z : Place). Loaned E z.key y) same q.2 in
            let a = shorter E true u.key (e - d) u.depth (suc d) f.base f.boxes f.type (omega (arith, last, lt)) f.res in
            no_circle rank E s t flat y h made (above rank E s t u.key (suc d) a.base a.boxes a.type d h (at_key y) o a.res refl hw w (by_reference below (fy.is ∙ ap ref_v target)))
