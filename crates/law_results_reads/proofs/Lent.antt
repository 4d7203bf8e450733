-- No mutable reference was made from a pointer that a place follows whose variable no type lends mutably, in a typed store.
use Rattle.std.proofs.Common.{◌≡◌, ℕ, suc, ◌+◌, ◌<◌, Bool, true, Some, refl, sym, ap, subst, ◌∙◌, arith}
use Rattle.law_counts_sums.specs.Below.fr_store.Keys.{Key}
use Rattle.law_counts_sums.specs.Below.fr_store.Store.{Location, at_key, Store, Place, walk, add, below_key}
use Rattle.law_counts_sums.specs.Below.fr_store.Typed.{Exact, refers, KeyTypes, Resolves, here, through, Typed, Unlent}
use Rattle.law_counts_sums.proofs.Below.fr_store.Chains.{add_plus, unique}
use Rattle.law_counts_sums.proofs.Below.fr_store.Sound.{Reach, stop, go, res_reach, ref_at, sound}
use Rattle.law_words_paths.proofs.paths.Circles.{shorter}
use Rattle.law_words_paths.specs.paths.Above.{IsMadeFrom}

module _ (E : KeyTypes) (once : (i j : Key) (m : Bool) (u v : Place) → E i ≡ refers true u → E j ≡ refers m v → v.key ≡ u.key → j ≡ i) (k : Key) (free : Unlent E k) where
  -- whoever comes from the key to that place comes with more stars
  abbrev Over : Key → ℕ → Type 0
  Over y n = (d i : ℕ) → Reach E k d y i → n < i

  -- a place that a mutable reference names, with one star less
  over_start : (q : Key) (u : Place) (n : ℕ) → E q ≡ refers true u → u.depth ≡ suc n → Over u.key n
  over_start q u n is deep d i stop = absurd (free q u is refl)
  over_start q u n is deep d i (go {y = z} r m2 u2 e2 is2 ne ke ie) =
      let same = once q z m2 u u2 is is2 (sym ke) in
      let a : refers m2 u2 ≡ refers true u = sym is2 ∙ ap E same ∙ is in
      let b : u2 ≡ u = cc in
      let c : u2.depth ≡ u.depth = ap (λ (x : Place). x.depth) b in
      let s = add_plus u2.depth e2 in
      omega (arith, ie, s, c, deep)

  -- one mutable reference further
  over_next : (y : Key) (n e : ℕ) (u : Place) → E y ≡ refers true u → n ≡ suc e → Over y n → Over u.key (add u.depth e)
  over_next y n e u is ne o d i stop = absurd (free y u is refl)
  over_next y n e u is ne o d i (go {y = z} {n = f} r m2 u2 e2 is2 fe ke ie) =
      let same = once y z m2 u u2 is is2 (sym ke) in
      let a : refers m2 u2 ≡ refers true u = sym is2 ∙ ap E same ∙ is in
      let b : u2 ≡ u = cc in
      let c : u2.depth ≡ u.depth = ap (λ (x : Place). x.depth) b in
      let lt : n < f = o d f (subst (λ q. Reach E k d q f) same r) in
      let s = add_plus u.depth e in
      let s2 = add_plus u2.depth e2 in
      omega (arith, ie, s, s2, c, lt, ne, fe)

  -- all the way
  over_res : (y : Key) (n : ℕ) (b : Key) (m : ℕ) (p : Exact) → Resolves E true y n b m p → Over y n → Over b m
  over_res y n _ _ p (here x) o = o
  over_res y n b m p (through q u e is on ne r) o =
      over_res u.key (add u.depth e) b m p r (over_next y n e u (is ∙ ap (λ z. refers z u) (on refl)) ne o)

module _ (rank : Key → ℕ) (E : KeyTypes) (s : Store) (t : Typed rank E s) where
  -- a place that no type lends follows no pointer from which a mutable reference was made
  pub none_lent : (k : Key) → Unlent E k → (only : Bool) (d : ℕ) (b : Key) (n : ℕ) (p : Exact) (h : Location) (q : Key) → Resolves E only k d b n p → walk s d (at_key k) ≡ Some h → IsMadeFrom E s q h → ⊥
  none_lent k free only d b n p h q r w made =
      let u = made.place in
      let f = ref_at rank E s t q true u made.refers in
      let less : u.depth ≡ 1 + made.stars = omega (arith, made.last) in
      let c = shorter E true u.key 1 u.depth made.stars f.base f.boxes f.type less f.res in
      let there : below_key s c.base c.boxes ≡ Some h = sym (sound rank E s t true u.key made.stars c.base c.boxes c.type c.res) ∙ made.leads in
      let here_it : below_key s b n ≡ Some h = sym (sound rank E s t only k d b n p r) ∙ w in
      let same = unique s t.owner c.base b c.boxes n h there here_it in
      let over = over_res E t.once k free u.key made.stars c.base c.boxes c.type c.res (over_start E t.once k free q u made.stars made.refers made.last) in
      let reach : Reach E k d c.base c.boxes = subst (λ z. Reach E k d z c.boxes) (sym same.0) (subst (λ z. Reach E k d b z) (sym same.1) (res_reach E only k d k d b n p stop r)) in
      let lt = over d c.boxes reach in
      omega (arith, lt)
