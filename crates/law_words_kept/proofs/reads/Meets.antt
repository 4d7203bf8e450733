-- What a place reads that no mutable reference's type names: no mutable reference was made from a pointer on its way.
use Rattle.std.proofs.Common.{◌≡◌, ℕ, suc, Bool, true, false, refl, sym, ap, subst, ◌∙◌, arith}
use Rattle.law_counts_sums.specs.Below.fr_store.Keys.{Key}
use Rattle.law_counts_sums.specs.Below.fr_store.Store.{Store, Place, add}
use Rattle.law_counts_sums.specs.Below.fr_store.Typed.{Exact, refers, KeyTypes, Resolves, here, through, Typed, Unlent}
use Rattle.law_counts_sums.proofs.Below.fr_store.Chains.{add_plus}

-- from a key under so many stars the mutable references' types lead to another one
pub data LentOn (E : KeyTypes) (k : Key) (d : ℕ) : Key → ℕ → Type 0 where
  stays : {b : Key} {n : ℕ} → k ≡ b → d ≡ n → LentOn E k d b n
  goes : {b : Key} {n : ℕ} (i : Key) (f : ℕ) (u : Place) → LentOn E k d i (suc f) → E i ≡ refers true u → u.key ≡ b → add u.depth f ≡ n → LentOn E k d b n

sooner : (E : KeyTypes) (k : Key) (d e : ℕ) (u : Place) (b : Key) (n : ℕ) → E k ≡ refers true u → d ≡ suc e → LentOn E u.key (add u.depth e) b n → LentOn E k d b n
sooner E k d e u b n is de (stays p q) = goes k e u (stays refl de) is p q
sooner E k d e u b n is de (goes i f v r at p q) = goes i f v (sooner E k d e u i (suc f) is de r) at p q

-- so does a place that resolves over mutable references alone
resolved_on : (E : KeyTypes) (k : Key) (d : ℕ) (b : Key) (n : ℕ) (p : Exact) → Resolves E true k d b n p → LentOn E k d b n
resolved_on E k d _ _ p (here x) = stays refl refl
resolved_on E k d b n p (through m u e is on de r) = sooner E k d e u b n (is ∙ ap (λ z. refers z u) (on refl)) de (resolved_on E u.key (add u.depth e) b n p r)

-- of two ways to one end the first meets the second, or is passed on the way to its start
data Meets (E : KeyTypes) (u : Key) (s : ℕ) (k : Key) (d : ℕ) : Type 0 where
  within : LentOn E u s k d → Meets E u s k d
  beyond : (a : Key) (m : Bool) (v : Place) (e : ℕ) → E a ≡ refers m v → v.key ≡ u → add v.depth e ≡ s → Meets E u s k d

module _ (rank : Key → ℕ) (E : KeyTypes) (s : Store) (t : Typed rank E s) where
  one_star : (u v : Place) (e f : ℕ) → u ≡ v → add v.depth e ≡ add u.depth f → f ≡ e
  one_star u v e f same q = let a = add_plus v.depth e in let b = add_plus u.depth f in let deep : u.depth ≡ v.depth = ap (λ (z : Place). z.depth) same in omega (arith, a, b, deep, q)

  back : (u : Key) (z : ℕ) (k : Key) (d : ℕ) (m : Bool) (v : Place) (e : ℕ) → E k ≡ refers m v → d ≡ suc e → Meets E u z v.key (add v.depth e) → Meets E u z k d
  back u z k d m v e is de (beyond a o w f x y q) = beyond a o w f x y q
  back u z k d m v e is de (within (stays p q)) = beyond k m v e is (sym p) (sym q)
  back u z k d m v e is de (within (goes i f w r at p q)) =
      let one : k ≡ i = t.once i k m w v at is (sym p) in
      let same : refers true w ≡ refers m v = sym at ∙ ap E (sym one) ∙ is in
      let place : w ≡ v = cc in
      let stars : f ≡ e = one_star w v e f place (sym q) in
      let number : suc f ≡ d = ap suc stars ∙ sym de in
      within (subst (λ x. LentOn E u z k x) number (subst (λ x. LentOn E u z x (suc f)) (sym one) r))

  meets : (o : Bool) (k : Key) (d : ℕ) (b : Key) (n : ℕ) (p : Exact) → Resolves E o k d b n p → (u : Key) (z : ℕ) → LentOn E u z b n → Meets E u z k d
  meets o k d _ _ p (here x) u z r = within r
  meets o k d b n p (through m v e is on de q) u z r = back u z k d m v e is de (meets o v.key (add v.depth e) b n p q u z r)

  -- a mutable reference whose place, with one star less, leads where a place leads whose key no mutable reference names: there is none
  pub none_lent : (o : Bool) (k : Key) (d : ℕ) (b : Key) (n : ℕ) (p q : Exact) (j : Key) (u : Place) (stars : ℕ) → Unlent E k → Resolves E o k d b n p → E j ≡ refers true u → u.depth ≡ suc stars → Resolves E true u.key stars b n q → ⊥
  none_lent o k d b n p q j u stars free r is deep r2 = by (meets o k d b n p r u.key stars (resolved_on E u.key stars b n q r2))
    where
      by : Meets E u.key stars k d → ⊥
      by (within (stays x y)) = free j u is x
      by (within (goes i f w z at x y)) = free i w at x
      by (beyond a m v e at x y) =
          let one : a ≡ j = t.once j a m u v is at x in
          let same : refers true u ≡ refers m v = sym is ∙ ap E (sym one) ∙ at in
          let place : u ≡ v = cc in
          let deeper : u.depth ≡ v.depth = ap (λ (z : Place). z.depth) place in
          let sum = add_plus v.depth e in
          omega (arith, deep, deeper, sum, y)

-- what is kept along a resolution
pub kept_along : (P : Key → Type 0) (E : KeyTypes) → ((a : Key) (m : Bool) (u : Place) → P a → E a ≡ refers m u → P u.key) → (o : Bool) (k : Key) (d : ℕ) (b : Key) (n : ℕ) (p : Exact) → Resolves E o k d b n p → P k → P b
kept_along P E on o k d _ _ p (here x) h = h
kept_along P E on o k d b n p (through m u e is w de r) h = kept_along P E on o u.key (add u.depth e) b n p r (on k m u h is)

-- a place that resolves over mutable references resolves
pub any_way : (E : KeyTypes) (k : Key) (d : ℕ) (b : Key) (n : ℕ) (p : Exact) → Resolves E true k d b n p → Resolves E false k d b n p
any_way E k d _ _ p (here x) = here x
any_way E k d b n p (through m u e is w de r) = through m u e is (λ q. absurd (cc q)) de (any_way E u.key (add u.depth e) b n p r)
