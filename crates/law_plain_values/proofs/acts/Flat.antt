-- A value that owns no object comes to a key that no type names.
use Rattle.std.proofs.Common.{◌≡◌, ◌≢◌, ⊎_elim, ◌∙◌, ℕ, zero, suc, Bool, true, Some, None, refl, sym, ap, subst}
use Rattle.fr_base.specs.declared.name.ObjNo.{ObjNo}
use Rattle.fr_store.specs.Keys.{Key}
use Rattle.fr_store.specs.Store.{Location, at_key, Val, box_v, Store, value_at, Place, below_key}
use Rattle.fr_store.specs.Changes.{SameBut, TypesBut}
use Rattle.fr_store.specs.Typed.{Tree, Exact, owns, refers, KeyTypes, tree_under, exact_under, TopFits, Fits, Stands, Typed, Unnamed}
use Rattle.fr_store.proofs.Keys.{decide_key}
use Rattle.fr_store.proofs.Chains.{decide_location, from_same}
use Rattle.fr_store.proofs.Frame.{part_owns}
use Rattle.fr_store.proofs.Changes.{set_fits}
use Rattle.law_plain_values.proofs.acts.Lower.{below_object}

module _ (rank : Key → ℕ) (E E2 : KeyTypes) (s s2 : Store) (a : Key) (t : Tree) (y : Typed rank E s) (free : Unnamed E a) (types : TypesBut a E E2) (same : SameBut (at_key a) s s2) (is : E2 a ≡ owns t) (fits : TopFits t (s2.at a)) (flat : (i : ℕ) → tree_under (suc i) t ≡ None) (plain : (o : ObjNo) → s2.at a ≡ box_v o → ⊥) where
  -- what refers then referred before
  old : (j : Key) (m : Bool) (u : Place) → E2 j ≡ refers m u → E j ≡ refers m u
  old j m u e = ⊎_elim (λ (q : j ≡ a). let f : owns t ≡ refers m u = sym is ∙ ap E2 (sym q) ∙ e in absurd cc) (λ (ne : j ≢ a). sym (types j ne) ∙ e) (decide_key j a)

  at_key_a : (n : ℕ) (p : Exact) → exact_under n (owns t) ≡ Some p → Stands E2 s2 (at_key a) n p
  at_key_a zero p e = let g : owns t ≡ p = cc in subst (Stands E2 s2 (at_key a) zero) g (record { spot = at_key a; value = s2.at a; leads = refl; there = refl; fits = fits })
  at_key_a (suc n) p e = let x = part_owns (suc n) t p e in let g : Some x.0 ≡ None = sym x.1 ∙ flat n in absurd cc

  -- a chain of another key doesn't pass it
  off : (k : Key) → k ≢ a → (n : ℕ) (m : Location) → below_key s k n ≡ Some m → m ≢ at_key a
  off k ne n m e q = ne (below_object s k a n (e ∙ ap Some q))

  fits_two : (p : Exact) (v : Val) → ((m : Bool) (u : Place) → p ≡ refers m u → u.key ≢ a) → Fits E s p v → Fits E2 s2 p v
  fits_two (owns x) v names f = f
  fits_two (refers m u) v names f = set_fits rank E E2 s s2 a y free types same m u v f (names m u refl)

  -- so is the store typed
  pub flat_typed : Typed rank E2 s2
  flat_typed = record {
    stands = λ k n p e. ⊎_elim (λ (q : k ≡ a). subst (λ j. Stands E2 s2 (at_key j) n p) (sym q) (at_key_a n p (ap (exact_under n) (sym is ∙ ap E2 (sym q)) ∙ e))) (λ (ne : k ≢ a). stands k ne n p (ap (exact_under n) (sym (types k ne)) ∙ e)) (decide_key k a);
    below = λ k m u e. y.below k m u (old k m u e);
    once = λ i j m u v e f g. y.once i j m u v (old i true u e) (old j m v f) g;
    owner = λ b c o e f. y.owner b c o (box_old b o e) (box_old c o f);
  }
    where
      stands : (k : Key) → k ≢ a → (n : ℕ) (p : Exact) → exact_under n (E k) ≡ Some p → Stands E2 s2 (at_key k) n p
      stands k ne n p e =
          let z = y.stands k n p e in
          record {
            spot = z.spot;
            value = z.value;
            leads = from_same s s2 (at_key k) n (λ i m lt f. same m (off k ne i m f)) ∙ z.leads;
            there = same z.spot (off k ne n z.spot z.leads) ∙ z.there;
            fits = fits_two p z.value (names n (E k) p refl e) z.fits;
          }
        where
          names : (n : ℕ) (q p : Exact) → E k ≡ q → exact_under n q ≡ Some p → (m : Bool) (u : Place) → p ≡ refers m u → u.key ≢ a
          names n (owns x) p h f m u g = let d = part_owns n x p f in let c : refers m u ≡ owns d.0 = sym g ∙ d.2 in absurd cc
          names zero (refers m2 u2) p h f m u g = let c : refers m2 u2 ≡ p = cc in free k m u (h ∙ c ∙ g)
          names (suc n) (refers m2 u2) p h f m u g = absurd cc

      box_old : (b : Location) (o : ObjNo) → value_at s2 b ≡ Some (box_v o) → value_at s b ≡ Some (box_v o)
      box_old b o e = ⊎_elim (λ (q : b ≡ at_key a). let f : Some (s2.at a) ≡ Some (box_v o) = ap (value_at s2) (sym q) ∙ e in absurd (plain o cc)) (λ (ne : b ≢ at_key a). sym (same b ne) ∙ e) (decide_location b (at_key a))
