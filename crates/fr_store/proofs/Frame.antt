-- What stays of a store in which something changed.
use Rattle.std.proofs.Common.{◌≡◌, ◌≢◌, ℕ, zero, suc, Bool, Option, Some, None, refl, sym, ap, ◌∙◌}
use Rattle.fr_store.specs.Tidy.{OneOwner}
use Rattle.fr_store.specs.Keys.{Key}
use Rattle.fr_store.specs.Store.{Location, at_key, Val, Store, value_at, Place, below_location, below_key, add}
use Rattle.fr_store.specs.Typed.{Tree, Exact, owns, refers, KeyTypes, tree_under, some_owns, exact_under, Resolves, here, through, RefFits, Fits, Stands}
use Rattle.fr_store.proofs.Chains.{unique, from_same}

-- what stands under a tree is a tree
pub part_owns : (n : ℕ) (t : Tree) (p : Exact) → exact_under n (owns t) ≡ Some p → (x : Tree) × (tree_under n t ≡ Some x) × (p ≡ owns x)
part_owns n t p e = by (tree_under n t) e
  where
    by : (o : Option Tree) → some_owns o ≡ Some p → (x : Tree) × (o ≡ Some x) × (p ≡ owns x)
    by None e = absurd cc
    by (Some x) e = let f : owns x ≡ p = cc in (x, refl, sym f)

-- locations of different keys, and of different depths, differ
pub apart : (s : Store) → OneOwner s → (k h : Key) (n i : ℕ) (m l : Location) → k ≢ h → below_key s k n ≡ Some m → below_key s h i ≡ Some l → m ≢ l
apart s w k h n i m l ne e f = λ (same : m ≡ l). ne (unique s w k h n i l (e ∙ ap Some same) f).0

-- different depths of one chain are different locations
pub levels : (s : Store) → OneOwner s → (h : Key) (n i : ℕ) (m l : Location) → n ≢ i → below_key s h n ≡ Some m → below_key s h i ≡ Some l → m ≢ l
levels s w h n i m l ne e f = λ (same : m ≡ l). ne (unique s w h h n i l (e ∙ ap Some same) f).1

-- a tree that stands elsewhere now
pub stands_move : (E E2 : KeyTypes) (s s2 : Store) (l l2 : Location) (n n2 : ℕ) (x : Tree) (m2 : Location) → (st : Stands E s l n (owns x)) → below_location s2 l2 n2 ≡ Some m2 → value_at s2 m2 ≡ value_at s st.spot → Stands E2 s2 l2 n2 (owns x)
stands_move E E2 s s2 l l2 n n2 x m2 st e v = record { spot = m2; value = st.value; leads = e; there = v ∙ st.there; fits = st.fits }

-- the references of the keys in P are kept, and what they lead to
pub record Frame (P : Key → Type 0) (E E2 : KeyTypes) (s s2 : Store) : Type 0 where
  pub refs : (k : Key) (m : Bool) (u : Place) → P k → E k ≡ refers m u → (E2 k ≡ refers m u) × P u.key
  pub roots : (j : Key) (m : Bool) (u : Place) (b : Key) (n : ℕ) (p : Exact) → P j → E j ≡ refers m u → P b → Resolves E m u.key u.depth b n p → (exact_under n (E2 b) ≡ Some p) × (below_key s2 b n ≡ below_key s b n)

module _ (P : Key → Type 0) (E E2 : KeyTypes) (s s2 : Store) where
  -- a place of a key in P resolves to a key in P
  pub res_in : ((k : Key) (m : Bool) (u : Place) → P k → E k ≡ refers m u → (E2 k ≡ refers m u) × P u.key) → (only : Bool) (k : Key) (d : ℕ) (b : Key) (n : ℕ) (p : Exact) → Resolves E only k d b n p → P k → P b
  res_in refs only k d b n p (here e) q = q
  res_in refs only k d b n p (through m u e is o de r) q = res_in refs only u.key (add u.depth e) b n p r (refs k m u q is).1

  -- and resolves so after the change
  pub res_kept : ((k : Key) (m : Bool) (u : Place) → P k → E k ≡ refers m u → (E2 k ≡ refers m u) × P u.key) → (only : Bool) (k : Key) (d : ℕ) (b : Key) (n : ℕ) (p : Exact) → Resolves E only k d b n p → P k → exact_under n (E2 b) ≡ Some p → Resolves E2 only k d b n p
  res_kept refs only k d b n p (here e) q g = here g
  res_kept refs only k d b n p (through m u e is o de r) q g = let x = refs k m u q is in through m u e x.0 o de (res_kept refs only u.key (add u.depth e) b n p r x.1 g)

  -- a reference to such a place still fits
  pub fits_kept : ((k : Key) (m : Bool) (u : Place) → P k → E k ≡ refers m u → (E2 k ≡ refers m u) × P u.key) → (m : Bool) (u : Place) (v : Val) → (r : RefFits E s m u v) → P u.key
      → (exact_under r.boxes (E2 r.base) ≡ Some r.type) × (below_key s2 r.base r.boxes ≡ below_key s r.base r.boxes) → RefFits E2 s2 m u v
  fits_kept refs m u v r q g = record {
    base = r.base;
    boxes = r.boxes;
    type = r.type;
    res = res_kept refs m u.key u.depth r.base r.boxes r.type r.res q g.0;
    whole = r.whole;
    target = r.target;
    is = r.is;
    leads = g.1 ∙ r.leads;
  }

  -- a key of P whose values are all as they were
  pub stands_kept : (f : Frame P E E2 s s2) → (k : Key) → P k → E2 k ≡ E k → ((i : ℕ) (m : Location) → below_location s (at_key k) i ≡ Some m → value_at s2 m ≡ value_at s m)
      → ((n : ℕ) (p : Exact) → exact_under n (E k) ≡ Some p → Stands E s (at_key k) n p) → (n : ℕ) (p : Exact) → exact_under n (E2 k) ≡ Some p → Stands E2 s2 (at_key k) n p
  stands_kept f k q te same st n p e =
      let x = st n p (ap (exact_under n) (sym te) ∙ e) in
      record {
        spot = x.spot;
        value = x.value;
        leads = from_same s s2 (at_key k) n (λ i m _ g. same i m g) ∙ x.leads;
        there = same n x.spot x.leads ∙ x.there;
        fits = by p (ap (exact_under n) (sym te) ∙ e) x.value x.fits;
      }
    where
      by_ref : (m : Bool) (u : Place) (y : Exact) → E k ≡ y → exact_under n y ≡ Some (refers m u) → (v : Val) → RefFits E s m u v → RefFits E2 s2 m u v
      by_ref m u (owns t) is g v r = let z = part_owns n t (refers m u) g in absurd cc
      by_ref m u (refers m2 u2) is g v r = by_zero n g
        where
          by_zero : (n : ℕ) → exact_under n (refers m2 u2) ≡ Some (refers m u) → RefFits E2 s2 m u v
          by_zero zero g =
              let h : refers m2 u2 ≡ refers m u = cc in
              let is2 = is ∙ h in
              let z = f.refs k m u q is2 in
              fits_kept f.refs m u v r z.1 (f.roots k m u r.base r.boxes r.type q is2 (res_in f.refs m u.key u.depth r.base r.boxes r.type r.res z.1) r.res)
          by_zero (suc i) g = absurd cc

      by : (p : Exact) → exact_under n (E k) ≡ Some p → (v : Val) → Fits E s p v → Fits E2 s2 p v
      by (owns t) g v r = r
      by (refers m u) g v r = by_ref m u (E k) refl g v r
