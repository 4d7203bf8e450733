-- Chains of boxes: an object lies in one chain, at one depth.
use Rattle.fr_store.specs.Tidy.{OneOwner}
use Rattle.fr_store.proofs.Keys.{decide_key, decide_object}
use Rattle.fr_base.specs.declared.name.ObjNo.{ObjNo}
use Rattle.std.proofs.Common.{◌≡◌, ◌≢◌, ◌⊎◌, inl, inr, ⊎_elim, ℕ, zero, suc, ◌+◌, ◌<◌, Option, Some, None, refl, sym, ap, ◌∙◌, arith}
use Rattle.fr_store.specs.Keys.{Key}
use Rattle.fr_store.specs.Store.{Location, at_key, at_object, Val, gone_v, unit_v, int_v, box_v, mutex_v, task_v, ref_v, Store, value_at, then_location, box_target, box_hop, below_location, below_key, add}
use Rattle.fr_store.specs.Typed.{Tree, hole, unit_tree, int_tree, mutex_tree, task_tree, box_tree, Exact, owns, refers, tree_under, some_owns, exact_under}

-- two locations are the same or differ
pub decide_location : (a b : Location) → (a ≡ b) ⊎ (a ≢ b)
decide_location (at_key a) (at_key b) = ⊎_elim (λ (h : a ≡ b). inl (ap at_key h)) (λ (h : a ≢ b). inr (λ (e : at_key a ≡ at_key b). h cc)) (decide_key a b)
decide_location (at_object a) (at_object b) = ⊎_elim (λ (h : a ≡ b). inl (ap at_object h)) (λ (h : a ≢ b). inr (λ (e : at_object a ≡ at_object b). h cc)) (decide_object a b)
decide_location (at_key a) (at_object b) = inr (λ (e : at_key a ≡ at_object b). cc)
decide_location (at_object a) (at_key b) = inr (λ (e : at_object a ≡ at_key b). cc)

-- what came before a step
pub then_some : (x : Option Location) (f : Location → Option Location) (l : Location) → then_location x f ≡ Some l → (m : Location) × (x ≡ Some m) × (f m ≡ Some l)
then_some None f l e = absurd cc
then_some (Some m) f l e = (m, refl, e)

-- only a box leads to an object over boxes alone
pub inside_some : (v : Option Val) (l : Location) → box_target v ≡ Some l → (o : ObjNo) × (v ≡ Some (box_v o)) × (l ≡ at_object o)
inside_some None l e = absurd cc
inside_some (Some (box_v o)) l e = let f : at_object o ≡ l = cc in (o, refl, sym f)
inside_some (Some gone_v) l e = absurd cc
inside_some (Some unit_v) l e = absurd cc
inside_some (Some (int_v n)) l e = absurd cc
inside_some (Some (mutex_v n r)) l e = absurd cc
inside_some (Some (task_v n g)) l e = absurd cc
inside_some (Some (ref_v n)) l e = absurd cc

-- one box more
pub from_suc : (s : Store) (l m : Location) (n : ℕ) → below_location s l (suc n) ≡ Some m → (p : Location) × (o : ObjNo) × (below_location s l n ≡ Some p) × (value_at s p ≡ Some (box_v o)) × (m ≡ at_object o)
from_suc s l m n e =
    let x = then_some (below_location s l n) (box_hop s) m e in
    let y = inside_some (value_at s x.0) m x.2 in
    (x.0, y.0, x.1, y.1, y.2)

-- a box leads one box deeper
pub from_box : (s : Store) (l p : Location) (n : ℕ) (o : ObjNo) → below_location s l n ≡ Some p → value_at s p ≡ Some (box_v o) → below_location s l (suc n) ≡ Some (at_object o)
from_box s l p n o e f = ap (λ x. then_location x (box_hop s)) e ∙ ap box_target f

-- a location lies in one chain, at one depth
pub unique : (s : Store) → OneOwner s → (a b : Key) (n m : ℕ) (l : Location) → below_key s a n ≡ Some l → below_key s b m ≡ Some l → (a ≡ b) × (n ≡ m)
unique s w a b zero zero l e f = let h : at_key a ≡ at_key b = cc in (cc, refl)
unique s w a b zero (suc m) l e f =
    let y = from_suc s (at_key b) l m f in
    let h : at_key a ≡ l = cc in
    let g : at_key a ≡ at_object y.1 = h ∙ y.4 in absurd cc
unique s w a b (suc n) zero l e f =
    let y = from_suc s (at_key a) l n e in
    let h : at_key b ≡ l = cc in
    let g : at_key b ≡ at_object y.1 = h ∙ y.4 in absurd cc
unique s w a b (suc n) (suc m) l e f =
    let x = from_suc s (at_key a) l n e in
    let y = from_suc s (at_key b) l m f in
    let g : at_object x.1 ≡ at_object y.1 = sym x.4 ∙ y.4 in
    let q : x.1 ≡ y.1 = cc in
    let same = w x.0 y.0 y.1 (x.3 ∙ ap (λ o. Some (box_v o)) q) y.3 in
    let r = unique s w a b n m y.0 (x.2 ∙ ap Some same) y.2 in
    (r.0, ap suc r.1)

-- steps from further down
pub from_add : (s : Store) (l m : Location) (n i : ℕ) → below_location s l n ≡ Some m → below_location s l (add i n) ≡ below_location s m i
from_add s l m n zero e = e
from_add s l m n (suc i) e = ap (λ x. then_location x (box_hop s)) (from_add s l m n i e)

-- a chain is where it was if the values on it are
pub from_same : (s s2 : Store) (l : Location) (n : ℕ) → ((i : ℕ) (m : Location) → i < n → below_location s l i ≡ Some m → value_at s2 m ≡ value_at s m) → below_location s2 l n ≡ below_location s l n
from_same s s2 l zero f = refl
from_same s s2 l (suc n) f =
    ap (λ x. then_location x (box_hop s2)) (from_same s s2 l n (λ i m lt e. f i m (omega arith) e))
    ∙ by (below_location s l n) (λ m e. f n m (omega arith) e)
  where
    by : (x : Option Location) → ((m : Location) → x ≡ Some m → value_at s2 m ≡ value_at s m) → then_location x (box_hop s2) ≡ then_location x (box_hop s)
    by None g = refl
    by (Some m) g = ap box_target (g m refl)

-- a chain whose first value stands elsewhere now
pub from_moved : (s s2 : Store) (l l2 : Location) → value_at s2 l2 ≡ value_at s l → (i : ℕ) → ((j : ℕ) (m : Location) → below_location s l (suc j) ≡ Some m → value_at s2 m ≡ value_at s m) → below_location s2 l2 (suc i) ≡ below_location s l (suc i)
from_moved s s2 l l2 top zero f = ap box_target top
from_moved s s2 l l2 top (suc i) f =
    ap (λ x. then_location x (box_hop s2)) (from_moved s s2 l l2 top i f) ∙ by (below_location s l (suc i)) (f i)
  where
    by : (x : Option Location) → ((m : Location) → x ≡ Some m → value_at s2 m ≡ value_at s m) → then_location x (box_hop s2) ≡ then_location x (box_hop s)
    by None g = refl
    by (Some m) g = ap box_target (g m refl)

-- PARTS

-- what stands one box deeper stands in a box
pub part_suc : (n : ℕ) (p q : Exact) → exact_under (suc n) p ≡ Some q → (t : Tree) × (exact_under n p ≡ Some (owns (box_tree t))) × (q ≡ owns t)
part_suc n (refers m u) q e = absurd cc
part_suc n (owns t) q e = by n t e
  where
    by : (n : ℕ) (t : Tree) → some_owns (tree_under (suc n) t) ≡ Some q → (x : Tree) × (some_owns (tree_under n t) ≡ Some (owns (box_tree x))) × (q ≡ owns x)
    by zero (box_tree t) e = let f : owns t ≡ q = cc in (t, refl, sym f)
    by (suc n) (box_tree t) e = by n t e
    by n hole e = absurd cc
    by n unit_tree e = absurd cc
    by n int_tree e = absurd cc
    by n (mutex_tree t) e = absurd cc
    by n (task_tree t) e = absurd cc

-- so many boxes down, and then so many more
pub under_add : (n i : ℕ) (t u : Tree) → tree_under n t ≡ Some u → tree_under (add n i) t ≡ tree_under i u
under_add zero i t u e = let f : t ≡ u = cc in ap (tree_under i) f
under_add (suc n) i (box_tree t) u e = under_add n i t u e
under_add (suc n) i hole u e = absurd cc
under_add (suc n) i unit_tree u e = absurd cc
under_add (suc n) i int_tree u e = absurd cc
under_add (suc n) i (mutex_tree t) u e = absurd cc
under_add (suc n) i (task_tree t) u e = absurd cc

-- a sum in the other order
pub add_comm : (n i : ℕ) → add n i ≡ add i n
add_comm zero zero = refl
add_comm zero (suc i) = ap suc (add_comm zero i)
add_comm (suc n) zero = ap suc (add_comm n zero)
add_comm (suc n) (suc i) = ap suc (add_comm n (suc i) ∙ ap suc (sym (add_comm n i)) ∙ add_comm (suc n) i)

-- it is the sum of numbers
pub add_plus : (n i : ℕ) → add n i ≡ n + i
add_plus zero i = omega arith
add_plus (suc n) i = let h = add_plus n i in omega arith

-- one more on the right
pub add_suc : (n i : ℕ) → add n (suc i) ≡ suc (add n i)
add_suc zero i = refl
add_suc (suc n) i = ap suc (add_suc n i)
