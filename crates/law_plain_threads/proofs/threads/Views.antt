-- A reference that par captures as a view leads to an object: its places are in the heap.
use Rattle.std.proofs.Common.{◌≡◌, ◌≢◌, ◌⊎◌, inl, inr, ◌∙◌, ℕ, zero, suc, ◌<◌, Bool, true, false, List, [], ◌∷◌, length, Some, None, refl, sym, ap, subst, arith}
use Rattle.std.specs.Prelude.{if◌then◌else◌}
use Rattle.std.specs.List.{list_all}
use Rattle.fr_base.specs.declared.place.Lval.{Lval}
use Rattle.fr_typing.specs.Kinds.{Owned, unit, int, box, mutex, task, Kind, own, shared, mutable, view, Piece, whole, gone, boxed, map_some}
use Rattle.fr_typing.specs.Places.{Env, Found, found, undefined, no_target, type_at, IsNested, leads_to_heap, leads_by_star, is_heap_place, whole_owned, join_set, alike, star, then_found}
use Rattle.fr_typing.specs.Captures.{by_par, captured_kind}
use Rattle.fr_typing.proofs.PlaceLemmas.{eq_cases, type_at-star}
use Rattle.fr_store.specs.Keys.{Key}
use Rattle.fr_store.specs.Store.{at_key, Store, Place, below_key, add}
use Rattle.fr_store.specs.Typed.{Tree, Exact, owns, refers, KeyTypes, exact_under, Resolves, here, through}
use Rattle.fr_store.specs.Below.{tree_of, OneOf, In, Seen, ExactOf, SlotsBelow}
use Rattle.fr_store.proofs.Chains.{from_suc, add_suc}
use Rattle.fr_store.proofs.Keys.{decide_number}
use Rattle.fr_store.proofs.Sound.{res_part}
use Rattle.fr_store.proofs.Below.{add_zero, MutPlace, Resolved, resolved, slot_exact}
use Rattle.fr_store.proofs.ThreadKept.{exact_owned, ref_base}
use Rattle.law_plain_values.proofs.acts.Focus.{both_true}
use Rattle.law_plain_values.proofs.acts.Lower.{res_below, below_object}

-- PLACES

-- one star on a reference
res_one : (E : KeyTypes) (only : Bool) (k b : Key) (n : ℕ) (m : Bool) (u : Place) (p : Exact) → E k ≡ refers m u → Resolves E only k 1 b n p → Resolves E only u.key u.depth b n p
res_one E only k _ _ m u p is (here g) = let z : exact_under 1 (refers m u) ≡ Some p = ap (exact_under 1) (sym is) ∙ g in absurd cc
res_one E only k b n m u p is (through m3 u3 e is3 ok de r) =
    let none : e ≡ zero = cc in
    let g : refers m3 u3 ≡ refers m u = sym is3 ∙ is in
    let same : u3 ≡ u = cc in
    subst (λ z. Resolves E only u.key z b n p) (add_zero u.depth) (subst (λ z. Resolves E only u.key (add u.depth z) b n p) none (subst (λ (z : Place). Resolves E only z.key (add z.depth e) b n p) same r))

-- what a place leads to by a reference, more stars lead to
res_after : (E : KeyTypes) (o1 o2 : Bool) (k b0 b : Key) (d n0 n : ℕ) (m : Bool) (u : Place) (p : Exact) → Resolves E o1 k d b0 n0 (refers m u) → Resolves E o2 k (suc d) b n p → Resolves E o2 u.key u.depth b n p
res_after E o1 o2 k _ b d _ n m u p (here f) r = by d (ap (exact_under d) (sym is) ∙ f) r
  where
    is : E k ≡ refers m u
    is = ref_base d (E k) m u f

    by : (d : ℕ) → exact_under d (refers m u) ≡ Some (refers m u) → Resolves E o2 k (suc d) b n p → Resolves E o2 u.key u.depth b n p
    by zero f r = res_one E o2 k b n m u p is r
    by (suc d) f r = cc
res_after E o1 o2 k b0 b d n0 n m u p (through m1 u1 e1 is1 ok1 de1 r1) (here g) =
    let z : exact_under (suc d) (refers m1 u1) ≡ Some p = ap (exact_under (suc d)) (sym is1) ∙ g in absurd cc
res_after E o1 o2 k b0 b d n0 n m u p (through m1 u1 e1 is1 ok1 de1 r1) (through m2 u2 e2 is2 ok2 de2 r2) =
    let g : refers m2 u2 ≡ refers m1 u1 = sym is2 ∙ is1 in
    let same : u2 ≡ u1 = cc in
    let h : suc (suc e1) ≡ suc e2 = ap suc (sym de1) ∙ de2 in
    let next : e2 ≡ suc e1 = cc in
    res_after E o1 o2 u1.key b0 b (add u1.depth e1) n0 n m u p r1
    (subst (λ z. Resolves E o2 u1.key z b n p) (add_suc u1.depth e1) (subst (λ z. Resolves E o2 u1.key (add u1.depth z) b n p) next (subst (λ (z : Place). Resolves E o2 z.key (add z.depth e2) b n p) same r2)))

-- HEAP PLACES

module _ (key : ℕ → Key) (E : KeyTypes) (mut : (k : Key) (u : Place) → E k ≡ refers true u → MutPlace E u) (Up : Key → Type 0) (up : (k : Key) (m : Bool) (u : Place) → Up k → E k ≡ refers m u → Up u.key) (away : (k : Key) (x : ℕ) → Up k → k ≢ key x)
    (near : (i : ℕ) (m : Bool) (u : Place) → E (key i) ≡ refers m u → ((x : ℕ) × (u.key ≡ key x)) ⊎ Up u.key) where
  -- no slot of the thread
  abbrev pub Off : Key → ℕ → Type 0
  Off b n = (n ≢ 0) ⊎ ((x : ℕ) → b ≢ key x)

  -- a key of the thread or one above it
  abbrev Reached : Key → Type 0
  Reached k = ((x : ℕ) × (k ≡ key x)) ⊎ Up k

  reach_one : (k : Key) (m : Bool) (u : Place) → Reached k → E k ≡ refers m u → Reached u.key
  reach_one k m u (inl q) is = near q.0 m u (ap E (sym q.1) ∙ is)
  reach_one k m u (inr q) is = inr (up k m u q is)

  reach : (only : Bool) (k : Key) (d : ℕ) (b : Key) (n : ℕ) (p : Exact) → Reached k → Resolves E only k d b n p → Reached b
  reach only k d b n p q (here e) = q
  reach only k d b n p q (through m u e is o de r) = reach only u.key (add u.depth e) b n p (reach_one k m u q is) r

  up_all : (only : Bool) (k : Key) (d : ℕ) (b : Key) (n : ℕ) (p : Exact) → Up k → Resolves E only k d b n p → Up b
  up_all only k d b n p q (here e) = q
  up_all only k d b n p q (through m u e is o de r) = up_all only u.key (add u.depth e) b n p (up k m u q is) r

  -- what a view refers to is above the thread
  up_view : (k : Key) (m : Bool) (u : Place) → Reached k → E k ≡ refers m u → ((x : ℕ) → u.key ≢ key x) → Up u.key
  up_view k m u q is far = by (reach_one k m u q is)
    where
      by : Reached u.key → Up u.key
      by (inl z) = absurd (far z.0 z.1)
      by (inr z) = z

  in_all : (f : Lval → Bool) (us : List Lval) (w : Lval) → list_all f us ≡ true → In w us → f w ≡ true
  in_all f [] w h i = absurd i
  in_all f (u ∷ us) w h (inl e) = ap f e ∙ (both_true (f u) (list_all f us) h).0
  in_all f (u ∷ us) w h (inr i) = in_all f us w (both_true (f u) (list_all f us) h).1 i

  -- a star more on what leads to the heap
  star_leads : (look : Lval → Bool) → ((w : Lval) → look w ≡ true → (only : Bool) (b : Key) (n : ℕ) (p : Exact) → Resolves E only (key w.slot) w.depth b n p → Off b n)
      → (q : Piece) → leads_to_heap look (found q) ≡ true → (x d : ℕ) (r : Resolved key E false (record { slot = x; depth = d }) q) → (only : Bool) (b : Key) (n : ℕ) (p : Exact) → Resolves E only (key x) (suc d) b n p → Off b n
  star_leads look ih q leads x d r only b n p s = by q leads r.type r.res r.exact
    where
      boxes : (t : Tree) → Resolves E false (key x) d r.base r.boxes (owns t) → Off b n
      boxes t g =
          let one : add d 1 ≡ suc d = add_suc d 0 ∙ ap suc (add_zero d) in
          let z = res_below E false only (key x) r.base b d r.boxes n 1 t p g (subst (λ v. Resolves E only (key x) v b n p) (sym one) s) in
          inl (λ f. let h : add r.boxes 1 ≡ suc r.boxes = add_suc r.boxes 0 ∙ ap suc (add_zero r.boxes) in let k : 0 ≡ suc r.boxes = sym f ∙ z.1 ∙ h in cc)

      set : (m : Bool) (u : Place) (us : List Lval) → Resolves E false (key x) d r.base r.boxes (refers m u) → list_all look us ≡ true → OneOf key us u → Off b n
      set m u us g all o =
          let t = res_after E false only (key x) r.base b d r.boxes n m u p g s in
          ih o.place (in_all look us o.place all o.among) only b n p (subst (λ (z : Place). Resolves E only z.key z.depth b n p) o.is t)

      by : (q : Piece) → leads_to_heap look (found q) ≡ true → (t : Exact) → Resolves E false (key x) d r.base r.boxes t → ExactOf key E q t → Off b n
      by (boxed q) l (owns t) g f = boxes t g
      by (boxed q) l (refers m u) g f = absurd f
      by (whole (own (box o))) l (owns t) g f = boxes t g
      by (whole (own (box o))) l (refers m u) g f = absurd f
      by (whole (own unit)) l t g f = cc
      by (whole (own int)) l t g f = cc
      by (whole (own (mutex o))) l t g f = cc
      by (whole (own (task o))) l t g f = cc
      by (whole (view o)) l (owns t) g f = absurd f
      by (whole (view o)) l (refers m u) g f =
          let c : Seen key E o u = f.1 in
          let is : E r.base ≡ refers m u = ref_base r.boxes (E r.base) m u (res_part E false (key x) d r.base r.boxes (refers m u) g) in
          let z = up_view r.base m u (reach false (key x) d r.base r.boxes (refers m u) (inl (x, refl)) g) is c.foreign in
          inr (λ i. away b i (up_all only u.key u.depth b n p z (res_after E false only (key x) r.base b d r.boxes n m u p g s)))
      by (whole (shared us)) l (owns t) g f = absurd f
      by (whole (shared us)) l (refers m u) g f = set m u us g l f.1
      by (whole (mutable us)) l (owns t) g f = absurd f
      by (whole (mutable us)) l (refers m u) g f = set m u us g l f.1
      by (gone k) l t g f = cc

  abbrev Leads : Env → Type 0
  Leads e = (w : Lval) → is_heap_place e w ≡ true → (only : Bool) (b : Key) (n : ℕ) (p : Exact) → Resolves E only (key w.slot) w.depth b n p → Off b n

  -- a place in the heap leads to no slot of the thread
  heap_leads : (e : Env) → IsNested e → SlotsBelow key E e → (w : Lval) → is_heap_place e w ≡ true → (only : Bool) (b : Key) (n : ℕ) (p : Exact) → Resolves E only (key w.slot) w.depth b n p → Off b n
  heap_leads [] nested fits w h only b n p r = cc
  heap_leads (s ∷ below) nested fits w h only b n p r = by (λ v g only2 b2 n2 p2 r2. heap_leads below nested.1 fits.1 v g only2 b2 n2 p2 r2) (decide_number w.slot (length below)) w.depth refl
    where
      here_is : w.slot ≡ length below → is_heap_place (s ∷ below) w ≡ leads_by_star (is_heap_place below) (s ∷ below) w.slot w.depth
      here_is e = eq_cases (λ c. (if c then leads_by_star (is_heap_place below) (s ∷ below) w.slot w.depth else is_heap_place below w) ≡ leads_by_star (is_heap_place below) (s ∷ below) w.slot w.depth) w.slot (length below) (λ z. refl) (λ ne. absurd (ne e))

      below_is : w.slot ≢ length below → is_heap_place (s ∷ below) w ≡ is_heap_place below w
      below_is ne = eq_cases (λ c. (if c then leads_by_star (is_heap_place below) (s ∷ below) w.slot w.depth else is_heap_place below w) ≡ is_heap_place below w) w.slot (length below) (λ z. absurd (ne z)) (λ z. refl)

      at_star : Leads below → (d : ℕ) → w.slot ≡ length below → w.depth ≡ suc d → (f : Found) → type_at (s ∷ below) (record { slot = w.slot; depth = d }) ≡ f → leads_to_heap (is_heap_place below) f ≡ true → Off b n
      at_star ih d e is (found q) t l =
          star_leads (is_heap_place below) ih q l w.slot d (resolved key E mut (s ∷ below) nested fits (record { slot = w.slot; depth = d }) q (omega (arith, e)) t) only b n p
          (subst (λ z. Resolves E only (key w.slot) z b n p) is r)
      at_star ih d e is undefined t l = cc
      at_star ih d e is no_target t l = cc

      by : Leads below → (w.slot ≡ length below) ⊎ (w.slot ≢ length below) → (d : ℕ) → w.depth ≡ d → Off b n
      by ih (inl e) zero is = let f : false ≡ true = sym (ap (leads_by_star (is_heap_place below) (s ∷ below) w.slot) is) ∙ sym (here_is e) ∙ h in cc
      by ih (inl e) (suc d) is = at_star ih d e is (type_at (s ∷ below) (record { slot = w.slot; depth = d })) refl (sym (ap (leads_by_star (is_heap_place below) (s ∷ below) w.slot) is) ∙ sym (here_is e) ∙ h)
      by ih (inr ne) d is = ih w (sym (below_is ne) ∙ h) only b n p r

  -- WHAT PAR MAKES A VIEW OF

  -- a captured reference, and what it leads to
  pub record Viewed (i : ℕ) (o : Owned) : Type 0 where
    pub place : Place
    pub is : E (key i) ≡ refers false place
    pub base : Key
    pub boxes : ℕ
    pub res : Resolves E false place.key place.depth base boxes (owns (tree_of o))
    pub off : Off base boxes

  module _ (e : Env) (nested : IsNested e) (fits : SlotsBelow key E e) (i : ℕ) (lt : i < length e) where
    star_is : (k : Kind) → type_at e (record { slot = i; depth = 0 }) ≡ found (whole k) → type_at e (record { slot = i; depth = 1 }) ≡ star (alike e) (type_at e) (whole k)
    star_is k t = type_at-star e i 0 nested lt ∙ ap (λ f. then_found f (star (alike e) (type_at e))) t

    -- one star further stands an owned value of that type
    further : (k : Kind) (o : Owned) → type_at e (record { slot = i; depth = 0 }) ≡ found (whole k) → star (alike e) (type_at e) (whole k) ≡ found (whole (own o)) → (b : Key) × (n : ℕ) × Resolves E false (key i) 1 b n (owns (tree_of o))
    further k o t f =
        let r = resolved key E mut e nested fits (record { slot = i; depth = 1 }) (whole (own o)) lt (star_is k t ∙ f) in
        (r.base, r.boxes, subst (λ z. Resolves E false (key i) 1 r.base r.boxes z) (exact_owned key E o r.type r.exact) r.res)

    pub viewed : (k : Kind) (o : Owned) → type_at e (record { slot = i; depth = 0 }) ≡ found (whole k) → captured_kind by_par e k ≡ Some (view o) → Viewed i o
    viewed (own q) o t c = let f : own q ≡ view o = cc in cc
    viewed (mutable us) o t c = cc
    viewed (view q) o t c = by (slot_exact key E mut e i (whole (view q)) fits t) (E (key i)) refl
      where
        same : q ≡ o
        same = let f : view q ≡ view o = cc in cc

        by : ExactOf key E (whole (view q)) (E (key i)) → (z : Exact) → E (key i) ≡ z → Viewed i o
        by f (owns x) is = absurd (subst (ExactOf key E (whole (view q))) is f)
        by f (refers m u) is =
            let g : (m ≡ false) × Seen key E q u = subst (ExactOf key E (whole (view q))) is f in
            let c : Seen key E q u = g.1 in
            let z = up_view (key i) m u (inl (i, refl)) is c.foreign in
            record {
              place = u;
              is = is ∙ ap (λ b. refers b u) g.0;
              base = c.base;
              boxes = c.boxes;
              res = subst (λ b. Resolves E false u.key u.depth c.base c.boxes (owns (tree_of b))) same c.res;
              off = inr (λ x. away c.base x (up_all false u.key u.depth c.base c.boxes (owns (tree_of q)) z c.res));
            }
    viewed (shared us) o t c = by (slot_exact key E mut e i (whole (shared us)) fits t) (E (key i)) refl
      where
        heap : (b : Bool) (f : Found) → map_some view (if b then whole_owned f else None) ≡ Some (view o) → (b ≡ true) × (f ≡ found (whole (own o)))
        heap false f h = cc
        heap true (found (whole (own q))) h = let g : view q ≡ view o = cc in let k : q ≡ o = cc in (refl, ap (λ z. found (whole (own z))) k)
        heap true (found (whole (shared vs))) h = cc
        heap true (found (whole (mutable vs))) h = cc
        heap true (found (whole (view q))) h = cc
        heap true (found (gone q)) h = cc
        heap true (found (boxed q)) h = cc
        heap true undefined h = cc
        heap true no_target h = cc

        both : (list_all (is_heap_place e) us ≡ true) × (join_set (alike e) (type_at e) us ≡ found (whole (own o)))
        both = heap (list_all (is_heap_place e) us) (join_set (alike e) (type_at e) us) c

        by : ExactOf key E (whole (shared us)) (E (key i)) → (z : Exact) → E (key i) ≡ z → Viewed i o
        by f (owns x) is = absurd (subst (ExactOf key E (whole (shared us))) is f)
        by f (refers m u) is =
            let g : (m ≡ false) × OneOf key us u = subst (ExactOf key E (whole (shared us))) is f in
            let w : OneOf key us u = g.1 in
            let r = further (shared us) o t both.1 in
            let res = res_after E false false (key i) (key i) r.0 0 0 r.1 m u (owns (tree_of o)) (here (ap (exact_under 0) is)) r.2 in
            record {
              place = u;
              is = is ∙ ap (λ b. refers b u) g.0;
              base = r.0;
              boxes = r.1;
              res = res;
              off = heap_leads e nested fits w.place (in_all (is_heap_place e) us w.place both.0 w.among) false r.0 r.1 (owns (tree_of o)) (subst (λ (z : Place). Resolves E false z.key z.depth r.0 r.1 (owns (tree_of o))) w.is res);
            }

-- so what it is, where it leads to, is an object
pub off_object : (key : ℕ → Key) (s : Store) (b : Key) (n x : ℕ) → (n ≢ 0) ⊎ ((x : ℕ) → b ≢ key x) → below_key s b n ≡ Some (at_key (key x)) → ⊥
off_object key s b n x (inr f) h = f x (below_object s b (key x) n h)
off_object key s b zero x (inl f) h = f refl
off_object key s b (suc n) x (inl f) h = let g = from_suc s (at_key b) (at_key (key x)) n h in let z = g.4 in cc
