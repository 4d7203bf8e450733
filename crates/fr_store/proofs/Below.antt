-- What the type of a place says is resolved in an exact environment.
use Rattle.std.proofs.Common.{◌≡◌, ◌≢◌, ◌⊎◌, inl, inr, ⊎_elim, ℕ, zero, suc, ◌<◌, ◌≤◌, Bool, true, false, List, [], ◌∷◌, length, Option, Some, None, refl, sym, ap, subst, ◌∙◌, arith}
use Rattle.std.specs.Prelude.{◌==◌, ◌||◌, not, if◌then◌else◌}
use Rattle.fr_base.specs.declared.place.Lval.{Lval}
use Rattle.fr_typing.specs.Kinds.{Owned, unit, int, box, mutex, task, same_owned, Kind, own, shared, mutable, view, Piece, whole, gone, boxed, lval_lt, insert_lval, union, SetTest, join_kind, join_piece, map_some}
use Rattle.fr_typing.specs.Places.{Slot, Found, found, undefined, no_target, then_found, found_or_none, join_found, join_all, join_set, star, type_at, alike, starts_at, blocks_read, blocks_write, read_blocked, write_blocked, on_path, is_lent, is_writable, piece_places, AreBelow, IsNested}
use Rattle.fr_store.specs.Keys.{Key}
use Rattle.fr_store.specs.Store.{Place, add, Store}
use Rattle.fr_store.specs.Typed.{KeyTypes, Tree, hole, unit_tree, int_tree, mutex_tree, task_tree, box_tree, Exact, owns, refers, exact_under, tree_under, some_owns, Resolves, here, through, Typed}
use Rattle.fr_store.specs.Below.{tree_of, In, OneOf, Seen, RefOf, ExactOf, SlotsBelow, Apart}
use Rattle.fr_store.proofs.Sound.{res_part, ref_at}
use Rattle.std.specs.Prelude.{nat_lt, ◌&&◌}
use Rattle.std.proofs.lemmas.Bool.Decides.{leb_tells}
use Rattle.fr_store.proofs.Chains.{add_suc}
use Rattle.fr_store.proofs.Frame.{part_owns}
use Rattle.fr_typing.proofs.PlaceLemmas.{eq_cases, FoundBelow, type_at_below, type_at-star}

-- ONE STAR MORE ON A RESOLVED PLACE

-- a reference has nothing above it in its key: it stands there itself
part_ref : (n : ℕ) (q : Exact) (m : Bool) (u : Place) → exact_under n q ≡ Some (refers m u) → (n ≡ zero) × (q ≡ refers m u)
part_ref n (owns t) m u e = let x = part_owns n t (refers m u) e in absurd cc
part_ref zero (refers m2 u2) m u e = let g : refers m2 u2 ≡ refers m u = cc in (refl, g)
part_ref (suc n) (refers m2 u2) m u e = absurd cc

-- adding nothing
pub add_zero : (n : ℕ) → add n zero ≡ n
add_zero zero = refl
add_zero (suc n) = ap suc (add_zero n)

-- what stands below a box stands one box deeper
part_box : (n : ℕ) (q : Exact) (t : Tree) → exact_under n q ≡ Some (owns (box_tree t)) → exact_under (suc n) q ≡ Some (owns t)
part_box zero (refers m u) t e = absurd cc
part_box (suc n) (refers m u) t e = absurd cc
part_box n (owns x) t e = by n x e
  where
    by : (n : ℕ) (x : Tree) → some_owns (tree_under n x) ≡ Some (owns (box_tree t)) → some_owns (tree_under (suc n) x) ≡ Some (owns t)
    by zero x e = let f : box_tree t ≡ x = cc in subst (λ y. some_owns (tree_under 1 y) ≡ Some (owns t)) f refl
    by (suc n) (box_tree x) e = by n x e
    by (suc n) hole e = absurd cc
    by (suc n) unit_tree e = absurd cc
    by (suc n) int_tree e = absurd cc
    by (suc n) (mutex_tree x) e = absurd cc
    by (suc n) (task_tree x) e = absurd cc

module _ (E : Key → Exact) where
  -- one star more on a box
  pub res_box : (only : Bool) (k : Key) (d : ℕ) (b : Key) (n : ℕ) (p : Exact) (t : Tree) → Resolves E only k d b n p → p ≡ owns (box_tree t) → Resolves E only k (suc d) b (suc n) (owns t)
  res_box only k d b n p t (here e) f = here (part_box n (E k) t (e ∙ ap Some f))
  res_box only k d b n p t (through m u e is o de r) f =
      through m u (suc e) is o (ap suc de) (subst (λ x. Resolves E only u.key x b (suc n) (owns t)) (sym (add_suc u.depth e)) (res_box only u.key (add u.depth e) b n p t r f))

  -- one star more on a reference
  pub res_ref : (only : Bool) (k : Key) (d : ℕ) (b : Key) (n : ℕ) (p : Exact) (m : Bool) (v : Place) (c : Key) (i : ℕ) (q : Exact) → Resolves E only k d b n p → p ≡ refers m v → (only ≡ true → m ≡ true)
      → Resolves E only v.key v.depth c i q → Resolves E only k (suc d) c i q
  res_ref only k d b n p m v c i q (here e) f ok g =
      let x = part_ref d (E k) m v (e ∙ ap Some f) in
      through m v zero x.1 ok (ap suc x.0) (subst (λ y. Resolves E only v.key y c i q) (sym (add_zero v.depth)) g)
  res_ref only k d b n p m v c i q (through m2 u e is o de r) f ok g =
      through m2 u (suc e) is o (ap suc de) (subst (λ x. Resolves E only u.key x c i q) (sym (add_suc u.depth e)) (res_ref only u.key (add u.depth e) b n p m v c i q r f ok g))

  -- a place resolves in one way
  pub res_once : (o1 o2 : Bool) (k : Key) (d : ℕ) (b c : Key) (n i : ℕ) (p q : Exact) → Resolves E o1 k d b n p → Resolves E o2 k d c i q → (b ≡ c) × (n ≡ i) × (p ≡ q)
  res_once o1 o2 k d _ _ _ _ p q (here e) (here f) = let g : Some p ≡ Some q = sym e ∙ f in (refl, refl, cc)
  res_once o1 o2 k d _ c _ i p q (here e) (through m u x is o de r) = let g : exact_under (suc x) (refers m u) ≡ Some p = ap (exact_under (suc x)) (sym is) ∙ ap (λ y. exact_under y (E k)) (sym de) ∙ e in absurd cc
  res_once o1 o2 k d b _ n _ p q (through m u x is o de r) (here e) = let g : exact_under (suc x) (refers m u) ≡ Some q = ap (exact_under (suc x)) (sym is) ∙ ap (λ y. exact_under y (E k)) (sym de) ∙ e in absurd cc
  res_once o1 o2 k d b c n i p q (through m u x is o de r) (through m2 u2 x2 is2 o2b de2 r2) =
      let g : refers m2 u2 ≡ refers m u = sym is2 ∙ is in
      let su : u2 ≡ u = cc in
      let sx : suc x2 ≡ suc x = sym de2 ∙ de in
      let sx2 : x2 ≡ x = cc in
      res_once o1 o2 u.key (add u.depth x) b c n i p q r (subst (λ (y : Place). Resolves E o2 y.key (add y.depth x) c i q) su (subst (λ y. Resolves E o2 u2.key (add u2.depth y) c i q) sx2 r2))

-- JOINS

-- neither of two tests that fail together holds
pub or_false : (a b : Bool) → (a || b) ≡ false → (a ≡ false) × (b ≡ false)
or_false true b h = absurd cc
or_false false b h = (refl, h)

-- the second test fails where the first one holds
and_false : (a b : Bool) → a ≡ true → (a && b) ≡ false → b ≡ false
and_false true b e h = h
and_false false b e h = absurd cc

-- what is not less is at least as large
lt_false : (a b : ℕ) → nat_lt a b ≡ false → b ≤ a
lt_false a b h = ⊎_elim (λ (x : (nat_lt a b ≡ true) × (suc a ≤ b)). let g : true ≡ false = sym x.0 ∙ h in absurd cc) (λ (x : (nat_lt a b ≡ false) × (b < suc a)). let y = x.1 in omega arith) (leb_tells (suc a) b)

-- the test of equal numbers
eq_true : (a b : ℕ) → a ≡ b → (a == b) ≡ true
eq_true a b e = eq_cases (λ t. t ≡ true) a b (λ _. refl) (λ ne. absurd (ne e))

-- numbers whose test fails differ
eq_false : (a b : ℕ) → (a == b) ≡ false → a ≢ b
eq_false a b = eq_cases (λ t. t ≡ false → a ≢ b) a b (λ same h. absurd cc) (λ ne h. ne)

-- places of which neither comes before the other are the same
same_lval : (u v : Lval) → lval_lt u v ≡ false → lval_lt v u ≡ false → u ≡ v
same_lval u v h g =
    let a = or_false (nat_lt u.slot v.slot) (u.slot == v.slot && nat_lt u.depth v.depth) h in
    let b = or_false (nat_lt v.slot u.slot) (v.slot == u.slot && nat_lt v.depth u.depth) g in
    let a0 = lt_false u.slot v.slot a.0 in
    let b0 = lt_false v.slot u.slot b.0 in
    let es : u.slot ≡ v.slot = omega arith in
    let a1 = lt_false u.depth v.depth (and_false (u.slot == v.slot) (nat_lt u.depth v.depth) (eq_true u.slot v.slot es) a.1) in
    let b1 = lt_false v.depth u.depth (and_false (v.slot == u.slot) (nat_lt v.depth u.depth) (eq_true v.slot u.slot (sym es)) b.1) in
    let ed : u.depth ≡ v.depth = omega arith in
    let x : Lval = record { slot = u.slot; depth = u.depth } in
    ap (λ z. record { slot = z; depth = u.depth }) es ∙ ap (λ z. record { slot = v.slot; depth = z }) ed

-- a place that is inserted, or was there, is in the set
in_insert : (u v : Lval) (vs : List Lval) → (u ≡ v) ⊎ In u vs → In u (insert_lval v vs)
in_insert u v [] h = h
in_insert u v (w ∷ vs) h = by (lval_lt v w) (lval_lt w v) refl refl (in_insert u v vs) h
  where
    by : (a b : Bool) → lval_lt v w ≡ a → lval_lt w v ≡ b → ((u ≡ v) ⊎ In u vs → In u (insert_lval v vs)) → (u ≡ v) ⊎ In u (w ∷ vs) → In u (if a then v ∷ w ∷ vs else (if b then w ∷ insert_lval v vs else w ∷ vs))
    by true b ea eb ih h = h
    by false true ea eb ih (inl e) = inr (ih (inl e))
    by false true ea eb ih (inr (inl e)) = inl e
    by false true ea eb ih (inr (inr e)) = inr (ih (inr e))
    by false false ea eb ih (inl e) = inl (e ∙ same_lval v w ea eb)
    by false false ea eb ih (inr e) = e

-- a union has what the first set has
in_left : (u : Lval) (us vs : List Lval) → In u us → In u (union us vs)
in_left u [] vs h = absurd h
in_left u (w ∷ us) vs (inl e) = in_insert u w (union us vs) (inl e)
in_left u (w ∷ us) vs (inr e) = in_insert u w (union us vs) (inr (in_left u us vs e))

-- and what the second one has
in_right : (u : Lval) (us vs : List Lval) → In u vs → In u (union us vs)
in_right u [] vs h = h
in_right u (w ∷ us) vs h = in_insert u w (union us vs) (inr (in_right u us vs h))

-- owned types whose test holds are the same
same_owned_is : (a b : Owned) → same_owned a b ≡ true → a ≡ b
same_owned_is unit unit e = refl
same_owned_is int int e = refl
same_owned_is (box a) (box b) e = ap box (same_owned_is a b e)
same_owned_is (mutex a) (mutex b) e = ap mutex (same_owned_is a b e)
same_owned_is (task a) (task b) e = ap task (same_owned_is a b e)
same_owned_is unit int e = absurd cc
same_owned_is unit (box b) e = absurd cc
same_owned_is unit (mutex b) e = absurd cc
same_owned_is unit (task b) e = absurd cc
same_owned_is int unit e = absurd cc
same_owned_is int (box b) e = absurd cc
same_owned_is int (mutex b) e = absurd cc
same_owned_is int (task b) e = absurd cc
same_owned_is (box a) unit e = absurd cc
same_owned_is (box a) int e = absurd cc
same_owned_is (box a) (mutex b) e = absurd cc
same_owned_is (box a) (task b) e = absurd cc
same_owned_is (mutex a) unit e = absurd cc
same_owned_is (mutex a) int e = absurd cc
same_owned_is (mutex a) (box b) e = absurd cc
same_owned_is (mutex a) (task b) e = absurd cc
same_owned_is (task a) unit e = absurd cc
same_owned_is (task a) int e = absurd cc
same_owned_is (task a) (box b) e = absurd cc
same_owned_is (task a) (mutex b) e = absurd cc

module _ (key : ℕ → Key) (E : Key → Exact) where
  -- each exact type of one part is one of the other
  abbrev pub Wider : Piece → Piece → Type 0
  Wider a q = (x : Exact) → ExactOf key E a x → ExactOf key E q x

  -- one of a set is one of a larger set
  one_wider : (us vs : List Lval) (u : Place) → ((w : Lval) → In w us → In w vs) → OneOf key us u → OneOf key vs u
  one_wider us vs u f o = record { place = o.place; is = o.is; among = f o.place o.among }

  -- a shared reference to a larger set is wider
  wider_shared : (us vs : List Lval) → ((w : Lval) → In w us → In w vs) → Wider (whole (shared us)) (whole (shared vs))
  wider_shared us vs f (owns t) h = absurd h
  wider_shared us vs f (refers m u) h = (h.0, one_wider us vs u f h.1)

  -- and so is a mutable one
  wider_mutable : (us vs : List Lval) → ((w : Lval) → In w us → In w vs) → Wider (whole (mutable us)) (whole (mutable vs))
  wider_mutable us vs f (owns t) h = absurd h
  wider_mutable us vs f (refers m u) h = (h.0, one_wider us vs u f h.1)

  -- what has moved away is the same for each type
  wider_gone : (a b : Kind) → Wider (gone a) (gone b)
  wider_gone a b (owns t) h = h
  wider_gone a b (refers m u) h = h

  -- boxes around parts are as wide as these
  wider_boxed : (a b : Piece) → Wider a b → Wider (boxed a) (boxed b)
  wider_boxed a b f (owns t) h = (h.0, h.1, f (owns h.0) h.2)
  wider_boxed a b f (refers m u) h = h

  pub record JoinOf (a b q : Piece) : Type 0 where
    pub left : Wider a q
    pub right : Wider b q

  -- the join of a type with itself
  join_same : (a b q : Piece) (k : Kind) (t : Bool) → (t ≡ true → (a ≡ whole k) × (b ≡ whole k)) → found_or_none (map_some whole (if t then Some k else None)) ≡ found q → JoinOf a b q
  join_same a b q k false f e = absurd cc
  join_same a b q k true f e =
      let x = f refl in
      let g : whole k ≡ q = cc in
      record { left = λ y h. subst (λ z. ExactOf key E z y) (x.0 ∙ g) h; right = λ y h. subst (λ z. ExactOf key E z y) (x.1 ∙ g) h }

  -- a join that is there, of which each side is a part, is wider than both
  join_either : (a b q : Piece) (k : Kind) (t : Bool) → Wider a (whole k) → Wider b (whole k) → found_or_none (map_some whole (if t then Some k else None)) ≡ found q → JoinOf a b q
  join_either a b q k false f g e = absurd cc
  join_either a b q k true f g e =
      let h : whole k ≡ q = cc in
      record { left = λ y x. subst (λ z. ExactOf key E z y) h (f y x); right = λ y x. subst (λ z. ExactOf key E z y) h (g y x) }

  -- the join of two parts is wider than both
  pub join_parts : (same : SetTest) (a b q : Piece) → found_or_none (join_piece same a b) ≡ found q → JoinOf a b q
  join_parts same (whole (own a)) (whole (own b)) q e = join_same (whole (own a)) (whole (own b)) q (own a) (same_owned a b) (λ t. (refl, ap (λ z. whole (own z)) (sym (same_owned_is a b t)))) e
  join_parts same (whole (view a)) (whole (view b)) q e = join_same (whole (view a)) (whole (view b)) q (view a) (same_owned a b) (λ t. (refl, ap (λ z. whole (view z)) (sym (same_owned_is a b t)))) e
  join_parts same (whole (shared a)) (whole (shared b)) q e =
      join_either (whole (shared a)) (whole (shared b)) q (shared (union a b)) (same a b) (wider_shared a (union a b) (λ w. in_left w a b)) (wider_shared b (union a b) (λ w. in_right w a b)) e
  join_parts same (whole (mutable a)) (whole (mutable b)) q e =
      join_either (whole (mutable a)) (whole (mutable b)) q (mutable (union a b)) (same a b) (wider_mutable a (union a b) (λ w. in_left w a b)) (wider_mutable b (union a b) (λ w. in_right w a b)) e
  join_parts same (gone a) (gone b) q e = by (join_kind same a b) e
    where
      by : (o : Option Kind) → found_or_none (map_some gone o) ≡ found q → JoinOf (gone a) (gone b) q
      by None e = absurd cc
      by (Some k) e = let g : gone k ≡ q = cc in record { left = λ y h. subst (λ z. ExactOf key E z y) g (wider_gone a k y h); right = λ y h. subst (λ z. ExactOf key E z y) g (wider_gone b k y h) }
  join_parts same (boxed a) (boxed b) q e = by (join_piece same a b) e (join_parts same a b)
    where
      by : (o : Option Piece) → found_or_none (map_some boxed o) ≡ found q → ((r : Piece) → found_or_none o ≡ found r → JoinOf a b r) → JoinOf (boxed a) (boxed b) q
      by None e ih = absurd cc
      by (Some r) e ih =
          let g : boxed r ≡ q = cc in
          let j = ih r refl in
          record { left = λ y h. subst (λ z. ExactOf key E z y) g (wider_boxed a r j.left y h); right = λ y h. subst (λ z. ExactOf key E z y) g (wider_boxed b r j.right y h) }
  join_parts same _ _ q e = absurd cc

  pub record PartOf (f : Found) (q : Piece) : Type 0 where
    piece : Piece
    is : f ≡ found piece
    wider : Wider piece q

  -- the join of what two places have comes from what each has
  join_found_parts : (same : SetTest) (f g : Found) (q : Piece) → join_found same f g ≡ found q → PartOf f q × PartOf g q
  join_found_parts same (found a) (found b) q e = let j = join_parts same a b q e in (record { piece = a; is = refl; wider = j.left }, record { piece = b; is = refl; wider = j.right })
  join_found_parts same (found a) undefined q e = absurd cc
  join_found_parts same (found a) no_target q e = absurd cc
  join_found_parts same undefined g q e = absurd cc
  join_found_parts same no_target g q e = absurd cc

  -- what a place has is an exact type of each wider part
  wider_part : (f : Found) (a q : Piece) → Wider a q → PartOf f a → PartOf f q
  wider_part f a q w p = record { piece = p.piece; is = p.is; wider = λ x h. w x (p.wider x h) }

  -- the join over a list of places comes from what each of them has
  join_all_parts : (same : SetTest) (look : Lval → Found) (f : Found) (us : List Lval) (q : Piece) → join_all same look f us ≡ found q → PartOf f q × ((u : Lval) → In u us → PartOf (look u) q)
  join_all_parts same look f [] q e = (record { piece = q; is = e; wider = λ x h. h }, λ u h. absurd h)
  join_all_parts same look f (v ∷ us) q e =
      let r = join_all_parts same look (join_found same f (look v)) us q e in
      let j = join_found_parts same f (look v) r.0.piece r.0.is in
      (wider_part f r.0.piece q r.0.wider j.0, by r.1 (wider_part (look v) r.0.piece q r.0.wider j.1))
    where
      by : ((u : Lval) → In u us → PartOf (look u) q) → PartOf (look v) q → (u : Lval) → In u (v ∷ us) → PartOf (look u) q
      by more first u (inl h) = subst (λ z. PartOf (look z) q) (sym h) first
      by more first u (inr h) = more u h

  -- the join over a set of places comes from what each of them has
  join_set_parts : (same : SetTest) (look : Lval → Found) (us : List Lval) (q : Piece) → join_set same look us ≡ found q → (u : Lval) → In u us → PartOf (look u) q
  join_set_parts same look [] q e u h = absurd h
  join_set_parts same look (v ∷ us) q e u (inl h) = subst (λ z. PartOf (look z) q) (sym h) (join_all_parts same look (look v) us q e).0
  join_set_parts same look (v ∷ us) q e u (inr h) = (join_all_parts same look (look v) us q e).1 u h

-- WHAT THE TYPE OF A PLACE SAYS IS RESOLVED

-- what stands no box deeper is the type itself
pub part_zero : (q : Exact) → exact_under zero q ≡ Some q
part_zero (owns t) = refl
part_zero (refers m u) = refl

-- a way over mutable references alone is a way over references
weaken : (E : Key → Exact) (m only : Bool) (k : Key) (d : ℕ) (b : Key) (n : ℕ) (p : Exact) → (only ≡ true → m ≡ true) → Resolves E m k d b n p → Resolves E only k d b n p
weaken E m only k d _ _ p f (here e) = here e
weaken E m only k d b n p f (through q u e is o de r) = through q u e is (λ z. o (f z)) de (weaken E m only u.key (add u.depth e) b n p f r)

-- each mutable reference's place is reached by mutable references alone (RefFits says it)
pub record MutPlace (E : Key → Exact) (u : Place) : Type 0 where
  pub base : Key
  pub boxes : ℕ
  pub type : Exact
  pub res : Resolves E true u.key u.depth base boxes type

-- a typed store has such a way for each mutable reference
pub mut_place : (rank : Key → ℕ) (E : Key → Exact) (s : Store) → Typed rank E s → (k : Key) (u : Place) → E k ≡ refers true u → MutPlace E u
mut_place rank E s t k u e = let r = ref_at rank E s t k true u e in record { base = r.base; boxes = r.boxes; type = r.type; res = r.res }

-- a place of a set that lies below n is below n
pub below_in : (n : ℕ) (us : List Lval) (u : Lval) → AreBelow n us → In u us → u.slot < n
below_in n [] u h i = absurd i
below_in n (v ∷ us) u h (inl e) = let lt = h.0 in subst (λ (z : Lval). z.slot < n) (sym e) lt
below_in n (v ∷ us) u h (inr i) = below_in n us u h.1 i

-- what place w of a thread resolves to, and that it is an exact type of what w's type says
pub record Resolved (key : ℕ → Key) (E : KeyTypes) (only : Bool) (w : Lval) (q : Piece) : Type 0 where
  pub base : Key
  pub boxes : ℕ
  pub type : Exact
  pub res : Resolves E only (key w.slot) w.depth base boxes type
  pub exact : ExactOf key E q type

module _ (key : ℕ → Key) (E : Key → Exact) (mut : (k : Key) (u : Place) → E k ≡ refers true u → MutPlace E u) where
  -- what a place resolves to is an exact type of each wider part
  widen : (only : Bool) (w : Lval) (a q : Piece) → Wider key E a q → Resolved key E only w a → Resolved key E only w q
  widen only w a q f r = record { base = r.base; boxes = r.boxes; type = r.type; res = r.res; exact = f r.type r.exact }

  -- one star on a reference
  star_set : (only m : Bool) (x d : ℕ) (b : Key) (n : ℕ) (v : Place) (us : List Lval) (same : SetTest) (look : Lval → Found) (q : Piece) → Resolves E only (key x) d b n (refers m v) → OneOf key us v → (only ≡ true → m ≡ true)
      → join_set same look us ≡ found q → ((u : Lval) → In u us → (a : Piece) → look u ≡ found a → Resolved key E false u a) → Resolved key E only (record { slot = x; depth = suc d }) q
  star_set only m x d b n v us same look q r o ok j ih =
      let p = join_set_parts key E same look us q j o.place o.among in
      let y = widen false o.place p.piece q p.wider (ih o.place o.among p.piece p.is) in
      let there : Resolves E false v.key v.depth y.base y.boxes y.type = subst (λ (z : Place). Resolves E false z.key z.depth y.base y.boxes y.type) (sym o.is) y.res in
      by only m ok (part_ref n (E b) m v (res_part E only (key x) d b n (refers m v) r)).1 r y.base y.boxes y.type there y.exact
    where
      by : (only m : Bool) → (only ≡ true → m ≡ true) → E b ≡ refers m v → Resolves E only (key x) d b n (refers m v) → (c : Key) (i : ℕ) (t : Exact) → Resolves E false v.key v.depth c i t → ExactOf key E q t → Resolved key E only (record { slot = x; depth = suc d }) q
      by false m ok is r c i t f e = record { base = c; boxes = i; type = t; res = res_ref E false (key x) d b n (refers m v) m v c i t r refl ok f; exact = e }
      by true false ok is r c i t f e = let z = ok refl in absurd cc
      by true true ok is r c i t f e =
          let g = mut b v is in
          let same = res_once E false true v.key v.depth c g.base i g.boxes t g.type f g.res in
          record { base = g.base; boxes = g.boxes; type = g.type; res = res_ref E true (key x) d b n (refers true v) true v g.base g.boxes g.type r refl ok g.res; exact = subst (ExactOf key E q) same.2 e }

  -- a shared step is on no way over mutable references alone
  not_mutable : (only : Bool) (m : Bool) → (only ≡ true → ⊥) → only ≡ true → m ≡ true
  not_mutable only m f e = absurd (f e)

  -- one star more on a place that resolves
  star_resolved : (only : Bool) (x d : ℕ) (p q : Piece) (same : SetTest) (look : Lval → Found) → Resolved key E only (record { slot = x; depth = d }) p → star same look p ≡ found q → (is_lent (found p) ≡ true → only ≡ true → ⊥)
      → ((u : Lval) → In u (piece_places p) → (a : Piece) → look u ≡ found a → Resolved key E false u a) → Resolved key E only (record { slot = x; depth = suc d }) q
  star_resolved only x d p q same look r e lent ih = by p r.type r.res r.exact e lent ih
    where
      into : (b : Key) (n : ℕ) (t y : Tree) → Resolves E only (key x) d b n (owns t) → t ≡ box_tree y → ExactOf key E q (owns y) → Resolved key E only (record { slot = x; depth = suc d }) q
      into b n t y g is f = record { base = b; boxes = suc n; type = owns y; res = res_box E only (key x) d b n (owns t) y g (ap owns is); exact = f }

      by : (p : Piece) (t : Exact) → Resolves E only (key x) d r.base r.boxes t → ExactOf key E p t → star same look p ≡ found q → (is_lent (found p) ≡ true → only ≡ true → ⊥)
          → ((u : Lval) → In u (piece_places p) → (a : Piece) → look u ≡ found a → Resolved key E false u a) → Resolved key E only (record { slot = x; depth = suc d }) q
      by (whole (own (box o))) (owns t) g f e lent ih = let h : whole (own o) ≡ q = cc in into r.base r.boxes t (tree_of o) g f (subst (λ z. ExactOf key E z (owns (tree_of o))) h refl)
      by (whole (own (box o))) (refers m u) g f e lent ih = absurd f
      by (whole (own unit)) t g f e lent ih = absurd cc
      by (whole (own int)) t g f e lent ih = absurd cc
      by (whole (own (mutex o))) t g f e lent ih = absurd cc
      by (whole (own (task o))) t g f e lent ih = absurd cc
      by (whole (shared us)) (owns t) g f e lent ih = absurd f
      by (whole (shared us)) (refers m u) g f e lent ih = star_set only m x d r.base r.boxes u us same look q g f.1 (not_mutable only m (lent refl)) e ih
      by (whole (mutable us)) (owns t) g f e lent ih = absurd f
      by (whole (mutable us)) (refers m u) g f e lent ih = star_set only m x d r.base r.boxes u us same look q g f.1 (λ _. f.0) e ih
      by (whole (view o)) (owns t) g f e lent ih = absurd f
      by (whole (view o)) (refers m u) g f e lent ih =
          let h : whole (own o) ≡ q = cc in
          let c : Seen key E o u = f.1 in
          let ok = not_mutable only m (lent refl) in
          record { base = c.base; boxes = c.boxes; type = owns (tree_of o); res = res_ref E only (key x) d r.base r.boxes (refers m u) m u c.base c.boxes (owns (tree_of o)) g refl ok (weaken E false only u.key u.depth c.base c.boxes (owns (tree_of o)) (not_mutable only false (lent refl)) c.res); exact = subst (λ z. ExactOf key E z (owns (tree_of o))) h refl }
      by (gone k) t g f e lent ih = absurd cc
      by (boxed p) (owns t) g f e lent ih = let h : p ≡ q = cc in into r.base r.boxes t f.0 g f.1 (subst (λ z. ExactOf key E z (owns f.0)) h f.2)
      by (boxed p) (refers m u) g f e lent ih = absurd f

  -- the variable itself
  pub slot_exact : (e : List Slot) (x : ℕ) (q : Piece) → SlotsBelow key E e → type_at e (record { slot = x; depth = 0 }) ≡ found q → ExactOf key E q (E (key x))
  slot_exact [] x q h t = absurd cc
  slot_exact (s ∷ e) x q h t =
      eq_cases (λ b. (if b then found s.part else type_at e (record { slot = x; depth = 0 })) ≡ found q → ExactOf key E q (E (key x))) x (length e)
      (λ is g. let f : s.part ≡ q = cc in subst (λ z. ExactOf key E q (E (key z))) (sym is) (subst (λ z. ExactOf key E z (E (key (length e)))) f h.0))
      (λ ne g. slot_exact e x q h.1 g)
      t

  -- what is found after a step was found before it
  found_in : (f : Found) (g : Piece → Found) (q : Piece) → then_found f g ≡ found q → (p : Piece) × (f ≡ found p) × (g p ≡ found q)
  found_in (found p) g q e = (p, refl, e)
  found_in undefined g q e = absurd cc
  found_in no_target g q e = absurd cc

  module _ (e : List Slot) (nested : IsNested e) (fits : SlotsBelow key E e) where
    abbrev Free : Bool → ℕ → ℕ → Type 0
    Free only x d = only ≡ true → on_path is_lent e x d ≡ false

    by_stars : (x : ℕ) → x < length e → ((u : Lval) → u.slot < x → (a : Piece) → type_at e u ≡ found a → Resolved key E false u a)
        → (only : Bool) (d : ℕ) (q : Piece) → Free only x d → type_at e (record { slot = x; depth = d }) ≡ found q → Resolved key E only (record { slot = x; depth = d }) q
    by_stars x lt ih only zero q free t = record { base = key x; boxes = zero; type = E (key x); res = here (part_zero (E (key x))); exact = slot_exact e x q fits t }
    by_stars x lt ih only (suc d) q free t =
        let y = found_in (type_at e (record { slot = x; depth = d })) (star (alike e) (type_at e)) q (sym (type_at-star e x d nested lt) ∙ t) in
        let names = subst (FoundBelow x) y.1 (type_at_below e (record { slot = x; depth = d }) nested) in
        let r = by_stars x lt ih only d y.0 (λ z. (or_false (on_path is_lent e x d) (is_lent (type_at e (record { slot = x; depth = d }))) (free z)).0) y.1 in
        star_resolved only x d y.0 q (alike e) (type_at e) r y.2
        (λ l z. let g = (or_false (on_path is_lent e x d) (is_lent (type_at e (record { slot = x; depth = d }))) (free z)).1 in let h : true ≡ false = sym l ∙ ap is_lent (sym y.1) ∙ g in absurd cc)
        (λ u i a f. ih u (below_in x (piece_places y.0) u names i) a f)

    all_stars : (fuel x : ℕ) → x < fuel → x < length e → (only : Bool) (d : ℕ) (q : Piece) → Free only x d → type_at e (record { slot = x; depth = d }) ≡ found q → Resolved key E only (record { slot = x; depth = d }) q
    all_stars zero x lf lt only d q free t = absurd (omega arith)
    all_stars (suc fuel) x lf lt only d q free t = by_stars x lt (λ u lu a f. all_stars fuel u.slot (omega arith) (omega arith) false u.depth a (λ z. absurd cc) f) only d q free t

    -- a place that has a type
    pub resolved : (w : Lval) (q : Piece) → w.slot < length e → type_at e w ≡ found q → Resolved key E false w q
    resolved w q lt t = all_stars (suc w.slot) w.slot (omega arith) lt false w.depth q (λ z. absurd cc) t

    not_false : (b : Bool) → not b ≡ true → b ≡ false
    not_false false e = refl
    not_false true e = absurd cc

    -- and that is writable
    pub resolved_writable : (w : Lval) (q : Piece) → w.slot < length e → is_writable e w ≡ true → type_at e w ≡ found q → Resolved key E true w q
    resolved_writable w q lt free t = all_stars (suc w.slot) w.slot (omega arith) lt true w.depth q (λ z. not_false (on_path is_lent e w.slot w.depth) free) t

-- BLOCKED

-- no place of a set starts at a variable where the test fails
none_starts : (x : ℕ) (us : List Lval) (u : Lval) → starts_at x us ≡ false → In u us → u.slot ≢ x
none_starts x [] u h i = absurd i
none_starts x (v ∷ us) u h (inl e) = let o = or_false (v.slot == x) (starts_at x us) h in subst (λ (z : Lval). z.slot ≢ x) (sym e) (eq_false v.slot x o.0)
none_starts x (v ∷ us) u h (inr i) = let o = or_false (v.slot == x) (starts_at x us) h in none_starts x us u o.1 i

module _ (key : ℕ → Key) (E : Key → Exact) (differ : Apart key) where
  -- nor does a reference to one of the set
  one_not : (x : ℕ) (us : List Lval) (u : Place) → starts_at x us ≡ false → OneOf key us u → u.key ≢ key x
  one_not x us u h o = λ (z : u.key ≡ key x). none_starts x us o.place h o.among (differ o.place.slot x (ap (λ (y : Place). y.key) (sym o.is) ∙ z))

  -- a part that blocks no write of a variable doesn't name it
  part_unnamed : (x : ℕ) (p : Piece) (m : Bool) (u : Place) → blocks_write x p ≡ false → RefOf key E p m u → u.key ≢ key x
  part_unnamed x (whole (own o)) m u h f = absurd f
  part_unnamed x (whole (shared us)) m u h f = one_not x us u h f.1
  part_unnamed x (whole (mutable us)) m u h f = one_not x us u h f.1
  part_unnamed x (whole (view o)) m u h f = let c : Seen key E o u = f.1 in c.foreign x
  part_unnamed x (gone k) m u h f = absurd f
  part_unnamed x (boxed p) m u h f = absurd f

  -- a part that blocks no read of a variable doesn't lend it mutably
  part_unlent : (x : ℕ) (p : Piece) (u : Place) → blocks_read x p ≡ false → RefOf key E p true u → u.key ≢ key x
  part_unlent x (whole (own o)) u h f = absurd f
  part_unlent x (whole (shared us)) u h f = let z = f.0 in absurd cc
  part_unlent x (whole (mutable us)) u h f = one_not x us u h f.1
  part_unlent x (whole (view o)) u h f = let z = f.0 in absurd cc
  part_unlent x (gone k) u h f = absurd f
  part_unlent x (boxed p) u h f = absurd f

  -- no slot's type names a variable that is not write blocked
  pub slots_unnamed : (e : List Slot) (x i : ℕ) (m : Bool) (u : Place) → SlotsBelow key E e → write_blocked e x ≡ false → i < length e → E (key i) ≡ refers m u → u.key ≢ key x
  slots_unnamed [] x i m u f h lt is = absurd (omega arith)
  slots_unnamed (s ∷ e) x i m u f h lt is =
      let o = or_false (blocks_write x s.part) (write_blocked e x) h in
      eq_cases (λ _. u.key ≢ key x) i (length e)
      (λ same. part_unnamed x s.part m u o.0 (subst (ExactOf key E s.part) (ap (λ z. E (key z)) (sym same) ∙ is) f.0))
      (λ ne. slots_unnamed e x i m u f.1 o.1 (omega arith) is)

  -- no slot's type lends a variable mutably that is not read blocked
  pub slots_unlent : (e : List Slot) (x i : ℕ) (u : Place) → SlotsBelow key E e → read_blocked e x ≡ false → i < length e → E (key i) ≡ refers true u → u.key ≢ key x
  slots_unlent [] x i u f h lt is = absurd (omega arith)
  slots_unlent (s ∷ e) x i u f h lt is =
      let o = or_false (blocks_read x s.part) (read_blocked e x) h in
      eq_cases (λ _. u.key ≢ key x) i (length e)
      (λ same. part_unlent x s.part u o.0 (subst (ExactOf key E s.part) (ap (λ z. E (key z)) (sym same) ∙ is) f.0))
      (λ ne. slots_unlent e x i u f.1 o.1 (omega arith) is)
