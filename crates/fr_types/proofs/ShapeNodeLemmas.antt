-- What a table keeps of its shapes, and a new one.
use Rattle.std.proofs.Common.{◌≡◌, ◌≢◌, ◌⊎◌, ℕ, zero, suc, ◌+◌, ◌<◌, List, [], ◌∷◌, ◌++◌, length, get_or, set, Option, Some, None, refl, sym, ap, ◌∙◌, subst, arith, inl, inr, ⊎_elim}
use Rattle.std.specs.Prelude.{IsSome}
use Rattle.std.proofs.lemmas.List.{get_or-set_same, get_or-set_other, get_or_default, get_or_past, get_or_at, get_or_append_left, length-append, length-set}
use Rattle.fr_typing.specs.Kinds.{unit, int}
use Rattle.fr_typing.specs.Places.{Shape, owned_shape, star_shape}
use Rattle.fr_typing.proofs.PlaceLemmas.{eq_cases}
use Rattle.fr_types.specs.declared.shape_node.Sort.{Sort}
use Rattle.fr_types.specs.declared.shape_node.Sort.TheVariants.{Box, Mutex, Task, Shared, Mut}
use Rattle.fr_types.specs.declared.shape_node.Made.{Made}
use Rattle.fr_types.specs.declared.shape_node.Made.TheVariants.{Unit, Int, Around}
use Rattle.fr_types.specs.declared.shape_node.ShapeNode.{ShapeNode}
use Rattle.fr_types.specs.ShapeTables.{shape_no, shape_of_no, IsNumber, number_in, number_at, wrapped, wrapped_in, wrapped_no, is_owned_shape, with_new, with_shape, Keeps}
use Rattle.fr_types.specs.ShapeNodes.{leaf, blank, inner_of, is_owned_made, child_of, with_child, made_in, or_unit, shapes_onto, shapes_of, IsTable}
use Rattle.fr_types.proofs.ShapeTableLemmas.{shape_no_below, shape_no_there, shape_no_push, shape_no_last, shape_no_past, number_has, number_lacks, number_last, number_other, once_push, wrapped_same, wrapped_other, made_of_none, star_box, star_mutex, star_task}

-- THE LIST OF SHAPES

length-shapes_onto : (below : List Shape) (ns : List ShapeNode) → length (shapes_onto below ns) ≡ length below + length ns
length-shapes_onto below [] = omega arith
length-shapes_onto below (n ∷ ns) = omega (arith, length-shapes_onto (or_unit (made_in below n.made) ∷ below) ns)

-- as many as the code has
pub length_shapes : (ns : List ShapeNode) → length (shapes_of ns) ≡ length ns
length_shapes ns = omega (arith, length-shapes_onto [] ns)

shapes_onto-push : (below : List Shape) (ns : List ShapeNode) (n : ShapeNode) → shapes_onto below (ns ++ n ∷ []) ≡ or_unit (made_in (shapes_onto below ns) n.made) ∷ shapes_onto below ns
shapes_onto-push below [] n = refl
shapes_onto-push below (m ∷ ns) n = shapes_onto-push (or_unit (made_in below m.made) ∷ below) ns n

shapes_onto-set : (below : List Shape) (ns : List ShapeNode) (i : ℕ) (n : ShapeNode) → n.made ≡ (get_or ns i blank).made → shapes_onto below (set ns i n) ≡ shapes_onto below ns
shapes_onto-set below [] i n e = refl
shapes_onto-set below (m ∷ ns) zero n e = ap (λ x. shapes_onto (or_unit (made_in below x) ∷ below) ns) e
shapes_onto-set below (m ∷ ns) (suc i) n e = shapes_onto-set (or_unit (made_in below m.made) ∷ below) ns i n e

-- STARS

star_in : (sort : Sort) (o : Option Shape) (s : Shape) (r : Option Shape) → ((a : Shape) → wrapped sort a ≡ Some s → o ≡ Some a → r ≡ star_shape (Some s)) → wrapped_in o sort ≡ Some s → r ≡ star_shape (Some s)
star_in sort None s r go h = absurd cc
star_in sort (Some a) s r go h = go a h refl

-- what a star takes a shape to is what it is made of, unless it is a mutex or a task
pub inner_star : (ss : List Shape) (m : Made) (s : Shape) → made_in ss m ≡ Some s → shape_of_no ss (inner_of m) ≡ star_shape (Some s)
inner_star ss Unit s h = ap star_shape h
inner_star ss Int s h = ap star_shape h
inner_star ss (Around Box i) s h = star_in Box (shape_no ss i) s (shape_no ss i) (λ a w is. is ∙ star_box a s w) h
inner_star ss (Around Mutex i) s h = star_in Mutex (shape_no ss i) s None (λ a w is. star_mutex a s w) h
inner_star ss (Around Task i) s h = star_in Task (shape_no ss i) s None (λ a w is. star_task a s w) h
inner_star ss (Around Shared i) s h = star_in Shared (shape_no ss i) s (shape_no ss i) (λ a w is. is ∙ ap star_shape w) h
inner_star ss (Around Mut i) s h = star_in Mut (shape_no ss i) s (shape_no ss i) (λ a w is. is ∙ ap star_shape w) h

-- WHAT ISN'T THERE

no_child_of : (ss : List Shape) (sort : Sort) (a t : Shape) (m : Made) → wrapped sort a ≡ Some t → number_in ss a ≡ None → made_in ss m ≡ Some t → ⊥
no_child_of ss sort a t Unit w lacks h = made_of_none sort a t w (inl (sym h))
no_child_of ss sort a t Int w lacks h = made_of_none sort a t w (inr (sym h))
no_child_of ss sort a t (Around other i) w lacks h = by (shape_no ss i) refl h
  where
    by : (o : Option Shape) → shape_no ss i ≡ o → wrapped_in o other ≡ Some t → ⊥
    by None is g = absurd cc
    by (Some b) is g = let same = wrapped_same sort other a b t w g in number_lacks ss a i lacks (is ∙ ap (λ x. Some x) (sym same.1))

-- no shape is there that is made of one that isn't
pub lacks_around : (ss : List Shape) (ns : List ShapeNode) (sort : Sort) (a t : Shape) → IsTable ss ns → length ss ≡ length ns → wrapped sort a ≡ Some t → number_in ss a ≡ None → number_in ss t ≡ None
lacks_around ss ns sort a t h len w lacks = by (number_in ss t) refl
  where
    by : (o : Option ℕ) → number_in ss t ≡ o → o ≡ None
    by None is = refl
    by (Some n) is =
        let has = number_has ss t n is in
        let lt = shape_no_below ss n t has in
        absurd (no_child_of ss sort a t (get_or ns n blank).made w lacks (h.made n (omega arith) ∙ has))

-- A NEW SHAPE

child_same : (n : ShapeNode) (sort : Sort) (v : ℕ) → child_of (with_child n sort v) sort ≡ Some v
child_same n Box v = refl
child_same n Mutex v = refl
child_same n Task v = refl
child_same n Shared v = refl
child_same n Mut v = refl

child_other : (n : ShapeNode) (sort other : Sort) (v : ℕ) → sort ≢ other → child_of (with_child n sort v) other ≡ child_of n other
child_other n Box Box v ne = absurd (ne refl)
child_other n Mutex Mutex v ne = absurd (ne refl)
child_other n Task Task v ne = absurd (ne refl)
child_other n Shared Shared v ne = absurd (ne refl)
child_other n Mut Mut v ne = absurd (ne refl)
child_other n _ _ v ne = refl

same_sort : (sort other : Sort) → (sort ≡ other) ⊎ (sort ≢ other)
same_sort Box Box = inl refl
same_sort Mutex Mutex = inl refl
same_sort Task Task = inl refl
same_sort Shared Shared = inl refl
same_sort Mut Mut = inl refl
same_sort _ _ = inr (λ e. absurd cc)

made_with_child : (n : ShapeNode) (sort : Sort) (v : ℕ) → (with_child n sort v).made ≡ n.made
made_with_child n Box v = refl
made_with_child n Mutex v = refl
made_with_child n Task v = refl
made_with_child n Shared v = refl
made_with_child n Mut v = refl

leaf_child : (m : Made) (sort : Sort) → child_of (leaf m) sort ≡ None
leaf_child m Box = refl
leaf_child m Mutex = refl
leaf_child m Task = refl
leaf_child m Shared = refl
leaf_child m Mut = refl

-- what a shape is made of stays below it
made_in_push : (s : Shape) (ss : List Shape) (m : Made) (t : Shape) → made_in ss m ≡ Some t → made_in (s ∷ ss) m ≡ Some t
made_in_push s ss Unit t h = h
made_in_push s ss Int t h = h
made_in_push s ss (Around sort i) t h = by (shape_no ss i) refl h
  where
    by : (o : Option Shape) → shape_no ss i ≡ o → wrapped_in o sort ≡ Some t → wrapped_no (s ∷ ss) i sort ≡ Some t
    by None is g = absurd cc
    by (Some a) is g = ap (λ x. wrapped_in x sort) (shape_no_push s ss i (shape_no_below ss i a is) ∙ is) ∙ g

-- what is made of a shape that is there, among one shape more
wrapped_push : (s : Shape) (ss : List Shape) (n : ℕ) (sort : Sort) → n < length ss → wrapped_no (s ∷ ss) n sort ≡ wrapped_no ss n sort
wrapped_push s ss n sort lt = ap (λ x. wrapped_in x sort) (shape_no_push s ss n lt)

-- equal shapes that are made of two numbers' shapes are made in one way
wrapped_once : (ss : List Shape) (i n : ℕ) (sort other : Sort) (s : Shape) → ((m : ℕ) (t : Shape) → shape_no ss m ≡ Some t → number_in ss t ≡ Some m) → wrapped_no ss i sort ≡ Some s → wrapped_no ss n other ≡ Some s → (sort ≡ other) × (i ≡ n)
wrapped_once ss i n sort other s once w v = by (shape_no ss i) (shape_no ss n) refl refl w v
  where
    by : (o p : Option Shape) → shape_no ss i ≡ o → shape_no ss n ≡ p → wrapped_in o sort ≡ Some s → wrapped_in p other ≡ Some s → (sort ≡ other) × (i ≡ n)
    by None p is at g f = absurd cc
    by (Some a) None is at g f = absurd cc
    by (Some a) (Some b) is at g f =
        let same = wrapped_same sort other a b s g f in
        let first = once i a is in
        let next : number_in ss a ≡ Some n = ap (λ x. number_in ss x) same.1 ∙ once n b at in
        (same.0, cc)

-- the nodes with a new one, which is noted at what it is made of
abbrev pub grown : List ShapeNode → ℕ → Sort → List ShapeNode
grown ns i sort = set (ns ++ leaf (Around sort i) ∷ []) i (with_child (get_or ns i blank) sort (length ns))

length_grown : (ns : List ShapeNode) (i : ℕ) (sort : Sort) → length (grown ns i sort) ≡ suc (length ns)
length_grown ns i sort =
    omega (arith, length-set (ns ++ leaf (Around sort i) ∷ []) i (with_child (get_or ns i blank) sort (length ns)), length-append ns (leaf (Around sort i) ∷ []))

at_other : (ns : List ShapeNode) (i n : ℕ) (sort : Sort) → n ≢ i → get_or (grown ns i sort) n blank ≡ get_or (ns ++ leaf (Around sort i) ∷ []) n blank
at_other ns i n sort ne = get_or-set_other (ns ++ leaf (Around sort i) ∷ []) i n (with_child (get_or ns i blank) sort (length ns)) blank ne

at_old : (ns : List ShapeNode) (i n : ℕ) (sort : Sort) → n ≢ i → n < length ns → get_or (grown ns i sort) n blank ≡ get_or ns n blank
at_old ns i n sort ne lt = at_other ns i n sort ne ∙ get_or_append_left ns (leaf (Around sort i) ∷ []) blank n lt

at_inner : (ns : List ShapeNode) (i : ℕ) (sort : Sort) → i < length ns → get_or (grown ns i sort) i blank ≡ with_child (get_or ns i blank) sort (length ns)
at_inner ns i sort lt = get_or-set_same (ns ++ leaf (Around sort i) ∷ []) i (with_child (get_or ns i blank) sort (length ns)) blank (omega (arith, length-append ns (leaf (Around sort i) ∷ [])))

at_new : (ns : List ShapeNode) (i n : ℕ) (sort : Sort) → i < length ns → n ≡ length ns → get_or (grown ns i sort) n blank ≡ leaf (Around sort i)
at_new ns i n sort lt e = at_other ns i n sort (λ f. absurd (omega arith)) ∙ get_or_at ns (leaf (Around sort i)) [] blank n (sym e)

at_past : (ns : List ShapeNode) (i n : ℕ) (sort : Sort) → length ns < n → get_or (grown ns i sort) n blank ≡ blank
at_past ns i n sort lt = get_or_past (grown ns i sort) n blank (omega (arith, length_grown ns i sort))

-- its shapes: the new one above the others
pub shapes_grown : (ns : List ShapeNode) (i : ℕ) (sort : Sort) (s : Shape) → i < length ns → wrapped_no (shapes_of ns) i sort ≡ Some s → shapes_of (grown ns i sort) ≡ s ∷ shapes_of ns
shapes_grown ns i sort s lt w =
    shapes_onto-set [] (ns ++ leaf (Around sort i) ∷ []) i (with_child (get_or ns i blank) sort (length ns))
    (made_with_child (get_or ns i blank) sort (length ns) ∙ ap (λ (x : ShapeNode). x.made) (sym (get_or_append_left ns (leaf (Around sort i) ∷ []) blank i lt)))
    ∙ shapes_onto-push [] ns (leaf (Around sort i))
    ∙ ap (λ x. or_unit x ∷ shapes_of ns) w

grown_made : (ss : List Shape) (ns : List ShapeNode) (i : ℕ) (sort : Sort) (s : Shape) → IsTable ss ns → length ss ≡ length ns → i < length ns → wrapped_no ss i sort ≡ Some s → (n : ℕ) → n < length (grown ns i sort) → made_in (s ∷ ss) (get_or (grown ns i sort) n blank).made ≡ shape_no (s ∷ ss) n
grown_made ss ns i sort s h len lt w n in_ =
    eq_cases (λ b. made_in (s ∷ ss) (get_or (grown ns i sort) n blank).made ≡ shape_no (s ∷ ss) n) n (length ns)
    (λ e.
    let last : n ≡ length ss = omega arith in
    ap (λ (x : ShapeNode). made_in (s ∷ ss) x.made) (at_new ns i n sort lt e)
    ∙ made_in_push s ss (Around sort i) s w
    ∙ sym (shape_no_last s ss n last))
    (λ ne.
    let less : n < length ns = omega (arith, length_grown ns i sort) in
    let less2 : n < length ss = omega arith in
    let there = shape_no_there ss n less2 in
    ap (made_in (s ∷ ss)) (old_made n less)
    ∙ made_in_push s ss (get_or ns n blank).made there.0 (h.made n less ∙ there.1)
    ∙ sym there.1
    ∙ sym (shape_no_push s ss n less2))
  where
    old_made : (n : ℕ) → n < length ns → (get_or (grown ns i sort) n blank).made ≡ (get_or ns n blank).made
    old_made n less =
        eq_cases (λ b. (get_or (grown ns i sort) n blank).made ≡ (get_or ns n blank).made) n i
        (λ e. subst (λ m. (get_or (grown ns i sort) m blank).made ≡ (get_or ns m blank).made) (sym e) (ap (λ (x : ShapeNode). x.made) (at_inner ns i sort lt) ∙ made_with_child (get_or ns i blank) sort (length ns)))
        (λ ne. ap (λ (x : ShapeNode). x.made) (at_old ns i n sort ne less))

grown_children : (ss : List Shape) (ns : List ShapeNode) (i : ℕ) (sort : Sort) (s : Shape) → IsTable ss ns → length ss ≡ length ns → i < length ns → wrapped_no ss i sort ≡ Some s → number_in ss s ≡ None → (n : ℕ) (other : Sort) → child_of (get_or (grown ns i sort) n blank) other ≡ number_at (s ∷ ss) (wrapped_no (s ∷ ss) n other)
grown_children ss ns i sort s h len lt w lacks n other =
    eq_cases (λ b. child_of (get_or (grown ns i sort) n blank) other ≡ number_at (s ∷ ss) (wrapped_no (s ∷ ss) n other)) n (length ns)
    (λ e. of_new e)
    (λ ne. eq_cases (λ b. child_of (get_or (grown ns i sort) n blank) other ≡ number_at (s ∷ ss) (wrapped_no (s ∷ ss) n other)) n i
    (λ e. of_inner e)
    (λ ne2. ⊎_elim (λ (less : n < length ns). of_old ne2 less) (λ (more : length ns < n). of_past more) (apart n (length ns) ne)))
  where
    apart : (m k : ℕ) → m ≢ k → (m < k) ⊎ (k < m)
    apart zero zero ne = absurd (ne refl)
    apart zero (suc k) ne = inl (omega arith)
    apart (suc m) zero ne = inr (omega arith)
    apart (suc m) (suc k) ne = ⊎_elim (λ (l : m < k). inl (omega arith)) (λ (l : k < m). inr (omega arith)) (apart m k (λ e. ne (ap suc e)))

    around_new : (o : Option Shape) → wrapped other s ≡ o → number_at (s ∷ ss) o ≡ None
    around_new None is = refl
    around_new (Some t) is = number_other s ss (Some t) (λ e. wrapped_other other s (is ∙ e)) ∙ lacks_around ss ns other s t h len is lacks

    of_new : n ≡ length ns → child_of (get_or (grown ns i sort) n blank) other ≡ number_at (s ∷ ss) (wrapped_no (s ∷ ss) n other)
    of_new e =
        let last : n ≡ length ss = omega arith in
        ap (λ x. child_of x other) (at_new ns i n sort lt e)
        ∙ leaf_child (Around sort i) other
        ∙ sym (around_new (wrapped other s) refl)
        ∙ ap (λ x. number_at (s ∷ ss) (wrapped_in x other)) (sym (shape_no_last s ss n last))

    of_old : n ≢ i → n < length ns → child_of (get_or (grown ns i sort) n blank) other ≡ number_at (s ∷ ss) (wrapped_no (s ∷ ss) n other)
    of_old ne less =
        let less2 : n < length ss = omega arith in
        ap (λ x. child_of x other) (at_old ns i n sort ne less)
        ∙ h.children n other
        ∙ sym (number_other s ss (wrapped_no ss n other) (λ e. ne (sym (wrapped_once ss i n sort other s h.different w e).1)))
        ∙ ap (number_at (s ∷ ss)) (sym (wrapped_push s ss n other less2))

    of_past : length ns < n → child_of (get_or (grown ns i sort) n blank) other ≡ number_at (s ∷ ss) (wrapped_no (s ∷ ss) n other)
    of_past more =
        ap (λ x. child_of x other) (at_past ns i n sort more)
        ∙ leaf_child Unit other
        ∙ ap (λ x. number_at (s ∷ ss) (wrapped_in x other)) (sym (shape_no_past (s ∷ ss) n (omega arith)))

    of_inner : n ≡ i → child_of (get_or (grown ns i sort) n blank) other ≡ number_at (s ∷ ss) (wrapped_no (s ∷ ss) n other)
    of_inner e = subst (λ m. child_of (get_or (grown ns i sort) m blank) other ≡ number_at (s ∷ ss) (wrapped_no (s ∷ ss) m other)) (sym e) (at_i (same_sort sort other))
      where
        at_i : (sort ≡ other) ⊎ (sort ≢ other) → child_of (get_or (grown ns i sort) i blank) other ≡ number_at (s ∷ ss) (wrapped_no (s ∷ ss) i other)
        at_i (inl same) =
            ap (λ x. child_of x other) (at_inner ns i sort lt)
            ∙ subst (λ x. child_of (with_child (get_or ns i blank) sort (length ns)) x ≡ Some (length ns)) same (child_same (get_or ns i blank) sort (length ns))
            ∙ ap (λ x. Some x) (sym len)
            ∙ sym (number_last s ss)
            ∙ ap (number_at (s ∷ ss)) (sym (wrapped_push s ss i other (omega arith) ∙ subst (λ x. wrapped_no ss i x ≡ Some s) same w))
        at_i (inr ne) =
            ap (λ x. child_of x other) (at_inner ns i sort lt)
            ∙ child_other (get_or ns i blank) sort other (length ns) ne
            ∙ h.children i other
            ∙ sym (number_other s ss (wrapped_no ss i other) (λ e2. ne (wrapped_once ss i i sort other s h.different w e2).0))
            ∙ ap (number_at (s ∷ ss)) (sym (wrapped_push s ss i other (omega arith)))

-- and it is kept as the others are
pub kept_grown : (ss : List Shape) (ns : List ShapeNode) (i : ℕ) (sort : Sort) (s : Shape) → IsTable ss ns → length ss ≡ length ns → i < length ns → length ns < 4294967295 → wrapped_no ss i sort ≡ Some s → number_in ss s ≡ None → IsTable (s ∷ ss) (grown ns i sort)
kept_grown ss ns i sort s h len lt few w lacks = record {
  unit_first = λ some. let is = h.unit_first (omega arith) in shape_no_push s ss 0 (omega arith) ∙ is;
  int_next = λ some. let is = h.int_next (omega arith) in shape_no_push s ss 1 (shape_no_below ss 1 (owned_shape int) is) ∙ is;
  made = grown_made ss ns i sort s h len lt w;
  children = grown_children ss ns i sort s h len lt w lacks;
  different = once_push s ss lacks h.different;
  few = omega (arith, length_grown ns i sort);
}

-- WHAT CONTRACTS SEE

wrapped_below : (ss : List Shape) (i : ℕ) (sort : Sort) (s : Shape) → wrapped_no ss i sort ≡ Some s → i < length ss
wrapped_below ss i sort s h = by (shape_no ss i) refl h
  where
    by : (o : Option Shape) → shape_no ss i ≡ o → wrapped_in o sort ≡ Some s → i < length ss
    by None is g = absurd cc
    by (Some a) is g = shape_no_below ss i a is

inner_inside : (ss : List Shape) (i : ℕ) (sort : Sort) → IsSome (wrapped_no ss i sort) → i < length ss
inner_inside ss i sort h = by (shape_no ss i) refl h
  where
    by : (o : Option Shape) → shape_no ss i ≡ o → IsSome (wrapped_in o sort) → i < length ss
    by None is g = absurd cc
    by (Some a) is g = shape_no_below ss i a is

-- the shape that another is to be made of is there
pub inner_here : (ns : List ShapeNode) (ss : List Shape) (i : ℕ) (sort : Sort) → shapes_of ns ≡ ss → IsSome (wrapped_no ss i sort) → i < length ns
inner_here ns ss i sort e some = omega (arith, length_shapes ns, ap length e, inner_inside ss i sort some)

-- what the code reads there is the number of what is made of it
pub child_seen : (ns : List ShapeNode) (ss : List Shape) (i : ℕ) (sort : Sort) (x : ShapeNode) (r : Option ℕ) → IsTable (shapes_of ns) ns → shapes_of ns ≡ ss → i < length ns → x ≡ get_or ns i x → r ≡ child_of x sort → number_at ss (wrapped_no ss i sort) ≡ r
child_seen ns ss i sort x r h e lt is same =
    subst (λ (l : List Shape). number_at l (wrapped_no l i sort) ≡ r) e
    (sym (h.children i sort) ∙ ap (λ y. child_of y sort) (sym (is ∙ get_or_default ns i x blank lt)) ∙ sym same)

-- where it is there already
pub held_number : (ss : List Shape) (o : Option Shape) (n : ℕ) → number_at ss o ≡ Some n → shape_no ss n ≡ o
held_number ss None n h = absurd cc
held_number ss (Some s) n h = number_has ss s n h

pub held_same : (ss : List Shape) (o : Option Shape) (n : ℕ) → number_at ss o ≡ Some n → ss ≡ with_shape ss o
held_same ss None n h = absurd cc
held_same ss (Some s) n h = ap (λ x. with_new x s ss) (sym h)

-- where it is new
pub record IsHeld (ns ns2 : List ShapeNode) (ss : List Shape) (o : Option Shape) (last : ℕ) : Type 0 where
  pub kept : IsTable (shapes_of ns2) ns2
  pub number : shape_no (shapes_of ns2) last ≡ o
  pub held : shapes_of ns2 ≡ with_shape ss o
  pub keeps : Keeps ss (shapes_of ns2)

push_held : (ns : List ShapeNode) (i : ℕ) (sort : Sort) (o : Option Shape) → IsTable (shapes_of ns) ns → i < length ns → length ns < 4294967295 → wrapped_no (shapes_of ns) i sort ≡ o → IsSome o → number_at (shapes_of ns) o ≡ None → IsHeld ns (grown ns i sort) (shapes_of ns) o (length ns)
push_held ns i sort None h lt few w some lacks = absurd cc
push_held ns i sort (Some s) h lt few w some lacks =
    let seen = shapes_grown ns i sort s lt w in
    record {
      kept = subst (λ l. IsTable l (grown ns i sort)) (sym seen) (kept_grown (shapes_of ns) ns i sort s h (length_shapes ns) lt few w lacks);
      number = subst (λ l. shape_no l (length ns) ≡ Some s) (sym seen) (shape_no_last s (shapes_of ns) (length ns) (sym (length_shapes ns)));
      held = seen ∙ ap (λ x. with_new x s (shapes_of ns)) (sym lacks);
      keeps = subst (λ l. Keeps (shapes_of ns) l) (sym seen) (record { longer = omega arith; same = λ n less. shape_no_push s (shapes_of ns) n less });
    }

pub new_held : (ns ns1 : List ShapeNode) (ss : List Shape) (i number : ℕ) (sort : Sort) (x y : ShapeNode) (r : Option ℕ) → IsTable (shapes_of ns) ns → shapes_of ns ≡ ss → IsSome (wrapped_no ss i sort) → number_at ss (wrapped_no ss i sort) ≡ r → r ≡ None → length ns < 4294967295 → number ≡ length ns → ns1 ≡ ns ++ leaf (Around sort i) ∷ [] → x ≡ get_or ns1 i x → y ≡ with_child x sort number → IsHeld ns (set ns1 i y) ss (wrapped_no ss i sort) number
new_held ns ns1 ss i number sort x y r h e some lacks none few at pushed is noted =
    let lt = inner_here ns ss i sort e some in
    let same : x ≡ get_or ns i blank =
    subst (λ (l : List ShapeNode). x ≡ get_or l i x) pushed is
    ∙ get_or_append_left ns (leaf (Around sort i) ∷ []) x i lt
    ∙ get_or_default ns i x blank lt in
    let all : set ns1 i y ≡ grown ns i sort =
    ap (λ (l : List ShapeNode). set l i y) pushed
    ∙ ap (set (ns ++ leaf (Around sort i) ∷ []) i) (noted ∙ ap (λ z. with_child z sort number) same ∙ ap (with_child (get_or ns i blank) sort) at) in
    subst (λ (l : List ShapeNode). IsHeld ns l ss (wrapped_no ss i sort) number) (sym all)
    (subst (λ (n : ℕ). IsHeld ns (grown ns i sort) ss (wrapped_no ss i sort) n) (sym at)
    (subst (λ (l : List Shape). IsSome (wrapped_no l i sort) → number_at l (wrapped_no l i sort) ≡ None → IsHeld ns (grown ns i sort) l (wrapped_no l i sort) (length ns)) e
    (λ some2 lacks2. push_held ns i sort (wrapped_no (shapes_of ns) i sort) h lt few refl some2 lacks2) some (lacks ∙ none)))

-- OWNED TYPES

none_around : (ss : List Shape) (ns : List ShapeNode) (sort : Sort) (o : Option Shape) → IsTable ss ns → length ss ≡ length ns → number_at ss o ≡ None → number_at ss (wrapped_in o sort) ≡ None
none_around ss ns sort None h len lacks = refl
none_around ss ns sort (Some a) h len lacks = by (wrapped sort a) refl
  where
    by : (o : Option Shape) → wrapped sort a ≡ o → number_at ss o ≡ None
    by None is = refl
    by (Some t) is = lacks_around ss ns sort a t h len is lacks

-- where what a shape is made of has no number, neither has the shape
pub around_none : (ns : List ShapeNode) (ss : List Shape) (sort : Sort) (o : Option Shape) → IsTable (shapes_of ns) ns → shapes_of ns ≡ ss → number_at ss o ≡ None → None ≡ number_at ss (wrapped_in o sort)
around_none ns ss sort o h e lacks =
    sym (subst (λ l. number_at l o ≡ None → number_at l (wrapped_in o sort) ≡ None) e (none_around (shapes_of ns) ns sort o h (length_shapes ns)) lacks)

-- and where it has one, the shape is found by it
pub around_some : (ss : List Shape) (sort : Sort) (o : Option Shape) (n : ℕ) → number_at ss o ≡ Some n → number_at ss (wrapped_no ss n sort) ≡ number_at ss (wrapped_in o sort)
around_some ss sort o n is = ap (number_at ss) (ap (λ x. wrapped_in x sort) (held_number ss o n is))

-- the first two
pub unit_number : (ns : List ShapeNode) (ss : List Shape) → IsTable (shapes_of ns) ns → shapes_of ns ≡ ss → 0 < length ns → Some 0 ≡ number_in ss (owned_shape unit)
unit_number ns ss h e some = sym (subst (λ l. number_in l (owned_shape unit) ≡ Some 0) e (h.different 0 (owned_shape unit) (h.unit_first (omega (arith, length_shapes ns)))))

pub int_number : (ns : List ShapeNode) (ss : List Shape) → IsTable (shapes_of ns) ns → shapes_of ns ≡ ss → 0 < length ns → Some 1 ≡ number_in ss (owned_shape int)
int_number ns ss h e some = sym (subst (λ l. number_in l (owned_shape int) ≡ Some 1) e (h.different 1 (owned_shape int) (h.int_next (omega (arith, length_shapes ns)))))

-- where there is none
pub no_number : (ns : List ShapeNode) (ss : List Shape) (s : Shape) → shapes_of ns ≡ ss → length ns ≡ 0 → None ≡ number_in ss s
no_number [] ss s e none = ap (λ l. number_in l s) e
no_number (n ∷ ns) ss s e none = absurd (omega arith)

pub unit_shape : (ns : List ShapeNode) (ss : List Shape) → IsTable (shapes_of ns) ns → shapes_of ns ≡ ss → 0 < length ns → shape_no ss 0 ≡ Some (owned_shape unit)
unit_shape ns ss h e some = subst (λ l. shape_no l 0 ≡ Some (owned_shape unit)) e (h.unit_first (omega (arith, length_shapes ns)))

pub int_shape : (ns : List ShapeNode) (ss : List Shape) → IsTable (shapes_of ns) ns → shapes_of ns ≡ ss → 0 < length ns → shape_no ss 1 ≡ Some (owned_shape int)
int_shape ns ss h e some = subst (λ l. shape_no l 1 ≡ Some (owned_shape int)) e (h.int_next (omega (arith, length_shapes ns)))

-- which of them are owned types'
owned_in : (sort : Sort) (o : Option Shape) (s : Shape) → wrapped_in o sort ≡ Some s → is_owned_made (Around sort 0) ≡ is_owned_shape (Some s)
owned_in sort None s h = absurd cc
owned_in Box (Some (owned_shape o)) s h = ap is_owned_shape h
owned_in Mutex (Some (owned_shape o)) s h = ap is_owned_shape h
owned_in Task (Some (owned_shape o)) s h = ap is_owned_shape h
owned_in Shared (Some a) s h = ap is_owned_shape h
owned_in Mut (Some a) s h = ap is_owned_shape h
owned_in _ (Some _) s h = absurd cc

made_around : (sort : Sort) (i : ℕ) → is_owned_made (Around sort i) ≡ is_owned_made (Around sort 0)
made_around Box i = refl
made_around Mutex i = refl
made_around Task i = refl
made_around Shared i = refl
made_around Mut i = refl

owned_made : (ss : List Shape) (m : Made) (s : Shape) → made_in ss m ≡ Some s → is_owned_made m ≡ is_owned_shape (Some s)
owned_made ss Unit s h = ap is_owned_shape h
owned_made ss Int s h = ap is_owned_shape h
owned_made ss (Around sort i) s h = made_around sort i ∙ owned_in sort (shape_no ss i) s h

-- what the code reads of a number
pub made_seen : (ns : List ShapeNode) (ss : List Shape) (n : ℕ) (x : ShapeNode) → IsTable (shapes_of ns) ns → shapes_of ns ≡ ss → n < length ss → x ≡ get_or ns n x → (s : Shape) × (shape_no ss n ≡ Some s) × (made_in ss x.made ≡ Some s)
made_seen ns ss n x h e lt is =
    let lt2 : n < length ns = omega (arith, length_shapes ns, ap length e) in
    let there = shape_no_there ss n lt in
    let same : x ≡ get_or ns n blank = is ∙ get_or_default ns n x blank lt2 in
    let made : made_in ss (get_or ns n blank).made ≡ shape_no ss n = subst (λ (l : List Shape). made_in l (get_or ns n blank).made ≡ shape_no l n) e (h.made n lt2) in
    (there.0, there.1, ap (λ (y : ShapeNode). made_in ss y.made) same ∙ made ∙ there.1)

pub owned_seen : (ns : List ShapeNode) (ss : List Shape) (n : ℕ) (x : ShapeNode) → IsTable (shapes_of ns) ns → shapes_of ns ≡ ss → n < length ss → x ≡ get_or ns n x → is_owned_made x.made ≡ is_owned_shape (shape_no ss n)
owned_seen ns ss n x h e lt is =
    let m = made_seen ns ss n x h e lt is in
    owned_made ss x.made m.0 m.2 ∙ ap is_owned_shape (sym m.1)

inner_made : (ss : List Shape) (m : Made) (s : Shape) (i : ℕ) → made_in ss m ≡ Some s → inner_of m ≡ Some i → i < length ss
inner_made ss Unit s i h is = absurd cc
inner_made ss Int s i h is = absurd cc
inner_made ss (Around Box k) s i h is = let same : k ≡ i = cc in subst (λ n. n < length ss) same (wrapped_below ss k Box s h)
inner_made ss (Around Mutex k) s i h is = absurd cc
inner_made ss (Around Task k) s i h is = absurd cc
inner_made ss (Around Shared k) s i h is = let same : k ≡ i = cc in subst (λ n. n < length ss) same (wrapped_below ss k Shared s h)
inner_made ss (Around Mut k) s i h is = let same : k ≡ i = cc in subst (λ n. n < length ss) same (wrapped_below ss k Mut s h)

pub inner_there : (ns : List ShapeNode) (ss : List Shape) (n : ℕ) (x : ShapeNode) (r : Option ℕ) → IsTable (shapes_of ns) ns → shapes_of ns ≡ ss → n < length ss → x ≡ get_or ns n x → r ≡ inner_of x.made → IsNumber ss r
inner_there ns ss n x None h e lt is same = tt
inner_there ns ss n x (Some i) h e lt is same = let m = made_seen ns ss n x h e lt is in inner_made ss x.made m.0 i m.2 (sym same)

-- a star leads to the number that it has
pub inner_seen : (ns : List ShapeNode) (ss : List Shape) (n : ℕ) (x : ShapeNode) → IsTable (shapes_of ns) ns → shapes_of ns ≡ ss → n < length ss → x ≡ get_or ns n x → shape_of_no ss (inner_of x.made) ≡ star_shape (shape_no ss n)
inner_seen ns ss n x h e lt is =
    let m = made_seen ns ss n x h e lt is in
    inner_star ss x.made m.0 m.2 ∙ ap star_shape (sym m.1)
