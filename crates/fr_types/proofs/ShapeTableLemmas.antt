-- Shapes and their numbers: what a table of different shapes keeps.
use Rattle.std.proofs.Common.{◌≡◌, ◌≢◌, ◌⊎◌, ℕ, suc, ◌<◌, ◌≤◌, Bool, true, false, List, [], ◌∷◌, length, Option, Some, None, refl, sym, ap, ◌∙◌, subst, arith, inl, inr, ⊎_elim}
use Rattle.std.specs.Prelude.{◌==◌, IsSome, if◌then◌else◌}
use Rattle.fr_typing.specs.Kinds.{Owned, unit, int, box, mutex, task, same_owned}
use Rattle.fr_typing.specs.Places.{Shape, owned_shape, shared_to, mutable_to, star_shape, same_shape, equal_shapes}
use Rattle.fr_typing.specs.Checks.{owned_levels}
use Rattle.fr_typing.proofs.PlaceLemmas.{eq_cases}
use Rattle.fr_types.specs.declared.shape_node.Sort.{Sort}
use Rattle.fr_types.specs.declared.shape_node.Sort.TheVariants.{Box, Mutex, Task, Shared, Mut}
use Rattle.fr_types.specs.ShapeTables.{shape_no, shape_of_no, IsNumber, number_in, number_at, wrapped, AreDifferent}

-- EQUAL SHAPES

abbrev Tells : {A : Type 0} → Bool → A → A → Type 0
Tells b x y = ((b ≡ true) × (x ≡ y)) ⊎ ((b ≡ false) × (x ≢ y))

tells_same : {A : Type 0} (x y : A) → x ≡ y → Tells true x y
tells_same x y e = inl (refl, e)

tells_under : {A B : Type 0} (b : Bool) (f : A → B) (x y : A) → (f x ≡ f y → x ≡ y) → Tells b x y → Tells b (f x) (f y)
tells_under b f x y back h =
    ⊎_elim (λ (e : (b ≡ true) × (x ≡ y)). inl (e.0, ap f e.1)) (λ (e : (b ≡ false) × (x ≢ y)). inr (e.0, λ w. e.1 (back w))) h

owned_tells : (a b : Owned) → Tells (same_owned a b) a b
owned_tells unit unit = inl (refl, refl)
owned_tells int int = inl (refl, refl)
owned_tells (box a) (box b) = tells_under (same_owned a b) box a b (λ e. cc) (owned_tells a b)
owned_tells (mutex a) (mutex b) = tells_under (same_owned a b) mutex a b (λ e. cc) (owned_tells a b)
owned_tells (task a) (task b) = tells_under (same_owned a b) task a b (λ e. cc) (owned_tells a b)
owned_tells a b = inr (refl, λ e. absurd cc)

shape_tells : (a b : Shape) → Tells (same_shape a b) a b
shape_tells (owned_shape a) (owned_shape b) = tells_under (same_owned a b) owned_shape a b (λ e. cc) (owned_tells a b)
shape_tells (shared_to a) (shared_to b) = tells_under (same_shape a b) shared_to a b (λ e. cc) (shape_tells a b)
shape_tells (mutable_to a) (mutable_to b) = tells_under (same_shape a b) mutable_to a b (λ e. cc) (shape_tells a b)
shape_tells a b = inr (refl, λ e. absurd cc)

-- a fact of a test of shapes, by both outcomes
pub shape_cases : (P : Bool → Type 0) (a b : Shape) → (a ≡ b → P true) → (a ≢ b → P false) → P (same_shape a b)
shape_cases P a b same other =
    ⊎_elim (λ (h : (same_shape a b ≡ true) × (a ≡ b)). subst P (sym h.0) (same h.1)) (λ (h : (same_shape a b ≡ false) × (a ≢ b)). subst P (sym h.0) (other h.1)) (shape_tells a b)

-- NUMBERS

-- a number that has a shape is one of the list's
pub shape_no_below : (ss : List Shape) (n : ℕ) (s : Shape) → shape_no ss n ≡ Some s → n < length ss
shape_no_below [] n s h = absurd cc
shape_no_below (t ∷ below) n s h =
    eq_cases (λ b. (if b then Some t else shape_no below n) ≡ Some s → n < suc (length below)) n (length below)
    (λ e g. omega arith) (λ ne g. omega (arith, shape_no_below below n s g)) h

-- each number of the list has a shape
pub shape_no_there : (ss : List Shape) (n : ℕ) → n < length ss → (s : Shape) × (shape_no ss n ≡ Some s)
shape_no_there [] n h = absurd (omega arith)
shape_no_there (t ∷ below) n h =
    eq_cases (λ b. (s : Shape) × ((if b then Some t else shape_no below n) ≡ Some s)) n (length below)
    (λ e. (t, refl)) (λ ne. shape_no_there below n (omega arith))

pub number_there : (ss : List Shape) (n : ℕ) (o : Option Shape) → shape_no ss n ≡ o → IsSome o → n < length ss
number_there ss n None is some = absurd cc
number_there ss n (Some s) is some = shape_no_below ss n s is

-- a lower number's shape is below
pub shape_no_push : (s : Shape) (ss : List Shape) (n : ℕ) → n < length ss → shape_no (s ∷ ss) n ≡ shape_no ss n
shape_no_push s ss n lt = eq_cases (λ b. (if b then Some s else shape_no ss n) ≡ shape_no ss n) n (length ss) (λ e. absurd (omega arith)) (λ ne. refl)

pub shape_no_last : (s : Shape) (ss : List Shape) (n : ℕ) → n ≡ length ss → shape_no (s ∷ ss) n ≡ Some s
shape_no_last s ss n e = eq_cases (λ b. (if b then Some s else shape_no ss n) ≡ Some s) n (length ss) (λ e2. refl) (λ ne. absurd (ne e))

pub shape_no_past : (ss : List Shape) (n : ℕ) → length ss ≤ n → shape_no ss n ≡ None
shape_no_past [] n le = refl
shape_no_past (t ∷ below) n le = eq_cases (λ b. (if b then Some t else shape_no below n) ≡ None) n (length below) (λ e. absurd (omega arith)) (λ ne. shape_no_past below n (omega arith))

-- a shape's number has it
pub number_has : (ss : List Shape) (s : Shape) (n : ℕ) → number_in ss s ≡ Some n → shape_no ss n ≡ Some s
number_has [] s n h = absurd cc
number_has (t ∷ below) s n h =
    shape_cases (λ b. (if b then Some (length below) else number_in below s) ≡ Some n → shape_no (t ∷ below) n ≡ Some s) t s
    (λ e g. let at : n ≡ length below = cc in shape_no_last t below n at ∙ ap (λ x. Some x) e)
    (λ ne g. let is = number_has below s n g in shape_no_push t below n (shape_no_below below n s is) ∙ is) h

-- what has a number is found
pub number_lacks : (ss : List Shape) (s : Shape) (n : ℕ) → number_in ss s ≡ None → shape_no ss n ≡ Some s → ⊥
number_lacks [] s n h is = absurd cc
number_lacks (t ∷ below) s n h is =
    shape_cases (λ b. (if b then Some (length below) else number_in below s) ≡ None → ⊥) t s
    (λ e g. absurd cc)
    (λ ne g.
    eq_cases (λ b. (if b then Some t else shape_no below n) ≡ Some s → ⊥) n (length below)
    (λ e is2. ne cc) (λ ne2 is2. number_lacks below s n g is2) is) h

-- the shape that is new has the last number
pub number_last : (s : Shape) (ss : List Shape) → number_in (s ∷ ss) s ≡ Some (length ss)
number_last s ss = shape_cases (λ b. (if b then Some (length ss) else number_in ss s) ≡ Some (length ss)) s s (λ e. refl) (λ ne. absurd (ne refl))

-- and each other shape the number that it had
pub number_other : (s : Shape) (ss : List Shape) (o : Option Shape) → o ≢ Some s → number_at (s ∷ ss) o ≡ number_at ss o
number_other s ss None ne = refl
number_other s ss (Some t) ne = shape_cases (λ b. (if b then Some (length ss) else number_in ss t) ≡ number_in ss t) s t (λ e. absurd (ne (ap (λ x. Some x) (sym e)))) (λ ne2. refl)

-- each shape is found under its number, and so no two numbers have it
abbrev pub IsOnce : List Shape → Type 0
IsOnce ss = (n : ℕ) (s : Shape) → shape_no ss n ≡ Some s → number_in ss s ≡ Some n

pub once_push : (s : Shape) (ss : List Shape) → number_in ss s ≡ None → IsOnce ss → IsOnce (s ∷ ss)
once_push s ss lacks h n t is =
    eq_cases (λ b. (if b then Some s else shape_no ss n) ≡ Some t → number_in (s ∷ ss) t ≡ Some n) n (length ss)
    (λ e g. let same : s ≡ t = cc in subst (λ x. number_in (s ∷ ss) x ≡ Some n) same (number_last s ss ∙ ap (λ x. Some x) (sym e)))
    (λ ne g. number_other s ss (Some t) (λ e. number_lacks ss s n lacks (g ∙ e)) ∙ h n t g) is

pub are_different : (ss : List Shape) → IsOnce ss → AreDifferent ss
are_different ss h m n s is at = let a = h m s is in let b = h n s at in cc

-- SHAPES MADE OF OTHERS

abbrev unwrapped : Shape → Option (Sort × Shape)
unwrapped (owned_shape unit) = None
unwrapped (owned_shape int) = None
unwrapped (owned_shape (box o)) = Some (Box, owned_shape o)
unwrapped (owned_shape (mutex o)) = Some (Mutex, owned_shape o)
unwrapped (owned_shape (task o)) = Some (Task, owned_shape o)
unwrapped (shared_to s) = Some (Shared, s)
unwrapped (mutable_to s) = Some (Mut, s)

abbrev unwrapped_in : Option Shape → Option (Sort × Shape)
unwrapped_in None = None
unwrapped_in (Some s) = unwrapped s

-- a shape's sort and what it is made of can be read off
unwrapped_wrapped : (sort : Sort) (a s : Shape) → wrapped sort a ≡ Some s → unwrapped s ≡ Some (sort, a)
unwrapped_wrapped Box (owned_shape o) s h = ap (λ (x : Option Shape). unwrapped_in x) (sym h)
unwrapped_wrapped Mutex (owned_shape o) s h = ap (λ (x : Option Shape). unwrapped_in x) (sym h)
unwrapped_wrapped Task (owned_shape o) s h = ap (λ (x : Option Shape). unwrapped_in x) (sym h)
unwrapped_wrapped Shared a s h = ap (λ (x : Option Shape). unwrapped_in x) (sym h)
unwrapped_wrapped Mut a s h = ap (λ (x : Option Shape). unwrapped_in x) (sym h)
unwrapped_wrapped _ _ s h = absurd cc

abbrev pair_sort : Option (Sort × Shape) → Sort
pair_sort None = Box
pair_sort (Some p) = p.0

abbrev pair_shape : Option (Sort × Shape) → Shape
pair_shape None = owned_shape unit
pair_shape (Some p) = p.1

-- so equal shapes are made in one way
pub wrapped_same : (sort other : Sort) (a b s : Shape) → wrapped sort a ≡ Some s → wrapped other b ≡ Some s → (sort ≡ other) × (a ≡ b)
wrapped_same sort other a b s h g =
    let e : Some (sort, a) ≡ Some (other, b) = sym (unwrapped_wrapped sort a s h) ∙ unwrapped_wrapped other b s g in
    (ap (λ (x : Option (Sort × Shape)). pair_sort x) e, ap (λ (x : Option (Sort × Shape)). pair_shape x) e)

abbrev levels : Shape → ℕ
levels (owned_shape o) = owned_levels o
levels (shared_to s) = suc (levels s)
levels (mutable_to s) = suc (levels s)

abbrev levels_in : Option Shape → ℕ
levels_in None = 0
levels_in (Some s) = levels s

-- a shape has one level more than what it is made of
wrapped_levels : (sort : Sort) (a s : Shape) → wrapped sort a ≡ Some s → levels s ≡ suc (levels a)
wrapped_levels Box (owned_shape o) s h = ap levels_in (sym h)
wrapped_levels Mutex (owned_shape o) s h = ap levels_in (sym h)
wrapped_levels Task (owned_shape o) s h = ap levels_in (sym h)
wrapped_levels Shared a s h = ap levels_in (sym h)
wrapped_levels Mut a s h = ap levels_in (sym h)
wrapped_levels _ _ s h = absurd cc

-- so none is made of itself
pub wrapped_other : (sort : Sort) (s : Shape) → wrapped sort s ≢ Some s
wrapped_other sort s h = let e = wrapped_levels sort s s h in absurd (omega arith)

-- what a star takes a shape to
pub star_box : (a s : Shape) → wrapped Box a ≡ Some s → Some a ≡ star_shape (Some s)
star_box (owned_shape o) s h = ap star_shape h
star_box (shared_to a) s h = absurd cc
star_box (mutable_to a) s h = absurd cc

pub star_mutex : (a s : Shape) → wrapped Mutex a ≡ Some s → None ≡ star_shape (Some s)
star_mutex (owned_shape o) s h = ap star_shape h
star_mutex (shared_to a) s h = absurd cc
star_mutex (mutable_to a) s h = absurd cc

pub star_task : (a s : Shape) → wrapped Task a ≡ Some s → None ≡ star_shape (Some s)
star_task (owned_shape o) s h = ap star_shape h
star_task (shared_to a) s h = absurd cc
star_task (mutable_to a) s h = absurd cc

-- unit and int are made of nothing
pub made_of_none : (sort : Sort) (a t : Shape) → wrapped sort a ≡ Some t → (Some t ≡ Some (owned_shape unit)) ⊎ (Some t ≡ Some (owned_shape int)) → ⊥
made_of_none sort a t w h =
    let e = unwrapped_wrapped sort a t w in
    ⊎_elim (λ (g : Some t ≡ Some (owned_shape unit)). let u : None ≡ Some (sort, a) = ap (λ (x : Option Shape). unwrapped_in x) (sym g) ∙ e in absurd cc)
    (λ (g : Some t ≡ Some (owned_shape int)). let u : None ≡ Some (sort, a) = ap (λ (x : Option Shape). unwrapped_in x) (sym g) ∙ e in absurd cc) h

-- EQUAL NUMBERS

-- a number and another one have one shape exactly where they are equal
pub same_numbers : (ss : List Shape) (m n : ℕ) → IsOnce ss → m < length ss → (m == n) ≡ equal_shapes (shape_no ss m) (shape_no ss n)
same_numbers ss m n once lt =
    let there = shape_no_there ss m lt in
    by there.0 (shape_no ss n) there.1 refl ∙ ap (λ o. equal_shapes o (shape_no ss n)) (sym there.1)
  where
    some_none : (s : Shape) → Some s ≡ None → ⊥
    some_none s e = absurd cc

    some_same : (s t : Shape) → Some s ≡ Some t → s ≡ t
    some_same s t e = cc

    by : (s : Shape) (o : Option Shape) → shape_no ss m ≡ Some s → shape_no ss n ≡ o → (m == n) ≡ equal_shapes (Some s) o
    by s None is at = eq_cases (λ b. b ≡ false) m n (λ e. absurd (some_none s (sym is ∙ ap (shape_no ss) e ∙ at))) (λ ne. refl)
    by s (Some t) is at =
        shape_cases (λ b. (m == n) ≡ b) s t
        (λ e. eq_cases (λ b. b ≡ true) m n (λ e2. refl) (λ ne. absurd (ne (are_different ss once m n s is (at ∙ ap (λ x. Some x) (sym e))))))
        (λ ne. eq_cases (λ b. b ≡ false) m n (λ e2. absurd (ne (some_same s t (sym is ∙ ap (shape_no ss) e2 ∙ at)))) (λ ne2. refl))

pub same_of_numbers : (ss : List Shape) (m n : ℕ) (o p : Option ℕ) → IsOnce ss → IsNumber ss o → o ≡ Some m → p ≡ Some n → (m == n) ≡ equal_shapes (shape_of_no ss o) (shape_of_no ss p)
same_of_numbers ss m n None p once h is at = absurd cc
same_of_numbers ss m n (Some k) None once h is at = absurd cc
same_of_numbers ss m n (Some k) (Some j) once h is at =
    let a : k ≡ m = cc in
    let b : j ≡ n = cc in
    same_numbers ss m n once (subst (λ x. x < length ss) a h)
    ∙ ap (λ x. equal_shapes (shape_no ss x) (shape_no ss n)) (sym a)
    ∙ ap (λ x. equal_shapes (shape_no ss k) (shape_no ss x)) (sym b)

-- a shape that has no number is no number's
lacks_equal : (ss : List Shape) (s : Shape) (m : ℕ) → number_in ss s ≡ None → false ≡ equal_shapes (shape_no ss m) (Some s)
lacks_equal ss s m lacks = by (shape_no ss m) refl
  where
    by : (o : Option Shape) → shape_no ss m ≡ o → false ≡ equal_shapes o (Some s)
    by None is = refl
    by (Some t) is = shape_cases (λ b. false ≡ b) t s (λ e. absurd (number_lacks ss s m lacks (is ∙ ap (λ x. Some x) e))) (λ ne. refl)

none_equal : (o : Option Shape) → equal_shapes o None ≡ false
none_equal None = refl
none_equal (Some s) = refl

-- a number's shape is compared with one that may have no number
pub same_as : (ss : List Shape) (s : Shape) (m r : Option ℕ) → r ≡ number_in ss s → equal_shapes (shape_of_no ss m) (shape_of_no ss r) ≡ equal_shapes (shape_of_no ss m) (Some s)
same_as ss s m (Some n) is = ap (equal_shapes (shape_of_no ss m)) (number_has ss s n (sym is))
same_as ss s None None is = refl
same_as ss s (Some m) None is = none_equal (shape_no ss m) ∙ lacks_equal ss s m (sym is)

-- the order doesn't matter
pub same_shape_comm : (a b : Shape) → same_shape a b ≡ same_shape b a
same_shape_comm a b =
    shape_cases (λ x. x ≡ same_shape b a) a b
    (λ e. shape_cases (λ x. true ≡ x) b a (λ e2. refl) (λ ne. absurd (ne (sym e))))
    (λ ne. shape_cases (λ x. false ≡ x) b a (λ e. absurd (ne (sym e))) (λ ne2. refl))

pub equal_comm : (o p : Option Shape) → equal_shapes o p ≡ equal_shapes p o
equal_comm None None = refl
equal_comm None (Some b) = refl
equal_comm (Some a) None = refl
equal_comm (Some a) (Some b) = same_shape_comm a b
