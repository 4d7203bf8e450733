-- The shapes of an environment's slots.
use Rattle.std.proofs.Common.{◌≡◌, ℕ, suc, ◌<◌, ◌≤◌, Bool, true, false, List, [], ◌∷◌, ◌++◌, length, get_or, set, Option, Some, None, refl, sym, ap, ◌∙◌, subst, arith, ⊎_elim}
use Rattle.std.specs.Prelude.{◌==◌, IfSome, if◌then◌else◌}
use Rattle.fr_base.specs.declared.place.Lval.{Lval}
use Rattle.fr_terms.specs.Terms.{Text}
use Rattle.fr_typing.specs.Kinds.{Kind, own, shared, mutable, view, Piece, whole, gone, boxed, map_some}
use Rattle.fr_typing.specs.Places.{Shape, shared_to, mutable_to, same_owned_shape, first_shape, kind_shape, piece_shape, stars_shape, shape_at, piece_places, AreBelow, equal_shapes}
use Rattle.fr_typing.specs.Checks.{has_shape_of}
use Rattle.fr_typing.proofs.PlaceLemmas.{eq_cases, AreBelow-weaker, ShapesSame}
use Rattle.fr_types.specs.declared.types.Part.{Part}
use Rattle.fr_types.specs.declared.variable.Variable.{Variable}
use Rattle.fr_types.specs.Types.{piece_of}
use Rattle.fr_types.specs.Inside.{held_of, newest}
use Rattle.fr_types.specs.States.{Held, env_of, part_in, put_in, AreNested}
use Rattle.fr_types.specs.SlotShapes.{slot_shape, place_shape, shapes_in, Known, with_part, without_last, with_change, known_same, known_fits, known_places, AreShapes}
use Rattle.fr_types.proofs.EnvLemmas.{length_newest, newest-push, part_in-newest, put_in-newest}
use Rattle.fr_types.proofs.LookLemmas.{length-env_of}
use Rattle.fr_types.proofs.ShapeLemmas.{piece_same, part_below, stars_none}
use Rattle.fr_types.proofs.ShapeTableLemmas.{shape_cases}
use Rattle.fr_types.proofs.NumberedLemmas.{slot_shape-past}
use Rattle.std.proofs.lemmas.Bool.{cases_lt}

-- PLACES

abbrev AllSame : (Lval → Option Shape) → (Lval → Option Shape) → Type 0
AllSame a b = (u : Lval) → a u ≡ b u

first_all : (a b : Lval → Option Shape) (us : List Lval) → AllSame a b → first_shape a us ≡ first_shape b us
first_all a b [] s = refl
first_all a b (u ∷ us) s = s u

kind_all : (a b : Lval → Option Shape) (k : Kind) → AllSame a b → kind_shape a k ≡ kind_shape b k
kind_all a b (own o) s = refl
kind_all a b (view o) s = refl
kind_all a b (shared us) s = ap (map_some shared_to) (first_all a b us s)
kind_all a b (mutable us) s = ap (map_some mutable_to) (first_all a b us s)

piece_all : (a b : Lval → Option Shape) (p : Piece) → AllSame a b → piece_shape a p ≡ piece_shape b p
piece_all a b (whole k) s = kind_all a b k s
piece_all a b (gone k) s = kind_all a b k s
piece_all a b (boxed p) s = ap same_owned_shape (piece_all a b p s)

length-shapes_in : (vs : List Held) → length (shapes_in vs) ≡ length vs
length-shapes_in [] = refl
length-shapes_in (s ∷ below) = ap suc (length-shapes_in below)

-- places have the shapes that typing gives them
pub look_same : (names : List Text) (vs : List Held) (u : Lval) → place_shape (shapes_in vs) u ≡ shape_at (env_of names vs) u
look_same names [] u = stars_none u.depth
look_same names (s ∷ below) u =
    subst (λ n. stars_shape u.depth (if u.slot == length (shapes_in below) then piece_shape (place_shape (shapes_in below)) s.part else slot_shape (shapes_in below) u.slot) ≡ (if u.slot == n then stars_shape u.depth (piece_shape (shape_at (env_of names below)) s.part) else shape_at (env_of names below) u)) (length-shapes_in below ∙ sym (length-env_of names below))
    (eq_cases (λ b. stars_shape u.depth (if b then piece_shape (place_shape (shapes_in below)) s.part else slot_shape (shapes_in below) u.slot) ≡ (if b then stars_shape u.depth (piece_shape (shape_at (env_of names below)) s.part) else shape_at (env_of names below) u)) u.slot (length (shapes_in below))
    (λ e. ap (stars_shape u.depth) (piece_all (place_shape (shapes_in below)) (shape_at (env_of names below)) s.part (look_same names below)))
    (λ ne. look_same names below u))

-- CHANGES

pub shaped_push : (vs : List Held) (s : Held) (k : Known) → AreShapes vs k → AreShapes (s ∷ vs) (with_part k s.part)
shaped_push vs s None h = tt
shaped_push vs s (Some ss) h = ap (λ l. piece_shape (place_shape l) s.part ∷ l) h

pub shaped_pop : (vs : List Held) (s : Held) (k : Known) → AreShapes (s ∷ vs) k → AreShapes vs (without_last k)
shaped_pop vs s None h = tt
shaped_pop vs s (Some []) h = absurd cc
shaped_pop vs s (Some (t ∷ ss)) h = cc

look_push : (x : Option Shape) (vs : List Held) → ShapesSame (length vs) (place_shape (x ∷ shapes_in vs)) (place_shape (shapes_in vs))
look_push x vs u lt =
    eq_cases (λ b. stars_shape u.depth (if b then x else slot_shape (shapes_in vs) u.slot) ≡ place_shape (shapes_in vs) u) u.slot (length (shapes_in vs))
    (λ e. absurd (omega (arith, length-shapes_in vs))) (λ ne. refl)

lower_same : (x : Option Shape) (vs : List Held) (p q : Piece) → AreBelow (length vs) (piece_places p) → AreBelow (length vs) (piece_places q) → piece_shape (place_shape (x ∷ shapes_in vs)) p ≡ piece_shape (place_shape (x ∷ shapes_in vs)) q → piece_shape (place_shape (shapes_in vs)) p ≡ piece_shape (place_shape (shapes_in vs)) q
lower_same x vs p q a b e =
    sym (piece_same (length vs) (place_shape (x ∷ shapes_in vs)) (place_shape (shapes_in vs)) p (look_push x vs) a)
    ∙ e
    ∙ piece_same (length vs) (place_shape (x ∷ shapes_in vs)) (place_shape (shapes_in vs)) q (look_push x vs) b

-- a part of the same shape changes no slot's shape
shapes_put : (vs : List Held) (slot : ℕ) (q : Piece) → AreNested vs → slot < length vs → AreBelow slot (piece_places q) → piece_shape (place_shape (shapes_in vs)) (part_in vs slot) ≡ piece_shape (place_shape (shapes_in vs)) q → shapes_in (put_in vs slot q) ≡ shapes_in vs
shapes_put [] slot q h lt below e = refl
shapes_put (s ∷ vs) slot q h lt below e =
    eq_cases (λ b. piece_shape (place_shape (shapes_in (s ∷ vs))) (if b then s.part else part_in vs slot) ≡ piece_shape (place_shape (shapes_in (s ∷ vs))) q → shapes_in (if b then record s { part = q } ∷ vs else s ∷ put_in vs slot q) ≡ shapes_in (s ∷ vs)) slot (length vs)
    (λ at same.
    ap (λ x. x ∷ shapes_in vs) (sym (lower_same (piece_shape (place_shape (shapes_in vs)) s.part) vs s.part q h.0 (subst (λ n. AreBelow n (piece_places q)) at below) same)))
    (λ ne same.
    let less : slot < length vs = omega arith in
    ap (λ l. piece_shape (place_shape l) s.part ∷ l)
    (shapes_put vs slot q h.1 less below
    (lower_same (piece_shape (place_shape (shapes_in vs)) s.part) vs (part_in vs slot) q (part_below (length vs) vs slot h.1 less (omega arith)) (AreBelow-weaker slot (length vs) (piece_places q) (omega arith) below) same)))
    e

equal_is : (o p : Option Shape) → equal_shapes o p ≡ true → o ≡ p
equal_is None None h = absurd cc
equal_is None (Some b) h = absurd cc
equal_is (Some a) None h = absurd cc
equal_is (Some a) (Some b) h = shape_cases (λ x. x ≡ true → Some a ≡ Some b) a b (λ e g. ap (λ x. Some x) e) (λ ne g. absurd cc) h

-- another part at a slot
pub shaped_change : (vs : List Held) (slot : ℕ) (q : Piece) (k : Known) → AreNested vs → slot < length vs → AreBelow slot (piece_places q) → AreShapes vs k → AreShapes (put_in vs slot q) (with_change k (part_in vs slot) q)
shaped_change vs slot q None h lt below shaped = tt
shaped_change vs slot q (Some ss) h lt below shaped = by (equal_shapes (piece_shape (place_shape ss) (part_in vs slot)) (piece_shape (place_shape ss) q)) refl
  where
    by : (b : Bool) → equal_shapes (piece_shape (place_shape ss) (part_in vs slot)) (piece_shape (place_shape ss) q) ≡ b → AreShapes (put_in vs slot q) (if b then Some ss else None)
    by false is = tt
    by true is =
        let same = equal_is (piece_shape (place_shape ss) (part_in vs slot)) (piece_shape (place_shape ss) q) is in
        shaped ∙ sym (shapes_put vs slot q h lt below (subst (λ l. piece_shape (place_shape l) (part_in vs slot) ≡ piece_shape (place_shape l) q) shaped same))

-- COMPARISONS

pub same_seen : (names : List Text) (vs all : List Held) (k : Known) (a b : Kind) (r : Option Bool) → AreShapes vs k → vs ≡ all → r ≡ known_same k a b → IfSome r (λ same. same ≡ equal_shapes (kind_shape (shape_at (env_of names all)) a) (kind_shape (shape_at (env_of names all)) b))
same_seen names vs all k a b None h e is = tt
same_seen names vs all None a b (Some same) h e is = absurd cc
same_seen names vs all (Some ss) a b (Some same) h e is =
    let look : AllSame (place_shape ss) (shape_at (env_of names all)) = λ u. ap (λ l. place_shape l u) h ∙ look_same names vs u ∙ ap (λ (l : List Held). shape_at (env_of names l) u) e in
    let known : same ≡ equal_shapes (kind_shape (place_shape ss) a) (kind_shape (place_shape ss) b) = cc in
    known
    ∙ ap (λ s. equal_shapes s (kind_shape (place_shape ss) b)) (kind_all (place_shape ss) (shape_at (env_of names all)) a look)
    ∙ ap (equal_shapes (kind_shape (shape_at (env_of names all)) a)) (kind_all (place_shape ss) (shape_at (env_of names all)) b look)

pub fits_seen : (names : List Text) (vs all : List Held) (k : Known) (p : Piece) (m : Kind) (r : Option Bool) → AreShapes vs k → vs ≡ all → r ≡ known_fits k p m → IfSome r (λ same. same ≡ has_shape_of (env_of names all) p m)
fits_seen names vs all k p m None h e is = tt
fits_seen names vs all None p m (Some same) h e is = absurd cc
fits_seen names vs all (Some ss) p m (Some same) h e is =
    let look : AllSame (place_shape ss) (shape_at (env_of names all)) = λ u. ap (λ l. place_shape l u) h ∙ look_same names vs u ∙ ap (λ (l : List Held). shape_at (env_of names l) u) e in
    let known : same ≡ equal_shapes (piece_shape (place_shape ss) p) (kind_shape (place_shape ss) m) = cc in
    known
    ∙ ap (λ s. equal_shapes s (kind_shape (place_shape ss) m)) (piece_all (place_shape ss) (shape_at (env_of names all)) p look)
    ∙ ap (equal_shapes (piece_shape (shape_at (env_of names all)) p)) (kind_all (place_shape ss) (shape_at (env_of names all)) m look)

pub places_seen : (names : List Text) (vs all : List Held) (k : Known) (u v : Lval) (r : Option Bool) → AreShapes vs k → vs ≡ all → r ≡ known_places k u v → IfSome r (λ same. same ≡ equal_shapes (shape_at (env_of names all) u) (shape_at (env_of names all) v))
places_seen names vs all k u v None h e is = tt
places_seen names vs all None u v (Some same) h e is = absurd cc
places_seen names vs all (Some ss) u v (Some same) h e is =
    let look : AllSame (place_shape ss) (shape_at (env_of names all)) = λ w. ap (λ l. place_shape l w) h ∙ look_same names vs w ∙ ap (λ (l : List Held). shape_at (env_of names l) w) e in
    let known : same ≡ equal_shapes (place_shape ss u) (place_shape ss v) = cc in
    known ∙ ap (λ s. equal_shapes s (place_shape ss v)) (look u) ∙ ap (equal_shapes (shape_at (env_of names all) u)) (look v)

-- no place starts at a slot that isn't there
pub place_past : (names : List Text) (vs : List Held) (u : Lval) → (u.slot < length vs → ⊥) → shape_at (env_of names vs) u ≡ None
place_past names vs u h =
    sym (look_same names vs u)
    ∙ ap (stars_shape u.depth) (slot_shape-past (shapes_in vs) u.slot (⊎_elim (λ (z : u.slot < length vs). absurd (h z)) (λ (z : length vs ≤ u.slot). omega (arith, z, length-shapes_in vs)) (cases_lt u.slot (length vs))))
    ∙ stars_none u.depth

-- WHAT THE CODE KEEPS

shaped_same : (vs ws : List Held) (k j : Known) → vs ≡ ws → j ≡ k → AreShapes ws k → AreShapes vs j
shaped_same vs ws k j e f h = subst (λ l. AreShapes l j) (sym e) (subst (AreShapes ws) (sym f) h)

pub copy_shaped : (vs ws : List Variable) (k j : Known) → newest vs ≡ newest ws → j ≡ k → AreShapes (newest ws) k → AreShapes (newest vs) j
copy_shaped vs ws k j e f h = shaped_same (newest vs) (newest ws) k j e f h

pub push_shaped : (vs ws : List Variable) (v : Variable) (k j : Known) → AreShapes (newest vs) k → ws ≡ vs ++ v ∷ [] → j ≡ with_part k (piece_of v.part) → AreShapes (newest ws) j
push_shaped vs ws v k j h e f =
    shaped_same (newest ws) (held_of v ∷ newest vs) (with_part k (piece_of v.part)) j (ap newest e ∙ newest-push vs v) f (shaped_push (newest vs) (held_of v) k h)

pub pop_shaped : (vs ws : List Variable) (v : Variable) (k j : Known) → AreShapes (newest vs) k → vs ≡ ws ++ v ∷ [] → j ≡ without_last k → AreShapes (newest ws) j
pop_shaped vs ws v k j h e f =
    shaped_same (newest ws) (newest ws) (without_last k) j refl f
    (shaped_pop (newest ws) (held_of v) k (subst (λ l. AreShapes l k) (ap newest e ∙ newest-push ws v) h))

pub set_shaped : (vs : List Variable) (i : ℕ) (x v : Variable) (p q : Part) (k j : Known) → AreNested (newest vs) → AreShapes (newest vs) k → i < length vs → AreBelow i (piece_places (piece_of q)) → x ≡ get_or vs i x → v ≡ get_or vs i v → p ≡ q → j ≡ with_change k (piece_of x.part) (piece_of q) → AreShapes (newest (set vs i (record v { part = p }))) j
set_shaped vs i x v p q k j nested h lt below is at same f =
    let old : piece_of x.part ≡ part_in (newest vs) i = ap (λ (y : Variable). piece_of y.part) is ∙ sym (part_in-newest vs i x lt) in
    shaped_same (newest (set vs i (record v { part = p }))) (put_in (newest vs) i (piece_of q)) (with_change k (part_in (newest vs) i) (piece_of q)) j
    (put_in-newest vs i v p lt at ∙ ap (λ (y : Part). put_in (newest vs) i (piece_of y)) same)
    (f ∙ ap (λ y. with_change k y (piece_of q)) old)
    (shaped_change (newest vs) i (piece_of q) k nested (omega (arith, length_newest vs)) below h)
