-- The shapes of places.
use Rattle.std.proofs.Common.{◌≡◌, ℕ, zero, suc, ◌<◌, ◌≤◌, List, [], ◌∷◌, length, get_or, Option, None, refl, sym, ap, ◌∙◌, subst, arith}
use Rattle.std.specs.Prelude.{◌==◌, if◌then◌else◌}
use Rattle.fr_base.specs.declared.place.Lval.{Lval}
use Rattle.fr_terms.specs.Terms.{Text}
use Rattle.fr_typing.specs.Kinds.{Kind, own, shared, mutable, view, Piece, whole, gone, boxed, map_some}
use Rattle.fr_typing.specs.Places.{Env, Shape, shared_to, mutable_to, same_owned_shape, first_shape, kind_shape, piece_shape, star_shape, stars_shape, shape_at, kind_places, piece_places, AreBelow}
use Rattle.fr_typing.proofs.PlaceLemmas.{eq_cases, AreBelow-weaker, ShapesSame, first_same, shape_at-push}
use Rattle.fr_types.specs.States.{Held, slot_view, env_of, part_in, AreNested}
use Rattle.fr_types.proofs.LookLemmas.{length-env_of}

-- PLACES

-- stars on no shape
pub stars_none : (n : ℕ) → stars_shape n None ≡ None
stars_none zero = refl
stars_none (suc n) = ap star_shape (stars_none n)

kind_same : (n : ℕ) (a b : Lval → Option Shape) (k : Kind) → ShapesSame n a b → AreBelow n (kind_places k) → kind_shape a k ≡ kind_shape b k
kind_same n a b (own o) s h = refl
kind_same n a b (view o) s h = refl
kind_same n a b (shared us) s h = ap (map_some shared_to) (first_same n a b us s h)
kind_same n a b (mutable us) s h = ap (map_some mutable_to) (first_same n a b us s h)

-- so parts have the shapes that lower places have
pub piece_same : (n : ℕ) (a b : Lval → Option Shape) (p : Piece) → ShapesSame n a b → AreBelow n (piece_places p) → piece_shape a p ≡ piece_shape b p
piece_same n a b (whole k) s h = kind_same n a b k s h
piece_same n a b (gone k) s h = kind_same n a b k s h
piece_same n a b (boxed p) s h = ap same_owned_shape (piece_same n a b p s h)

-- a slot's part names only lower slots
pub part_below : (n : ℕ) (vs : List Held) (i : ℕ) → AreNested vs → i < length vs → length vs ≤ n → AreBelow n (piece_places (part_in vs i))
part_below n [] i h lt le = absurd (omega arith)
part_below n (s ∷ below) i h lt le =
    eq_cases (λ b. AreBelow n (piece_places (if b then s.part else part_in below i))) i (length below)
    (λ e. AreBelow-weaker (length below) n (piece_places s.part) (omega arith) h.0)
    (λ ne. part_below n below i h.1 (omega arith) (omega arith))

-- one star more is a star on the shape
pub shape_star : (e : Env) (i n : ℕ) → i < length e → shape_at e (record { slot = i; depth = suc n }) ≡ star_shape (shape_at e (record { slot = i; depth = n }))
shape_star [] i n lt = absurd (omega arith)
shape_star (s ∷ below) i n lt =
    eq_cases (λ b. (if b then star_shape (stars_shape n (piece_shape (shape_at below) s.part)) else shape_at below (record { slot = i; depth = suc n })) ≡ star_shape (if b then stars_shape n (piece_shape (shape_at below) s.part) else shape_at below (record { slot = i; depth = n }))) i (length below)
    (λ e. refl) (λ ne. shape_star below i n (omega arith))

-- a place without a star has the shape of its slot's part
pub shape_start : (names : List Text) (vs : List Held) (i : ℕ) → AreNested vs → i < length vs → shape_at (env_of names vs) (record { slot = i; depth = 0 }) ≡ piece_shape (shape_at (env_of names vs)) (part_in vs i)
shape_start names [] i h lt = absurd (omega arith)
shape_start names (s ∷ below) i h lt =
    let same : ShapesSame (length below) (shape_at (env_of names below)) (shape_at (env_of names (s ∷ below))) = λ v less. sym (shape_at-push (slot_view names s) (env_of names below) v (subst (λ n. v.slot < n) (sym (length-env_of names below)) less)) in
    subst (λ n. (if i == n then piece_shape (shape_at (env_of names below)) s.part else shape_at (env_of names below) (record { slot = i; depth = 0 })) ≡ piece_shape (shape_at (env_of names (s ∷ below))) (if i == length below then s.part else part_in below i)) (sym (length-env_of names below))
    (eq_cases (λ b. (if b then piece_shape (shape_at (env_of names below)) s.part else shape_at (env_of names below) (record { slot = i; depth = 0 })) ≡ piece_shape (shape_at (env_of names (s ∷ below))) (if b then s.part else part_in below i)) i (length below)
    (λ e. piece_same (length below) (shape_at (env_of names below)) (shape_at (env_of names (s ∷ below))) s.part same h.0)
    (λ ne.
    let less : i < length below = omega arith in
    shape_start names below i h.1 less
    ∙ piece_same (length below) (shape_at (env_of names below)) (shape_at (env_of names (s ∷ below))) (part_in below i) same (part_below (length below) below i h.1 less (omega arith))))

-- REFERENCES

-- the first place of a set has its shape
pub first_place : (look : Lval → Option Shape) (us : List Lval) (d : Lval) → 0 < length us → first_shape look us ≡ look (get_or us 0 d)
first_place look [] d h = absurd (omega arith)
first_place look (u ∷ us) d h = refl
