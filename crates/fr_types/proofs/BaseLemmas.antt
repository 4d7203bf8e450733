-- Where places really are.
use Rattle.std.proofs.Common.{◌≡◌, ℕ, zero, suc, ◌+◌, ◌<◌, ◌≤◌, List, [], ◌∷◌, length, Option, Some, None, refl, sym, ap, ◌∙◌, subst, arith}
use Rattle.std.specs.Prelude.{⊤, if◌then◌else◌}
use Rattle.fr_base.specs.declared.place.Lval.{Lval}
use Rattle.fr_terms.specs.Terms.{Text}
use Rattle.fr_typing.specs.Kinds.{unit, own, shared, mutable, view, Piece, whole, gone, boxed, SetTest}
use Rattle.fr_typing.specs.Places.{Env, Found, then_found, join_set, star, stars, type_at, alike, piece_places, AreBelow, IsNested}
use Rattle.fr_typing.proofs.PlaceLemmas.{eq_cases, type_at-push, type_at-star}
use Rattle.fr_types.specs.declared.resolved.Starred.{Starred}
use Rattle.fr_types.specs.States.{Held, slot_view, env_of, part_in, AreNested}
use Rattle.fr_types.specs.Bases.{starred, under, single, target, from, base, aimed, aim, one_star}
use Rattle.fr_types.proofs.EnvLemmas.{not_here, is_here, part_in_below}
use Rattle.fr_types.proofs.LookLemmas.{length-env_of, nested_env}

abbrev pub at : ℕ → ℕ → Starred
at x n = record { slot = x; stars = n }

abbrev pub place : Starred → Lval
place w = record { slot = w.slot; depth = w.stars }

-- a place that may be there starts below n
abbrev pub StartsBelow : ℕ → Option Starred → Type 0
StartsBelow n None = ⊤
StartsBelow n (Some u) = u.slot < n

single_below : (n : ℕ) (us : List Lval) → AreBelow n us → StartsBelow n (single us)
single_below n [] h = tt
single_below n (u ∷ []) h = h.0
single_below n (u ∷ v ∷ us) h = tt

-- a reference leads below its slot
pub target_below : (n : ℕ) (p : Piece) → AreBelow n (piece_places p) → StartsBelow n (target p)
target_below n (whole (own o)) h = tt
target_below n (whole (view o)) h = tt
target_below n (whole (shared us)) h = single_below n us h
target_below n (whole (mutable us)) h = single_below n us h
target_below n (gone k) h = tt
target_below n (boxed p) h = tt

-- SLOT BY SLOT

-- one more slot changes no place below it
pub base_push : (s : Held) (below : List Held) (w : Starred) → w.slot < length below → base (s ∷ below) w ≡ base below w
base_push s below w lt = not_here w.slot (length below) (from (base below) (target s.part) w.slot w.stars) (base below w) lt

from_slot : (below : List Held) (o : Option Starred) (x n : ℕ) → ((w : Starred) → (base below w).slot ≤ w.slot) → StartsBelow x o → (from (base below) o x n).slot ≤ x
from_slot below None x n ih h = omega arith
from_slot below (Some u) x zero ih h = omega arith
from_slot below (Some u) x (suc n) ih h = let le : (base below (under u n)).slot ≤ u.slot = ih (under u n) in omega arith

-- a place is at its slot or below
pub base_slot : (vs : List Held) (w : Starred) → AreNested vs → (base vs w).slot ≤ w.slot
base_slot [] w h = omega arith
base_slot (s ∷ below) w h =
    eq_cases (λ b. (if b then from (base below) (target s.part) w.slot w.stars else base below w).slot ≤ w.slot) w.slot (length below)
    (λ e. from_slot below (target s.part) w.slot w.stars (λ u. base_slot below u h.1) (subst (λ n. StartsBelow n (target s.part)) (sym e) (target_below (length below) s.part h.0)))
    (λ ne. base_slot below w h.1)

aimed_push : (s : Held) (below : List Held) (o : Option Starred) → StartsBelow (length below) o → aimed (base (s ∷ below)) o ≡ aimed (base below) o
aimed_push s below None h = refl
aimed_push s below (Some u) h = ap (λ w. Some w) (base_push s below u h)

pub starts_weaker : (m n : ℕ) (o : Option Starred) → m ≤ n → StartsBelow m o → StartsBelow n o
starts_weaker m n None le h = tt
starts_weaker m n (Some u) le h = let lt : u.slot < m = h in omega arith

-- nor where a slot below it leads
pub aim_push : (s : Held) (below : List Held) (y : ℕ) → AreNested below → y < length below → aim (s ∷ below) y ≡ aim below y
aim_push s below y h lt =
    ap (λ p. aimed (base (s ∷ below)) (target p)) (not_here y (length below) s.part (part_in below y) lt)
    ∙ aimed_push s below (target (part_in below y)) (starts_weaker y (length below) (target (part_in below y)) (omega arith) (target_below y (part_in below y) (part_in_below below y h)))

-- where the last slot leads
pub aim_top : (s : Held) (below : List Held) → AreBelow (length below) (piece_places s.part) → aim (s ∷ below) (length below) ≡ aimed (base below) (target s.part)
aim_top s below h =
    ap (λ p. aimed (base (s ∷ below)) (target p)) (is_here (length below) (length below) s.part (part_in below (length below)) refl)
    ∙ aimed_push s below (target s.part) (target_below (length below) s.part h)

part_outside : (vs : List Held) (x : ℕ) → length vs ≤ x → part_in vs x ≡ gone (own unit)
part_outside [] x le = refl
part_outside (s ∷ below) x le =
    eq_cases (λ b. (if b then s.part else part_in below x) ≡ gone (own unit)) x (length below) (λ e. absurd (omega arith)) (λ ne. part_outside below x (omega arith))

-- a slot that is not there leads nowhere
pub aim_outside : (vs : List Held) (x : ℕ) → length vs ≤ x → aim vs x ≡ None
aim_outside vs x le = ap (λ p. aimed (base vs) (target p)) (part_outside vs x le)

-- ONE STAR MORE

under_none : (u : Starred) → under u 0 ≡ u
under_none u = let same : u.stars + 0 ≡ u.stars = omega arith in ap (at u.slot) same

star_here : (s : Held) (below : List Held) (o : Option Starred) (x n : ℕ) → AreNested below → StartsBelow (length below) o → x ≡ length below → aim (s ∷ below) x ≡ aimed (base below) o → ((u : Starred) → u.slot < length below → base below (at u.slot (suc u.stars)) ≡ one_star (aim below (base below u).slot) (base below u)) → from (base below) o x (suc n) ≡ one_star (aim (s ∷ below) (from (base below) o x n).slot) (from (base below) o x n)
star_here s below None x n h lt e leads ih =
    let next : suc n ≡ n + 1 = omega arith in ap (at x) next ∙ ap (λ t. one_star t (at x n)) (sym leads)
star_here s below (Some u) x zero h lt e leads ih = ap (base below) (under_none u) ∙ ap (λ t. one_star t (at x 0)) (sym leads)
star_here s below (Some u) x (suc n) h lt e leads ih =
    let b = base below (under u n) in
    let low : b.slot ≤ u.slot = base_slot below (under u n) h in
    let lower : u.slot < length below = lt in
    let next : u.stars + suc n ≡ suc (u.stars + n) = omega arith in
    ap (λ m. base below (at u.slot m)) next
    ∙ ih (under u n) lower
    ∙ ap (λ t. one_star t b) (sym (aim_push s below b.slot h (omega arith)))

-- one star more takes a place to where its slot leads, or stays under it
pub base_star : (vs : List Held) (w : Starred) → AreNested vs → w.slot < length vs → base vs (at w.slot (suc w.stars)) ≡ one_star (aim vs (base vs w).slot) (base vs w)
base_star [] w h lt = absurd (omega arith)
base_star (s ∷ below) w h lt =
    eq_cases (λ b. (if b then from (base below) (target s.part) w.slot (suc w.stars) else base below (at w.slot (suc w.stars))) ≡ one_star (aim (s ∷ below) (if b then from (base below) (target s.part) w.slot w.stars else base below w).slot) (if b then from (base below) (target s.part) w.slot w.stars else base below w)) w.slot (length below)
    (λ e. star_here s below (target s.part) w.slot w.stars h.1 (target_below (length below) s.part h.0) e (ap (aim (s ∷ below)) e ∙ aim_top s below h.0) (λ u lower. base_star below u h.1 lower))
    (λ ne. let lower : w.slot < length below = omega arith in
    let low : (base below w).slot ≤ w.slot = base_slot below w h.1 in
    base_star below w h.1 lower ∙ ap (λ t. one_star t (base below w)) (sym (aim_push s below (base below w).slot h.1 (omega arith))))

-- places that are at one place are so under more stars
pub base_under : (vs : List Held) (u v : Starred) (n : ℕ) → AreNested vs → u.slot < length vs → v.slot < length vs → base vs u ≡ base vs v → base vs (under u n) ≡ base vs (under v n)
base_under vs u v zero h lt lt2 e = ap (base vs) (under_none u) ∙ e ∙ ap (base vs) (sym (under_none v))
base_under vs u v (suc n) h lt lt2 e =
    let left : u.stars + suc n ≡ suc (u.stars + n) = omega arith in
    let right : v.stars + suc n ≡ suc (v.stars + n) = omega arith in
    ap (λ m. base vs (at u.slot m)) left
    ∙ base_star vs (under u n) h lt
    ∙ ap (λ b. one_star (aim vs b.slot) b) (base_under vs u v n h lt lt2 e)
    ∙ sym (base_star vs (under v n) h lt2)
    ∙ ap (λ m. base vs (at v.slot m)) (sym right)

-- THE TYPE THERE

star_single : (same : SetTest) (look : Lval → Found) (us : List Lval) (u : Starred) → single us ≡ Some u → join_set same look us ≡ look (place u)
star_single same look [] u h = absurd cc
star_single same look (v ∷ []) u h = ap (λ w. look (place w)) (equal (starred v) u h)
  where
    equal : (a b : Starred) → Some a ≡ Some b → a ≡ b
    equal a b h = cc
star_single same look (v ∷ w ∷ us) u h = absurd cc

star_target : (same : SetTest) (look : Lval → Found) (p : Piece) (u : Starred) → target p ≡ Some u → star same look p ≡ look (place u)
star_target same look (whole (own o)) u h = absurd cc
star_target same look (whole (view o)) u h = absurd cc
star_target same look (whole (shared us)) u h = star_single same look us u h
star_target same look (whole (mutable us)) u h = star_single same look us u h
star_target same look (gone k) u h = absurd cc
star_target same look (boxed p) u h = absurd cc

-- stars on a reference to one place are stars on that place
stars_target : (e : Env) (p : Piece) (u : Starred) (n : ℕ) → IsNested e → u.slot < length e → target p ≡ Some u → stars (alike e) (type_at e) (suc n) p ≡ type_at e (place (under u n))
stars_target e p u zero h lt is = star_target (alike e) (type_at e) p u is ∙ ap (λ w. type_at e (place w)) (sym (under_none u))
stars_target e p u (suc n) h lt is =
    let next : suc (u.stars + n) ≡ u.stars + suc n = omega arith in
    ap (λ f. then_found f (star (alike e) (type_at e))) (stars_target e p u n h lt is)
    ∙ sym (type_at-star e u.slot (u.stars + n) h lt)
    ∙ ap (λ m. type_at e (record { slot = u.slot; depth = m })) next

type_here : (names : List Text) (s : Held) (below : List Held) (x n : ℕ) → x ≡ length below → type_at (env_of names (s ∷ below)) (record { slot = x; depth = n }) ≡ stars (alike (env_of names below)) (type_at (env_of names below)) n s.part
type_here names s below x n e =
    is_here x (length (env_of names below)) (stars (alike (env_of names below)) (type_at (env_of names below)) n s.part) (type_at (env_of names below) (record { slot = x; depth = n })) (e ∙ sym (length-env_of names below))

type_push : (names : List Text) (s : Held) (below : List Held) (w : Lval) → w.slot < length below → type_at (env_of names (s ∷ below)) w ≡ type_at (env_of names below) w
type_push names s below w lt = type_at-push (slot_view names s) (env_of names below) w (subst (λ n. w.slot < n) (sym (length-env_of names below)) lt)

type_from : (names : List Text) (s : Held) (below : List Held) (o : Option Starred) (x n : ℕ) → AreNested below → target s.part ≡ o → StartsBelow (length below) o → x ≡ length below → ((u : Starred) → u.slot < length below → type_at (env_of names below) (place u) ≡ type_at (env_of names below) (place (base below u))) → type_at (env_of names (s ∷ below)) (record { slot = x; depth = n }) ≡ type_at (env_of names (s ∷ below)) (place (from (base below) o x n))
type_from names s below None x n h is lt e ih = refl
type_from names s below (Some u) x zero h is lt e ih = refl
type_from names s below (Some u) x (suc n) h is lt e ih =
    let lower : u.slot < length below = lt in
    let low : (base below (under u n)).slot ≤ u.slot = base_slot below (under u n) h in
    type_here names s below x (suc n) e
    ∙ stars_target (env_of names below) s.part u n (nested_env names below h) (subst (λ m. u.slot < m) (sym (length-env_of names below)) lower) is
    ∙ ih (under u n) lower
    ∙ sym (type_push names s below (place (base below (under u n))) (omega arith))

-- a place has the type of where it really is
pub base_type : (names : List Text) (vs : List Held) (w : Starred) → AreNested vs → w.slot < length vs → type_at (env_of names vs) (place w) ≡ type_at (env_of names vs) (place (base vs w))
base_type names [] w h lt = absurd (omega arith)
base_type names (s ∷ below) w h lt =
    eq_cases (λ b. type_at (env_of names (s ∷ below)) (place w) ≡ type_at (env_of names (s ∷ below)) (place (if b then from (base below) (target s.part) w.slot w.stars else base below w))) w.slot (length below)
    (λ e. type_from names s below (target s.part) w.slot w.stars h.1 refl (target_below (length below) s.part h.0) e (λ u lower. base_type names below u h.1 lower))
    (λ ne. let lower : w.slot < length below = omega arith in
    let low : (base below w).slot ≤ w.slot = base_slot below w h.1 in
    type_push names s below (place w) lower ∙ base_type names below w h.1 lower ∙ sym (type_push names s below (place (base below w)) (omega arith)))
