-- Stars on a part, from the outside in.
use Rattle.std.proofs.Common.{◌≡◌, ◌≢◌, ℕ, zero, suc, ◌+◌, ◌-◌, ◌<◌, ◌≤◌, List, [], length, Result, Ok, Err, refl, sym, ap, ◌∙◌, subst, arith}
use Rattle.fr_base.specs.declared.place.Lval.{Lval}
use Rattle.fr_terms.specs.Terms.{Text}
use Rattle.fr_typing.specs.Kinds.{Piece, SetTest}
use Rattle.fr_typing.specs.Places.{Found, found, undefined, no_target, then_found, star, stars, type_at, alike, piece_places, AreBelow}
use Rattle.fr_typing.proofs.PlaceLemmas.{type_at-star}
use Rattle.fr_types.specs.declared.error.TypeError.{TypeError}
use Rattle.fr_types.specs.declared.resolved.Starred.{Starred}
use Rattle.fr_base.specs.declared.memory.NoMemory.{NoMemory}
use Rattle.fr_types.specs.declared.types.Part.{Part}
use Rattle.fr_types.specs.Types.{piece_of}
use Rattle.std.specs.Prelude.{IfOk}
use Rattle.fr_types.specs.States.{Held, env_of, part_in, AreNested}
use Rattle.fr_types.specs.Answers.{IsFound}
use Rattle.fr_types.specs.Bases.{starred, base}
use Rattle.fr_types.proofs.BaseLemmas.{base_type}
use Rattle.fr_types.proofs.LookLemmas.{inside_env, nested_env, type_at_slot, star_step, found_places, answer_stays}

then_all : (same : SetTest) (look : Lval → Found) (n : ℕ) (f : Found) → then_found (then_found f (stars same look n)) (star same look) ≡ then_found f (stars same look (suc n))
then_all same look n (found p) = refl
then_all same look n undefined = refl
then_all same look n no_target = refl

-- the inner star first
stars_first : (same : SetTest) (look : Lval → Found) (n : ℕ) (p : Piece) → stars same look (suc n) p ≡ then_found (star same look p) (stars same look n)
stars_first same look zero p = by (star same look p)
  where
    by : (f : Found) → f ≡ then_found f (stars same look 0)
    by (found q) = refl
    by undefined = refl
    by no_target = refl
stars_first same look (suc n) p = ap (λ f. then_found f (star same look)) (stars_first same look n p) ∙ then_all same look n (star same look p)

-- one star on something that holds another part
holds : (same : SetTest) (look : Lval → Found) (n k : ℕ) (p q r : Piece) → star same look p ≡ found q → n ≢ 0 → k ≤ n - 1 → stars same look (n - 1 - k) q ≡ found r → stars same look (n - k) p ≡ found r
holds same look n k p q r is ne le h =
    let less : suc (n - 1 - k) ≡ n - k = omega (arith, ne) in
    subst (λ m. stars same look m p ≡ found r) less (stars_first same look (n - 1 - k) p ∙ ap (λ f. then_found f (stars same look (n - 1 - k))) is ∙ h)

-- what is found inside is found there
pub inside_step : (r : Result (Part × ℕ) NoMemory) (n : ℕ) (p q : Piece) → 0 < n → ((same : SetTest) (look : Lval → Found) → star same look p ≡ found q) → IfOk r (λ (x : Part × ℕ). x.1 ≤ n - 1) → IfOk r (λ (x : Part × ℕ). (same : SetTest) (look : Lval → Found) → stars same look (n - 1 - x.1) q ≡ found (piece_of x.0)) → IfOk r (λ (x : Part × ℕ). (same : SetTest) (look : Lval → Found) → stars same look (n - x.1) p ≡ found (piece_of x.0))
inside_step (Ok x) n p q some is le h = λ same look. holds same look n x.1 p q (piece_of x.0) (is same look) (λ e. omega arith) le (h same look)
inside_step (Err e) n p q some is le h = tt

-- AS THE CODE SEES IT

-- stars on a slot's part
type_at_stars : (names : List Text) (vs : List Held) (i n : ℕ) → AreNested vs → i < length vs → type_at (env_of names vs) (record { slot = i; depth = n }) ≡ stars (alike (env_of names vs)) (type_at (env_of names vs)) n (part_in vs i)
type_at_stars names vs i zero h lt = type_at_slot names vs i lt
type_at_stars names vs i (suc n) h lt =
    type_at-star (env_of names vs) i n (nested_env names vs h) (inside_env names vs i lt)
    ∙ ap (λ f. then_found f (star (alike (env_of names vs)) (type_at (env_of names vs)))) (type_at_stars names vs i n h lt)

pub inside_seen : (names : List Text) (vs : List Held) (i n : ℕ) (p q : Piece) → AreNested vs → i < length vs → p ≡ part_in vs i → ((same : SetTest) (look : Lval → Found) → stars same look n p ≡ found q) → type_at (env_of names vs) (record { slot = i; depth = n + 0 }) ≡ found q
inside_seen names vs i n p q h lt is found_there =
    let same : n ≡ n + 0 = omega arith in
    subst (λ m. type_at (env_of names vs) (record { slot = i; depth = m }) ≡ found q) same
    (type_at_stars names vs i n h lt ∙ ap (stars (alike (env_of names vs)) (type_at (env_of names vs)) n) (sym is) ∙ found_there (alike (env_of names vs)) (type_at (env_of names vs)))

pub inside_below : (vs : List Held) (i n : ℕ) (p q : Piece) → AreNested vs → i < length vs → p ≡ part_in vs i → ((same : SetTest) (look : Lval → Found) → stars same look n p ≡ found q) → AreBelow i (piece_places q)
inside_below vs i n p q h lt is found_there = found_places (env_of [] vs) i (n + 0) q (nested_env [] vs h) (inside_seen [] vs i n p q h lt is found_there)

pub more_seen : (names : List Text) (vs : List Held) (i n k : ℕ) (p q : Piece) → AreNested vs → i < length vs → type_at (env_of names vs) (record { slot = i; depth = n + k }) ≡ found p → star (alike (env_of names vs)) (type_at (env_of names vs)) p ≡ found q → type_at (env_of names vs) (record { slot = i; depth = n + (k + 1) }) ≡ found q
more_seen names vs i n k p q h lt is next =
    let same : n + k + 1 ≡ n + (k + 1) = omega arith in
    subst (λ m. type_at (env_of names vs) (record { slot = i; depth = m }) ≡ found q) same
    (star_step (env_of names vs) i (n + k) p (nested_env names vs h) (inside_env names vs i lt) is ∙ next)

pub more_below : (vs : List Held) (i n k : ℕ) (p q : Piece) → AreNested vs → i < length vs → ((names : List Text) → type_at (env_of names vs) (record { slot = i; depth = n + k }) ≡ found p) → ((names : List Text) → star (alike (env_of names vs)) (type_at (env_of names vs)) p ≡ found q) → AreBelow i (piece_places q)
more_below vs i n k p q h lt is next = found_places (env_of [] vs) i (n + (k + 1)) q (nested_env [] vs h) (more_seen [] vs i n k p q h lt (is []) (next []))

-- what stands where the place really is
pub resolved_seen : (names : List Text) (vs : List Held) (w : Lval) (at : Starred) (left n : ℕ) (p : Piece) → AreNested vs → w.slot < length vs → at ≡ base vs (starred w) → left ≤ at.stars → n ≡ left → type_at (env_of names vs) (record { slot = at.slot; depth = at.stars - left + n }) ≡ found p → type_at (env_of names vs) w ≡ found p
resolved_seen names vs w at left n p h lt is le end found_there =
    let all : at.stars - left + n ≡ at.stars = omega (arith, le, end) in
    base_type names vs (starred w) h lt
    ∙ ap (λ (b : Starred). type_at (env_of names vs) (record { slot = b.slot; depth = b.stars })) (sym is)
    ∙ subst (λ m. type_at (env_of names vs) (record { slot = at.slot; depth = m }) ≡ found p) all found_there

pub resolved_error : (names : List Text) (vs : List Held) (w : Lval) (at : Starred) (left n : ℕ) (p : Piece) (r : TypeError) → AreNested vs → w.slot < length vs → at ≡ base vs (starred w) → at.slot ≤ w.slot → left ≤ at.stars → n < left → type_at (env_of names vs) (record { slot = at.slot; depth = at.stars - left + n }) ≡ found p → IsFound (Err r) (star (alike (env_of names vs)) (type_at (env_of names vs)) p) → IsFound (Err r) (type_at (env_of names vs) w)
resolved_error names vs w at left n p r h lt is slot le more found_there err =
    subst (IsFound (Err r)) (sym (base_type names vs (starred w) h lt ∙ ap (λ (b : Starred). type_at (env_of names vs) (record { slot = b.slot; depth = b.stars })) (sym is)))
    (answer_stays (env_of names vs) at.slot (at.stars - left + n + 1) at.stars r (nested_env names vs h) (inside_env names vs at.slot (omega arith)) (omega arith)
    (subst (IsFound (Err r)) (sym (star_step (env_of names vs) at.slot (at.stars - left + n) p (nested_env names vs h) (inside_env names vs at.slot (omega arith)) found_there)) err))
