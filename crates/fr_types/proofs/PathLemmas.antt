-- What stands on a path.
use Rattle.std.proofs.Common.{◌≡◌, ℕ, zero, suc, ◌+◌, ◌-◌, ◌<◌, Bool, true, false, List, [], length, refl, sym, ap, ◌∙◌, subst, arith}
use Rattle.std.specs.Prelude.{◌||◌}
use Rattle.fr_terms.specs.Terms.{Text}
use Rattle.fr_typing.specs.Kinds.{Piece}
use Rattle.fr_typing.specs.Places.{Env, Found, found, undefined, no_target, star, type_at, alike, on_path, piece_places, AreBelow}
use Rattle.fr_types.specs.declared.path.Test.{Test}
use Rattle.fr_types.specs.declared.path.Test.TheVariants.{Lent, Mutable, Any}
use Rattle.fr_types.specs.Paths.{test_of}
use Rattle.fr_types.specs.States.{Held, env_of, part_in, AreNested}
use Rattle.fr_types.proofs.LookLemmas.{inside_env, IsError, error_stays, nested_env, star_step, found_places, start_seen}

true_or : (a b : Bool) → a ≡ true → (a || b) ≡ true
true_or true b h = refl
true_or false b h = absurd cc

or_true : (a b : Bool) → b ≡ true → (a || b) ≡ true
or_true true b h = refl
or_true false b h = h

or_none : (a b : Bool) → a ≡ false → b ≡ false → (a || b) ≡ false
or_none false b h g = g
or_none true b h g = absurd cc

more_stars : (test : Found → Bool) (e : Env) (x n k : ℕ) → on_path test e x n ≡ true → on_path test e x (k + n) ≡ true
more_stars test e x n zero h = let same : n ≡ 0 + n = omega arith in subst (λ m. on_path test e x m ≡ true) same h
more_stars test e x n (suc k) h =
    let next : suc (k + n) ≡ suc k + n = omega arith in
    subst (λ m. on_path test e x m ≡ true) next (true_or (on_path test e x (k + n)) (test (type_at e (record { slot = x; depth = k + n }))) (more_stars test e x n k h))

-- what was met is on each longer path
pub met_path : (test : Found → Bool) (e : Env) (x n m : ℕ) → n < m → true ≡ test (type_at e (record { slot = x; depth = n })) → true ≡ on_path test e x m
met_path test e x n m lt h =
    let k : m - suc n + suc n ≡ m = omega arith in
    sym (subst (λ y. on_path test e x y ≡ true) k (more_stars test e x (suc n) (m - suc n) (or_true (on_path test e x n) (test (type_at e (record { slot = x; depth = n }))) (sym h))))

-- one star more, and still nothing
pub path_step : (test : Found → Bool) (e : Env) (x n : ℕ) → on_path test e x n ≡ false → false ≡ test (type_at e (record { slot = x; depth = n })) → on_path test e x (n + 1) ≡ false
path_step test e x n h g =
    let next : suc n ≡ n + 1 = omega arith in
    subst (λ m. on_path test e x m ≡ false) next (or_none (on_path test e x n) (test (type_at e (record { slot = x; depth = n }))) h (sym g))

-- an error meets no test
pub test_undefined : (test : Test) → test_of test undefined ≡ false
test_undefined Lent = refl
test_undefined Mutable = refl
test_undefined Any = refl

pub test_no_target : (test : Test) → test_of test no_target ≡ false
test_no_target Lent = refl
test_no_target Mutable = refl
test_no_target Any = refl

-- after an error nothing is met
path_end : (test : Found → Bool) (e : Env) (x n k : ℕ) (f : Found) → test f ≡ false → ((j : ℕ) → type_at e (record { slot = x; depth = j + n }) ≡ f) → on_path test e x n ≡ false → on_path test e x (k + n) ≡ false
path_end test e x n zero f miss stays h = let same : n ≡ 0 + n = omega arith in subst (λ m. on_path test e x m ≡ false) same h
path_end test e x n (suc k) f miss stays h =
    let next : suc (k + n) ≡ suc k + n = omega arith in
    subst (λ m. on_path test e x m ≡ false) next
    (or_none (on_path test e x (k + n)) (test (type_at e (record { slot = x; depth = k + n }))) (path_end test e x n k f miss stays h) (ap test (stays k) ∙ miss))

-- AS THE CODE SEES IT

pub next_seen : (names : List Text) (vs : List Held) (x c : ℕ) (p : Piece) (f : Found) → AreNested vs → x < length vs → 0 < c → type_at (env_of names vs) (record { slot = x; depth = c - 1 }) ≡ found p → star (alike (env_of names vs)) (type_at (env_of names vs)) p ≡ f → type_at (env_of names vs) (record { slot = x; depth = c }) ≡ f
next_seen names vs x c p f h lt some is next =
    let here : c - 1 + 1 ≡ c = omega (arith, some) in
    subst (λ n. type_at (env_of names vs) (record { slot = x; depth = n }) ≡ f) here
    (star_step (env_of names vs) x (c - 1) p (nested_env names vs h) (inside_env names vs x lt) is ∙ next)

pub none_after : (test : Found → Bool) (names : List Text) (vs : List Held) (x c m : ℕ) (p : Piece) (f : Found) → IsError f → test f ≡ false → AreNested vs → x < length vs → 0 < c → c < m → type_at (env_of names vs) (record { slot = x; depth = c - 1 }) ≡ found p → star (alike (env_of names vs)) (type_at (env_of names vs)) p ≡ f → on_path test (env_of names vs) x c ≡ false → false ≡ on_path test (env_of names vs) x m
none_after test names vs x c m p f err miss h lt some more is next so_far =
    let e = env_of names vs in
    let all : m - c + c ≡ m = omega (arith, more) in
    sym (subst (λ n. on_path test e x n ≡ false) all
    (path_end test e x c (m - c) f miss (λ j. error_stays e x c j f (nested_env names vs h) (inside_env names vs x lt) err (next_seen names vs x c p f h lt some is next)) so_far))

pub met_after : (test : Found → Bool) (names : List Text) (vs : List Held) (x c m : ℕ) (p q : Piece) → AreNested vs → x < length vs → 0 < c → c < m → type_at (env_of names vs) (record { slot = x; depth = c - 1 }) ≡ found p → star (alike (env_of names vs)) (type_at (env_of names vs)) p ≡ found q → true ≡ test (found q) → true ≡ on_path test (env_of names vs) x m
met_after test names vs x c m p q h lt some more is next met =
    met_path test (env_of names vs) x c m more (met ∙ ap test (sym (next_seen names vs x c p (found q) h lt some is next)))

pub not_met : (test : Found → Bool) (names : List Text) (vs : List Held) (x c : ℕ) (p q : Piece) → AreNested vs → x < length vs → 0 < c → type_at (env_of names vs) (record { slot = x; depth = c - 1 }) ≡ found p → star (alike (env_of names vs)) (type_at (env_of names vs)) p ≡ found q → false ≡ test (found q) → on_path test (env_of names vs) x c ≡ false → on_path test (env_of names vs) x (c + 1) ≡ false
not_met test names vs x c p q h lt some is next miss so_far =
    path_step test (env_of names vs) x c so_far (miss ∙ ap test (sym (next_seen names vs x c p (found q) h lt some is next)))

pub same_after : (names : List Text) (vs : List Held) (x c : ℕ) (f : Found) → type_at (env_of names vs) (record { slot = x; depth = c }) ≡ f → type_at (env_of names vs) (record { slot = x; depth = c + 1 - 1 }) ≡ f
same_after names vs x c f h = let same : c ≡ c + 1 - 1 = omega arith in subst (λ n. type_at (env_of names vs) (record { slot = x; depth = n }) ≡ f) same h

pub below_after : (vs : List Held) (x c : ℕ) (q : Piece) → AreNested vs → ((names : List Text) → type_at (env_of names vs) (record { slot = x; depth = c }) ≡ found q) → AreBelow x (piece_places q)
below_after vs x c q h is = found_places (env_of [] vs) x c q (nested_env [] vs h) (is [])

-- the slot's own part
pub met_slot : (test : Found → Bool) (names : List Text) (vs : List Held) (x m : ℕ) (p : Piece) → x < length vs → 0 < m → p ≡ part_in vs x → true ≡ test (found p) → true ≡ on_path test (env_of names vs) x m
met_slot test names vs x m p lt some is met = met_path test (env_of names vs) x 0 m some (met ∙ ap test (sym (start_seen names vs x p p lt is refl)))

pub one_star_path : (test : Found → Bool) (names : List Text) (vs : List Held) (x m : ℕ) (p : Piece) → x < length vs → m ≡ 1 → p ≡ part_in vs x → false ≡ test (found p) → false ≡ on_path test (env_of names vs) x m
one_star_path test names vs x m p lt one is miss =
    subst (λ n. false ≡ on_path test (env_of names vs) x n) (sym one) (miss ∙ ap test (sym (start_seen names vs x p p lt is refl)))
