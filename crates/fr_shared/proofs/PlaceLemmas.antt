-- Places of threads: the library's words for them.
use Rattle.std.proofs.Common.{◌≡◌, ℕ, suc, ◌+◌, ◌<◌, ◌≤◌, Bool, true, false, List, [], ◌∷◌, ◌++◌, length, Option, Some, None, refl, sym, ap, ◌∙◌, arith, nat_eq, nat_lt, ⊎_elim}
use Rattle.std.specs.Prelude.{◌==◌, ◌||◌, option_map, if◌then◌else◌, not, slice_get}
use Rattle.std.specs.List.{list_any, position, position_or_len}
use Rattle.std.proofs.lemmas.Bool.{cases_lt}
use Rattle.std.proofs.lemmas.Bool.Decides.{nat_tests}
use Rattle.indexmap.specs.IndexSet.{insert_key}
use Rattle.fr_shared.specs.Places.{place_of, is_first}
use Rattle.fr_typing.proofs.PlaceLemmas.{eq_cases}

-- a number below another, and one that isn't
below : (a b : ℕ) → a < b → nat_lt a b ≡ true
below a b lt = grind (arith, nat_tests, lt)

above : (a b : ℕ) → b ≤ a → nat_lt a b ≡ false
above a b le = grind (arith, nat_tests, le)

-- one more in front is one place more
later : (a b : ℕ) → (if nat_lt (1 + a) (suc b) then Some (1 + a) else None) ≡ option_map (λ i. suc i) (if nat_lt a b then Some a else None)
later a b =
    ⊎_elim (λ (lt : a < b). let one : 1 + a ≡ suc a = omega arith in rw (below a b lt, below (1 + a) (suc b) (omega arith)) (ap Some one))
    (λ (le : b ≤ a). rw (above a b le, above (1 + a) (suc b) (omega arith)) refl) (cases_lt a b)

-- the first place is that of the number in front, or one of the others
front : (b : Bool) (a l : ℕ) → (if nat_lt (if not b then 1 + a else 0) (suc l) then Some (if not b then 1 + a else 0) else None) ≡ (if b then Some 0 else option_map (λ i. suc i) (if nat_lt a l then Some a else None))
front true a l = rw (below 0 (suc l) (omega arith)) refl
front false a l = later a l

-- equality is the same from both sides
pub turned : (a b : ℕ) → a == b ≡ b == a
turned a b = eq_cases (λ x. x ≡ b == a) a b (λ e. eq_cases (λ x. true ≡ x) b a (λ f. refl) (λ ne. absurd (ne (sym e)))) (λ ne. eq_cases (λ x. false ≡ x) b a (λ f. absurd (ne (sym f))) (λ f. refl))

-- the library's position of a number is its place
pub position_place : (ns : List ℕ) (t : ℕ) → position (nat_eq t) ns ≡ place_of ns t
position_place [] t = refl
position_place (n ∷ ns) t =
    front (t == n) (position_or_len (nat_eq t) ns) (length ns)
    ∙ ap (λ b. if b then Some 0 else option_map (λ i. suc i) (position (nat_eq t) ns)) (turned t n)
    ∙ ap (λ o. if n == t then Some 0 else option_map (λ i. suc i) o) (position_place ns t)

-- no place more
pub no_more : (o : Option ℕ) → option_map (λ i. suc i) o ≡ None → o ≡ None
no_more None h = refl
no_more (Some i) h = cc

-- a number without a place is new
none_any : (ns : List ℕ) (t : ℕ) → place_of ns t ≡ None → list_any (nat_eq t) ns ≡ false
none_any [] t h = refl
none_any (n ∷ ns) t h =
    eq_cases (λ b. (if b then Some 0 else option_map (λ i. suc i) (place_of ns t)) ≡ None → (t == n || list_any (nat_eq t) ns) ≡ false) n t
    (λ same g. cc)
    (λ other g. eq_cases (λ b. (b || list_any (nat_eq t) ns) ≡ false) t n (λ e. absurd (other (sym e))) (λ ne. none_any ns t (no_more (place_of ns t) g))) h

-- a new number goes last
pub new_last : (ns : List ℕ) (t : ℕ) → place_of ns t ≡ None → insert_key nat_eq ns t ≡ ns ++ t ∷ []
new_last ns t h = ap (λ b. if b then ns else ns ++ t ∷ []) (none_any ns t h)

-- a place after the first
pub later_place : (o : Option ℕ) (i : ℕ) → option_map (λ k. suc k) o ≡ Some i → (k : ℕ) × (o ≡ Some k) × (i ≡ suc k)
later_place None i h = absurd cc
later_place (Some k) i h = (k, refl, cc)

-- THE FIRST PLACE

pub first_is : (ns : List ℕ) (n t : ℕ) → Some n ≡ slice_get ns 0 → n == t ≡ is_first ns t
first_is [] n t h = cc
first_is (m ∷ ns) n t h = let e : n ≡ m = cc in ap (λ k. k == t) e

pub none_first : (ns : List ℕ) (t : ℕ) → None ≡ slice_get ns 0 → false ≡ is_first ns t
none_first [] t h = refl
none_first (m ∷ ns) t h = cc

pub first_place : (ns : List ℕ) (t : ℕ) → is_first ns t ≡ true → Some 0 ≡ place_of ns t
first_place [] t h = cc
first_place (n ∷ ns) t h = ap (λ b. if b then Some 0 else option_map (λ i. suc i) (place_of ns t)) (sym h)

pub first_within : (ns : List ℕ) (t : ℕ) → is_first ns t ≡ true → 0 < length ns
first_within [] t h = cc
first_within (n ∷ ns) t h = omega arith
