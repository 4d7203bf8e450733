-- Words about lists that compute by cases.
use Rattle.std.specs.Prelude.{ℕ, Bool, true, false, List, [], ◌∷◌, Option, Some, None, if◌then◌else◌}
use Rattle.fr_base.specs.Lists.{tot, one}

-- the first item that passes the test
abbrev pub first : {A : Type 0} → (A → Bool) → List A → Option A
first test [] = None
first test (x ∷ xs) = if test x then Some x else first test xs

-- there is one, and it passes the test
abbrev pub holds : {A : Type 0} → (A → Bool) → Option A → Bool
holds test None = false
holds test (Some x) = test x

-- some item passes the test
abbrev pub has : {A : Type 0} → (A → Bool) → List A → Bool
has test xs = holds (λ x. true) (first test xs)

-- the list without the first item that passes the test
abbrev pub less_first : {A : Type 0} → (A → Bool) → List A → List A
less_first test [] = []
less_first test (x ∷ xs) = if test x then xs else x ∷ less_first test xs

-- the list without the items that pass the test
abbrev pub less_all : {A : Type 0} → (A → Bool) → List A → List A
less_all test [] = []
less_all test (x ∷ xs) = if test x then less_all test xs else x ∷ less_all test xs

-- the list with the items that pass the test changed
abbrev pub with_each : {A : Type 0} → (A → Bool) → (A → A) → List A → List A
with_each test f [] = []
with_each test f (x ∷ xs) = (if test x then f x else x) ∷ with_each test f xs

-- how many items pass the test
abbrev pub times : {A : Type 0} → (A → Bool) → List A → ℕ
times test xs = tot (λ x. one (test x)) xs
