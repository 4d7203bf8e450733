-- Words about lists that compute by cases: sums, counts and places.
use Rattle.std.specs.Prelude.{ℕ, ◌+◌, ◌-◌, ◌==◌, Bool, true, false, ◌||◌, List, [], ◌∷◌, length, Option, slice_get}

-- the sum of a weight over a list
abbrev pub tot : {A : Type 0} → (A → ℕ) → List A → ℕ
tot f [] = 0
tot f (x ∷ xs) = f x + tot f xs

-- one where it is so
abbrev pub one : Bool → ℕ
one true = 1
one false = 0

-- the number stands in the list
abbrev pub is_in : ℕ → List ℕ → Bool
is_in n [] = false
is_in n (m ∷ ms) = (m == n) || is_in n ms

-- the last item of a list
abbrev pub last_of : {A : Type 0} → List A → Option A
last_of xs = slice_get xs (length xs - 1)
