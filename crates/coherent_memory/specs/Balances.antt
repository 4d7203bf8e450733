-- SUMS THAT AGREE: for every name as much of one weight as of another, or at most as much, over all things. Beside each stands the number of things that
-- show where that isn't so, which computes.
use Rattle.std.specs.Prelude.{◌≡◌, ℕ, ◌==◌, nat_le, ◌≤◌, List}
use Rattle.coherent_memory.specs.Names.{tot, other}
use Rattle.coherent_memory.specs.Things.{Thing}

abbrev pub Agree : {I : Type 0} → (I → Thing → ℕ) → (I → Thing → ℕ) → List Thing → Type 0
Agree {I} f g b = (i : I) → tot (f i) b ≡ tot (g i) b

abbrev pub AtMost : {I : Type 0} → (I → Thing → ℕ) → (I → Thing → ℕ) → List Thing → Type 0
AtMost {I} f g b = (i : I) → tot (f i) b ≤ tot (g i) b

abbrev pub AtMostOne : {I : Type 0} → (I → Thing → ℕ) → List Thing → Type 0
AtMostOne {I} f b = (i : I) → tot (f i) b ≤ 1

-- one for a name of which that isn't so
abbrev pub differing : {I : Type 0} → (I → Thing → ℕ) → (I → Thing → ℕ) → List Thing → I → ℕ
differing f g b i = other (tot (f i) b == tot (g i) b)

abbrev pub exceeding : {I : Type 0} → (I → Thing → ℕ) → (I → Thing → ℕ) → List Thing → I → ℕ
exceeding f g b i = other (nat_le (tot (f i) b) (tot (g i) b))

abbrev pub repeated : {I : Type 0} → (I → Thing → ℕ) → List Thing → I → ℕ
repeated f b i = other (nat_le (tot (f i) b) 1)

-- how many of the names that things show these are
abbrev pub disagree : {I : Type 0} → (I → Thing → ℕ) → (I → Thing → ℕ) → ((I → ℕ) → Thing → ℕ) → List Thing → ℕ
disagree f g shown b = tot (shown (differing f g b)) b

abbrev pub too_many : {I : Type 0} → (I → Thing → ℕ) → (I → Thing → ℕ) → ((I → ℕ) → Thing → ℕ) → List Thing → ℕ
too_many f g shown b = tot (shown (exceeding f g b)) b

abbrev pub more_than_one : {I : Type 0} → (I → Thing → ℕ) → ((I → ℕ) → Thing → ℕ) → List Thing → ℕ
more_than_one f shown b = tot (shown (repeated f b)) b
