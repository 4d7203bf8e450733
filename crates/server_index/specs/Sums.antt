-- Counts in a row, and above them levels of sums of sixteen each (this project's own).
use Rattle.std.specs.Prelude.{◌≡◌, ℕ, zero, suc, ◌+◌, ◌*◌, ◌≤◌, ⊤, List, [], ◌∷◌, length}

-- the sum of the first of some counts
abbrev pub before : List ℕ → ℕ → ℕ
before [] n = 0
before (c ∷ cs) zero = 0
before (c ∷ cs) (suc n) = c + before cs n

-- each of the upper ones is the sum of sixteen lower ones
pub record IsAbove (lower upper : List ℕ) : Type 0 where
  pub sums : (n : ℕ) → before upper n ≡ before lower (n * 16)
  pub long : length lower ≤ length upper * 16

-- the first of some levels, where there is one, is above a lower one
abbrev pub IsBelow : List ℕ → List (List ℕ) → Type 0
IsBelow lower [] = ⊤
IsBelow lower (l ∷ ls) = IsAbove lower l

-- each of some levels is above the one before it
abbrev pub AreAbove : List (List ℕ) → Type 0
AreAbove [] = ⊤
AreAbove (l ∷ ls) = IsBelow l ls × AreAbove ls

-- the counts stand at the first level
abbrev pub counts : List (List ℕ) → List ℕ
counts [] = []
counts (l ∷ ls) = l
