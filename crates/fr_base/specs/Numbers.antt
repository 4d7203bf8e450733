-- Numbers that are written in digits.
use Rattle.std.specs.Prelude.{ℕ, ◌+◌, ◌*◌, ◌-◌, List, fold}

-- the number that decimal digits stand for
abbrev pub number_value : List ℕ → ℕ
number_value digits = fold (λ n d. n * 10 + (d - 48)) 0 digits
