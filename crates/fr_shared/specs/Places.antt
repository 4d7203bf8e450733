-- Places of threads in a list (this project's rule).
use Rattle.std.specs.Prelude.{ℕ, suc, ◌==◌, Bool, false, List, [], ◌∷◌, Option, Some, None, option_map, if◌then◌else◌}

pub record Numbers : Type 0 where
  pub numbers : List ℕ
  -- how many more fit without memory
  pub spare : ℕ

-- the place of a number in the list
abbrev pub place_of : List ℕ → ℕ → Option ℕ
place_of [] t = None
place_of (n ∷ ns) t = if n == t then Some 0 else option_map (λ i. suc i) (place_of ns t)

-- whether the number is the first of the list
abbrev pub is_first : List ℕ → ℕ → Bool
is_first [] t = false
is_first (n ∷ ns) t = n == t
