-- Words that `clap` may be shown: others ask for nothing.
use Rattle.std.specs.Prelude.{ℕ, ◌&&◌, ◌==◌, Bool, true, false, List, [], ◌∷◌, if◌then◌else◌}

abbrev pub has_name : List ℕ → Bool
has_name [] = false
has_name (c ∷ rest) = true

abbrev pub second_hyphen : List ℕ → Bool
second_hyphen [] = false
second_hyphen (c ∷ rest) = (c == 45) && has_name rest

-- the word begins with no hyphen, or with two and something behind them
abbrev pub is_clean : List ℕ → Bool
is_clean [] = true
is_clean (c ∷ rest) = if c == 45 then second_hyphen rest else true
