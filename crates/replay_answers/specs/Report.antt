-- Printed numbers in a text (this project's format).
use Rattle.std.specs.Prelude.{ℕ, ℤ, List, [], ◌∷◌, ◌++◌, codes}
use Rattle.std.specs.Fmt.{signed_decimal}

-- the printed numbers, a line each
abbrev pub number_lines : List ℤ → List ℕ
number_lines [] = []
number_lines (n ∷ ns) = signed_decimal n ++ codes "\n" ++ number_lines ns
