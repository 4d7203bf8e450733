-- What a writer of texts does to what is written so far (this project's rule).
use Rattle.std.specs.Prelude.{◌≡◌, ℕ, nat_lt, List, [], ◌∷◌, ◌++◌, codes, if◌then◌else◌}
use Rattle.fr_terms.specs.Terms.{Text}

-- texts, each with a space behind it
abbrev pub spaced : List Text → List ℕ
spaced [] = []
spaced (w ∷ ws) = w ++ codes " " ++ spaced ws

-- these texts are written behind the others
abbrev pub IsWritten : List ℕ → List Text → List ℕ → Type 0
IsWritten old ws new = new ≡ old ++ spaced ws

-- a mark before all but the first
abbrev pub mark_before : ℕ → Text → List Text
mark_before n mark = if nat_lt 0 n then mark ∷ [] else []
