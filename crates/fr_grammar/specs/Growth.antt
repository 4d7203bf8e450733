-- What reading a term adds to a tree (this project's rule).
use Rattle.std.specs.Prelude.{◌≡◌, ℕ, ◌+◌, ◌-◌, List, [], ◌∷◌, ◌++◌, length}
use Rattle.std.specs.List.{range_with_len}
use Rattle.fr_syntax.specs.Arena.{Arena}
use Rattle.fr_syntax.specs.Meanings.{Sort, term_s, capture_s, sort_of, meaning_at, meanings, Need, need, all_need, nodes_in, AreBelow, Keeps}

-- the numbers from the first on, before the second
abbrev pub between : ℕ → ℕ → List ℕ
between a b = range_with_len a (b - a)

-- all the new nodes make up the last of them, each once, and nothing else changed
pub record IsGrown (sort : Sort) (old new : Arena) (node : ℕ) : Type 0 where
  pub names : new.names ≡ old.names
  pub keeps : Keeps (meanings old) (meanings new)
  pub last : node + 1 ≡ length (meanings new)
  pub sorted : sort_of (meaning_at (meanings new) node).what ≡ sort
  pub own : (meaning_at (meanings new) node).nodes ≡ between (length (meanings old)) (length (meanings new))

-- all the new nodes make up these parts, each once, and nothing else changed
pub record AreGrown (old new : Arena) (parts : List Need) : Type 0 where
  pub names : new.names ≡ old.names
  pub keeps : Keeps (meanings old) (meanings new)
  pub below : AreBelow (meanings new) (length (meanings new)) parts
  pub own : nodes_in (meanings new) parts ≡ between (length (meanings old)) (length (meanings new))

-- the nodes of captured names, and of a block
abbrev pub branch_parts : List ℕ → ℕ → List Need
branch_parts captures body = all_need capture_s captures ++ need term_s body ∷ []
