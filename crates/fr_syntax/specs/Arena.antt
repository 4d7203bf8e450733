-- What contracts see of a tree.
use Rattle.std.specs.Prelude.{ℕ, List, slice_index_or, []}
use Rattle.fr_terms.specs.Terms.{Text}
use Rattle.fr_syntax.specs.declared.tree.Node.{Node}

-- the texts of the names, by number, and the nodes, each after its parts
pub record Arena : Type 0 where
  pub names : List Text
  pub nodes : List Node

-- the text of a name
abbrev pub text_of : List Text → ℕ → Text
text_of names n = slice_index_or names n []
