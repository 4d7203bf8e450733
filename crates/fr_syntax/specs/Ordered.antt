-- What is true of each tree (this project's rule): parts stand before their node.
use Rattle.std.specs.Prelude.{◌≤◌, ⊤, List, [], ◌∷◌, ◌++◌, length}
use Rattle.fr_terms.specs.Terms.{Text}
use Rattle.fr_syntax.specs.declared.tree.Node.{Node}
use Rattle.fr_syntax.specs.Meanings.{Meaning, AreBelow, AllBelow, needs, names_in, build}
use Rattle.fr_syntax.specs.Arena.{Arena}
use Rattle.fr_syntax.specs.Bounds.{most_numbered}

-- of each of these nodes, which come after these meanings, the parts stand before it and are of their sorts, and the names are there
abbrev pub AreOrdered : List Text → List Meaning → List Node → Type 0
AreOrdered names ms [] = ⊤
AreOrdered names ms (n ∷ ns) =
    AreBelow ms (length ms) (needs n.term)
    × AllBelow (length names) (names_in n.term)
    × AreOrdered names (ms ++ build names ms n.place n.term ∷ []) ns

-- the nodes are in order, and a 32-bit number names each
pub record IsArena (a : Arena) : Type 0 where
  pub ordered : AreOrdered a.names [] a.nodes
  pub few : length a.nodes ≤ most_numbered
