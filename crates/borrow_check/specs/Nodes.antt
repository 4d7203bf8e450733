-- The nodes that are checked: terms in which no node stands twice.
use Rattle.std.specs.Prelude.{◌≡◌, ℕ, ◌<◌, ◌≤◌, List, length}
use Rattle.fr_syntax.specs.Arena.{Arena}
use Rattle.fr_syntax.specs.Meanings.{meanings, meaning_at, sort_of, term_s, all_need, nodes_in, AreBelow, AreDifferent}

pub record IsReady (a : Arena) (at : ℕ) : Type 0 where
  pub here : at < length (meanings a)
  pub sort : sort_of (meaning_at (meanings a) at).what ≡ term_s
  pub own : AreDifferent (meaning_at (meanings a) at).nodes

-- the same of items, which stand before this node
pub record AreReady (a : Arena) (bound : ℕ) (items : List ℕ) : Type 0 where
  pub inside : bound ≤ length (meanings a)
  pub parts : AreBelow (meanings a) bound (all_need term_s items)
  pub own : AreDifferent (nodes_in (meanings a) (all_need term_s items))
