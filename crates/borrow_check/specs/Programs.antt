-- Checked programs (this project's rule).
use Rattle.std.specs.Prelude.{◌≡◌, ℕ, Bool, false, ⊤, List, [], length, slice_index_or, Option, Some, None}
use Rattle.fr_base.specs.declared.place.Lval.{Lval}
use Rattle.fr_terms.specs.Terms.{read_t, IsBlock}
use Rattle.fr_terms.specs.Terms as terms
use Rattle.fr_terms.specs.Limits.{IsWithinLimits}
use Rattle.fr_typing.specs.Typing.{Faults}
use Rattle.fr_typing.specs.Laws.{IsTyped}
use Rattle.fr_syntax.specs.Arena.{Arena}
use Rattle.fr_syntax.specs.Ordered.{IsArena}
use Rattle.fr_syntax.specs.Meanings.{What, a_term, a_place, a_capture, meanings, meaning_at, root_of, term_of, IsTree}
use Rattle.borrow_check.specs.declared.check_error.CheckError.{CheckError}
use Rattle.borrow_check.specs.declared.check_error.CheckError.TheVariants.{Fault, NoMemory}
use Rattle.borrow_check.specs.declared.usage.Usage.{Usage}
use Rattle.borrow_check.specs.Rules.{AreDifferentTexts}
use Rattle.borrow_check.specs.Usages.{usages_of, AreUsed}

-- each term has a node of its own; the tree's term is a block within the limits; its names are different
pub record IsCheckable (a : Arena) : Type 0 where
  pub tree : IsTree a
  pub within : IsWithinLimits (term_of a)
  pub block : IsBlock (term_of a)
  pub names : AreDifferentTexts a.names

-- the first check of the term that fails; of want of memory nothing is said
abbrev pub IsFault : CheckError → terms.Term → Type 0
IsFault (Fault place reason) t = Faults [] t place reason
IsFault NoMemory t = ⊤

-- a program: its tree, and how each node that is a place, a read or a captured name is used
pub record Program : Type 0 where
  pub arena : Arena
  pub usages : List Usage

-- the tree has a type and meets the condition of a check; the usages are those of its term
pub record IsChecked (p : Program) : Type 0 where
  pub arena : IsArena p.arena
  pub checkable : IsCheckable p.arena
  pub typed : IsTyped [] (term_of p.arena)
  pub used : AreUsed p.usages (meaning_at (meanings p.arena) (root_of p.arena)).nodes (usages_of (term_of p.arena) [])
  pub long : length p.usages ≡ length (meanings p.arena)

abbrev pub usage_at : Program → ℕ → Usage
usage_at p node = slice_index_or p.usages node (record { slot = 0; takes = false })

-- the nodes with a place: places and captured names
abbrev pub HasPlace : What → Type 0
HasPlace (a_place w) = ⊤
HasPlace (a_capture c) = ⊤
HasPlace (a_term t) = ⊥

-- the place of a place node is its variable's slot under its stars, that of a captured name the variable that is captured
abbrev pub place_of : What → Usage → Option Lval
place_of (a_place w) u = Some (record { slot = u.slot; depth = w.stars })
place_of (a_term t) u = None
place_of (a_capture c) u = Some (record { slot = u.slot; depth = 0 })

abbrev pub lval_of : Program → ℕ → Option Lval
lval_of p node = place_of (meaning_at (meanings p.arena) node).what (usage_at p node)

-- a read takes out what it reads, and a captured name its variable's value
abbrev pub is_taking : What → Usage → Bool
is_taking (a_term (read_t at w)) u = u.takes
is_taking (a_capture c) u = u.takes
is_taking w u = false

abbrev pub takes_of : Program → ℕ → Bool
takes_of p node = is_taking (meaning_at (meanings p.arena) node).what (usage_at p node)
