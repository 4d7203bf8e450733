-- When running terms are those of a checked program's nodes (this project's rule).
use Rattle.std.specs.Prelude.{◌≡◌, ℕ, ◌<◌, List, length}
use Rattle.fr_typing.specs.Kinds.{Kind}
use Rattle.fr_typing.specs.Places.{Env}
use Rattle.fr_typing.specs.Finding.{typed}
use Rattle.fr_typing.specs.Typing.{typing}
use Rattle.fr_syntax.specs.Meanings.{meanings, meaning_at, term_at}
use Rattle.fr_plain.specs.Run.{Run}
use Rattle.fr_plain.specs.Resolve.{resolve, lets_in}
use Rattle.fr_forms.specs.declared.forms.Form.{Form}
use Rattle.fr_forms.specs.FormTerms.{term_of, AreInOrder}
use Rattle.borrow_check.specs.Nodes.{IsReady}
use Rattle.borrow_check.specs.Usages.{usages_of, AreUsed}
use Rattle.borrow_check.specs.Programs.{Program}
use Rattle.fr_forms.specs.Forming.{clipped, count_at}

-- the node's term is typed in this environment, with the usages that the program has
pub record IsTypedIn (p : Program) (at : ℕ) (e : Env) : Type 0 where
  pub ready : IsReady p.arena at
  pub kind : Kind
  pub after : Env
  pub typed : typing (term_at (meanings p.arena) at) e ≡ typed kind after
  pub used : AreUsed p.usages (meaning_at (meanings p.arena) at).nodes (usages_of (term_at (meanings p.arena) at) e)

-- a running term is that of the node, wherever it is typed
abbrev pub IsRun : Program → ℕ → Run → Type 0
IsRun p at r = (e : Env) → IsTypedIn p at e → r ≡ resolve (term_at (meanings p.arena) at) e

-- the running terms of the nodes before this one
abbrev pub AreRuns : Program → ℕ → (ℕ → Run) → Type 0
AreRuns p bound look = (i : ℕ) → i < bound → IsRun p i (look i)

-- the number of variables of each node before
abbrev pub AreCounts : Program → List ℕ → Type 0
AreCounts p counts = (i : ℕ) → i < length counts → count_at counts i ≡ clipped (lets_in (term_at (meanings p.arena) i))

-- the forms of the first nodes, with the number of variables that each one's term declares
pub record IsBuilt (p : Program) (forms : List Form) (counts : List ℕ) : Type 0 where
  pub order : AreInOrder forms
  pub runs : AreRuns p (length forms) (term_of forms)
  pub same : length counts ≡ length forms
  pub counted : AreCounts p counts
