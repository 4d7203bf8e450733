-- All that runs, and what it stands for.
use Rattle.std.specs.Prelude.{◌≡◌, ℕ, ◌==◌, List, [], ◌∷◌, Option, Some, None, IsSome, if◌then◌else◌}
use Rattle.fr_plain.specs.MachineThreads.{Pair, pair_of}
use Rattle.fr_plain.specs.Whole.{Whole}
use Rattle.fr_forms.specs.declared.forms.Form.{Form}
use Rattle.fr_meaning.specs.declared.frame.Focus.{Focus}
use Rattle.fr_meaning.specs.declared.frame.Focus.TheVariants as focus
use Rattle.fr_meaning.specs.declared.thread.Thread.{Thread}
use Rattle.fr_meaning.specs.declared.running.Running.{Running}
use Rattle.fr_meaning.specs.Beside.{beside_of}
use Rattle.fr_meaning.specs.Threads.{whole, numbers_of, AreWell}
use Rattle.fr_meaning.specs.Entries.{entries_of}
use Rattle.fr_meaning.specs.PoolView.{View}

-- the plain state
abbrev pub plain_of : List Form → Running → Whole
plain_of fs r = whole fs r.threads.items (beside_of r.common) r.output.items

-- the same without what room there is
abbrev pub view_of : List Form → Running → View
view_of fs r = record { forms = fs; threads = entries_of r.threads.items; beside = beside_of r.common; output = r.output.items }

-- the focus of the thread of a number
abbrev pub focus_at : List Thread → ℕ → Option Focus
focus_at [] t = None
focus_at (x ∷ xs) t = if x.number == t then Some x.focus else focus_at xs t

-- each parent of a pair waits for its end
abbrev pub AreParents : List Pair → List Thread → Type 0
AreParents ps xs = (t : ℕ) → IsSome (pair_of ps t) → focus_at xs t ≡ Some focus.ParEnd

-- each thread has its place, and is well in the forms, and each parent of a pair waits for its end
pub record Stands (fs : List Form) (r : Running) : Type 0 where
  pub numbers : r.places.numbers ≡ numbers_of r.threads.items
  pub well : AreWell fs r.threads.items
  pub parents : AreParents r.common.pairs.pairs r.threads.items
