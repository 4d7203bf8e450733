-- The journal of a run, and what it shows: the order of the plain steps, their labels and their prints (this project's rule).
use Rattle.std.specs.Prelude.{ℕ, ℤ, ⊤, List, [], ◌∷◌, ◌++◌, Option, Some, None}
use Rattle.fr_base.specs.declared.label.Label.{Label}
use Rattle.fr_base.specs.declared.label.Label.TheVariants.{Print}
use Rattle.fr_base.specs.declared.step.Fresh.{Fresh}
use Rattle.journal.specs.View.{EntryView}

abbrev pub IsNamed : Option Fresh → Option ℕ → Type 0
IsNamed (Some names) None = ⊥
IsNamed _ _ = ⊤

-- an entry whose event did a plain step names its thread
abbrev pub NamesItsThread : EntryView → Type 0
NamesItsThread e = IsNamed e.done e.thread

-- THE ORDER

-- what an entry adds in front
abbrev pub turn_of : Option ℕ → Option Fresh → List (ℕ × Fresh) → List (ℕ × Fresh)
turn_of (Some t) (Some names) rest = (t, names) ∷ rest
turn_of _ _ rest = rest

-- which thread took which plain step, with the new names that the step took, in order
abbrev pub order : List EntryView → List (ℕ × Fresh)
order [] = []
order (e ∷ es) = turn_of e.thread e.done (order es)

-- THE LABELS

-- the labels of all plain steps, in order
abbrev pub labels : List EntryView → List Label
labels [] = []
labels (e ∷ es) = e.labels ++ labels es

-- the numbers that these labels print
abbrev pub printed : List Label → List ℤ
printed [] = []
printed (Print n ∷ ls) = n ∷ printed ls
printed (l ∷ ls) = printed ls

-- the numbers that a run printed, in order
abbrev pub prints : List EntryView → List ℤ
prints es = printed (labels es)
