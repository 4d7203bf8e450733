-- What the entries of a home's map stand for.
use Rattle.std.specs.Prelude.{◌≡◌, ℕ, true, ◌==◌, ◌||◌, List, [], ◌∷◌, Option, None, Some}
use Rattle.std.specs.Map.{lookup}
use Rattle.join_home.specs.Tasks.{Task, TaskState, going, let_go, kept, asked, in_pair}
use Rattle.join_home.specs.declared.note.Note.{Note}
use Rattle.join_home.specs.declared.note.Note.TheVariants.{Going, Dropped, Ended, Asked, Branch}

abbrev pub state_by : Note → TaskState
state_by Going = going
state_by Dropped = let_go
state_by (Ended value) = kept value
state_by (Asked server thread) = asked server thread
state_by (Branch parent other over) = in_pair parent over

-- a thread that is noted stands before others, and one that has gone doesn't
abbrev pub task_before : ℕ → Option Note → List Task → List Task
task_before t None xs = xs
task_before t (Some note) xs = record { thread = t; state = state_by note } ∷ xs

abbrev pub tasks_in : List (ℕ × Option Note) → List Task
tasks_in [] = []
tasks_in (e ∷ es) = task_before e.0 e.1 (tasks_in es)

abbrev pub state_in_note : Option Note → Option TaskState
state_in_note None = None
state_in_note (Some note) = Some (state_by note)

-- the parent of a branch, and the other half of its pair
abbrev pub half_by : Note → Option (ℕ × ℕ)
half_by (Branch parent other over) = Some (parent, other)
half_by note = None

abbrev pub half_in_note : Option Note → Option (ℕ × ℕ)
half_in_note None = None
half_in_note (Some note) = half_by note

abbrev pub note_in : Option (Option Note) → Option Note
note_in None = None
note_in (Some note) = note

-- what is noted of the thread k; None where it has gone or isn't there
abbrev pub note_at : List (ℕ × Option Note) → ℕ → Option Note
note_at es k = note_in (lookup (λ x. k == x) es)

abbrev pub half_at : List (ℕ × Option Note) → ℕ → Option (ℕ × ℕ)
half_at es k = half_in_note (note_at es k)

-- beside a branch k, only its other half has its parent
abbrev pub KnowsHalves : List (ℕ × Option Note) → Type 0
KnowsHalves es = (parent k other j further : ℕ) → half_at es k ≡ Some (parent, other) → half_at es j ≡ Some (parent, further) → ((j == k) || (j == other)) ≡ true
