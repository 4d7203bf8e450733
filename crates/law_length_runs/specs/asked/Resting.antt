-- WHO RESTS AT THE END OF A DRIVEN JOURNAL (this project's rule): threads that stand on the coloured heap, each once.
use Rattle.std.specs.Prelude.{◌≡◌, ◌≤◌, ℕ, ◌+◌, Bool, true, false, List, [], length}
use Rattle.law_runs_whole.specs.Below.law_counts_things.Below.fr_base.declared.settings.Options.{Options}
use Rattle.law_runs_whole.specs.Below.journal.declared.act.Act.{Act}
use Rattle.law_runs_whole.specs.Below.journal.declared.act.Act.TheVariants as act
use Rattle.law_runs_whole.specs.Below.journal.View.{EntryView}
use Rattle.law_runs_whole.specs.Below.coloured_heap.Driven.{is_driven}
use Rattle.law_runs_whole.specs.Below.coloured_heap.Figures.{acts_that}
use Rattle.law_length_runs.specs.worth.Driving.{resting_after}

-- a thread starts
abbrev pub is_start : Act → Bool
is_start (act.Start t there) = true
is_start a = false

-- how many threads the acts of a journal start
abbrev pub starts_in : List EntryView → ℕ
starts_in es = acts_that is_start es

-- with main
abbrev pub threads_in : List EntryView → ℕ
threads_in es = starts_in es + 1

-- at the end of a driven journal no more threads rest than there are
abbrev pub FewRest : Type 0
FewRest = (o : Options) (es : List EntryView) → is_driven o es ≡ true → length (resting_after [] es) ≤ threads_in es
