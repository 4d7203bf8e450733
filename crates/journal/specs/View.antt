-- What contracts see of an entry: its acts and its labels as lists, whatever room they have.
use Rattle.std.specs.Prelude.{ℕ, List, Option}
use Rattle.fr_base.specs.declared.label.Label.{Label}
use Rattle.fr_base.specs.declared.step.Fresh.{Fresh}
use Rattle.journal.specs.declared.act.Act.{Act}

pub record EntryView : Type 0 where
  pub server : ℕ
  pub thread : Option ℕ
  -- the new names of the plain step, where the event did one
  pub done : Option Fresh
  pub acts : List Act
  pub labels : List Label
