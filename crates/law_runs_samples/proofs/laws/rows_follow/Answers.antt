use Rattle.std.proofs.Common.{refl}
use Rattle.law_runs_samples.specs.Rows.{written_box, empty, lent_slot, often_written, lent_box, read_elsewhere, written_elsewhere, read_by_pairs, read_two, locked_elsewhere, locked_twice}
use Rattle.law_runs_samples.proofs.laws.rows_follow.Goals as goal

pub returns : goal.returns
returns c =
    let f = c.explored_follows.ensures in (
      f written_box refl,
      f empty refl,
      f lent_slot refl,
      f often_written refl,
      f lent_box refl,
      f read_elsewhere refl,
      f written_elsewhere refl,
      f read_by_pairs refl,
      f read_two refl,
      f locked_elsewhere refl,
      f locked_twice refl,
    )
