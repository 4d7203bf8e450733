use Rattle.std.proofs.Common.{refl}
use Rattle.drive_model.proofs.laws.rounds_compute.Goals as goal

pub returns-clause-short : goal.returns-clause-short
returns-clause-short c = record {
  box_written = (refl, refl);
  read_here = (refl, refl);
  copied_once = (refl, refl);
  comes_to_writer = (refl, refl);
  old_copy_kept = (refl, refl);
  evicted_once = (refl, refl);
  locks_itself = refl;
  stops_early = refl;
  stops_at_end = refl;
}

pub returns-clause-long : goal.returns-clause-long
returns-clause-long c = record { added = (refl, refl) }
