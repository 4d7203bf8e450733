use Rattle.std.proofs.Common.{refl}
use Rattle.coherent_samples.proofs.laws.runs_are_left.Goals as goal

pub returns : goal.returns
returns c = record {
  box_written = record { legal = refl; same = refl };
  copied_once = record { legal = refl; same = refl };
  comes_to_writer = record { legal = refl; same = refl };
  old_copy_kept = record { legal = refl; same = refl };
  renewed_twice = record { legal = refl; same = refl };
  written_in_turns = record { legal = refl; same = refl };
  evicted_once = record { legal = refl; same = refl };
  locks_itself = record { legal = refl; same = refl };
  released_first = record { legal = refl; same = refl };
  unlocked_first = record { legal = refl; same = refl };
}
