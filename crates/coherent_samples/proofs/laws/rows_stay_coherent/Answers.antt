use Rattle.std.proofs.Common.{refl}
use Rattle.coherent_samples.proofs.laws.rows_stay_coherent.Goals as goal

pub returns : goal.returns
returns c = record { box_written = refl; nothing_done = refl; slot_lent = refl; copied_once = refl; comes_to_writer = refl; old_copy_kept = refl; renewed_twice = refl; written_in_turns = refl; evicted_once = refl; locks_itself = refl; released_first = refl; unlocked_first = refl }
