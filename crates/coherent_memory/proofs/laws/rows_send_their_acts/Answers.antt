use Rattle.std.proofs.Common.{refl}
use Rattle.coherent_memory.proofs.laws.rows_send_their_acts.Goals as goal

pub returns : goal.returns
returns c = record {
  box_written = record { done = refl; same = refl };
  copied_once = record { done = refl; same = refl };
  comes_to_writer = record { done = refl; same = refl };
  old_copy_kept = record { done = refl; same = refl };
  renewed_twice = record { done = refl; same = refl };
  written_in_turns = record { done = refl; same = refl };
  evicted_once = record { done = refl; same = refl };
  locks_itself = record { done = refl; same = refl };
  released_first = record { done = refl; same = refl };
  unlocked_first = record { done = refl; same = refl };
}
