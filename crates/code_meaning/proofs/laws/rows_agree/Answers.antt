use Rattle.std.proofs.Common.{refl}
use Rattle.code_meaning.proofs.laws.rows_agree.Goals as goal

pub returns : goal.returns
returns c = record {
  box_written = record { same = refl; end = refl };
  nothing_done = record { same = refl; end = refl };
  slot_lent = record { same = refl; end = refl };
  copied_once = record { same = refl; end = refl };
  comes_to_writer = record { same = refl; end = refl };
  old_copy_kept = record { same = refl; end = refl };
  renewed_twice = record { same = refl; end = refl };
  written_in_turns = record { same = refl; end = refl };
  evicted_once = record { same = refl; end = refl };
  locks_itself = record { same = refl; end = refl };
  released_first = record { same = refl; end = refl };
  unlocked_first = record { same = refl; end = refl };
}
