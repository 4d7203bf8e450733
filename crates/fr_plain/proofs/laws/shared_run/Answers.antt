use Rattle.std.proofs.Common.{refl}
use Rattle.fr_plain.proofs.laws.shared_run.Goals as goal

pub returns-clause-locks : goal.returns-clause-locks
returns-clause-locks c = record { counts = refl; exchanged = refl; constant_inside = refl; waits_inside = refl; deadlocked = refl; going_before = refl; waits_outside = refl; going_beside = refl; goes_on = refl }

pub returns-clause-pairs : goal.returns-clause-pairs
returns-clause-pairs c = record { shared_twice = refl; two_cells = refl; handed_over = refl; waits_for_both = refl; waits_for_one = refl; wants_two = refl; wants_others = refl }

pub returns-clause-acts : goal.returns-clause-acts
returns-clause-acts c = record {
  first_share = refl;
  second_share = refl;
  one_dropped = refl;
  both_dropped = refl;
  content_gone = refl;
  counted_labels = refl;
  name_again = refl;
  made_again = refl;
  name_of_gone = refl;
  locked = refl;
  unlocked = refl;
  lock_labels = refl;
  lock_waits = refl;
  share_gone = refl;
  still_out = refl;
  dropped_inside = refl;
  pair_shown = refl;
  pair_over = refl;
  pair_waits = refl;
  pair_ends = refl;
  one_name = refl;
  name_given = refl;
  one_thread = refl;
}
