use Rattle.std.proofs.Common.{refl}
use Rattle.server_model.proofs.laws.chances_compute.Goals as goal

pub returns-clause-small : goal.returns-clause-small
returns-clause-small c = record {
  of_written_box = refl;
  of_lent_slot = refl;
  of_read_elsewhere = refl;
  of_written_elsewhere = refl;
  of_read_by_pairs = refl;
  of_often_written = refl;
  of_lent_box = refl;
  of_read_two = refl;
  of_locked_elsewhere = refl;
  of_lent_elsewhere = refl;
  of_lent_once = refl;
  of_read_dirty = refl;
  of_shared_dirty = refl;
  of_lent_inside = refl;
  of_lent_dirty = refl;
  of_moved_out = refl;
  of_counted_up = refl;
  of_task_dropped = refl;
  of_written_deep = refl;
  of_turned = refl;
  of_read_thrice = refl;
  of_read_deep = refl;
}

pub returns-clause-larger : goal.returns-clause-larger
returns-clause-larger c = record {
  of_lent_on = refl;
  of_raised_by_two = refl;
  of_pair_in_pair = refl;
  of_result_on = refl;
  of_filled_again = refl;
  of_shared_in_turns = refl;
  of_lent_through_slot = refl;
  of_all_dropped = refl;
}
