use Rattle.std.proofs.Common.{refl}
use Rattle.server_model.proofs.laws.trials_compute.Goals as goal

pub returns : goal.returns
returns c = record {
  pulled_to_lend = refl;
  pulled_to_lend_late = refl;
  renewed_at_end = refl;
  ended_elsewhere = refl;
  pulled_to_end = refl;
  pulled_to_read = refl;
  cleaned_to_share = refl;
  marked_by_word = refl;
  mark_handed_on = refl;
  out_of_box = refl;
  handed_on = refl;
  let_go_early = refl;
  let_go_late = refl;
  pulled_twice = refl;
  ended_by_another = refl;
  pinned_until_gone = refl;
  in_use = refl;
}
