use Rattle.std.proofs.Common.{refl}
use Rattle.code_meaning.proofs.laws.runs_agree.Goals as goal

pub returns : goal.returns
returns c = record {
  shares_counted = record { first = refl; first_same = refl; last = refl; last_same = refl };
  task_let_go = record { first = refl; first_same = refl; last = refl; last_same = refl };
  contents_dropped = record { first = refl; first_same = refl; last = refl; last_same = refl };
  pair_inside = record { first = refl; first_same = refl; last = refl; last_same = refl };
  shared_20 = record { there = refl; same = refl };
  shared_40 = record { there = refl; same = refl };
  shared_60 = record { there = refl; same = refl };
  counted_30 = record { there = refl; same = refl };
  counted_50 = record { there = refl; same = refl };
  raised_40 = record { there = refl; same = refl };
  raised_60 = record { there = refl; same = refl };
  dropped_15 = record { there = refl; same = refl };
  dropped_20 = record { there = refl; same = refl };
  pairs_30 = record { there = refl; same = refl };
  pairs_50 = record { there = refl; same = refl };
  inside_40 = record { there = refl; same = refl };
  viewed_40 = record { there = refl; same = refl };
  viewed_60 = record { there = refl; same = refl };
  boxed_30 = record { there = refl; same = refl };
  boxed_50 = record { there = refl; same = refl };
  deep_50 = record { there = refl; same = refl };
}
