use Rattle.law_counts_sums.specs.Kinds.{step_print, step_arith, step_par_end}
use Rattle.law_words_kept.proofs.stays.steps_leave_words.Goals as goal
use Rattle.law_words_kept.proofs.stays.StayKinds.{kind_stays, joins_leave, borrows_leave}

pub returns : goal.returns
returns c = record { prints = kind_stays step_print tt; arithmetic = kind_stays step_arith tt; pairs = kind_stays step_par_end tt; joins = joins_leave; borrows = borrows_leave }
