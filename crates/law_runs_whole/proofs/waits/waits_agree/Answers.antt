use Rattle.law_runs_whole.proofs.waits.waits_agree.Goals as goal
use Rattle.law_runs_whole.proofs.waits.Plain.{resting_wait}
use Rattle.law_runs_whole.proofs.waits.Waiting.{joins_wait, pairs_wait}

pub returns : goal.returns
returns c = record { joins = joins_wait; pairs = pairs_wait; resting = resting_wait }
