use Rattle.law_runs_whole.proofs.waits.programs_stand_there.Goals as goal
use Rattle.law_runs_whole.proofs.waits.Stands.{programs_stand_there, deadlocks_wait_there, programs_end_there}

pub returns : goal.returns
returns c = record { stands = programs_stand_there; waits = deadlocks_wait_there; ends = programs_end_there }
