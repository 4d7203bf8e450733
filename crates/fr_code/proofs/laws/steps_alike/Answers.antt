use Rattle.fr_code.proofs.laws.steps_alike.Goals as goal
use Rattle.fr_code.proofs.Settling.{settling_stands}
use Rattle.fr_code.proofs.Threads.{moves_alike}
use Rattle.fr_code.proofs.Wholes.{steps_alike, refusals_alike, endings_alike}

pub returns-clause-settling : goal.returns-clause-settling
returns-clause-settling c = settling_stands

pub returns-clause-moves : goal.returns-clause-moves
returns-clause-moves c = moves_alike

pub returns-clause-steps : goal.returns-clause-steps
returns-clause-steps c = steps_alike

pub returns-clause-refusals : goal.returns-clause-refusals
returns-clause-refusals c = refusals_alike

pub returns-clause-endings : goal.returns-clause-endings
returns-clause-endings c = endings_alike
