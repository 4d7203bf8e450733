use Rattle.law_plain_threads.proofs.steps.never_stuck.Goals as goal
use Rattle.law_plain_threads.proofs.steps.CodeSteps.{never_stuck}
use Rattle.law_plain_threads.proofs.steps.Programs.{programs_never_stuck}

pub returns-clause-code : goal.returns-clause-code
returns-clause-code c = never_stuck

pub returns-clause-program : goal.returns-clause-program
returns-clause-program c = programs_never_stuck
