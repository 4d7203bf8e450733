use Rattle.law_plain_threads.proofs.steps.examples_never_stuck.Goals as goal
use Rattle.law_plain_threads.proofs.steps.Programs.{examples_never_stuck}

pub returns : goal.returns
returns c = examples_never_stuck
