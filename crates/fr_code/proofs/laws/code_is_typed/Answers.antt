use Rattle.fr_code.proofs.laws.code_is_typed.Goals as goal
use Rattle.fr_code.proofs.Typed.{acts_are_typed, ends_are_typed, code_never_stuck, code_starts_typed}

pub returns-clause-acts : goal.returns-clause-acts
returns-clause-acts c = acts_are_typed

pub returns-clause-steps : goal.returns-clause-steps
returns-clause-steps c = code_never_stuck

pub returns-clause-starts : goal.returns-clause-starts
returns-clause-starts c = code_starts_typed

pub returns-clause-ends : goal.returns-clause-ends
returns-clause-ends c = ends_are_typed
