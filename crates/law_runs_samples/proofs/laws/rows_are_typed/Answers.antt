use Rattle.law_runs_samples.proofs.Examples.{rows_are_typed}
use Rattle.law_runs_samples.proofs.laws.rows_are_typed.Goals as goal

pub returns : goal.returns
returns c = rows_are_typed c.exactly_one.ensures c.programs_have_codes.ensures.programs
