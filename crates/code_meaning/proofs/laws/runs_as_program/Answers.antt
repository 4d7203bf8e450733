use Rattle.code_meaning.proofs.laws.runs_as_program.Goals as goal
use Rattle.code_meaning.proofs.AsProgram.{runs_as_program}

pub returns : goal.returns
returns c = runs_as_program
