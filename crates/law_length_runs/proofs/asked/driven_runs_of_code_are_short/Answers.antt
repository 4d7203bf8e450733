use Rattle.law_length_runs.proofs.asked.driven_runs_of_code_are_short.Goals as goal
use Rattle.law_length_runs.proofs.asked.Coherently.{driven_runs_of_code_are_short}

pub returns : goal.returns
returns c = driven_runs_of_code_are_short c.starts_are_coherent.ensures
