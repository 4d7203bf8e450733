use Rattle.law_length_runs.proofs.short.runs_of_programs_are_short.Goals as goal
use Rattle.law_length_runs.proofs.short.Runs.{programs_short}

pub returns : goal.returns
returns c = programs_short c.asks_left.ensures c.driven_runs_of_programs_are_short.ensures
