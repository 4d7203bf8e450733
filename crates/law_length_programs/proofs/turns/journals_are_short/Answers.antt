use Rattle.law_length_programs.proofs.turns.journals_are_short.Goals as goal
use Rattle.law_length_programs.proofs.turns.Few.{journals_are_short}

pub returns : goal.returns
returns c = journals_are_short c.steps_and_threads_are_few.ensures c.runs_of_programs_are_short.ensures
