use Rattle.law_length_runs.proofs.asked.driven_runs_of_programs_are_short.Goals as goal
use Rattle.law_length_runs.proofs.asked.Programs.{driven_runs_of_programs_are_short}

pub returns : goal.returns
returns c = driven_runs_of_programs_are_short c.events_keep_coherence.ensures c.typed_code_has_table.ensures c.driven_runs_of_code_are_short.ensures
