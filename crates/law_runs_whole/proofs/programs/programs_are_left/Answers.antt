use Rattle.law_runs_whole.proofs.programs.programs_are_left.Goals as goal
use Rattle.law_runs_whole.proofs.programs.Programs.{programs_are_left}

pub returns : goal.returns
returns c = programs_are_left c.events_keep_coherence.ensures c.starts_are_coherent.ensures c.typed_code_has_table.ensures
