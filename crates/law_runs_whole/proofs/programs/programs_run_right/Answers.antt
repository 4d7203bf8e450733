use Rattle.law_runs_whole.proofs.programs.programs_run_right.Goals as goal
use Rattle.law_runs_whole.proofs.programs.Programs.{programs_run_right}

pub returns : goal.returns
returns c = programs_run_right c.events_keep_coherence.ensures c.starts_are_coherent.ensures c.typed_code_has_table.ensures
