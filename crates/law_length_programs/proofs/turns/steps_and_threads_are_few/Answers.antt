use Rattle.law_length_programs.proofs.turns.steps_and_threads_are_few.Goals as goal
use Rattle.law_length_programs.proofs.turns.Few.{steps_and_threads_are_few}

pub returns : goal.returns
returns c = steps_and_threads_are_few c.events_keep_coherence.ensures c.starts_are_coherent.ensures c.typed_code_has_table.ensures c.programs_run_right.ensures c.orders_are_short.ensures
