use Rattle.law_length_runs.proofs.short.runs_of_code_are_short.Goals as goal
use Rattle.law_length_runs.proofs.short.Runs.{code_short}

pub returns : goal.returns
returns c = code_short c.asks_left.ensures c.events_keep_coherence.ensures c.driven_runs_of_code_are_short.ensures
