use Rattle.law_words_ends.specs.Below.law_counts_sums.Kinds.{step_end, step_join, step_let, step_mutex}
use Rattle.law_entries_variables.proofs.deliveries.Continued.{continues}
use Rattle.law_entries_variables.proofs.variables.task_journals_go_on.Goals as goal
use Rattle.law_entries_variables.proofs.variables.Lets.{lets_legal}
use Rattle.law_entries_variables.proofs.variables.Joins.{joins_legal}
use Rattle.law_entries_variables.proofs.variables.Mutexes.{mutexes_legal}
use Rattle.law_entries_variables.proofs.variables.Ends.{ends_legal}

pub returns : goal.returns
returns c = record { variables = continues step_let lets_legal; joins = continues step_join joins_legal; mutexes = continues step_mutex mutexes_legal; ends = continues step_end ends_legal }
