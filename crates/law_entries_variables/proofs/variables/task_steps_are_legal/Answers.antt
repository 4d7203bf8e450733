use Rattle.law_entries_variables.proofs.variables.task_steps_are_legal.Goals as goal
use Rattle.law_entries_variables.proofs.variables.Lets.{lets_legal}
use Rattle.law_entries_variables.proofs.variables.Joins.{joins_legal}
use Rattle.law_entries_variables.proofs.variables.Mutexes.{mutexes_legal}
use Rattle.law_entries_variables.proofs.variables.Ends.{ends_legal}

pub returns : goal.returns
returns c = record { variables = lets_legal; joins = joins_legal; mutexes = mutexes_legal; ends = ends_legal }
