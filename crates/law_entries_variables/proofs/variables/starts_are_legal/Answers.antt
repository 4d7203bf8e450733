use Rattle.law_entries_variables.proofs.variables.starts_are_legal.Goals as goal
use Rattle.law_entries_variables.proofs.variables.Spawns.{spawns_legal}
use Rattle.law_entries_variables.proofs.variables.Pars.{pairs_legal}

pub returns : goal.returns
returns c = record { threads = spawns_legal; pairs = pairs_legal }
