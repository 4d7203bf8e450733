use Rattle.law_entries_writes.proofs.stores.variables_are_legal.Goals as goal
use Rattle.law_entries_writes.proofs.stores.Variables.{variables_legal}

pub returns : goal.returns
returns c = variables_legal
