use Rattle.law_plain_values.proofs.acts.acts_are_ready.Goals as goal
use Rattle.law_plain_values.proofs.acts.Example.{print_is_ready, let_is_ready}

pub returns-clause-print : goal.returns-clause-print
returns-clause-print c = print_is_ready

pub returns-clause-bind : goal.returns-clause-bind
returns-clause-bind c = let_is_ready
