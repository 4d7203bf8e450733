use Rattle.law_length_programs.proofs.orders.orders_are_short.Goals as goal
use Rattle.law_length_programs.proofs.orders.Orders.{orders_are_short}

pub returns : goal.returns
returns c = orders_are_short c.programs_do_few_steps.ensures
