use Rattle.law_runs_order.proofs.messages.coherent_in_any_order.Goals as goal
use Rattle.law_runs_order.proofs.messages.InOrder.{same_things, coherent_in_any_order}

pub returns : goal.returns
returns c = record { things = same_things; coherent = coherent_in_any_order }
