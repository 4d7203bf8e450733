use Rattle.law_plain_values.proofs.drops.drops_keep_types.Goals as goal
use Rattle.law_plain_values.proofs.drops.Dropped.{drop_keeps}

pub returns : goal.returns
returns c = record { keeps = drop_keeps }
