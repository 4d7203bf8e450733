use Rattle.law_runs_order.proofs.things.sound_with_same_things.Goals as goal
use Rattle.law_runs_order.proofs.things.Sound.{sound_with_same_things}

pub returns : goal.returns
returns c = sound_with_same_things
