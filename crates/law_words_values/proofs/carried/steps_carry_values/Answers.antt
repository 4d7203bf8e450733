use Rattle.law_words_values.proofs.carried.steps_carry_values.Goals as goal
use Rattle.law_words_values.proofs.carried.Events.{steps_carry, discards_carry}

pub returns : goal.returns
returns c = record { steps = steps_carry; discards = discards_carry }
