use Rattle.coherent_samples.proofs.laws.chosen_ends_are_left.Goals as goal
use Rattle.coherent_samples.proofs.ChosenEndRuns.{chosen_end}

pub returns : goal.returns
returns c = chosen_end
