use Rattle.coherent_samples.proofs.laws.chosen_stay_coherent.Goals as goal
use Rattle.coherent_samples.proofs.ChosenRuns.{chosen_stay}

pub returns : goal.returns
returns c = chosen_stay
