use Rattle.fr_acts.proofs.GoLemmas.{acts_go}
use Rattle.fr_acts.proofs.laws.mutex_acts_go.Goals as goal

pub returns : goal.returns
returns c = acts_go
