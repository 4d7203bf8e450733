use Rattle.fr_plain.specs.Run.{Run}
use Rattle.fr_shared.proofs.ActsLemmas.{acts_change_lem}
use Rattle.fr_shared.proofs.laws.acts_change.Goals as goal

pub returns : goal.returns
returns c = acts_change_lem Run
