use Rattle.fr_typing.proofs.Agree.{exactly_one_lem}
use Rattle.fr_typing.proofs.laws.exactly_one.Goals as goal

pub returns : goal.returns
returns c = exactly_one_lem
