use Rattle.std.proofs.Common.{refl}
use Rattle.read_cache.specs.Hash.{folded}
use Rattle.read_cache.proofs.hash.fold.Goals as goal

pub returns : goal.returns
unfolding folded
returns c = refl
