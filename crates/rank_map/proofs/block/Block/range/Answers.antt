use Rattle.std.proofs.Common.{◌+◌, subst}
use Rattle.rank_map.specs.Places.{Rises}
use Rattle.rank_map.proofs.BlockLemmas.{block_rises}
use Rattle.rank_map.proofs.block.Block.range.Goals as goal

pub returns-clause-rises : goal.returns-clause-rises
returns-clause-rises g c = subst (λ v. Rises c.self.inside.first (c.self.inside.first + 16) v.places) c.self.view_is (block_rises c.self.invariant)
