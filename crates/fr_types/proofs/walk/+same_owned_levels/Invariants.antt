use Rattle.fr_types.specs.Walks.{level_size}
use Rattle.fr_types.proofs.walk.+same_owned_levels.Given as goal

abbrev pub decreases-same_owned_levels : goal.decreases-same_owned_levels
decreases-same_owned_levels l = level_size l.a
