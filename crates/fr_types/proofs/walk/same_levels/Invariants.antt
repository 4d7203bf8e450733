use Rattle.std.proofs.Common.{◌≡◌, List}
use Rattle.fr_terms.specs.Terms.{Text}
use Rattle.fr_typing.specs.Places.{shape_at, equal_shapes}
use Rattle.fr_types.specs.States.{env_of}
use Rattle.fr_types.specs.Walks.{level_shape, level_rank}
use Rattle.fr_types.proofs.walk.same_levels.Given as goal

abbrev pub invariant-levels : goal.invariant-levels
invariant-levels l = (names : List Text) → equal_shapes (level_shape (shape_at (env_of names l.env)) l.a) (level_shape (shape_at (env_of names l.env)) l.b) ≡ equal_shapes (level_shape (shape_at (env_of names l.env)) l.fn.a) (level_shape (shape_at (env_of names l.env)) l.fn.b)

abbrev pub decreases-levels : goal.decreases-levels
decreases-levels l = level_rank l.a
