use Rattle.fr_typing.specs.Places.{kind_shape, piece_shape, shape_at}
use Rattle.fr_types.specs.Types.{kind_of, piece_of}
use Rattle.fr_types.specs.States.{env_of}
use Rattle.fr_types.specs.Walks.{level_shape}
use Rattle.fr_types.proofs.WalkLemmas.{compared}
use Rattle.fr_types.proofs.shape.has_shape_of.Goals as goal

pub returns : goal.returns
returns c = λ names.
    compared (piece_shape (shape_at (env_of names c.args.env.now)) (piece_of c.args.part.now)) (kind_shape (shape_at (env_of names c.args.env.now)) (kind_of c.args.t.now))
    (level_shape (shape_at (env_of names c.args.env.now)) c.level_at.result) (level_shape (shape_at (env_of names c.args.env.now)) c.level_at-2.result) c.same_levels.result
    (c.same_levels.ensures names) (c.level_at.ensures.shape (shape_at (env_of names c.args.env.now))) (c.level_at-2.ensures.shape (shape_at (env_of names c.args.env.now)))
