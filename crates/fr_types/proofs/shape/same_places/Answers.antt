use Rattle.std.proofs.Common.{sym, ap, ◌∙◌}
use Rattle.fr_typing.specs.Places.{shape_at}
use Rattle.fr_types.specs.States.{env_of}
use Rattle.fr_types.specs.Walks.{level_shape, level_in}
use Rattle.fr_types.proofs.WalkLemmas.{compared}
use Rattle.fr_types.proofs.shape.same_places.Goals as goal

pub returns : goal.returns
returns c = λ names.
    compared (shape_at (env_of names c.args.env.now) c.args.u) (shape_at (env_of names c.args.env.now) c.args.v)
    (level_shape (shape_at (env_of names c.args.env.now)) c.in-Some-place_level.a) (level_shape (shape_at (env_of names c.args.env.now)) c.in-Some-place_level-2.b) c.same_levels.result
    (c.same_levels.ensures names)
    (sym (c.place_level.ensures.shape names ∙ ap (level_in (shape_at (env_of names c.args.env.now))) c.in-Some-place_level.is))
    (sym (c.place_level-2.ensures.shape names ∙ ap (level_in (shape_at (env_of names c.args.env.now))) c.in-Some-place_level-2.is))
