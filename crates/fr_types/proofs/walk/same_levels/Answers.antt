use Rattle.std.proofs.Common.{sym, ◌∙◌}
use Rattle.fr_typing.specs.Places.{shape_at}
use Rattle.fr_types.specs.States.{env_of}
use Rattle.fr_types.proofs.WalkLemmas.{left_ends, right_ends, both_go, ends_at}
use Rattle.fr_types.proofs.walk.same_levels.Goals as goal

pub returns-in_default : goal.returns-in_default
returns-in_default c = λ names.
    left_ends (shape_at (env_of names c.args.env.now)) c.levels.a c.levels.b c.target_level.result (sym c.may_go.ensures ∙ c.levels-test.true) (c.target_level.ensures.shape names) c.in_default.is
    ∙ c.levels.invariant names

pub returns-in_default-target_level : goal.returns-in_default-target_level
returns-in_default-target_level c = λ names.
    right_ends (shape_at (env_of names c.args.env.now)) c.levels.a c.levels.b c.target_level-in-levels.result (sym c.may_go.ensures ∙ c.levels-test.true) (c.target_level-in-levels.ensures.shape names) c.in_default-target_level.is
    ∙ c.levels.invariant names

pub levels-preserved : goal.levels-preserved
levels-preserved c = λ names.
    both_go (shape_at (env_of names c.args.env.now)) c.levels.a c.levels.b c.in-Some.x c.in-Some-target_level.y c.target_level.result c.target_level-in-levels.result (sym c.may_go.ensures ∙ c.levels-test.true) (c.target_level.ensures.shape names) (c.target_level-in-levels.ensures.shape names) c.in-Some.is c.in-Some-target_level.is
    ∙ c.levels.invariant names

pub returns : goal.returns
returns c = λ names.
    c.same_owned_levels.ensures (shape_at (env_of names c.args.env.now))
    ∙ ends_at (shape_at (env_of names c.args.env.now)) c.levels.a c.levels.b (sym c.may_go.ensures ∙ c.levels-test.false)
    ∙ c.levels.invariant names
