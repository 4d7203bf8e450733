use Rattle.std.proofs.Common.{sym, ◌∙◌}
use Rattle.fr_typing.specs.Kinds.{union}
use Rattle.fr_typing.specs.Places.{alike}
use Rattle.fr_types.specs.States.{env_of}
use Rattle.fr_types.proofs.JoinLemmas.{joined_sets, no_sets}
use Rattle.fr_types.proofs.join.join_places.Goals as goal

pub returns-in_ok-union : goal.returns-in_ok-union
returns-in_ok-union c = λ names. joined_sets (alike (env_of names c.args.env.now) c.args.us.now c.args.vs.now) c.in_ok-union.field-0 (union c.args.us.now c.args.vs.now) (sym (c.have_one_shape.ensures names) ∙ c.if-have_one_shape.true) c.in_ok-union.ensures

pub returns-else-have_one_shape : goal.returns-else-have_one_shape
returns-else-have_one_shape c = λ names. no_sets (alike (env_of names c.args.env.now) c.args.us.now c.args.vs.now) (union c.args.us.now c.args.vs.now) (sym (c.have_one_shape.ensures names) ∙ c.if-have_one_shape.false)
