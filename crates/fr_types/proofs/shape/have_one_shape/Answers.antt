use Rattle.fr_base.specs.declared.place.Lval.{Lval}
use Rattle.fr_typing.specs.Places.{shape_at}
use Rattle.fr_types.specs.States.{env_of}
use Rattle.fr_types.proofs.WalkLemmas.{both_tested, one_fails}
use Rattle.fr_types.proofs.shape.have_one_shape.Goals as goal

-- what stands for a place past the end
abbrev none : Lval
none = record { slot = 0; depth = 0 }

pub returns-then-have_shape_of : goal.returns-then-have_shape_of
returns-then-have_shape_of c = λ names.
    both_tested (shape_at (env_of names c.args.env.now)) c.args.us.now c.args.vs.now c.as_slice.result.now c.as_slice-2.result.now c.as_slice-then-have_shape_of.result.now none c.have_shape_of.result c.have_shape_of-then-have_shape_of.result
    c.as_slice.ensures.set.some c.as_slice.ensures.same c.as_slice-2.ensures.same c.as_slice-then-have_shape_of.ensures.same c.if-have_shape_of.true (c.have_shape_of.ensures names) (c.have_shape_of-then-have_shape_of.ensures names)

pub returns-else-have_shape_of : goal.returns-else-have_shape_of
returns-else-have_shape_of c = λ names.
    one_fails (shape_at (env_of names c.args.env.now)) c.args.us.now c.args.vs.now c.as_slice.result.now c.as_slice-2.result.now none c.have_shape_of.result
    c.as_slice.ensures.set.some c.as_slice.ensures.same c.as_slice-2.ensures.same c.if-have_shape_of.false (c.have_shape_of.ensures names)
