use Rattle.std.proofs.Common.{sym, ◌∙◌, arith}
use Rattle.fr_base.specs.declared.place.Lval.{Lval}
use Rattle.fr_typing.specs.Places.{shape_at, have_shape}
use Rattle.fr_types.specs.States.{env_of}
use Rattle.fr_types.proofs.WalkLemmas.{shape_gone, shape_more, shape_end}
use Rattle.fr_types.proofs.shape.have_shape_of.Goals as goal

-- what stands for a place past the end
abbrev none : Lval
none = record { slot = 0; depth = 0 }

pub returns-then-not-same_places : goal.returns-then-not-same_places
returns-then-not-same_places c = λ names.
    shape_gone (shape_at (env_of names c.args.env.now)) (shape_at (env_of names c.args.env.now) c.args.u) c.args.vs.now c.places.at none (have_shape (shape_at (env_of names c.args.env.now)) (shape_at (env_of names c.args.env.now) c.args.u) c.args.vs.now) c.places-test.true
    (sym c.if-not-same_places.true ∙ c.same_places.ensures names) (c.places.invariant names)

pub places-preserved : goal.places-preserved
places-preserved c = λ names.
    shape_more (shape_at (env_of names c.args.env.now)) (shape_at (env_of names c.args.env.now) c.args.u) c.args.vs.now c.places.at none (have_shape (shape_at (env_of names c.args.env.now)) (shape_at (env_of names c.args.env.now) c.args.u) c.args.vs.now) c.places-test.true
    (sym c.if-not-same_places.false ∙ c.same_places.ensures names) (c.places.invariant names)

pub returns : goal.returns
returns c = λ names.
    shape_end (shape_at (env_of names c.args.env.now)) (shape_at (env_of names c.args.env.now) c.args.u) c.args.vs.now c.places.at (have_shape (shape_at (env_of names c.args.env.now)) (shape_at (env_of names c.args.env.now) c.args.u) c.args.vs.now) (omega arith) (c.places.invariant names)
