use Rattle.std.proofs.Common.{◌≡◌, List, drop}
use Rattle.fr_terms.specs.Terms.{Text}
use Rattle.fr_typing.specs.Places.{shape_at, have_shape}
use Rattle.fr_types.specs.States.{env_of}
use Rattle.fr_types.proofs.shape.have_shape_of.Given as goal

abbrev pub invariant-places : goal.invariant-places
invariant-places l = (names : List Text) → have_shape (shape_at (env_of names l.env)) (shape_at (env_of names l.env) l.u) (drop l.at l.vs) ≡ have_shape (shape_at (env_of names l.env)) (shape_at (env_of names l.env) l.u) l.vs
