use Rattle.fr_types.specs.Inside.{newest}
use Rattle.fr_types.specs.Types.{kind_of}
use Rattle.fr_types.proofs.ShapedLemmas.{same_seen}
use Rattle.fr_types.proofs.env.Env.same_shapes.Goals as goal

pub returns : goal.returns
returns c = λ names. same_seen names (newest c.self.inside.slots.items) c.args.self.now c.self.inside.shapes (kind_of c.args.a.now) (kind_of c.args.b.now) c.same.result c.self.invariant.shaped c.self.view_is c.same.ensures
