use Rattle.fr_types.specs.Inside.{newest}
use Rattle.fr_types.proofs.ShapedLemmas.{places_seen}
use Rattle.fr_types.proofs.env.Env.same_places.Goals as goal

pub returns : goal.returns
returns c = λ names. places_seen names (newest c.self.inside.slots.items) c.args.self.now c.self.inside.shapes c.args.u c.args.v c.same_places.result c.self.invariant.shaped c.self.view_is c.same_places.ensures
