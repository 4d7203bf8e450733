use Rattle.std.proofs.Common.{arith}
use Rattle.fr_types.specs.Inside.{newest}
use Rattle.fr_types.proofs.EnvLemmas.{found_below}
use Rattle.fr_types.proofs.env.Env.find.Goals as goal

pub returns-then-at-len-clause-here : goal.returns-then-at-len-clause-here
returns-then-at-len-clause-here c = found_below (newest c.self.inside.slots.items) _ c.self.inside.slot_of.items c.args.name _ c.self.invariant.tabled.kept c.self.view_is (omega arith) c.index.ensures
