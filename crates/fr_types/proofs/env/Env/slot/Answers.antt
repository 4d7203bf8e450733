use Rattle.std.proofs.Common.{length, ap, arith}
use Rattle.fr_types.proofs.EnvLemmas.{length_newest, slot_outside, part_seen, below_seen, there, not_there}
use Rattle.fr_types.proofs.env.Env.slot.Goals as goal

pub returns-then-at-len-clause-some : goal.returns-then-at-len-clause-some
returns-then-at-len-clause-some c = there c.args.no (length c.args.self.now) (slot_outside c.self.inside.slots.items c.args.self.now c.args.no c.self.view_is (omega arith))

pub returns-then-at-len-clause-part : goal.returns-then-at-len-clause-part
returns-then-at-len-clause-part c = part_seen c.self.inside.slots.items c.args.self.now c.args.no _ c.self.view_is (omega arith) c.index.ensures

pub returns-then-at-len-clause-below : goal.returns-then-at-len-clause-below
returns-then-at-len-clause-below c = below_seen c.self.inside.slots.items c.args.self.now c.self.inside.slot_of.items c.args.no _ c.self.invariant.tabled.kept c.self.view_is (omega arith) c.index.ensures

pub returns-else-at-len-clause-some : goal.returns-else-at-len-clause-some
returns-else-at-len-clause-some c = let same = ap length c.self.view_is in not_there c.args.no (length c.args.self.now) (omega (arith, length_newest c.self.inside.slots.items))
