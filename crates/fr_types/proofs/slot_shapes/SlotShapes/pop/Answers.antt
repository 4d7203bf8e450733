use Rattle.std.proofs.Common.{List, Option, ℕ, subst, arith}
use Rattle.fr_types.specs.SlotShapes.{AreNumbers}
use Rattle.fr_types.proofs.NumberedLemmas.{numbers_pop, pop_known}
use Rattle.fr_types.proofs.slot_shapes.SlotShapes.pop.Goals as goal

pub invariant_of-self : goal.invariant_of-self
invariant_of-self c = numbers_pop c.self.inside.table c.pop.new.self.items c.pop.result (subst (λ (l : List (Option ℕ)). AreNumbers c.self.inside.table l) c.pop.ensures.items c.self.invariant)

pub returns : goal.returns
returns c =
    pop_known c.self.inside.table c.self.inside.numbers.items c.pop.new.self.items c.pop.result c.self.inside.is_known c.args.self.now c.self.view_is c.pop.ensures.items
    (λ some. c.pop.ensures.variant.1 (omega (arith, c.self.inside.numbers.ok.0)))
