use Rattle.std.proofs.Common.{ap, ◌∙◌}
use Rattle.fr_types.specs.Inside.{newest}
use Rattle.fr_types.proofs.ShapedLemmas.{copy_shaped}
use Rattle.fr_types.proofs.TableLemmas.{copy_tabled}
use Rattle.fr_types.proofs.env.Env.copy.Goals as goal

pub returns : goal.returns
returns c = c.in_ok-slots.ensures ∙ ap newest c.as_slice.ensures.value ∙ c.self.view_is

pub invariant_of-result : goal.invariant_of-result
invariant_of-result c =
    let same = c.in_ok-slots.ensures ∙ ap newest c.as_slice.ensures.value in
    record {
      tabled = copy_tabled c.self.inside.slots.items c.in_ok-slots.slots.items c.self.inside.slot_of.items c.in_ok-slot_of.slot_of.items c.self.inside.loans.items c.in_ok-loans.loans.items c.self.inside.targets.items c.in_ok-targets.targets.items c.self.invariant.tabled same c.in_ok-slot_of.ensures c.in_ok-loans.ensures c.in_ok-targets.ensures;
      shaped = copy_shaped c.in_ok-slots.slots.items c.self.inside.slots.items c.self.inside.shapes c.in_ok-shapes.shapes same c.in_ok-shapes.ensures c.self.invariant.shaped;
    }
