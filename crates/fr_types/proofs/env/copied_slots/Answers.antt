use Rattle.std.proofs.Common.{refl, ap, ◌∙◌, arith}
use Rattle.fr_types.specs.Inside.{newest}
use Rattle.fr_types.proofs.EnvLemmas.{copy_step, copy_seen}
use Rattle.fr_types.proofs.env.copied_slots.Goals as goal

pub slots-preserved : goal.slots-preserved
slots-preserved c =
    ap newest c.in_ok-push.ensures.items
    ∙ copy_step c.slots.made.items c.args.slots.now (record { name = c.index-slots-at.result.name; part = c.in_ok-copy.field-0 }) c.index-slots-at.result c.slots.at c.slots.invariant (omega arith) c.index-slots-at.is (ap (λ p. record { name = c.index-slots-at.result.name; part = p }) c.in_ok-copy.ensures)

pub returns : goal.returns
returns c = copy_seen c.slots.made.items c.args.slots.now _ c.slots.at c.slots.invariant (omega arith) refl
