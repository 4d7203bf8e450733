use Rattle.std.proofs.Common.{◌<◌, List, Option, get_or, length, ◌∙◌, sym, subst, arith}
use Rattle.std.proofs.lemmas.List.{length-set}
use Rattle.fr_typing.specs.Places.{AreBelow, piece_places}
use Rattle.fr_types.specs.declared.resolved.Starred.{Starred}
use Rattle.fr_types.specs.Types.{piece_of}
use Rattle.fr_types.specs.Inside.{newest}
use Rattle.fr_types.specs.Bases.{AreLow, AreAimedBelow}
use Rattle.fr_types.proofs.EnvLemmas.{length_newest}
use Rattle.fr_types.proofs.RenewLemmas.{low_set, aimed_next, above_next, aim_seen, slot_below, slot_inside}
use Rattle.fr_types.proofs.resolved.aim_from.Goals as goal

pub aim-target-requires-clause-below : goal.aim-target-requires-clause-below
aim-target-requires-clause-below c =
    subst (λ (l : List (Option Starred)). AreBelow (length l) (piece_places (piece_of (get_or c.args.slots.now c.slots.at c.index-slots-at.result).part))) (sym c.as_slice.ensures.value)
    (slot_inside c.args.slots.now c.slots.at (length c.slots.targets.items) c.index-slots-at.result c.slots.invariant.right.nested c.slots-test.true (omega (arith, c.slots.invariant.same, c.requires.room)))

pub slots-preserved : goal.slots-preserved
slots-preserved c =
    let low = subst AreLow c.as_slice.ensures.value in
    let right = subst (AreAimedBelow c.slots.at (newest c.args.slots.now)) (sym c.as_slice.ensures.value) c.slots.invariant.right in
    let below = slot_below c.args.slots.now c.slots.at c.index-slots-at.result c.slots.invariant.right.nested c.slots-test.true in
    let here : c.slots.at < length c.slots.targets.items = omega (arith, c.slots.invariant.same, c.requires.room) in
    record {
      low = low_set c.slots.targets.items c.slots.at c.aim-target.result c.slots.invariant.low (c.aim-target.ensures.low c.slots.at below) here;
      same = length-set c.slots.targets.items c.slots.at c.aim-target.result ∙ c.slots.invariant.same;
      right = aimed_next c.slots.at (newest c.args.slots.now) c.slots.targets.items c.aim-target.result c.slots.invariant.right (omega (arith, length_newest c.args.slots.now)) here
          (aim_seen c.args.slots.now c.slots.at c.index-slots-at.result c.aim-target.result c.slots-test.true (c.aim-target.ensures.aimed c.slots.at (newest c.args.slots.now) below right));
      above = above_next c.slots.targets.items c.args.targets.now.items c.slots.at c.aim-target.result c.slots.invariant.above;
    }
