use Rattle.std.proofs.Common.{List, Option, get_or, length, sym, subst, arith}
use Rattle.fr_typing.specs.Places.{AreBelow, piece_places}
use Rattle.fr_types.specs.declared.resolved.Starred.{Starred}
use Rattle.fr_types.specs.Types.{piece_of}
use Rattle.fr_types.specs.Inside.{newest}
use Rattle.fr_types.specs.Bases.{AreAimedBelow}
use Rattle.fr_types.proofs.EnvLemmas.{length_newest}
use Rattle.fr_types.proofs.RenewLemmas.{low_set, aimed_next, aim_seen, slot_below, slot_inside, target_seen, renew_same, renew_free, renew_all}
use Rattle.fr_types.proofs.resolved.renew.Goals as goal

pub aim-target-requires-clause-below : goal.aim-target-requires-clause-below
aim-target-requires-clause-below c =
    subst (λ (l : List (Option Starred)). AreBelow (length l) (piece_places (piece_of (get_or c.args.slots.now c.args.at c.index-slots-at.result).part))) (sym c.as_slice.ensures.value)
    (slot_inside c.args.slots.now c.args.at (length c.args.targets.now.items) c.index-slots-at.result c.requires.below.nested c.requires.here c.requires.room)

pub returns-then-is_same-clause-aimed : goal.returns-then-is_same-clause-aimed
returns-then-is_same-clause-aimed c = λ vs p nested is h free.
    let right = subst (AreAimedBelow c.args.at (newest c.args.slots.now)) (sym c.as_slice.ensures.value) c.requires.below in
    let below = slot_below c.args.slots.now c.args.at c.index-slots-at.result c.requires.below.nested c.requires.here in
    let leads = aim_seen c.args.slots.now c.args.at c.index-slots-at.result c.aim-target.result c.requires.here (c.aim-target.ensures.aimed c.args.at (newest c.args.slots.now) below right) in
    renew_same vs (newest c.args.slots.now) c.args.at p c.args.targets.now.items c.aim-target.result (omega (arith, c.requires.here, length_newest c.args.slots.now)) c.requires.below.nested nested is h leads
    (target_seen c.args.targets.now.items c.args.at c.aim-target.result c.index.result.now (omega (arith, c.requires.here, c.requires.room)) c.index.ensures (c.is_same.ensures c.if-is_same.true))

pub aim_from-requires-clause-low : goal.aim_from-requires-clause-low
aim_from-requires-clause-low c =
    let below = slot_below c.args.slots.now c.args.at c.index-slots-at.result c.requires.below.nested c.requires.here in
    low_set c.args.targets.now.items c.args.at c.aim-target.result c.requires.low (c.aim-target.ensures.low c.args.at below) (omega (arith, c.requires.here, c.requires.room))

pub aim_from-requires-clause-below : goal.aim_from-requires-clause-below
aim_from-requires-clause-below c =
    let right = subst (AreAimedBelow c.args.at (newest c.args.slots.now)) (sym c.as_slice.ensures.value) c.requires.below in
    let below = slot_below c.args.slots.now c.args.at c.index-slots-at.result c.requires.below.nested c.requires.here in
    let leads = aim_seen c.args.slots.now c.args.at c.index-slots-at.result c.aim-target.result c.requires.here (c.aim-target.ensures.aimed c.args.at (newest c.args.slots.now) below right) in
    aimed_next c.args.at (newest c.args.slots.now) c.args.targets.now.items c.aim-target.result c.requires.below (omega (arith, c.requires.here, length_newest c.args.slots.now)) (omega (arith, c.requires.here, c.requires.room)) leads

pub returns-then-is_lent-clause-aimed : goal.returns-then-is_lent-clause-aimed
returns-then-is_lent-clause-aimed c = λ vs p nested is h free.
    renew_all vs (newest c.args.slots.now) c.args.at (length c.args.slots.now) p c.args.targets.now.items c.aim_from.new.targets.items c.aim-target.result (omega (arith, c.requires.here, length_newest c.args.slots.now)) (sym (length_newest c.args.slots.now)) is h
    c.aim_from.ensures.low c.aim_from.ensures.length c.aim_from.ensures.aimed c.aim_from.ensures.above

pub returns-else-is_lent-clause-aimed : goal.returns-else-is_lent-clause-aimed
returns-else-is_lent-clause-aimed c = λ vs p nested is h free.
    let right = subst (AreAimedBelow c.args.at (newest c.args.slots.now)) (sym c.as_slice.ensures.value) c.requires.below in
    let below = slot_below c.args.slots.now c.args.at c.index-slots-at.result c.requires.below.nested c.requires.here in
    let leads = aim_seen c.args.slots.now c.args.at c.index-slots-at.result c.aim-target.result c.requires.here (c.aim-target.ensures.aimed c.args.at (newest c.args.slots.now) below right) in
    renew_free vs (newest c.args.slots.now) c.args.at p c.args.targets.now.items c.aim-target.result (omega (arith, c.requires.here, length_newest c.args.slots.now)) is h leads (c.aim-target.ensures.low c.args.at below) (free c.if-is_lent.false)
