use Rattle.std.proofs.Common.{◌≤◌, [], ◌∷◌, ◌++◌, length, refl, sym, subst, arith, List, Option, set}
use Rattle.fr_types.specs.Types.{piece_of}
use Rattle.fr_types.specs.Inside.{newest, IsTabled}
use Rattle.fr_types.proofs.EnvLemmas.{length_newest, few_inside}
use Rattle.fr_typing.specs.Places.{AreBelow, piece_places}
use Rattle.fr_types.specs.Bounds.{most_slots}
use Rattle.fr_types.specs.declared.resolved.Starred.{Starred}
use Rattle.fr_types.specs.Bases.{AreAimedBelow}
use Rattle.fr_types.proofs.ShapedLemmas.{push_shaped}
use Rattle.fr_types.proofs.TableLemmas.{push_below, loans_room, push_space, push_aimed, push_tabled}
use Rattle.fr_types.proofs.env.enter.Goals as goal

pub overflow_cast-slot : goal.overflow_cast-slot
overflow_cast-slot c = let few : length c.args.slots.now.items ≤ most_slots = few_inside c.args.slots.now.items c.args.slot_of.now.items c.requires.tabled.kept in omega arith

pub make_targets-requires-clause-few : goal.make_targets-requires-clause-few
make_targets-requires-clause-few c = omega (arith, c.args.slots.now.ok.0, length_newest c.args.slots.now.items, c.requires.few)

pub lend-requires-clause-below : goal.lend-requires-clause-below
lend-requires-clause-below c =
    push_below c.args.slots.now.items (newest c.args.slots.now.items) (piece_of c.args.variable.now.part) (length c.make_space.new.loans.items) refl (omega (arith, (loans_room c.args.slots.now.items c.args.slot_of.now.items c.args.loans.now.items c.args.targets.now.items c.requires.tabled).0, c.make_space.ensures.longer)) c.requires.below

pub lend-requires-clause-space : goal.lend-requires-clause-space
lend-requires-clause-space c =
    push_space c.args.slots.now.items c.args.slot_of.now.items c.args.loans.now.items c.make_space.new.loans.items c.args.targets.now.items c.requires.tabled c.make_space.ensures.longer c.make_space.ensures.same

pub aim-target-requires-clause-below : goal.aim-target-requires-clause-below
aim-target-requires-clause-below c =
    subst (λ (l : List (Option Starred)). AreBelow (length l) (piece_places (piece_of c.args.variable.now.part))) (sym c.as_slice.ensures.value)
    (push_below c.args.slots.now.items (newest c.args.slots.now.items) (piece_of c.args.variable.now.part) (length c.make_targets.new.targets.items) refl (omega (arith, (loans_room c.args.slots.now.items c.args.slot_of.now.items c.args.loans.now.items c.args.targets.now.items c.requires.tabled).1, c.make_targets.ensures.longer)) c.requires.below)

pub returns-clause-tabled : goal.returns-clause-tabled
returns-clause-tabled c =
    let all = newest c.args.slots.now.items in
    let right = subst (AreAimedBelow (length all) all) (sym c.as_slice.ensures.value) (push_aimed c.args.slots.now.items c.args.slot_of.now.items c.args.loans.now.items c.args.targets.now.items c.make_targets.new.targets.items c.requires.tabled c.make_targets.ensures.longer c.make_targets.ensures.same) in
    let new = c.args.slots.now.items ++ c.args.variable.now ∷ [] in
    subst (λ l. IsTabled (newest new) l c.lend.new.loans.items (set c.make_targets.new.targets.items c.len-slot.result c.aim-target.result)) (sym c.note.ensures)
    (push_tabled c.args.slots.now.items new all c.args.slot_of.now.items c.make_room.new.slot_of.items c.args.loans.now.items c.make_space.new.loans.items c.lend.new.loans.items c.args.targets.now.items c.make_targets.new.targets.items c.args.variable.now c.len-slot.result c.aim-target.result
    c.requires.tabled refl c.make_room.ensures.same refl (omega (arith, c.args.slots.now.ok.0)) c.requires.new c.requires.below c.requires.few c.in_ok-make_room.ensures.room
    c.make_space.ensures.longer c.make_space.ensures.same c.in_ok-make_space.ensures.room c.lend.ensures
    c.make_targets.ensures.longer c.make_targets.ensures.small c.make_targets.ensures.same c.in_ok-make_targets.ensures.room
    (c.aim-target.ensures.aimed (length all) all c.requires.below right) (c.aim-target.ensures.low (length all) c.requires.below))

pub returns-clause-shaped : goal.returns-clause-shaped
returns-clause-shaped c = push_shaped c.args.slots.now.items (c.args.slots.now.items ++ c.args.variable.now ∷ []) c.args.variable.now c.args.shapes.now c.push.new.self c.requires.shaped refl c.in_ok-push.ensures.pushed
