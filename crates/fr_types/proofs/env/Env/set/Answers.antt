use Rattle.std.proofs.Common.{◌<◌, length, rules, sym, ap, ◌∙◌, subst, ℕ, ◌≡◌, ◌≤◌, List, [], arith}
use Rattle.std.proofs.lemmas.List.{length-set}
use Rattle.fr_typing.specs.Places.{AreBelow, piece_places}
use Rattle.fr_types.specs.declared.types.Part.{Part}
use Rattle.fr_types.specs.Types.{piece_of}
use Rattle.fr_types.specs.States.{put_in}
use Rattle.fr_types.specs.Lent.{IsLent}
use Rattle.fr_types.proofs.EnvLemmas.{slot_inside, set_seen}
use Rattle.fr_types.specs.declared.variable.Variable.{Variable}
use Rattle.fr_types.specs.Lent.{IsLent}
use Rattle.fr_types.specs.Bases.{AreAimedBelow, AreAimed}
use Rattle.fr_types.specs.Inside.{newest}
use Rattle.fr_types.proofs.ShapedLemmas.{set_shaped}
use Rattle.fr_types.proofs.EnvLemmas.{put_in-newest}
use Rattle.fr_types.proofs.TableLemmas.{loans_room, set_below, old_below, old_lent, set_space, set_aimed, set_free, set_tabled}
use Rattle.fr_types.proofs.env.Env.set.Goals as goal

pub index-requires : goal.index-requires
index-requires c =
    let lt : c.args.no < length c.self.inside.slots.items = slot_inside c.self.inside.slots.items c.args.self.now c.args.no c.self.view_is c.requires.here in
    search rules

pub index-requires-2 : goal.index-requires-2
index-requires-2 c =
    let lt : c.args.no < length c.self.inside.slots.items = slot_inside c.self.inside.slots.items c.args.self.now c.args.no c.self.view_is c.requires.here in
    search rules

pub index_mut-requires : goal.index_mut-requires
index_mut-requires c =
    let lt : c.args.no < length c.self.inside.slots.items = slot_inside c.self.inside.slots.items c.args.self.now c.args.no c.self.view_is c.requires.here in
    search rules

pub returns : goal.returns
returns c =
    set_seen c.self.inside.slots.items c.args.self.now c.args.no c.index_mut.result.now c.replace.new.dest c.self.view_is c.requires.here c.index_mut.ensures.value
    ∙ ap (λ (q : Part). put_in c.args.self.now c.args.no (piece_of q)) c.replace.ensures.after

pub give_back-requires-clause-below : goal.give_back-requires-clause-below
give_back-requires-clause-below c =
    old_below c.self.inside.slots.items c.args.self.now c.self.inside.slot_of.items c.self.inside.loans.items c.self.inside.targets.items c.args.no c.index.result.now c.self.invariant.tabled c.self.view_is c.requires.here c.index.ensures

pub give_back-requires-clause-lent : goal.give_back-requires-clause-lent
give_back-requires-clause-lent c =
    old_lent c.self.inside.slots.items c.args.self.now c.self.inside.slot_of.items c.self.inside.loans.items c.self.inside.targets.items c.args.no c.index.result.now c.self.invariant.tabled c.self.view_is c.requires.here c.index.ensures

pub lend-requires-clause-below : goal.lend-requires-clause-below
lend-requires-clause-below c =
    subst (λ n. AreBelow n (piece_places (piece_of c.args.part))) c.give_back.ensures.same
    (set_below c.self.inside.slots.items c.args.self.now c.self.inside.slot_of.items c.self.inside.loans.items c.self.inside.targets.items c.args.no (piece_of c.args.part) c.self.invariant.tabled c.self.view_is c.requires.here c.requires.below)

pub lend-requires-clause-space : goal.lend-requires-clause-space
lend-requires-clause-space c = set_space c.self.inside.slots.items c.self.inside.slot_of.items c.self.inside.loans.items c.give_back.new.loans.items c.self.inside.targets.items (piece_of c.index.result.now.part) c.self.invariant.tabled c.give_back.ensures

pub renew-requires-clause-here : goal.renew-requires-clause-here
renew-requires-clause-here c =
    let lt : c.args.no < length c.self.inside.slots.items = slot_inside c.self.inside.slots.items c.args.self.now c.args.no c.self.view_is c.requires.here in
    subst (λ (l : List Variable). c.args.no < length l) (sym c.as_slice.ensures.value) (omega (arith, lt, length-set c.self.inside.slots.items c.args.no (record { name = c.index_mut.result.now.name; part = c.replace.new.dest })))

pub renew-requires-clause-room : goal.renew-requires-clause-room
renew-requires-clause-room c =
    subst (λ (l : List Variable). length l ≤ length c.self.inside.targets.items) (sym c.as_slice.ensures.value) (omega (arith, (loans_room c.self.inside.slots.items c.self.inside.slot_of.items c.self.inside.loans.items c.self.inside.targets.items c.self.invariant.tabled).1, length-set c.self.inside.slots.items c.args.no (record { name = c.index_mut.result.now.name; part = c.replace.new.dest })))

below_new : (n : ℕ) (p q : Part) → p ≡ q → AreBelow n (piece_places (piece_of q)) → AreBelow n (piece_places (piece_of p))
below_new n p q is h = subst (λ r. AreBelow n (piece_places (piece_of r))) (sym is) h

pub renew-requires-clause-below : goal.renew-requires-clause-below
renew-requires-clause-below c =
    subst (λ l. AreAimedBelow c.args.no (newest l) c.self.inside.targets.items) (sym c.as_slice.ensures.value)
    (set_aimed c.self.inside.slots.items c.args.self.now c.self.inside.slot_of.items c.self.inside.loans.items c.self.inside.targets.items c.args.no c.index_mut.result.now c.replace.new.dest c.self.invariant.tabled c.self.view_is c.requires.here c.index_mut.ensures.value (below_new c.args.no c.replace.new.dest c.args.part c.replace.ensures.after c.requires.below))

pub invariant_of-self : goal.invariant_of-self
invariant_of-self c =
    let is = put_in-newest c.self.inside.slots.items c.args.no c.index_mut.result.now c.replace.new.dest (slot_inside c.self.inside.slots.items c.args.self.now c.args.no c.self.view_is c.requires.here) c.index_mut.ensures.value in
    let aims = c.renew.ensures.aimed (newest c.self.inside.slots.items) (piece_of c.replace.new.dest) c.self.invariant.tabled.kept.nested (ap newest c.as_slice.ensures.value ∙ is) c.self.invariant.tabled.aimed (set_free c.self.inside.slots.items c.args.self.now c.args.no c.write_blocked-is_lent.result c.self.view_is (c.write_blocked-is_lent.ensures [])) in
    record {
      tabled =
          set_tabled c.self.inside.slots.items c.args.self.now c.self.inside.slot_of.items c.self.inside.loans.items c.give_back.new.loans.items c.lend.new.loans.items c.self.inside.targets.items c.renew.new.targets.items c.args.no c.index.result.now c.index_mut.result.now c.replace.new.dest
          c.self.invariant.tabled c.self.view_is c.requires.here c.index.ensures c.index_mut.ensures.value
          (below_new c.args.no c.replace.new.dest c.args.part c.replace.ensures.after c.requires.below)
          c.give_back.ensures
          (subst (λ (q : Part). IsLent c.give_back.new.loans.items c.lend.new.loans.items (piece_of q)) (sym c.replace.ensures.after) c.lend.ensures)
          c.renew.ensures.length
          (subst (λ l. AreAimed (newest l) c.renew.new.targets.items) c.as_slice.ensures.value aims);
      shaped =
          set_shaped c.self.inside.slots.items c.args.no c.index-2.result.now c.index_mut.result.now c.replace.new.dest c.args.part c.self.inside.shapes c.change.new.self c.self.invariant.tabled.kept.nested c.self.invariant.shaped
          (slot_inside c.self.inside.slots.items c.args.self.now c.args.no c.self.view_is c.requires.here) c.requires.below c.index-2.ensures c.index_mut.ensures.value c.replace.ensures.after c.change.ensures;
    }
