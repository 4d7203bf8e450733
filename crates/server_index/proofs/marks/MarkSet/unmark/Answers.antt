use Rattle.std.proofs.Common.{Some, None, refl, ap, ◌∙◌}
use Rattle.rank_map.specs.Places.{with_place}
use Rattle.server_index.proofs.MarkSetLemmas.{there_too, seen_places, spread_set, spread_shows, came_set, out_set, out_shows}
use Rattle.server_index.proofs.marks.MarkSet.unmark.Goals as goal

pub take-requires : goal.take-requires
take-requires c = record { place = there_too c.self.inside.few.items _ _ _ c.self.view_is c.requires.place }

pub come_back-requires-clause-rises : goal.come_back-requires-clause-rises
come_back-requires-clause-rises c =
    let there = there_too c.self.inside.few.items c.self.inside.ranks _ c.args.number c.self.view_is c.requires.place in
    (spread_set c.self.inside.few.items c.self.inside.ranks _ c.args.number c.self.inside.spilled None c.self.invariant.rises there (c.self.invariant.spread c.if-self.true) c.if-self.true c.take.ensures.places).rises

pub invariant_of-self : goal.invariant_of-self
invariant_of-self c =
    let there = there_too c.self.inside.few.items c.self.inside.ranks _ c.args.number c.self.view_is c.requires.place in
    let before = spread_set c.self.inside.few.items c.self.inside.ranks _ c.args.number c.self.inside.spilled None c.self.invariant.rises there (c.self.invariant.spread c.if-self.true) c.if-self.true c.take.ensures.places in
    came_set c.take.new.self c.come_back.new.few.items c.come_back.new.ranks _ before.rises c.come_back.ensures.few c.come_back.ensures.none c.come_back.ensures.rises c.come_back.ensures.placed refl

pub invariant_of-self-else-len-le-FEW_AGAIN : goal.invariant_of-self-else-len-le-FEW_AGAIN
invariant_of-self-else-len-le-FEW_AGAIN c =
    let there = there_too c.self.inside.few.items c.self.inside.ranks _ c.args.number c.self.view_is c.requires.place in
    spread_set c.self.inside.few.items c.self.inside.ranks _ c.args.number _ None c.self.invariant.rises there (c.self.invariant.spread c.if-self.true) c.if-self.true c.take.ensures.places

pub invariant_of-self-else-self : goal.invariant_of-self-else-self
invariant_of-self-else-self c = out_set c.self.inside.few.items c.take_out.new.few.items c.self.inside.ranks c.args.number _ c.self.invariant c.if-self.false c.take_out.ensures

pub returns-then-len-le-FEW_AGAIN : goal.returns-then-len-le-FEW_AGAIN
returns-then-len-le-FEW_AGAIN c =
    c.come_back.ensures.same ∙ c.take.ensures.places
    ∙ ap (λ ps. with_place ps c.args.number (Some None)) (seen_places c.self.inside.few.items _ _ (c.self.invariant.spread c.if-self.true) c.self.view_is)

pub returns-else-len-le-FEW_AGAIN : goal.returns-else-len-le-FEW_AGAIN
returns-else-len-le-FEW_AGAIN c =
    let few = c.self.invariant.spread c.if-self.true in
    spread_shows c.self.inside.few.items c.self.inside.ranks _ _ c.args.number None few c.take.ensures.places (seen_places c.self.inside.few.items _ _ few c.self.view_is)

pub returns-else-self : goal.returns-else-self
returns-else-self c = out_shows c.self.inside.few.items c.take_out.new.few.items c.self.inside.ranks _ c.args.number _ c.self.invariant c.self.view_is c.requires.place c.if-self.false c.take_out.ensures
