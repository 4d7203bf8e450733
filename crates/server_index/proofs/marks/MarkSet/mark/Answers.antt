use Rattle.std.proofs.Common.{Some, refl, ap, ◌∙◌}
use Rattle.server_index.specs.MarkSets.{lit}
use Rattle.server_index.proofs.MarkSetLemmas.{there_too, seen_places, spread_set, spread_shows, put_set, put_shows}
use Rattle.server_index.proofs.marks.MarkSet.mark.Goals as goal

pub insert-requires : goal.insert-requires
insert-requires c = record { place = there_too c.self.inside.few.items _ _ _ c.self.view_is c.requires.place }

pub invariant_of-self : goal.invariant_of-self
invariant_of-self c =
    let there = there_too c.self.inside.few.items c.self.inside.ranks _ c.args.number c.self.view_is c.requires.place in
    spread_set c.self.inside.few.items c.self.inside.ranks _ c.args.number _ (Some tt) c.self.invariant.rises there (c.self.invariant.spread c.if-self.true) c.if-self.true c.insert.ensures.places

pub returns-then-self : goal.returns-then-self
returns-then-self c =
    let few = c.self.invariant.spread c.if-self.true in
    spread_shows c.self.inside.few.items c.self.inside.ranks _ _ c.args.number (Some tt) few c.insert.ensures.places (seen_places c.self.inside.few.items _ _ few c.self.view_is)

pub invariant_of-self-then-put : goal.invariant_of-self-then-put
invariant_of-self-then-put c =
    put_set c.self.inside.few.items c.put.new.few.items c.self.inside.ranks _ c.args.number _ c.self.invariant c.self.view_is c.requires.place c.if-self.false (c.put.ensures.put c.if-put.true)

pub returns-then-put : goal.returns-then-put
returns-then-put c =
    put_shows c.self.inside.few.items c.put.new.few.items c.self.inside.ranks _ c.args.number _ c.self.invariant c.self.view_is c.requires.place (c.put.ensures.put c.if-put.true)

pub insert-requires-2 : goal.insert-requires-2
insert-requires-2 c =
    let same = c.spill.ensures.same ∙ ap (λ f. lit f.items c.self.inside.ranks) (c.put.ensures.full c.if-put.false) ∙ c.self.view_is in
    record { place = there_too c.spill.new.few.items c.spill.new.ranks _ c.args.number same c.requires.place }

pub invariant_of-self-2 : goal.invariant_of-self-2
invariant_of-self-2 c =
    let same = c.spill.ensures.same ∙ ap (λ f. lit f.items c.self.inside.ranks) (c.put.ensures.full c.if-put.false) ∙ c.self.view_is in
    let there = there_too c.spill.new.few.items c.spill.new.ranks _ c.args.number same c.requires.place in
    spread_set c.spill.new.few.items c.spill.new.ranks _ c.args.number _ (Some tt) c.spill.ensures.rises there c.spill.ensures.few refl c.insert-2.ensures.places

pub returns : goal.returns
returns c =
    let same = c.spill.ensures.same ∙ ap (λ f. lit f.items c.self.inside.ranks) (c.put.ensures.full c.if-put.false) ∙ c.self.view_is in
    spread_shows c.spill.new.few.items c.spill.new.ranks _ _ c.args.number (Some tt) c.spill.ensures.few c.insert-2.ensures.places (seen_places c.spill.new.few.items _ _ c.spill.ensures.few same)
