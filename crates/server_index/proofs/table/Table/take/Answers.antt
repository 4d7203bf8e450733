use Rattle.std.proofs.Common.{is_some, true≢false, Some, sym, ap, ◌∙◌, arith}
use Rattle.rank_map.specs.Places.{has_place, item_at, with_place}
use Rattle.server_index.proofs.TableLemmas.{slot_has, within, item_here, changed}
use Rattle.server_index.proofs.table.Table.take.Goals as goal

pub unreachable-requires : goal.unreachable-requires
unreachable-requires g c =
    let told = ap is_some (sym c.in_default.is ∙ c.get.ensures) ∙ slot_has c.args.key c.self.invariant ∙ ap (λ v. has_place v c.args.key) c.self.view_is in
    true≢false (sym c.requires.place ∙ sym told)

pub index_mut-requires : goal.index_mut-requires
index_mut-requires g c =
    let inside = within c.in-Some.slot c.args.key c.self.invariant c.in-Some.ensures in
    omega (arith, inside, c.self.inside.slots.ok.0)

pub invariant_of-self : goal.invariant_of-self
invariant_of-self g c = (changed c.in-Some.slot c.args.key c.index_mut.result.now c.take.new.self c.self.invariant c.in-Some.ensures c.index_mut.ensures.value).table

pub returns-clause-item : goal.returns-clause-item
returns-clause-item g c =
    c.take.ensures.value ∙ item_here c.in-Some.slot c.args.key c.index_mut.result.now c.self.invariant c.in-Some.ensures c.index_mut.ensures.value
    ∙ ap (λ v. item_at v c.args.key) c.self.view_is

pub returns-clause-places : goal.returns-clause-places
returns-clause-places g c =
    (changed c.in-Some.slot c.args.key c.index_mut.result.now c.take.new.self c.self.invariant c.in-Some.ensures c.index_mut.ensures.value).places
    ∙ ap (λ v. with_place v c.args.key (Some c.take.new.self)) c.self.view_is ∙ ap (λ y. with_place c.args.self.now c.args.key (Some y)) c.take.ensures.after
