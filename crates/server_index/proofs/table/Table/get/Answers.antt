use Rattle.std.proofs.Common.{ap, ◌∙◌, arith}
use Rattle.rank_map.specs.Places.{item_at}
use Rattle.server_index.proofs.TableLemmas.{within, item_here, item_none}
use Rattle.server_index.proofs.table.Table.get.Goals as goal

pub index-requires : goal.index-requires
index-requires g c =
    let inside = within c.in-Some.slot c.args.key c.self.invariant c.in-Some.ensures in
    omega (arith, inside, c.self.inside.slots.ok.0)

pub returns-in-Some : goal.returns-in-Some
returns-in-Some g c =
    c.as_ref.ensures.value ∙ item_here c.in-Some.slot c.args.key c.index.result.now c.self.invariant c.in-Some.ensures c.index.ensures
    ∙ ap (λ v. item_at v c.args.key) c.self.view_is

pub returns-in-None : goal.returns-in-None
returns-in-None g c = item_none c.self.inside.slots.items c.self.inside.index c.args.key c.in-None.ensures ∙ ap (λ v. item_at v c.args.key) c.self.view_is
