use Rattle.std.proofs.Common.{◌≡◌, ◌+◌, option_map, slice_get, sym, ap, ◌∙◌, arith}
use Rattle.rank_map.specs.Places.{entries}
use Rattle.rank_map.proofs.BlockLemmas.{nth_from, nth_here, nth_later, nth_end}
use Rattle.rank_map.proofs.block.Block.nth.Goals as goal

pub slots-init : goal.slots-init
slots-init g c =
    let e : c.self.inside.first + 0 ≡ c.self.inside.first = omega arith in
    ap (λ j. nth_from j c.self.inside.slots.items c.args.at) e

pub slots-preserved : goal.slots-preserved
slots-preserved g c =
    sym (nth_later c.self.inside.slots.items c.self.inside.first c.slots.slot c.slots.left c.items_in-items.result c.index.result.now (omega (arith, c.self.invariant.whole, c.slots-test.true)) c.index.ensures c.items_in-items.ensures c.if-left-items.false)
    ∙ c.slots.invariant

pub returns-then-left-items : goal.returns-then-left-items
returns-then-left-items g c =
    sym (nth_here c.self.inside.slots.items c.self.inside.first c.slots.slot c.slots.left c.items_in-items.result c.index.result.now (omega (arith, c.self.invariant.whole, c.slots-test.true)) c.index.ensures c.items_in-items.ensures c.if-left-items.true)
    ∙ c.slots.invariant ∙ ap (λ v. option_map (λ e. e.key) (slice_get (entries v.places) c.args.at)) c.self.view_is

pub returns : goal.returns
returns g c =
    sym (nth_end c.self.inside.slots.items (c.self.inside.first + c.slots.slot) c.slots.slot c.slots.left (omega (arith, c.self.invariant.whole, c.slots-test.false)))
    ∙ c.slots.invariant ∙ ap (λ v. option_map (λ e. e.key) (slice_get (entries v.places) c.args.at)) c.self.view_is
