use Rattle.std.proofs.Common.{inl, inr, sym, ◌∙◌, arith}
use Rattle.rank_map.proofs.BlockLemmas.{block_outside, slot_place}
use Rattle.rank_map.proofs.block.Block.place.Goals as goal
use Rattle.rank_map.proofs.block.Block.place.Goals.{then-key-self-via-then-key-self, then-key-self-via-else-key-self+then-self-key}

pub returns-then-key-self : goal.returns-then-key-self
returns-then-key-self g c =
    elim c.then-key-self.branch [
      | then-key-self-via-then-key-self w ↦ block_outside c.args.key c.self.view_is c.self.invariant (inl w.if-key-self.true)
      | then-key-self-via-else-key-self+then-self-key w ↦ block_outside c.args.key c.self.view_is c.self.invariant (inr w.if-self-key.true)
    ]

pub returns : goal.returns
returns g c =
    let at = slot_place {x = c.index.result.now} (record { seen = c.self.view_is; block = c.self.invariant; bounds = (c.if-key-self.false, omega (arith, c.if-self-key.false)); read = c.index.ensures }) in
    c.as_ref.ensures.value ∙ sym at
