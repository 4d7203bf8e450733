use Rattle.std.proofs.Common.{◌+◌, [], ◌∷◌, None, length, length-append, ap, ◌∙◌, arith}
use Rattle.rank_map.specs.Blocks.{from_slots}
use Rattle.rank_map.proofs.BlockLemmas.{slots_push}
use Rattle.rank_map.proofs.block.make_slots.Goals as goal

pub slots-init : goal.slots-init
slots-init g c = (c.in_ok-slots.ensures.len, c.in_ok-slots.ensures.exact, ap length c.in_ok-slots.ensures.items, λ k. ap (from_slots k) c.in_ok-slots.ensures.items)

pub push_reserved-requires : goal.push_reserved-requires
push_reserved-requires g c = omega (arith, c.slots.invariant.0, c.slots.invariant.1, c.slots-test.true)

pub slots-preserved : goal.slots-preserved
slots-preserved g c = (
  c.push_reserved.ensures.len ∙ ap (λ n. n + 1) c.slots.invariant.0,
  c.push_reserved.ensures.capacity ∙ c.slots.invariant.1,
  ap length c.push_reserved.ensures.items ∙ length-append c.slots.slots.items (None ∷ []) ∙ ap (λ n. n + 1) c.slots.invariant.2,
  λ k. ap (from_slots k) c.push_reserved.ensures.items ∙ slots_push c.slots.slots.items k ∙ c.slots.invariant.3 k,
)

pub returns-clause-whole : goal.returns-clause-whole
returns-clause-whole g c = omega (arith, c.slots.invariant.2, c.slots.auto.counter-end, c.slots-test.false)

pub returns-clause-none : goal.returns-clause-none
returns-clause-none g c = c.slots.invariant.3
