use Rattle.std.proofs.Common.{◌≡◌, ◌+◌, drop}
use Rattle.rank_map.proofs.BlockLemmas.{nth_from}
use Rattle.rank_map.proofs.block.Block.nth.Given as goal

-- the item is looked for in the slots that are left
abbrev pub invariant-slots : goal.invariant-slots
invariant-slots g l = nth_from (l.self-inside.first + l.slot) (drop l.slot l.self-inside.slots.items) l.left ≡ nth_from l.self-inside.first l.self-inside.slots.items l.fn.at
