use Rattle.std.proofs.Common.{◌≡◌, ℕ, [], length}
use Rattle.std.specs.Vec.{vec_len, vec_capacity}
use Rattle.rank_map.specs.Blocks.{from_slots}
use Rattle.rank_map.proofs.block.make_slots.Given as goal

-- so many slots, none with a place
abbrev pub invariant-slots : goal.invariant-slots
invariant-slots g l = (vec_len l.slots ≡ l.counter) × (vec_capacity l.slots ≡ 16) × (length l.slots.items ≡ l.counter) × ((k : ℕ) → from_slots k l.slots.items ≡ [])
