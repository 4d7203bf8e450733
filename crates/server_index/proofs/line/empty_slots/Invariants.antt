use Rattle.std.proofs.Common.{◌≡◌, replicate, None}
use Rattle.std.specs.Vec.{vec_len, vec_capacity}
use Rattle.server_index.proofs.line.empty_slots.Given as goal

-- so many slots, all empty
abbrev pub invariant-slots : goal.invariant-slots
invariant-slots g l = (vec_len l.slots ≡ l.counter) × (vec_capacity l.slots ≡ l.count) × (l.slots.items ≡ replicate l.counter None)
