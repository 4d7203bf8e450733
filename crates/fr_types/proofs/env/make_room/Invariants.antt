use Rattle.std.proofs.Common.{◌≡◌, ℕ, ◌+◌, ◌-◌, length, slice_index_or, None}
use Rattle.fr_types.proofs.env.make_room.Given as goal

abbrev pub invariant-names : goal.invariant-names
invariant-names l = (at : ℕ) → slice_index_or l.slot_of.items at None ≡ slice_index_or l.initial.slot_of.items at None

abbrev pub decreases-names : goal.decreases-names
decreases-names l = l.name + 1 - length l.slot_of.items
