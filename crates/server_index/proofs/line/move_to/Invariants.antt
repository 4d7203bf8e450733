use Rattle.std.proofs.Common.{◌≡◌, ◌+◌, ◌++◌, drop, length}
use Rattle.server_index.specs.Lines.{values}
use Rattle.server_index.proofs.LineLemmas.{IsMoving}
use Rattle.server_index.proofs.line.move_to.Given as goal

-- what the line has and what the later slots have are all items
abbrev pub invariant-slots : goal.invariant-slots
invariant-slots g l =
    IsMoving (l.initial.line.items ++ values l.initial.slots.items) (l.initial.line.room + length l.initial.line.items) (drop l.at l.slots.items) l.line
    × (length l.slots.items ≡ length l.initial.slots.items)
