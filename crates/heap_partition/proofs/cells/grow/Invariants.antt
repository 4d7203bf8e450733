use Rattle.std.proofs.Common.{◌≡◌, ◌+◌, ◌-◌, ◌/◌, ◌≤◌, length}
use Rattle.heap_partition.specs.Chunks.{slots_of, ArePacked}
use Rattle.heap_partition.proofs.cells.grow.Given as goal

abbrev pub invariant-loop-chunks : goal.invariant-loop-chunks
invariant-loop-chunks l = ArePacked l.chunks.items × (slots_of l.chunks.items ≡ slots_of l.initial.chunks.items) × (length l.initial.chunks.items ≤ length l.chunks.items)

abbrev pub decreases-loop-chunks : goal.decreases-loop-chunks
decreases-loop-chunks l = l.places / 1024 + 1 - length l.chunks.items
