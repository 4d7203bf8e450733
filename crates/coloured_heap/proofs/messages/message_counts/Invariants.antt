use Rattle.std.proofs.Common.{◌≡◌, ◌+◌, ℕ, drop}
use Rattle.std.specs.Prelude.{map}
use Rattle.fr_base.specs.declared.message.Kind.{Kind}
use Rattle.coloured_heap.specs.Figures.{kinds}
use Rattle.coloured_heap.specs.Sends.{count}
use Rattle.coloured_heap.proofs.messages.message_counts.Given as goal

abbrev pub invariant-entries : goal.invariant-entries
invariant-entries l = (g : Kind → ℕ) × (l.tally ≡ map g kinds) × ((k : Kind) → g k + count (drop l.entry-index l.entry-items) k ≡ count l.entry-items k)
