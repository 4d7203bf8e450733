use Rattle.std.proofs.Common.{◌≡◌, ◌+◌, ℕ, drop}
use Rattle.std.specs.Prelude.{map}
use Rattle.fr_base.specs.declared.message.Kind.{Kind}
use Rattle.coloured_heap.specs.Figures.{kinds}
use Rattle.coloured_heap.specs.Messages.{sent}
use Rattle.coloured_heap.proofs.messages.count_entry.Given as goal

abbrev pub invariant-acts : goal.invariant-acts
invariant-acts l = (f : Kind → ℕ) → l.fn.tally ≡ map f kinds → (g : Kind → ℕ) × (l.tally ≡ map g kinds) × ((k : Kind) → g k + sent l.entry.server (drop l.act-index l.act-items) k ≡ f k + sent l.entry.server l.act-items k)
