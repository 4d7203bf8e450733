use Rattle.std.proofs.Common.{◌≡◌, ◌+◌, ◌-◌, ◌*◌, ◌^◌, ◌≤◌, drop}
use Rattle.coloured_heap.specs.Figures.{steps}
use Rattle.tracer.specs.Counting.{figure_of}
use Rattle.tracer.specs.declared.figures.Figure.TheVariants as figure
use Rattle.tracer.proofs.figures.figures_of.Given as goal

abbrev pub invariant-entries : goal.invariant-entries
invariant-entries l =
    (l.steps + steps (drop l.entry-index l.entry-items) ≡ steps l.entry-items)
    × (l.issued + figure_of figure.Issued (drop l.entry-index l.entry-items) ≡ figure_of figure.Issued l.entry-items)
    × (l.renewed + figure_of figure.Renewed (drop l.entry-index l.entry-items) ≡ figure_of figure.Renewed l.entry-items)
    × (l.hits + figure_of figure.Hits (drop l.entry-index l.entry-items) ≡ figure_of figure.Hits l.entry-items)
    × (l.evictions + figure_of figure.Evictions (drop l.entry-index l.entry-items) ≡ figure_of figure.Evictions l.entry-items)
    × (l.steps ≤ l.entry-index)
    × (l.issued ≤ l.entry-index * (2 ^ 64 - 1))
    × (l.renewed ≤ l.entry-index * (2 ^ 64 - 1))
    × (l.hits ≤ l.entry-index * (2 ^ 64 - 1))
    × (l.evictions ≤ l.entry-index * (2 ^ 64 - 1))
