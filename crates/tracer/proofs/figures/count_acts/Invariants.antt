use Rattle.std.proofs.Common.{◌≡◌, ◌+◌, ◌≤◌, drop}
use Rattle.tracer.specs.Counting.{figure_of, with_acts}
use Rattle.tracer.proofs.figures.count_acts.Given as goal

abbrev pub invariant-acts : goal.invariant-acts
invariant-acts l = (l.count + figure_of l.figure (with_acts (drop l.act-index l.acts)) ≡ figure_of l.figure (with_acts l.acts)) × (l.count ≤ l.act-index)
