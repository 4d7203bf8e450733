use Rattle.std.proofs.Common.{◌≡◌, ◌++◌, drop}
use Rattle.journal.specs.Journals.{printed}
use Rattle.tracer.proofs.report.add_printed.Given as goal

abbrev pub invariant-labels : goal.invariant-labels
invariant-labels l = l.numbers.items ++ printed (drop l.label-index l.labels) ≡ l.initial.numbers.items ++ printed l.labels
