use Rattle.std.proofs.Common.{◌≡◌, ◌++◌, drop}
use Rattle.journal.specs.Journals.{prints}
use Rattle.tracer.proofs.report.prints_of.Given as goal

abbrev pub invariant-entries : goal.invariant-entries
invariant-entries l = l.numbers.items ++ prints (drop l.entry-index l.journal.items) ≡ prints l.journal.items
