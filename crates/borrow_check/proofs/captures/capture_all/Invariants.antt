use Rattle.std.proofs.Common.{drop}
use Rattle.borrow_check.specs.Capturing.{capturer_of}
use Rattle.borrow_check.proofs.CaptureLemmas.{IsCapturing}
use Rattle.borrow_check.proofs.captures.capture_all.Given as goal

abbrev pub invariant-names : goal.invariant-names
invariant-names l = IsCapturing (capturer_of l.by) l.tree l.captures.items (drop l.next l.captures.items) l.initial.env l.initial.new l.env l.new l.initial.checker.usages.items l.checker.usages.items
