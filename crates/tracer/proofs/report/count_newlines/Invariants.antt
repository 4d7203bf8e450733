use Rattle.std.proofs.Common.{◌≡◌, ◌+◌, ◌≤◌, drop}
use Rattle.tracer.specs.Counting.{newlines}
use Rattle.tracer.proofs.report.count_newlines.Given as goal

abbrev pub invariant-bytes : goal.invariant-bytes
invariant-bytes l = (l.count + newlines (drop l.byte-index l.text) ≡ newlines l.text) × (l.count ≤ l.byte-index)
