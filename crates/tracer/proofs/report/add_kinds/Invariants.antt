use Rattle.std.proofs.Common.{◌≡◌, ◌++◌, drop, string_bytes}
use Rattle.tracer.specs.Counting.{tally_lines}
use Rattle.tracer.proofs.report.add_kinds.Given as goal

abbrev pub invariant-kinds : goal.invariant-kinds
invariant-kinds l = string_bytes l.text ++ tally_lines l.tally (drop l.kind-index l.kinds) ≡ string_bytes l.initial.text ++ tally_lines l.tally l.kinds
