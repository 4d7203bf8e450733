use Rattle.std.proofs.Common.{◌≡◌, ◌++◌, drop, string_bytes}
use Rattle.tracer.specs.ReportText.{print_lines}
use Rattle.tracer.proofs.report.add_prints.Given as goal

abbrev pub invariant-numbers : goal.invariant-numbers
invariant-numbers l = string_bytes l.text ++ print_lines (drop l.number-index l.numbers) ≡ string_bytes l.initial.text ++ print_lines l.numbers
