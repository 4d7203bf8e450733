use Rattle.std.proofs.Common.{◌≡◌, ◌++◌, drop, string_bytes}
use Rattle.replay_answers.specs.Report.{number_lines}
use Rattle.replay_answers.proofs.report.add_numbers.Given as goal

abbrev pub invariant-numbers : goal.invariant-numbers
invariant-numbers l = string_bytes l.text ++ number_lines (drop l.number-index l.printed) ≡ string_bytes l.initial.text ++ number_lines l.printed
