use Rattle.std.proofs.Common.{◌≡◌, ◌++◌, drop, string_bytes}
use Rattle.tracer.specs.ReportText.{wait_lines}
use Rattle.tracer.proofs.report.add_each_wait.Given as goal

abbrev pub invariant-waits : goal.invariant-waits
invariant-waits l = string_bytes l.text ++ wait_lines (drop l.thread-index l.waits) ≡ string_bytes l.initial.text ++ wait_lines l.waits
