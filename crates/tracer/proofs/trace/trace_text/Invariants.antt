use Rattle.std.proofs.Common.{◌≡◌, ◌++◌, drop, string_bytes}
use Rattle.std.specs.List.{flat_map}
use Rattle.tracer.specs.TraceText.{entry_text, trace}
use Rattle.tracer.proofs.trace.trace_text.Given as goal

abbrev pub invariant-entries : goal.invariant-entries
invariant-entries l = string_bytes l.text ++ flat_map entry_text (drop l.entry-index l.journal.items) ≡ trace l.journal.items
