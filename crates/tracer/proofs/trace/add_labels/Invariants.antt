use Rattle.std.proofs.Common.{◌≡◌, ◌++◌, drop, string_bytes}
use Rattle.tracer.specs.TraceText.{labels_text}
use Rattle.tracer.proofs.trace.add_labels.Given as goal

abbrev pub invariant-labels : goal.invariant-labels
invariant-labels l = string_bytes l.text ++ labels_text (drop l.label-index l.labels) ≡ string_bytes l.initial.text ++ labels_text l.labels
