use Rattle.std.proofs.Common.{◌≡◌, ◌++◌, drop, string_bytes}
use Rattle.tracer.specs.TraceText.{acts_text}
use Rattle.tracer.proofs.trace.add_acts.Given as goal

abbrev pub invariant-acts : goal.invariant-acts
invariant-acts l = string_bytes l.text ++ acts_text (drop l.act-index l.acts) ≡ string_bytes l.initial.text ++ acts_text l.acts
