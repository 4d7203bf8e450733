use Rattle.std.proofs.Common.{replicate, string_bytes, codes}
use Rattle.fr_parse.specs.Written.{IsWritten}
use Rattle.fr_parse.proofs.printer.path.Given as goal

abbrev pub invariant-stars : goal.invariant-stars
invariant-stars l = IsWritten (string_bytes l.initial.text) (replicate l.counter (codes "*")) (string_bytes l.text)
