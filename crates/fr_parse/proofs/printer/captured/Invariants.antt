use Rattle.std.proofs.Common.{take, string_bytes}
use Rattle.fr_syntax.specs.Meanings.{meanings, captures_at}
use Rattle.fr_parse.specs.Canonical.{name_words}
use Rattle.fr_parse.specs.Written.{IsWritten}
use Rattle.fr_parse.proofs.printer.captured.Given as goal

abbrev pub invariant-captures : goal.invariant-captures
invariant-captures l = IsWritten (string_bytes l.initial.text) (name_words (captures_at (meanings l.tree) (take l.next l.nodes.items))) (string_bytes l.text)
