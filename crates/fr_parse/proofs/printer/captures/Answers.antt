use Rattle.std.proofs.Common.{string_bytes, codes}
use Rattle.fr_syntax.specs.Meanings.{meanings, captures_at}
use Rattle.fr_parse.specs.Canonical.{name_words}
use Rattle.fr_parse.proofs.PrintLemmas.{on_ok, enclosed}
use Rattle.fr_parse.proofs.printer.captures.Goals as goal

pub returns : goal.returns
returns c =
    on_ok _ _ c.word-2.result
    (enclosed (codes "(") (codes ")") (name_words (captures_at (meanings c.args.tree.now) c.args.nodes.now.items)) (string_bytes c.args.text.now) (string_bytes c.word.new.text) (string_bytes c.captured.new.text) (string_bytes c.word-2.new.text) c.in_ok-word.ensures c.in_ok-captured.ensures) c.word-2.ensures
