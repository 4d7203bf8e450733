use Rattle.std.proofs.Common.{length, string_bytes}
use Rattle.fr_syntax.specs.Meanings.{meanings, capture_s}
use Rattle.fr_parse.proofs.PrintLemmas.{need_at, name_written}
use Rattle.fr_parse.proofs.printer.captured.Goals as goal

pub capture-requires-clause-here : goal.capture-requires-clause-here
capture-requires-clause-here c = (need_at (meanings c.args.tree.now) (length (meanings c.args.tree.now)) capture_s c.args.nodes.now.items c.captures-2.next c.in-Some.node.now c.requires.parts c.in-Some.ensures).0

pub capture-requires-clause-sort : goal.capture-requires-clause-sort
capture-requires-clause-sort c = (need_at (meanings c.args.tree.now) (length (meanings c.args.tree.now)) capture_s c.args.nodes.now.items c.captures-2.next c.in-Some.node.now c.requires.parts c.in-Some.ensures).1

pub captures-preserved : goal.captures-preserved
captures-preserved c =
    name_written (meanings c.args.tree.now) c.args.nodes.now.items c.captures-2.next c.in-Some.node.now (string_bytes c.args.text.now) (string_bytes c.captures-2.text) (string_bytes c.mark_before.new.text) (string_bytes c.capture.new.text) c.in-Some.ensures c.captures-2.invariant c.in_ok-mark_before.ensures c.in_ok-capture.ensures
