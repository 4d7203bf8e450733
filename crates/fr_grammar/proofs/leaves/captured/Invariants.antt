use Rattle.std.proofs.Common.{◌≡◌, suc, ◌+◌, ◌-◌, ◌*◌, ◌≤◌, length}
use Rattle.fr_syntax.specs.Meanings.{meanings, capture_s, all_need}
use Rattle.fr_grammar.specs.Growth.{AreGrown}
use Rattle.fr_syntax.specs.TokenList.{AreReadable}
use Rattle.fr_grammar.specs.Reading.{captured_at}
use Rattle.fr_grammar.proofs.CaptureFront.{with_captures}
use Rattle.fr_grammar.proofs.leaves.captured.Given as goal

abbrev pub invariant-each : goal.invariant-each
invariant-each l = record {
  front : with_captures (meanings l.tree) l.captures.items (captured_at l.initial.tree.names (suc (length l.tokens - length l.captures.items)) l.rest) ≡ captured_at l.initial.tree.names (suc (length l.tokens)) l.tokens;
  fuel : length l.captures.items + length l.rest ≤ length l.tokens;
  nodes : AreGrown l.initial.tree l.tree (all_need capture_s l.captures.items);
  room : length (meanings l.tree) + 2 * length l.rest ≤ length (meanings l.initial.tree) + 2 * length l.tokens;
  readable : AreReadable (length l.initial.tree.names) l.rest;
}

abbrev pub decreases-each : goal.decreases-each
decreases-each l = length l.rest
