use Rattle.std.proofs.Common.{◌≡◌, suc, ◌+◌, ◌-◌, ◌*◌, ◌≤◌, true, length}
use Rattle.fr_syntax.specs.Meanings.{meanings, term_s, all_need}
use Rattle.fr_grammar.specs.Growth.{AreGrown}
use Rattle.fr_syntax.specs.TokenList.{AreReadable}
use Rattle.fr_grammar.specs.Reading.{any_at, items_at}
use Rattle.fr_grammar.proofs.Front.{with_front}
use Rattle.fr_grammar.proofs.parser.+parser.Given as goal

abbrev pub decreases-term : goal.decreases-term
decreases-term l = 5 * l.depth

abbrev pub decreases-item : goal.decreases-item
decreases-item l = 5 * l.depth + 1

abbrev pub decreases-item_and_next : goal.decreases-item_and_next
decreases-item_and_next l = 5 * l.depth + 2

abbrev pub decreases-items : goal.decreases-items
decreases-items l = 5 * l.depth + 3

abbrev pub decreases-block : goal.decreases-block
decreases-block l = 5 * l.depth + 4

abbrev pub decreases-after_spot : goal.decreases-after_spot
decreases-after_spot l = 5 * l.depth + 1

abbrev pub decreases-placed : goal.decreases-placed
decreases-placed l = 5 * l.depth + 2

abbrev pub decreases-arith : goal.decreases-arith
decreases-arith l = 5 * l.depth + 1

abbrev pub decreases-inner : goal.decreases-inner
decreases-inner l = 5 * l.depth + 2

abbrev pub decreases-body : goal.decreases-body
decreases-body l = 5 * l.depth + 1

abbrev pub decreases-branch : goal.decreases-branch
decreases-branch l = 5 * l.depth + 2

abbrev pub decreases-spawn : goal.decreases-spawn
decreases-spawn l = 5 * l.depth + 3

abbrev pub decreases-par : goal.decreases-par
decreases-par l = 5 * l.depth + 3

abbrev pub decreases-lock : goal.decreases-lock
decreases-lock l = 5 * l.depth + 2

abbrev pub invariant-items-each : goal.invariant-items-each
invariant-items-each l = record {
  front : with_front (meanings l.tree) l.items.items (items_at (any_at l.initial.tree.names l.depth true) (suc (length l.tokens - length l.items.items)) l.rest) ≡ items_at (any_at l.initial.tree.names l.depth true) (suc (length l.tokens)) l.tokens;
  fuel : length l.items.items + length l.rest ≤ length l.tokens;
  nodes : AreGrown l.initial.tree l.tree (all_need term_s l.items.items);
  room : length (meanings l.tree) + 2 * length l.rest ≤ length (meanings l.initial.tree) + 2 * length l.tokens;
  readable : AreReadable (length l.initial.tree.names) l.rest;
}

abbrev pub decreases-items-each : goal.decreases-items-each
decreases-items-each l = length l.rest
