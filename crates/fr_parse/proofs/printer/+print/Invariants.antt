use Rattle.std.proofs.Common.{◌+◌, ◌*◌, take, string_bytes}
use Rattle.fr_syntax.specs.Meanings.{meanings, items_at}
use Rattle.fr_parse.specs.Canonical.{item_words}
use Rattle.fr_parse.specs.Written.{IsWritten}
use Rattle.fr_parse.proofs.printer.+print.Given as goal

abbrev pub decreases-term : goal.decreases-term
decreases-term l = 4 * l.at + 3

abbrev pub decreases-block : goal.decreases-block
decreases-block l = 4 * l.bound + 2

abbrev pub decreases-items : goal.decreases-items
decreases-items l = 4 * l.bound + 1

abbrev pub decreases-term_behind : goal.decreases-term_behind
decreases-term_behind l = 4 * l.at + 4

abbrev pub decreases-binding : goal.decreases-binding
decreases-binding l = 4 * l.value + 5

abbrev pub decreases-assignment : goal.decreases-assignment
decreases-assignment l = 4 * l.value + 5

abbrev pub decreases-arithmetic : goal.decreases-arithmetic
decreases-arithmetic l = 4 * l.bound + 2

abbrev pub decreases-branch : goal.decreases-branch
decreases-branch l = 4 * l.bound + 2

abbrev pub decreases-lock : goal.decreases-lock
decreases-lock l = 4 * l.body + 5

abbrev pub invariant-items-items : goal.invariant-items-items
invariant-items-items l = IsWritten (string_bytes l.initial.text) (item_words (items_at (meanings l.tree) (take l.next l.nodes.items))) (string_bytes l.text)
