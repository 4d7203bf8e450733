use Rattle.std.proofs.Common.{◌+◌, ◌*◌, drop}
use Rattle.fr_types.specs.Types.{kind_of}
use Rattle.borrow_check.proofs.TermLemmas.{IsAlong}
use Rattle.borrow_check.proofs.checker.+check.Given as goal

abbrev pub decreases-check_term : goal.decreases-check_term
decreases-check_term l = 2 * l.at + 1

abbrev pub decreases-check_arith : goal.decreases-check_arith
decreases-check_arith l = 2 * l.bound

abbrev pub decreases-check_spawn : goal.decreases-check_spawn
decreases-check_spawn l = 2 * l.body + 2

abbrev pub decreases-check_branch : goal.decreases-check_branch
decreases-check_branch l = 2 * l.body + 2

abbrev pub decreases-check_items : goal.decreases-check_items
decreases-check_items l = 2 * l.bound

abbrev pub invariant-check_items-items : goal.invariant-check_items-items
invariant-check_items-items l = IsAlong l.tree l.bound l.place l.items.items (drop l.next l.items.items) l.initial.env l.env l.initial.checker.usages.items l.checker.usages.items (kind_of l.t) l.last
