use Rattle.std.proofs.Common.{◌+◌, ◌*◌, drop}
use Rattle.fr_compile.proofs.Forms.{Leads}
use Rattle.fr_compile.proofs.emitting.+emit.Given as goal

abbrev pub decreases-emit : goal.decreases-emit
decreases-emit l = 2 * l.node + 1

abbrev pub decreases-emit_items : goal.decreases-emit_items
decreases-emit_items l = 2 * l.bound

-- whatever comes of the items that are left comes of the block
abbrev pub invariant-emit_items-items : goal.invariant-emit_items-items
invariant-emit_items-items l = Leads l.forms l.items l.initial.code.items l.initial.queue.items (drop l.next l.items) l.code.items l.queue.items l.value
