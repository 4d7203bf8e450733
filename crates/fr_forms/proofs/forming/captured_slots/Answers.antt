use Rattle.std.proofs.Common.{length, ◌++◌, ◌∷◌, [], ◌∙◌, ap}
use Rattle.fr_syntax.specs.Meanings.{meanings}
use Rattle.fr_forms.proofs.NodeLemmas.{name_at, captured_next}
use Rattle.fr_forms.proofs.forming.captured_slots.Goals as goal

pub captured_slot-requires-clause-here : goal.captured_slot-requires-clause-here
captured_slot-requires-clause-here c = (name_at (meanings c.args.checked.now.arena) (length (meanings c.args.checked.now.arena)) c.args.names.now.items c.names.next c.in-Some.node.now c.requires c.in-Some.ensures).0

pub captured_slot-requires-clause-sort : goal.captured_slot-requires-clause-sort
captured_slot-requires-clause-sort c = (name_at (meanings c.args.checked.now.arena) (length (meanings c.args.checked.now.arena)) c.args.names.now.items c.names.next c.in-Some.node.now c.requires c.in-Some.ensures).1

pub names-preserved : goal.names-preserved
names-preserved c =
    c.in_ok-push.ensures.items ∙ ap (λ l. l ++ c.captured_slot.result ∷ []) c.names.invariant
    ∙ captured_next c.args.checked.now c.args.names.now.items c.names.next c.in-Some.node.now c.captured_slot.result c.captured_slot.ensures c.in-Some.ensures
