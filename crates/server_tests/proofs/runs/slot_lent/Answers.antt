use Rattle.server_tests.proofs.RunLemmas.{slot_runs}
use Rattle.server_tests.proofs.runs.slot_lent.Goals as goal

pub shown-requires-clause-result : goal.shown-requires-clause-result
shown-requires-clause-result c = slot_runs c.in_ok-lent_slot.field-0.items c.in_ok-lent_slot.ensures
