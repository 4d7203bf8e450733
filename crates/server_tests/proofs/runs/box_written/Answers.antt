use Rattle.server_tests.proofs.RunLemmas.{box_runs}
use Rattle.server_tests.proofs.runs.box_written.Goals as goal

pub shown-requires-clause-result : goal.shown-requires-clause-result
shown-requires-clause-result c = box_runs c.in_ok-written_box.field-0.items c.in_ok-written_box.ensures
