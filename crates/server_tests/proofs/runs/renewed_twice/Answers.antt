use Rattle.server_tests.proofs.RunLemmas.{renewals_run}
use Rattle.server_tests.proofs.runs.renewed_twice.Goals as goal

pub shown-requires-clause-result : goal.shown-requires-clause-result
shown-requires-clause-result c = renewals_run c.in_ok-often_written.field-0.items c.in_ok-often_written.ensures
