use Rattle.law_results_events.proofs.enabled.enabled_events_have_results.Goals as goal
use Rattle.law_results_events.proofs.enabled.Each.{each_event}

pub returns : goal.returns
returns c = each_event
