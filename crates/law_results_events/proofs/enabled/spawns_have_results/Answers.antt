use Rattle.law_results_events.proofs.enabled.spawns_have_results.Goals as goal
use Rattle.law_results_events.proofs.enabled.Spawns.{each_spawn}

pub returns : goal.returns
returns c = each_spawn
