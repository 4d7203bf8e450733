use Rattle.law_results_events.proofs.enabled.pars_have_results.Goals as goal
use Rattle.law_results_events.proofs.enabled.Pars.{each_par}

pub returns : goal.returns
returns c = each_par
