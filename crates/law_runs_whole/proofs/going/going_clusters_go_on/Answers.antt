use Rattle.law_runs_whole.proofs.going.going_clusters_go_on.Goals as goal
use Rattle.law_runs_whole.proofs.going.Outboxes.{outboxes_stay_empty}
use Rattle.law_runs_whole.proofs.going.Going.{going_has_result}

pub returns : goal.returns
returns c = record { results = going_has_result; emptied = outboxes_stay_empty }
