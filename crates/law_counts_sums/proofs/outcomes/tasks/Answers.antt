use Rattle.law_counts_sums.proofs.outcomes.tasks.Goals as goal
use Rattle.law_counts_sums.proofs.FinishResults.{finishes_have_results}
use Rattle.law_counts_sums.proofs.TaskResults.{joins_have_results, tasks_let_go_have_results}

pub returns : goal.returns
returns c = record { finished = finishes_have_results; joined = joins_have_results; let_go = tasks_let_go_have_results }
