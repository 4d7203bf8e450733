use Rattle.law_counts_sums.proofs.every.task_values_counted.Goals as goal
use Rattle.law_counts_sums.proofs.TaskCounts.{others_leave_task_values, spawns_make_one}
use Rattle.law_counts_sums.proofs.TaskSpends.{releases_spend_one, joins_spend_one, shares_leave_task_values, asking_leaves_task_values}

pub returns : goal.returns
returns c = record {
  others = others_leave_task_values;
  spawns = spawns_make_one;
  joins = joins_spend_one;
  releases = releases_spend_one;
  shares = shares_leave_task_values;
  asking = asking_leaves_task_values;
}
