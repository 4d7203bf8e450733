use Rattle.law_counts_sums.proofs.instructions.print_keeps.Goals as goal
use Rattle.law_counts_sums.specs.Kinds.{step_print}
use Rattle.law_counts_sums.proofs.AllKinds.{home_leaves, owner_leaves, states_leave, users_leave, shares_leave, tasks_leave, threads_leave, servers_leave}

pub returns : goal.returns
returns c = record { home = home_leaves step_print tt; owner = owner_leaves step_print tt; states = states_leave step_print tt; users = users_leave step_print tt; shares = shares_leave step_print tt; tasks = tasks_leave step_print tt; threads = threads_leave step_print tt; servers = servers_leave step_print tt }
