use Rattle.law_counts_sums.proofs.deliveries.moved_keeps.Goals as goal
use Rattle.law_counts_sums.specs.Kinds.{moved}
use Rattle.law_counts_sums.proofs.AllKinds.{home_leaves, owner_leaves, states_leave, users_leave, shares_leave, tasks_leave, threads_leave, servers_leave}

pub returns : goal.returns
returns c = record { home = home_leaves moved tt; owner = owner_leaves moved tt; states = states_leave moved tt; users = users_leave moved tt; shares = shares_leave moved tt; tasks = tasks_leave moved tt; threads = threads_leave moved tt; servers = servers_leave moved tt }
