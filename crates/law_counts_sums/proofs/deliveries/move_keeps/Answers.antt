use Rattle.law_counts_sums.proofs.deliveries.move_keeps.Goals as goal
use Rattle.law_counts_sums.specs.Kinds.{moving}
use Rattle.law_counts_sums.proofs.AllKinds.{home_leaves, owner_leaves, states_leave, users_leave, shares_leave, tasks_leave, threads_leave, servers_leave}

pub returns : goal.returns
returns c = record { home = home_leaves moving tt; owner = owner_leaves moving tt; states = states_leave moving tt; users = users_leave moving tt; shares = shares_leave moving tt; tasks = tasks_leave moving tt; threads = threads_leave moving tt; servers = servers_leave moving tt }
