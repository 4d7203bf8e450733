use Rattle.law_counts_sums.proofs.deliveries.drop_keeps.Goals as goal
use Rattle.law_counts_sums.specs.Kinds.{drop}
use Rattle.law_counts_sums.proofs.AllKinds.{home_leaves, owner_leaves, states_leave, users_leave, shares_leave, tasks_leave, threads_leave, servers_leave}

pub returns : goal.returns
returns c = record { home = home_leaves drop tt; owner = owner_leaves drop tt; states = states_leave drop tt; users = users_leave drop tt; shares = shares_leave drop tt; tasks = tasks_leave drop tt; threads = threads_leave drop tt; servers = servers_leave drop tt }
