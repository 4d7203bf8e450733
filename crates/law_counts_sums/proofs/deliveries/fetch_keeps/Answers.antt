use Rattle.law_counts_sums.proofs.deliveries.fetch_keeps.Goals as goal
use Rattle.law_counts_sums.specs.Kinds.{fetch}
use Rattle.law_counts_sums.proofs.AllKinds.{home_leaves, owner_leaves, states_leave, users_leave, shares_leave, tasks_leave, threads_leave, servers_leave}

pub returns : goal.returns
returns c = record { home = home_leaves fetch tt; owner = owner_leaves fetch tt; states = states_leave fetch tt; users = users_leave fetch tt; shares = shares_leave fetch tt; tasks = tasks_leave fetch tt; threads = threads_leave fetch tt; servers = servers_leave fetch tt }
