use Rattle.law_counts_sums.proofs.sharing.dupped_keeps.Goals as goal
use Rattle.law_counts_sums.specs.Kinds.{dupped}
use Rattle.law_counts_sums.proofs.AllKinds.{home_leaves, owner_leaves, states_leave, users_leave, shares_leave, tasks_leave, threads_leave, servers_leave}

pub returns : goal.returns
returns c = record { home = home_leaves dupped tt; owner = owner_leaves dupped tt; states = states_leave dupped tt; users = users_leave dupped tt; shares = shares_leave dupped tt; tasks = tasks_leave dupped tt; threads = threads_leave dupped tt; servers = servers_leave dupped tt }
