use Rattle.law_counts_sums.proofs.sharing.granted_keeps.Goals as goal
use Rattle.law_counts_sums.specs.Kinds.{granted}
use Rattle.law_counts_sums.proofs.AllKinds.{home_leaves, owner_leaves, states_leave, users_leave, shares_leave, tasks_leave, threads_leave, servers_leave}

pub returns : goal.returns
returns c = record { home = home_leaves granted tt; owner = owner_leaves granted tt; states = states_leave granted tt; users = users_leave granted tt; shares = shares_leave granted tt; tasks = tasks_leave granted tt; threads = threads_leave granted tt; servers = servers_leave granted tt }
