use Rattle.law_counts_sums.proofs.joining.arrival_keeps.Goals as goal
use Rattle.law_counts_sums.specs.Kinds.{arrives}
use Rattle.law_counts_sums.proofs.AllKinds.{home_leaves, owner_leaves, states_leave, users_leave, shares_leave, tasks_leave, threads_leave, servers_leave}

pub returns : goal.returns
returns c = record { home = home_leaves arrives tt; owner = owner_leaves arrives tt; states = states_leave arrives tt; users = users_leave arrives tt; shares = shares_leave arrives tt; tasks = tasks_leave arrives tt; threads = threads_leave arrives tt; servers = servers_leave arrives tt }
