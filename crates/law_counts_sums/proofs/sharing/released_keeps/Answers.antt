use Rattle.law_counts_sums.proofs.sharing.released_keeps.Goals as goal
use Rattle.law_counts_sums.specs.Kinds.{released}
use Rattle.law_counts_sums.proofs.AllKinds.{home_leaves, owner_leaves, states_leave, users_leave, shares_leave, tasks_leave, threads_leave, servers_leave}

pub returns : goal.returns
returns c = record { home = home_leaves released tt; owner = owner_leaves released tt; states = states_leave released tt; users = users_leave released tt; shares = shares_leave released tt; tasks = tasks_leave released tt; threads = threads_leave released tt; servers = servers_leave released tt }
