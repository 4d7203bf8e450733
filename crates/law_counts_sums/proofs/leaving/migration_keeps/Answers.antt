use Rattle.law_counts_sums.proofs.leaving.migration_keeps.Goals as goal
use Rattle.law_counts_sums.specs.Kinds.{migrates}
use Rattle.law_counts_sums.proofs.AllKinds.{home_leaves, owner_leaves, states_leave, users_leave, shares_leave, tasks_leave, threads_leave, servers_leave}

pub returns : goal.returns
returns c = record { home = home_leaves migrates tt; owner = owner_leaves migrates tt; states = states_leave migrates tt; users = users_leave migrates tt; shares = shares_leave migrates tt; tasks = tasks_leave migrates tt; threads = threads_leave migrates tt; servers = servers_leave migrates tt }
