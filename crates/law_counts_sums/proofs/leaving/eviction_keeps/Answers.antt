use Rattle.law_counts_sums.proofs.leaving.eviction_keeps.Goals as goal
use Rattle.law_counts_sums.specs.Kinds.{evicts}
use Rattle.law_counts_sums.proofs.AllKinds.{home_leaves, owner_leaves, states_leave, users_leave, shares_leave, tasks_leave, threads_leave, servers_leave}

pub returns : goal.returns
returns c = record { home = home_leaves evicts tt; owner = owner_leaves evicts tt; states = states_leave evicts tt; users = users_leave evicts tt; shares = shares_leave evicts tt; tasks = tasks_leave evicts tt; threads = threads_leave evicts tt; servers = servers_leave evicts tt }
