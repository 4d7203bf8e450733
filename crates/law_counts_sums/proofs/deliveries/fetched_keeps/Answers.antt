use Rattle.law_counts_sums.proofs.deliveries.fetched_keeps.Goals as goal
use Rattle.law_counts_sums.specs.Kinds.{fetched}
use Rattle.law_counts_sums.proofs.AllKinds.{home_leaves, owner_leaves, states_leave, users_leave, shares_leave, tasks_leave, threads_leave, servers_leave}

pub returns : goal.returns
returns c = record { home = home_leaves fetched tt; owner = owner_leaves fetched tt; states = states_leave fetched tt; users = users_leave fetched tt; shares = shares_leave fetched tt; tasks = tasks_leave fetched tt; threads = threads_leave fetched tt; servers = servers_leave fetched tt }
