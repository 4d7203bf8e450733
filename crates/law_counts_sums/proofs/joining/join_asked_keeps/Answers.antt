use Rattle.law_counts_sums.proofs.joining.join_asked_keeps.Goals as goal
use Rattle.law_counts_sums.specs.Kinds.{asks_join}
use Rattle.law_counts_sums.proofs.AllKinds.{home_leaves, owner_leaves, states_leave, users_leave, shares_leave, tasks_leave, threads_leave, servers_leave}

pub returns : goal.returns
returns c = record { home = home_leaves asks_join tt; owner = owner_leaves asks_join tt; states = states_leave asks_join tt; users = users_leave asks_join tt; shares = shares_leave asks_join tt; tasks = tasks_leave asks_join tt; threads = threads_leave asks_join tt; servers = servers_leave asks_join tt }
