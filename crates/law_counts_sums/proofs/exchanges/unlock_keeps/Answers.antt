use Rattle.law_counts_sums.proofs.exchanges.unlock_keeps.Goals as goal
use Rattle.law_counts_sums.specs.Kinds.{step_unlock}
use Rattle.law_counts_sums.proofs.AllKinds.{home_leaves, owner_leaves, states_leave, users_leave, shares_leave, tasks_leave, threads_leave, servers_leave}

pub returns : goal.returns
returns c = record { home = home_leaves step_unlock tt; owner = owner_leaves step_unlock tt; states = states_leave step_unlock tt; users = users_leave step_unlock tt; shares = shares_leave step_unlock tt; tasks = tasks_leave step_unlock tt; threads = threads_leave step_unlock tt; servers = servers_leave step_unlock tt }
