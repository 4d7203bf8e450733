use Rattle.law_counts_sums.proofs.exchanges.lock_keeps.Goals as goal
use Rattle.law_counts_sums.specs.Kinds.{step_lock}
use Rattle.law_counts_sums.proofs.AllKinds.{home_leaves, owner_leaves, states_leave, users_leave, shares_leave, tasks_leave, threads_leave, servers_leave}

pub returns : goal.returns
returns c = record { home = home_leaves step_lock tt; owner = owner_leaves step_lock tt; states = states_leave step_lock tt; users = users_leave step_lock tt; shares = shares_leave step_lock tt; tasks = tasks_leave step_lock tt; threads = threads_leave step_lock tt; servers = servers_leave step_lock tt }
