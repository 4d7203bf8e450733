use Rattle.law_counts_sums.proofs.instructions.assign_keeps.Goals as goal
use Rattle.law_counts_sums.specs.Kinds.{step_assign}
use Rattle.law_counts_sums.proofs.AllKinds.{home_leaves, owner_leaves, states_leave, users_leave, shares_leave, tasks_leave, threads_leave, servers_leave}

pub returns : goal.returns
returns c = record { home = home_leaves step_assign tt; owner = owner_leaves step_assign tt; states = states_leave step_assign tt; users = users_leave step_assign tt; shares = shares_leave step_assign tt; tasks = tasks_leave step_assign tt; threads = threads_leave step_assign tt; servers = servers_leave step_assign tt }
