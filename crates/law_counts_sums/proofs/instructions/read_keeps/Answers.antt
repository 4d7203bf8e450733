use Rattle.law_counts_sums.proofs.instructions.read_keeps.Goals as goal
use Rattle.law_counts_sums.specs.Kinds.{step_read}
use Rattle.law_counts_sums.proofs.AllKinds.{home_leaves, owner_leaves, states_leave, users_leave, shares_leave, tasks_leave, threads_leave, servers_leave}

pub returns : goal.returns
returns c = record { home = home_leaves step_read tt; owner = owner_leaves step_read tt; states = states_leave step_read tt; users = users_leave step_read tt; shares = shares_leave step_read tt; tasks = tasks_leave step_read tt; threads = threads_leave step_read tt; servers = servers_leave step_read tt }
