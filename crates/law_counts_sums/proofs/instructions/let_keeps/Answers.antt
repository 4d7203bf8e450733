use Rattle.law_counts_sums.proofs.instructions.let_keeps.Goals as goal
use Rattle.law_counts_sums.specs.Kinds.{step_let}
use Rattle.law_counts_sums.proofs.AllKinds.{home_leaves, owner_leaves, states_leave, users_leave, shares_leave, tasks_leave, threads_leave, servers_leave}

pub returns : goal.returns
returns c = record { home = home_leaves step_let tt; owner = owner_leaves step_let tt; states = states_leave step_let tt; users = users_leave step_let tt; shares = shares_leave step_let tt; tasks = tasks_leave step_let tt; threads = threads_leave step_let tt; servers = servers_leave step_let tt }
