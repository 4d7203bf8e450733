use Rattle.law_counts_sums.proofs.exchanges.par_end_keeps.Goals as goal
use Rattle.law_counts_sums.specs.Kinds.{step_par_end}
use Rattle.law_counts_sums.proofs.AllKinds.{home_leaves, owner_leaves, states_leave, users_leave, shares_leave, tasks_leave, threads_leave, servers_leave}

pub returns : goal.returns
returns c = record { home = home_leaves step_par_end tt; owner = owner_leaves step_par_end tt; states = states_leave step_par_end tt; users = users_leave step_par_end tt; shares = shares_leave step_par_end tt; tasks = tasks_leave step_par_end tt; threads = threads_leave step_par_end tt; servers = servers_leave step_par_end tt }
