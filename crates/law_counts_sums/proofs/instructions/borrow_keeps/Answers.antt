use Rattle.law_counts_sums.proofs.instructions.borrow_keeps.Goals as goal
use Rattle.law_counts_sums.specs.Kinds.{step_borrow}
use Rattle.law_counts_sums.proofs.AllKinds.{home_leaves, owner_leaves, states_leave, users_leave, shares_leave, tasks_leave, threads_leave, servers_leave}

pub returns : goal.returns
returns c = record { home = home_leaves step_borrow tt; owner = owner_leaves step_borrow tt; states = states_leave step_borrow tt; users = users_leave step_borrow tt; shares = shares_leave step_borrow tt; tasks = tasks_leave step_borrow tt; threads = threads_leave step_borrow tt; servers = servers_leave step_borrow tt }
