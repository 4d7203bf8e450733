use Rattle.law_counts_sums.proofs.instructions.borrow_mut_keeps.Goals as goal
use Rattle.law_counts_sums.specs.Kinds.{step_borrow_mut}
use Rattle.law_counts_sums.proofs.AllKinds.{home_leaves, owner_leaves, states_leave, users_leave, shares_leave, tasks_leave, threads_leave, servers_leave}

pub returns : goal.returns
returns c = record { home = home_leaves step_borrow_mut tt; owner = owner_leaves step_borrow_mut tt; states = states_leave step_borrow_mut tt; users = users_leave step_borrow_mut tt; shares = shares_leave step_borrow_mut tt; tasks = tasks_leave step_borrow_mut tt; threads = threads_leave step_borrow_mut tt; servers = servers_leave step_borrow_mut tt }
