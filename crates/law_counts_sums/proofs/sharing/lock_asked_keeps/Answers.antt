use Rattle.law_counts_sums.proofs.sharing.lock_asked_keeps.Goals as goal
use Rattle.law_counts_sums.specs.Kinds.{asks_lock}
use Rattle.law_counts_sums.proofs.AllKinds.{home_leaves, owner_leaves, states_leave, users_leave, shares_leave, tasks_leave, threads_leave, servers_leave}

pub returns : goal.returns
returns c = record { home = home_leaves asks_lock tt; owner = owner_leaves asks_lock tt; states = states_leave asks_lock tt; users = users_leave asks_lock tt; shares = shares_leave asks_lock tt; tasks = tasks_leave asks_lock tt; threads = threads_leave asks_lock tt; servers = servers_leave asks_lock tt }
