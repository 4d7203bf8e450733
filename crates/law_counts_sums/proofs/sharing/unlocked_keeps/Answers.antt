use Rattle.law_counts_sums.proofs.sharing.unlocked_keeps.Goals as goal
use Rattle.law_counts_sums.specs.Kinds.{unlocked}
use Rattle.law_counts_sums.proofs.AllKinds.{home_leaves, owner_leaves, states_leave, users_leave, shares_leave, tasks_leave, threads_leave, servers_leave}

pub returns : goal.returns
returns c = record { home = home_leaves unlocked tt; owner = owner_leaves unlocked tt; states = states_leave unlocked tt; users = users_leave unlocked tt; shares = shares_leave unlocked tt; tasks = tasks_leave unlocked tt; threads = threads_leave unlocked tt; servers = servers_leave unlocked tt }
