use Rattle.law_counts_sums.proofs.joining.joined_keeps.Goals as goal
use Rattle.law_counts_sums.specs.Kinds.{joined}
use Rattle.law_counts_sums.proofs.AllKinds.{home_leaves, owner_leaves, states_leave, users_leave, shares_leave, tasks_leave, threads_leave, servers_leave}

pub returns : goal.returns
returns c = record { home = home_leaves joined tt; owner = owner_leaves joined tt; states = states_leave joined tt; users = users_leave joined tt; shares = shares_leave joined tt; tasks = tasks_leave joined tt; threads = threads_leave joined tt; servers = servers_leave joined tt }
