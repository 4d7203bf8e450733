use Rattle.law_counts_sums.proofs.joining.start_keeps.Goals as goal
use Rattle.law_counts_sums.specs.Kinds.{starts}
use Rattle.law_counts_sums.proofs.AllKinds.{home_leaves, owner_leaves, states_leave, users_leave, shares_leave, tasks_leave, threads_leave, servers_leave}

pub returns : goal.returns
returns c = record { home = home_leaves starts tt; owner = owner_leaves starts tt; states = states_leave starts tt; users = users_leave starts tt; shares = shares_leave starts tt; tasks = tasks_leave starts tt; threads = threads_leave starts tt; servers = servers_leave starts tt }
