use Rattle.law_counts_sums.proofs.instructions.drop_slot_keeps.Goals as goal
use Rattle.law_counts_sums.specs.Kinds.{step_drop_slot}
use Rattle.law_counts_sums.proofs.AllKinds.{home_leaves, owner_leaves, states_leave, users_leave, shares_leave, tasks_leave, threads_leave, servers_leave}

pub returns : goal.returns
returns c = record { home = home_leaves step_drop_slot tt; owner = owner_leaves step_drop_slot tt; states = states_leave step_drop_slot tt; users = users_leave step_drop_slot tt; shares = shares_leave step_drop_slot tt; tasks = tasks_leave step_drop_slot tt; threads = threads_leave step_drop_slot tt; servers = servers_leave step_drop_slot tt }
