use Rattle.std.proofs.Common.{◌≡◌, ◌++◌, drop}
use Rattle.drive_model.specs.Balance.{loads}
use Rattle.cluster_core.specs.Views.{states}
use Rattle.drust_run.proofs.balance.loads_of.Given as goal

-- the loads that were taken, with those that are left, are all
abbrev pub invariant-servers : goal.invariant-servers
invariant-servers l = l.loads.items ++ loads (states (drop l.server-index l.servers)) ≡ loads (states l.servers)
