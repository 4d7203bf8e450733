use Rattle.std.proofs.Common.{◌≡◌, take}
use Rattle.server_model.specs.Servers.{start_of}
use Rattle.cluster_core.specs.Views.{states, AllKeep}
use Rattle.cluster_core.proofs.row.start_row.Given as goal

-- the first servers of the start
abbrev pub invariant-servers : goal.invariant-servers
invariant-servers l = (states l.servers.items ≡ take l.server (start_of l.code.value.items l.options).servers) × AllKeep l.code.value.items l.options l.servers.items
