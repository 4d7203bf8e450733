use Rattle.std.proofs.Common.{◌≡◌, length, take}
use Rattle.cluster_core.specs.Rooms.{HaveRoom}
use Rattle.cluster_core.specs.Rows.{HaveGrown}
use Rattle.cluster_core.proofs.row.make_room.Given as goal

-- those so far have room
abbrev pub invariant-servers : goal.invariant-servers
invariant-servers l = HaveGrown l.initial.servers.items l.servers.items × HaveRoom l.room (take l.at l.servers.items) × (length l.servers.items ≡ length l.initial.servers.items)
