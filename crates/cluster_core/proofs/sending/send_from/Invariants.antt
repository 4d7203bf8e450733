use Rattle.std.proofs.Common.{◌≡◌, length}
use Rattle.server_model.specs.Clusters.{outboxes}
use Rattle.cluster_core.specs.Views.{states, events_in, AreNumbered}
use Rattle.cluster_core.specs.Rooms.{HaveRoomFor}
use Rattle.cluster_core.specs.Rows.{IsSameRun}
use Rattle.cluster_core.specs.Handing.{handed, AreEmpty}
use Rattle.cluster_core.proofs.sending.send_from.Given as goal

-- handing over what is left gives the same
abbrev pub invariant-messages : goal.invariant-messages
invariant-messages l = record {
  handed : handed (states l.servers.items) ≡ handed (states l.initial.servers.items);
  numbered : AreNumbered 0 (states l.servers.items);
  before : AreEmpty l.at (states l.servers.items);
  room : HaveRoomFor (outboxes (states l.servers.items)) l.servers.items;
  run : IsSameRun l.initial.servers.items l.servers.items;
  events : events_in (states l.servers.items) ≡ events_in (states l.initial.servers.items);
  long : length l.servers.items ≡ length l.initial.servers.items;
}

abbrev pub decreases-messages : goal.decreases-messages
decreases-messages l = length (outboxes (states l.servers.items))
