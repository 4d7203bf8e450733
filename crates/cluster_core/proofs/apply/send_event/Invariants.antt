use Rattle.std.proofs.Common.{◌≡◌, true, length}
use Rattle.server_model.specs.Clusters.{outboxes}
use Rattle.cluster_core.specs.Views.{states, events_in, AreNumbered}
use Rattle.cluster_core.specs.Rooms.{HaveRoomFor, HaveRoomBut}
use Rattle.cluster_core.specs.Rows.{IsSameRun}
use Rattle.cluster_core.specs.Handing.{handed, AreEmptyBut}
use Rattle.cluster_core.proofs.apply.send_event.Given as goal

-- handing over what is left gives the same
abbrev pub invariant-messages : goal.invariant-messages
invariant-messages l = record {
  handed : handed (states l.servers.items) ≡ handed (states l.initial.servers.items);
  numbered : AreNumbered 0 (states l.servers.items);
  others : AreEmptyBut l.at (states l.servers.items);
  room : HaveRoomFor (outboxes (states l.servers.items)) l.servers.items;
  ready : l.ready ≡ true → HaveRoomBut l.at 2 l.servers.items;
  run : IsSameRun l.initial.servers.items l.servers.items;
  events : events_in (states l.servers.items) ≡ events_in (states l.initial.servers.items);
  long : length l.servers.items ≡ length l.initial.servers.items;
}

abbrev pub decreases-messages : goal.decreases-messages
decreases-messages l = length (outboxes (states l.servers.items))
