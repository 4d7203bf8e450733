-- What contracts see of a server in the middle of an event, and the room for what the event may do.
use Rattle.std.specs.Prelude.{ℕ, ◌≤◌, List, map}
use Rattle.server_msgs.specs.declared.message.Message.{Message}
use Rattle.server_model.specs.Servers.{Sent}
use Rattle.server_model.specs.Work.{Work}

pub record WorkView : Type 0 where
  pub state : Work
  -- how many messages can still be sent, acts and labels noted, cells made, threads queued at a mutex and threads noted, each
  -- without memory
  pub room : ℕ
  -- the words for whose copies there is room
  pub copies : List ℕ
  -- how many more messages can wait without memory
  pub inbox_room : ℕ

-- a message for another server, with its target
abbrev pub sending : ℕ × Message → Sent
sending x = record { target = x.0; message = x.1 }

-- and all of them
abbrev pub sendings : List (ℕ × Message) → List Sent
sendings xs = map sending xs

-- each part has so much room
pub record HasRooms (room inbox outbox cells mutexes queued tasks acts labels : ℕ) : Type 0 where
  pub for_inbox : room ≤ inbox
  pub for_outbox : room ≤ outbox
  pub for_cells : room ≤ cells
  pub for_mutexes : room ≤ mutexes
  pub for_queues : room ≤ queued
  pub for_tasks : room ≤ tasks
  pub for_acts : room ≤ acts
  pub for_labels : room ≤ labels
