-- Events of a cluster (this project's rules): an event is done at its server, and its messages then wait at theirs.
use Rattle.std.specs.Prelude.{ℕ, ◌==◌, if◌then◌else◌, List, [], ◌∷◌, ◌++◌, length, take, drop, Option, None, option_map}
use Rattle.server_msgs.specs.declared.message.Message.{Message}
use Rattle.journal.specs.View.{EntryView}
use Rattle.server_model.specs.declared.event.Event.{Event}
use Rattle.server_model.specs.declared.event.What.{What}
use Rattle.server_model.specs.Servers.{Sent, Server, Cluster, server_at}
use Rattle.server_model.specs.Work.{add_waiting, then_some}
use Rattle.server_model.specs.Events.{enabled, does}

-- another state of the server of that number
abbrev pub with_server : List Server → ℕ → Server → List Server
with_server [] n new = []
with_server (s ∷ ss) n new = if s.rest.number == n then new ∷ ss else s ∷ with_server ss n new

-- HANDING OVER

-- a message waits last
abbrev pub accept : Message → Server → Server
accept m s = record s { rest = add_waiting m s.rest }

-- a message waits last at the server that it goes to
abbrev pub accept_at : List Server → Sent → List Server
accept_at [] x = []
accept_at (s ∷ ss) x = if s.rest.number == x.target then accept x.message s ∷ ss else s ∷ accept_at ss x

-- messages go to their servers, in order
abbrev pub accept_all : List Server → List Sent → List Server
accept_all ss [] = ss
accept_all ss (x ∷ xs) = accept_all (accept_at ss x) xs

-- all messages in outboxes, in the order of the servers
abbrev pub outboxes : List Server → List Sent
outboxes [] = []
outboxes (s ∷ ss) = s.rest.outbox ++ outboxes ss

-- a server with that outbox
abbrev pub with_outbox : List Sent → Server → Server
with_outbox xs s = record s { rest = record s.rest { outbox = xs } }

-- no message is in an outbox
abbrev pub emptied : List Server → List Server
emptied [] = []
emptied (s ∷ ss) = with_outbox [] s ∷ emptied ss

-- the messages in the outboxes, in the order of the servers, wait at the servers that they go to
abbrev pub hand_over : Cluster → Cluster
hand_over k = record k { servers = accept_all (emptied k.servers) (outboxes k.servers) }

-- EVENTS

-- what an event does where it is enabled
abbrev pub done_at : Cluster → What → Server → Option (Server × EntryView)
done_at k w s = if enabled k.options s w then does k.code k.options s w else None

-- the event at its server, whose messages stay in its outbox
abbrev pub act_at : Cluster → Event → Option (Cluster × EntryView)
act_at k e = then_some (server_at k.servers e.server) (λ s. option_map (λ d. (record k { servers = with_server k.servers e.server d.0 }, d.1)) (done_at k e.what s))

-- the new state of a server with so many older messages in its outbox, which stay there; the newer ones wait at the servers that they go to
abbrev pub hand_over_newer : ℕ → ℕ → Server → List Server → List Server
hand_over_newer n older new ss = accept_all (with_server ss n (with_outbox (take older new.rest.outbox) new)) (drop older new.rest.outbox)

-- the event, and the messages that it put into its server's outbox wait at their servers; None where the server isn't of the run,
-- the event isn't enabled, or it has no result
abbrev pub apply : Cluster → Event → Option (Cluster × EntryView)
apply k e =
    then_some (server_at k.servers e.server)
    (λ s. option_map (λ d. (record k { servers = hand_over_newer e.server (length s.rest.outbox) d.0 k.servers }, d.1)) (done_at k e.what s))
