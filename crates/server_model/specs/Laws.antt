-- What sending, receiving and handing over do to the messages of a cluster, and what an event leaves as it was.
use Rattle.std.specs.Prelude.{◌≡◌, ◌≢◌, ℕ, ◌+◌, ⊤, ◌==◌, if◌then◌else◌, is_some, true, List, [], ◌∷◌, ◌++◌, Some, slice_get, option_map}
use Rattle.server_msgs.specs.declared.message.Message.{Message}
use Rattle.journal.specs.View.{EntryView}
use Rattle.server_model.specs.declared.event.Event.{Event}
use Rattle.server_model.specs.Servers.{Sent, Rest, Server, Cluster, server_at}
use Rattle.server_model.specs.Work.{sent_from, receive}
use Rattle.server_model.specs.Clusters.{with_outbox, hand_over, outboxes, act_at, apply}

-- SUMS OVER MESSAGES

-- the sum of the weights of messages that wait at a server
abbrev pub sum_waiting : (ℕ → Message → ℕ) → ℕ → List Message → ℕ
sum_waiting f n [] = 0
sum_waiting f n (m ∷ ms) = f n m + sum_waiting f n ms

-- the same of messages under way, each with the server that it goes to
abbrev pub sum_sent : (ℕ → Message → ℕ) → List Sent → ℕ
sum_sent f [] = 0
sum_sent f (x ∷ xs) = f x.target x.message + sum_sent f xs

-- of all messages at a server, those in its outbox too
abbrev pub sum_at : (ℕ → Message → ℕ) → Rest → ℕ
sum_at f r = sum_waiting f r.number r.inbox + sum_sent f r.outbox

-- of all messages of a cluster
abbrev pub sum_of : (ℕ → Message → ℕ) → List Server → ℕ
sum_of f [] = 0
sum_of f (s ∷ ss) = sum_at f s.rest + sum_of f ss

-- THE LAWS OF MESSAGES

abbrev pub SendingToItself : Type 0
SendingToItself = (r : Rest) (m : Message) → sent_from r r.number m ≡ record r { inbox = r.inbox ++ m ∷ [] }

abbrev pub SendingToOthers : Type 0
SendingToOthers = (r : Rest) (target : ℕ) (m : Message) → target ≢ r.number → sent_from r target m ≡ record r { outbox = r.outbox ++ record { target = target; message = m } ∷ [] }

-- sending adds that message alone, and receiving takes that one alone, whatever is counted of messages
abbrev pub SendingAdds : Type 0
SendingAdds = (f : ℕ → Message → ℕ) (r : Rest) (target : ℕ) (m : Message) → sum_at f (sent_from r target m) ≡ sum_at f r + f target m

abbrev pub ReceivingTakes : Type 0
ReceivingTakes = (f : ℕ → Message → ℕ) (r : Rest) (i : ℕ) (m : Message) → slice_get r.inbox i ≡ Some m → sum_at f (receive r i) + f r.number m ≡ sum_at f r

-- each of the messages goes to a server of the list
abbrev pub AreRouted : List Server → List Sent → Type 0
AreRouted ss [] = ⊤
AreRouted ss (x ∷ xs) = (is_some (server_at ss x.target) ≡ true) × AreRouted ss xs

-- handing over keeps all messages, whatever is counted of them
abbrev pub HandingOverKeeps : Type 0
HandingOverKeeps = (f : ℕ → Message → ℕ) (k : Cluster) → AreRouted k.servers (outboxes k.servers) → sum_of f (hand_over k).servers ≡ sum_of f k.servers

-- the messages for a server, in order
abbrev pub messages_to : ℕ → List Sent → List Message
messages_to n [] = []
messages_to n (x ∷ xs) = if x.target == n then x.message ∷ messages_to n xs else messages_to n xs

-- more messages wait there
abbrev pub with_waiting : List Message → Server → Server
with_waiting ms s = record s { rest = record s.rest { inbox = s.rest.inbox ++ ms } }

-- it empties each outbox, and a server gets its messages in order; nothing else changes
abbrev pub HandingOverDelivers : Type 0
HandingOverDelivers = (k : Cluster) (n : ℕ)
    → server_at (hand_over k).servers n ≡ option_map (λ s. with_outbox [] (with_waiting (messages_to n (outboxes k.servers)) s)) (server_at k.servers n)

-- WHAT AN EVENT LEAVES

-- the other servers stay as they were, until messages are handed over
abbrev pub ActingLeavesOthers : Type 0
ActingLeavesOthers = (k : Cluster) (e : Event) (d : Cluster × EntryView) → act_at k e ≡ Some d → (i : ℕ) (x : Server) → slice_get k.servers i ≡ Some x → x.rest.number ≢ e.server → slice_get d.0.servers i ≡ Some x

-- of the other servers an event changes the waiting messages alone, and there it adds some at the end; what is in their outboxes stays there
abbrev pub ApplyingLeavesOthers : Type 0
ApplyingLeavesOthers = (k : Cluster) (e : Event) (d : Cluster × EntryView) → apply k e ≡ Some d → (i : ℕ) (x : Server) → slice_get k.servers i ≡ Some x → x.rest.number ≢ e.server
    → (more : List Message) × (slice_get d.0.servers i ≡ Some (with_waiting more x))
