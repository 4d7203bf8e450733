-- Room for all messages is room for those that go to each server.
use Rattle.std.proofs.Common.{◌≡◌, ℕ, suc, ◌+◌, ◌≤◌, ◌==◌, Bool, true, false, if◌then◌else◌, List, [], ◌∷◌, length, arith, length-append}
use Rattle.server_model.specs.Servers.{Server, Sent}
use Rattle.server_model.specs.Clusters.{accept, accept_at, outboxes}
use Rattle.server_model.specs.Laws.{messages_to}
use Rattle.server_core.specs.Servers.{ServerView}
use Rattle.cluster_core.specs.Rooms.{HaveRoom, HaveRoomFor}
use Rattle.cluster_core.specs.Handing.{NoneSent, AreEmpty}

some_of : (n : ℕ) (xs : List Sent) → length (messages_to n xs) ≤ length xs
some_of n [] = omega arith
some_of n (x ∷ xs) = by (x.target == n) (some_of n xs)
  where
    by : (b : Bool) → length (messages_to n xs) ≤ length xs → length (if b then x.message ∷ messages_to n xs else messages_to n xs) ≤ suc (length xs)
    by true l = omega (arith, l)
    by false l = omega (arith, l)

pub room_for_all : (xs : List Sent) (vs : List ServerView) → HaveRoom (length xs) vs → HaveRoomFor xs vs
room_for_all xs [] h = tt
room_for_all xs (v ∷ vs) h = (omega (arith, h.0, some_of v.state.rest.number xs), room_for_all xs vs h.1)

pub counted : (s : Server) (ss : List Server) (n : ℕ) → n ≡ length (outboxes ss) → n + length s.rest.outbox ≡ length (outboxes (s ∷ ss))
counted s ss n e = omega (arith, e, length-append s.rest.outbox (outboxes ss))

-- a message leaves outboxes as they are
pub sent_accept : (ss : List Server) (x : Sent) → NoneSent ss → NoneSent (accept_at ss x)
sent_accept [] x a = tt
sent_accept (s ∷ ss) x a = by (s.rest.number == x.target) (sent_accept ss x a.1)
  where
    by : (b : Bool) → NoneSent (accept_at ss x) → NoneSent (if b then accept x.message s ∷ ss else s ∷ accept_at ss x)
    by true e = (a.0, a.1)
    by false e = (a.0, e)

pub none_left : (ss : List Server) → AreEmpty (length ss) ss → NoneSent ss
none_left [] a = tt
none_left (s ∷ ss) a = (a.0, none_left ss a.1)
