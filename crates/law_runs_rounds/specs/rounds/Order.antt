-- THE SAME BUT FOR THE ORDER IN WHICH MESSAGES WAIT (this project's rule).
use Rattle.std.specs.Prelude.{◌≡◌, ⊤, ℕ, List, [], ◌∷◌, Some, slice_get, remove}
use Rattle.law_runs_coherent.specs.Below.server_msgs.declared.message.Message.{Message}
use Rattle.law_runs_whole.specs.Below.server_model.Servers.{Server, Cluster}

-- the second list has the items of the first one, each as often: they are taken out of it one after another, and nothing is left
abbrev pub SameItems : {X : Type 0} → List X → List X → Type 0
SameItems [] ys = ys ≡ []
SameItems (x ∷ xs) ys = (i : ℕ) × (slice_get ys i ≡ Some x) × SameItems xs (remove ys i)

-- the server with other waiting messages
abbrev pub with_inbox : List Message → Server → Server
with_inbox ms s = record s { rest = record s.rest { inbox = ms } }

pub record IsSameServer (s z : Server) : Type 0 where
  pub same : z ≡ with_inbox z.rest.inbox s
  pub waiting : SameItems s.rest.inbox z.rest.inbox

abbrev pub AreSameServers : List Server → List Server → Type 0
AreSameServers [] [] = ⊤
AreSameServers (s ∷ ss) (z ∷ zs) = IsSameServer s z × AreSameServers ss zs
AreSameServers ss zs = ⊥

pub record IsSameCluster (k z : Cluster) : Type 0 where
  pub code : z.code ≡ k.code
  pub options : z.options ≡ k.options
  pub servers : AreSameServers k.servers z.servers
