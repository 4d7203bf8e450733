-- CLUSTERS WITH THE SAME THINGS, in whatever order and in whatever list of messages they stand (this project's rule).
use Rattle.std.specs.Prelude.{◌≡◌, ⊤, ℕ, List, [], ◌∷◌}
use Rattle.law_runs_rounds.specs.Below.law_runs_coherent.Below.server_msgs.declared.message.Message.{Message}
use Rattle.law_runs_rounds.specs.Below.law_runs_coherent.Below.server_model.Servers.{Sent, Server, Cluster}
use Rattle.law_runs_rounds.specs.Below.law_runs_coherent.Below.coherent_memory.Names.{tot, Among}
use Rattle.law_runs_rounds.specs.Below.law_runs_coherent.Below.coherent_memory.Things.{things_of}

-- the same items in whatever order: each weight has the same sum over both lists, and what is among one is among the other
pub record Reordered {X : Type 0} (xs ys : List X) : Type 0 where
  pub sums : (f : X → ℕ) → tot f xs ≡ tot f ys
  pub to : (x : X) → Among x xs → Among x ys
  pub from : (x : X) → Among x ys → Among x xs

-- the server with other messages, waiting and on their way
abbrev pub with_messages : List Message → List Sent → Server → Server
with_messages ms xs s = record s { rest = record s.rest { inbox = ms; outbox = xs } }

-- each server is the same but for its messages
abbrev pub AreSameBeside : List Server → List Server → Type 0
AreSameBeside [] [] = ⊤
AreSameBeside (s ∷ ss) (z ∷ zs) = (z ≡ with_messages z.rest.inbox z.rest.outbox s) × AreSameBeside ss zs
AreSameBeside ss zs = ⊥

pub record HasSameThings (k z : Cluster) : Type 0 where
  pub code : z.code ≡ k.code
  pub options : z.options ≡ k.options
  -- all but the messages stands as it did
  pub servers : AreSameBeside k.servers z.servers
  -- and so do these and what they carry, in another order
  pub things : Reordered (things_of k) (things_of z)
