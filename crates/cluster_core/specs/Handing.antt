-- Handing over all messages, one server's after another's (this project's own).
use Rattle.std.specs.Prelude.{◌≡◌, ⊤, ℕ, zero, suc, List, [], ◌∷◌}
use Rattle.server_model.specs.Servers.{Server}
use Rattle.server_model.specs.Clusters.{accept_all, emptied, outboxes}

-- the servers once all messages in outboxes wait at the servers that they go to
abbrev pub handed : List Server → List Server
handed ss = accept_all (emptied ss) (outboxes ss)

-- the first so many servers have nothing in their outboxes
abbrev pub AreEmpty : ℕ → List Server → Type 0
AreEmpty zero ss = ⊤
AreEmpty (suc n) [] = ⊤
AreEmpty (suc n) (s ∷ ss) = (s.rest.outbox ≡ []) × AreEmpty n ss

-- no message stands in an outbox
abbrev pub NoneSent : List Server → Type 0
NoneSent [] = ⊤
NoneSent (s ∷ ss) = (s.rest.outbox ≡ []) × NoneSent ss

-- no message stands in the outbox of another server than the one at that place
abbrev pub AreEmptyBut : ℕ → List Server → Type 0
AreEmptyBut n [] = ⊤
AreEmptyBut zero (s ∷ ss) = NoneSent ss
AreEmptyBut (suc n) (s ∷ ss) = (s.rest.outbox ≡ []) × AreEmptyBut n ss
