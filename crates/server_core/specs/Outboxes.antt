-- The first message to another server leaves its outbox (this project's own).
use Rattle.std.specs.Prelude.{List, [], ◌∷◌, Option, Some, None}
use Rattle.server_model.specs.Servers.{Server, Sent}
use Rattle.server_model.specs.Clusters.{with_outbox}

abbrev pub taken_from : Server → List Sent → Option Sent × Server
taken_from s [] = (None, s)
taken_from s (x ∷ xs) = (Some x, with_outbox xs s)

-- the first message, where there is one, and the server without it
abbrev pub taken_out : Server → Option Sent × Server
taken_out s = taken_from s s.rest.outbox
