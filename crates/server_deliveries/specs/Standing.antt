-- A server between two events.
use Rattle.std.specs.Prelude.{ℕ, List}
use Rattle.rank_map.specs.Places.{Place}
use Rattle.thread_state.specs.View.{ThreadView}
use Rattle.server_model.specs.Servers.{Server}
use Rattle.server_parts.specs.Works.{WorkView}
use Rattle.server_parts.specs.Threads.{states}

-- the server of that work and these threads, with so many events done before
abbrev pub standing : WorkView → List (Place ThreadView) → ℕ → Server
standing w ps n = record { rest = w.state.rest; threads = states ps; events = n }
