-- The server and the thread that an event changes, as the definitions have both.
use Rattle.thread_state.specs.View.{ThreadView}
use Rattle.server_model.specs.Work.{Hand}
use Rattle.server_parts.specs.Works.{WorkView}

-- the work with its thread
abbrev pub hand : WorkView → ThreadView → Hand
hand w t = record { work = w.state; thread = t.state }
