-- What contracts see of a server: its state, the run's code and options that it keeps, and beside them the room.
use Rattle.std.specs.Prelude.{ℕ, List}
use Rattle.fr_base.specs.declared.instruction.Instr.{Instr}
use Rattle.fr_base.specs.declared.settings.Options.{Options}
use Rattle.rank_map.specs.Places.{Place}
use Rattle.thread_state.specs.View.{ThreadView}
use Rattle.server_model.specs.Servers.{Server}
use Rattle.server_parts.specs.Spares.{SparesView}

pub record ServerView : Type 0 where
  pub state : Server
  pub code : List Instr
  pub options : Options
  -- how many more messages can wait without memory
  pub inbox_room : ℕ
  -- for how many of each thing that an event adds there is room
  pub room : ℕ
  -- the words for whose copies there is room
  pub copies : List ℕ
  -- the places of the threads, also those that are free, with the room in each thread's lists
  pub places : List (Place ThreadView)
  -- the lists for the slots of new threads
  pub spares : SparesView
