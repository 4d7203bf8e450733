-- What an event of a server asks but for room, where it is enabled (this project's own).
use Rattle.std.specs.Prelude.{◌≡◌, true}
use Rattle.server_model.specs.declared.event.What.{What}
use Rattle.server_model.specs.Events.{enabled}
use Rattle.server_core.specs.Servers.{ServerView}
use Rattle.cluster_core.specs.Applying.{CanAct}

-- the event can be done there, if it is enabled
abbrev pub IsReady : What → ServerView → Type 0
IsReady w v = enabled v.options v.state w ≡ true → CanAct w v
