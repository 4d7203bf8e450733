-- Whether no message waits at a server (this project's own).
use Rattle.std.specs.Prelude.{Bool, ◌&&◌}
use Rattle.drive_model.specs.Ending.{is_none}
use Rattle.server_model.specs.Servers.{Server}

-- in its inbox or its outbox
abbrev pub is_quiet : Server → Bool
is_quiet s = is_none s.rest.inbox && is_none s.rest.outbox
