-- Which events of a cluster are enabled.
use Rattle.std.specs.Prelude.{Bool, false, Option, Some, None}
use Rattle.fr_base.specs.declared.settings.Options.{Options}
use Rattle.server_model.specs.declared.event.Event.{Event}
use Rattle.server_model.specs.declared.event.What.{What}
use Rattle.server_model.specs.Servers.{Server, Cluster, server_at}
use Rattle.server_model.specs.Events.{enabled}

abbrev pub enabled_there : Options → What → Option Server → Bool
enabled_there o w None = false
enabled_there o w (Some s) = enabled o s w

-- its server is of the run, and can do it
abbrev pub is_enabled : Cluster → Event → Bool
is_enabled k e = enabled_there k.options e.what (server_at k.servers e.server)
