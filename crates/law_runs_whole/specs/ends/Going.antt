-- WHERE A CLUSTER CAN GO ON (this project's rule): a thread can step, or a message can be delivered. Evictions and migrations don't count.
use Rattle.std.specs.Prelude.{◌≡◌, Bool, true, false, [], Some}
use Rattle.law_runs_coherent.specs.Below.fr_base.declared.step.Ending3.TheVariants.{Going}
use Rattle.law_runs_coherent.specs.Below.server_model.declared.event.Event.{Event}
use Rattle.law_runs_coherent.specs.Below.server_model.declared.event.What.{What}
use Rattle.law_runs_coherent.specs.Below.server_model.declared.event.What.TheVariants.{Step, Deliver}
use Rattle.law_runs_coherent.specs.Below.server_model.Servers.{Server, Cluster, server_at}
use Rattle.law_runs_coherent.specs.Below.server_model.Events.{enabled}
use Rattle.law_runs_coherent.specs.Below.server_model.Clusters.{outboxes}
use Rattle.drive_model.specs.Ending.{ending}
use Rattle.law_runs_coherent.specs.Below.coherent_memory.Coherent.{IsSound}

-- a step of a thread, or a delivery
abbrev pub goes_on : What → Bool
goes_on (Step t) = true
goes_on (Deliver i) = true
goes_on w = false

-- an event of these two kinds that is enabled at a server of the run
pub record CanGoOn (k : Cluster) : Type 0 where
  pub event : Event
  pub server : Server
  pub there : server_at k.servers event.server ≡ Some server
  pub kind : goes_on event.what ≡ true
  pub on : enabled k.options server event.what ≡ true

-- a sound cluster, without a message in an outbox, that is going can go on
abbrev pub GoingCan : Type 0
GoingCan = (k : Cluster) → IsSound k → outboxes k.servers ≡ [] → ending k ≡ Going → CanGoOn k

-- a cluster that can go on is going
abbrev pub CanIsGoing : Type 0
CanIsGoing = (k : Cluster) → CanGoOn k → ending k ≡ Going
