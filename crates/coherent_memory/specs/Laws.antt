-- Laws of coherent clusters that hold for all clusters.
use Rattle.std.specs.Prelude.{◌≡◌, ℕ, ◌≤◌, IsSome, List, []}
use Rattle.std.specs.List.{AllByRecursion}
use Rattle.server_model.specs.Below.fr_base.declared.instruction.Instr.{Instr}
use Rattle.server_model.specs.Below.fr_base.declared.settings.Options.{Options}
use Rattle.server_model.specs.Servers.{Sent, Cluster, start_of, server_at}
use Rattle.server_model.specs.Clusters.{hand_over, outboxes}
use Rattle.coherent_memory.specs.Names.{tot}
use Rattle.coherent_memory.specs.Things.{Thing, things_of}
use Rattle.coherent_memory.specs.Coherent.{OneHome, OneOwner, Copies, Users, IsSound, broken}

-- the messages in the outboxes go to servers of the run
abbrev pub GoToServers : Cluster → Type 0
GoToServers k = AllByRecursion (λ (x : Sent). IsSome (server_at k.servers x.target)) (outboxes k.servers)

-- handing over changes no sum: a message under way is the same thing in an outbox and where it waits
abbrev pub HandOverLaw : Type 0
HandOverLaw = (f : Thing → ℕ) (k : Cluster) → GoToServers k → tot f (things_of (hand_over k)) ≡ tot f (things_of k)

-- a cluster breaks no sentence exactly where it is sound
pub record SoundLaw : Type 0 where
  pub sound : (k : Cluster) → broken k ≡ [] → IsSound k
  pub unbroken : (k : Cluster) → IsSound k → broken k ≡ []

-- the start of any code with any options has one home and one owner for each object, no copy and no user
pub record StartsSound (k : Cluster) : Type 0 where
  pub one_home : OneHome k
  pub one_owner : OneOwner k
  pub copies : Copies k
  pub users : Users k

abbrev pub StartLaw : Type 0
StartLaw = (code : List Instr) (o : Options) → 1 ≤ o.servers → StartsSound (start_of code o)
