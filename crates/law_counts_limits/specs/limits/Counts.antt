-- HOW LARGE COUNTS GET in a coherent cluster (this project's rule): a small multiple of the number of events, or of the length of the code.
use Rattle.std.specs.Prelude.{◌≡◌, ◌<◌, ◌≤◌, ◌+◌, ◌*◌, ℕ, List, [], ◌∷◌, length, Some}
use Rattle.law_counts_things.specs.Below.fr_base.declared.instruction.Instr.{Instr}
use Rattle.law_counts_things.specs.Below.thread_state.View.{ThreadState}
use Rattle.law_counts_things.specs.Below.server_model.Servers.{Server, Cluster, server_at}
use Rattle.law_counts_things.specs.Below.server_model.Work.{thread_in}
use Rattle.law_counts_things.specs.Below.law_counts_sums.Laws.{FewEvents}
use Rattle.law_counts_things.specs.Below.coherent_types.ClusterTypes.{IsCoherent}

-- how many events these servers have done
abbrev pub events_in : List Server → ℕ
events_in [] = 0
events_in (s ∷ ss) = s.events + events_in ss

-- a thread, where so many events were done
pub record IsThreadSmall (code : List Instr) (events : ℕ) (t : ThreadState) : Type 0 where
  pub pc : t.pc < length code
  pub made : t.made ≤ 2 * events
  pub passed : t.passed ≤ 8
  pub slots : length t.slots ≤ 2 * length code

-- a server of the cluster, with its threads
pub record IsServerSmall (k : Cluster) (s : Server) : Type 0 where
  pub started : s.rest.started ≤ 2 * events_in k.servers
  pub events : s.events ≤ events_in k.servers
  pub threads : (t : ℕ) (y : ThreadState) → thread_in s.threads t ≡ Some y → IsThreadSmall k.code (events_in k.servers) y

-- each server of a coherent cluster
abbrev pub CountsAreSmall : Type 0
CountsAreSmall = (k : Cluster) (n : ℕ) (s : Server) → IsCoherent k → server_at k.servers n ≡ Some s → IsServerSmall k s

-- so many events are few
abbrev pub FewAreFew : Type 0
FewAreFew = (k : Cluster) → events_in k.servers < 1000000000 → FewEvents k
