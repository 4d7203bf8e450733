-- Laws of clusters with the same things.
use Rattle.law_runs_rounds.specs.Below.law_runs_coherent.Below.server_model.Servers.{Cluster}
use Rattle.law_runs_rounds.specs.Below.law_runs_coherent.Below.coherent_memory.Coherent.{IsSound}
use Rattle.law_runs_order.specs.things.SameThings.{HasSameThings}

-- all that can be counted of coherence is kept in whatever order things stand
abbrev pub SoundWithSameThings : Type 0
SoundWithSameThings = (k z : Cluster) → HasSameThings k z → IsSound z → IsSound k
