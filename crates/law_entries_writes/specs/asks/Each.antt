-- EACH STEP THAT ASKS has a legal entry, whatever its instruction (in the manner of DRust; the state is this project's).
use Rattle.std.specs.Prelude.{ℕ}
use Rattle.law_copies_writes.specs.Below.law_copies_kept.Below.server_model.declared.event.What.TheVariants.{Step}
use Rattle.law_copies_writes.specs.Below.law_copies_kept.Below.server_model.Servers.{Cluster}
use Rattle.law_copies_writes.specs.Below.law_copies_kept.Below.coherent_types.ClusterTypes.{IsCoherent}
use Rattle.law_copies_writes.specs.Below.law_copies_kept.Below.law_counts_sums.Laws.{FewEvents}
use Rattle.law_entries_writes.specs.Below.law_entries_reads.asks.Asking.{AskingLegal}

-- each step of a thread, from a coherent cluster in which few events were done: where it does no plain step, its entry leads on
abbrev pub EachStepThatAsksLegal : Type 0
EachStepThatAsksLegal = (k : Cluster) (number t : ℕ) → IsCoherent k → FewEvents k → AskingLegal k (record { server = number; what = Step t })
