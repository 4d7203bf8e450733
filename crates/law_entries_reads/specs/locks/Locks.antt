-- ENTRIES OF LOCKS ARE LEGAL where they take their content, through however many stars (in the manner of DRust; the state is this project's).
use Rattle.law_entries_reads.specs.Below.law_words_borrows.Below.fr_base.declared.place.Lval.{Lval}
use Rattle.law_entries_reads.specs.Below.law_words_borrows.Below.fr_base.declared.instruction.Instr.{Instr}
use Rattle.law_entries_reads.specs.Below.law_words_borrows.Below.fr_base.declared.instruction.Instr.TheVariants as instr
use Rattle.law_entries_reads.specs.Below.law_words_borrows.Below.thread_state.View.{ThreadState}
use Rattle.law_entries_reads.specs.Below.law_words_borrows.Below.server_model.Servers.{Cluster}

-- a lock of the mutex to which a place leads
pub data LocksPlace (k : Cluster) (y : ThreadState) : Instr → Type 0 where
  locks : (w : Lval) → LocksPlace k y (instr.Lock w)
