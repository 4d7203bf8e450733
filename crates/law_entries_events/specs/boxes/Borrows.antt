-- ENTRIES OF BORROWS ARE LEGAL, whatever their pointer (in the manner of DRust; the state is this project's).
use Rattle.std.specs.Prelude.{◌≡◌, ℕ, suc}
use Rattle.law_entries_writes.specs.Below.law_entries_reads.Below.law_words_borrows.Below.fr_base.declared.place.Lval.{Lval}
use Rattle.law_entries_writes.specs.Below.law_entries_reads.Below.law_words_borrows.Below.fr_base.declared.instruction.Instr.{Instr}
use Rattle.law_entries_writes.specs.Below.law_entries_reads.Below.law_words_borrows.Below.fr_base.declared.instruction.Instr.TheVariants as instr
use Rattle.law_entries_writes.specs.Below.law_entries_reads.Below.law_words_borrows.Below.thread_state.View.{ThreadState}
use Rattle.law_entries_writes.specs.Below.law_entries_reads.Below.law_words_borrows.Below.server_model.Servers.{Cluster}

-- a shared borrow through stars
pub data SharesThrough (k : Cluster) (y : ThreadState) : Instr → Type 0 where
  shares : (w : Lval) (n : ℕ) → w.depth ≡ suc n → SharesThrough k y (instr.Borrow w)

-- a borrow of a variable or through stars, shared or mutable
pub data Borrows (y : ThreadState) : Instr → Type 0 where
  shares_it : (w : Lval) → Borrows y (instr.Borrow w)
  lends_it : (w : Lval) → Borrows y (instr.BorrowMut w)
