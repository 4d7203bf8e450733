-- The plain step of each instruction that is proved.
use Rattle.std.proofs.Common.{ℕ, List, refl}
use Rattle.coherent_memory.specs.Below.fr_base.declared.instruction.Instr.{Instr}
use Rattle.coherent_memory.specs.Below.fr_base.declared.instruction.Instr.TheVariants as instr
use Rattle.coherent_memory.specs.Below.server_model.Work.{Hand}
use Rattle.coherent_memory.specs.Below.server_model.Places.{Spot}
use Rattle.coherent_memory.specs.Below.server_model.Commit.{let_slot, assign, read, borrow, borrow_mut, discard, drop_slot, print, par_end, unlock, commit}
use Rattle.coherent_memory.specs.Things.{Thing}
use Rattle.law_counts_sums.specs.Kinds.{instr_kind}
use Rattle.law_counts_sums.proofs.Proved.{IsProvedKind, IsSpending}
use Rattle.law_counts_sums.proofs.Rules.{Kept, Spends}
use Rattle.law_counts_sums.proofs.Bags.{HandOk}
use Rattle.law_counts_sums.proofs.Commits.{CommittedOk, goes_keep, lets_slot, assigns, reads, borrows_from, lends_from, discards, drops_slot, calculates, prints, par_ends}
use Rattle.law_counts_sums.proofs.GivingSteps.{joins, mutexes, dups_step, locks_step, unlocks, ends_thread}

module _ {K : List Thing → Type 0} (k : Kept K) (n e t : ℕ) (others : List Thing) where
  pub commits : (servers : ℕ) (i : Instr) (s : Spot) (h : Hand) → IsProvedKind (instr_kind i) → (IsSpending (instr_kind i) → Spends K) → HandOk K n e t others h → CommittedOk (HandOk K n e t others) (commit servers i s h)
  commits m (instr.Let o) s h l sp g = goes_keep k n e t others (let_slot o h) (lets_slot k n e t others o h g)
  commits m (instr.Assign w o) s h l sp g = goes_keep k n e t others (assign w w.depth o s h) (assigns k n e t others w w.depth o s h g)
  commits m (instr.Read w take) s h l sp g = goes_keep k n e t others (read take s h) (reads k n e t others take s h g)
  commits m (instr.Borrow w) s h l sp g = goes_keep k n e t others (borrow w s h) (borrows_from k n e t others w w.depth s h g)
  commits m (instr.BorrowMut w) s h l sp g = goes_keep k n e t others (borrow_mut w s h) (lends_from k n e t others w w.depth s h g)
  commits m (instr.Arith f a b) s h l sp g = goes_keep k n e t others (Rattle.coherent_memory.specs.Below.server_model.Commit.arith f a b h) (calculates k n e t others f a b h g)
  commits m (instr.Print o) s h l sp g = goes_keep k n e t others (print o h) (prints k n e t others o h g)
  commits m instr.Discard s h l sp g = goes_keep k n e t others (discard s h) (discards k n e t others s h g)
  commits m instr.DropSlot s h l sp g = goes_keep k n e t others (drop_slot s h) (drops_slot k n e t others s h g)
  commits m instr.ParEnd s h l sp g = goes_keep k n e t others (par_end h.thread.phase h) (par_ends k n e t others h.thread.phase h g)
  commits m (instr.Join o) s h l sp g = joins k n e t others (sp tt) o h.thread.gift h refl g
  commits m (instr.Mutex o) s h l sp g = mutexes k n e t others o h g
  commits m (instr.Dup w) s h l sp g = dups_step k n e t others s h.thread.gift h refl g
  commits m (instr.Lock w) s h l sp g = locks_step k n e t others s h.thread.gift h refl g
  commits m instr.Unlock s h l sp g = goes_keep k n e t others (unlock h) (unlocks k n e t others h g)
  commits m (instr.End o) s h l sp g = ends_thread k n e t others o h g
  commits m _ s h l sp g = absurd l
