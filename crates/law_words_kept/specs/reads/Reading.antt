-- WHAT A THREAD READS: the pointers that a place of an instruction follows for reading (Featherweight Rust's rule that what is lent mutably isn't read,
-- over the locations of a cluster; this project's rule).
use Rattle.std.specs.Prelude.{◌≡◌, ℕ, suc, ◌<◌, false, Some}
use Rattle.law_counts_sums.specs.Below.fr_base.declared.place.Lval.{Lval}
use Rattle.law_counts_sums.specs.Below.fr_base.declared.instruction.Instr.{Instr}
use Rattle.law_counts_sums.specs.Below.fr_base.declared.instruction.Instr.TheVariants as instr
use Rattle.law_counts_sums.specs.Below.heap_partition.declared.value.BoxPtr.{BoxPtr}
use Rattle.law_counts_sums.specs.Below.thread_state.declared.value.Value.{Value}
use Rattle.law_counts_sums.specs.Below.thread_state.declared.phase.Phase.TheVariants as phase
use Rattle.law_counts_sums.specs.Below.server_model.Servers.{Cluster}
use Rattle.law_counts_sums.specs.Below.server_model.Places.{pointer_of}
use Rattle.law_counts_sums.specs.Below.fr_store.Keys.{Key, slot_k}
use Rattle.law_counts_sums.specs.Below.fr_store.Typed.{Exact, Resolves, Unlent}
use Rattle.law_counts_sums.specs.Below.coherent_memory.Things.{Location}
use Rattle.law_counts_sums.specs.Below.coherent_memory.Follow.{Standing, value_in, locate}
use Rattle.law_counts_sums.specs.Below.coherent_memory.Walking.{instr_of}
use Rattle.law_counts_sums.specs.Below.coherent_memory.Sight.{sight}
use Rattle.law_counts_sums.specs.Below.coherent_memory.Words.{IsStale, LeadsTo}
use Rattle.law_words_paths.specs.Below.coherent_types.ClusterTypes.{Types, IsCoherent}
use Rattle.law_words_paths.specs.paths.HeapStore.{GoesOn, IsUnmarked, HasPaths}
use Rattle.law_words_paths.specs.words.Reworded.{LiesThere}

-- the place that an instruction reads, and how many of its stars it follows: all of them, or those before the pointer from which it borrows
pub data Reads : Instr → Lval → ℕ → Type 0 where
  copies : {w : Lval} {n : ℕ} → w.depth ≡ n → Reads (instr.Read w false) w n
  shares : {w : Lval} {n : ℕ} → w.depth ≡ suc n → Reads (instr.Borrow w) w n
  lends : {w : Lval} {n : ℕ} → w.depth ≡ suc n → Reads (instr.BorrowMut w) w n
  dups : {w : Lval} {n : ℕ} → w.depth ≡ n → Reads (instr.Dup w) w n
  locks : {w : Lval} {n : ℕ} → w.depth ≡ n → Reads (instr.Lock w) w n

-- by the types the thread may read the place: no mutable reference's type names its slot, and it leads somewhere
pub record MayRead (k : Cluster) (t : Types k) (x : Standing) (w : Lval) : Type 0 where
  pub free : Unlent t.typing.exact (slot_k x.thread.number w.slot)
  pub base : Key
  pub boxes : ℕ
  pub type : Exact
  pub resolves : Resolves t.typing.exact false (slot_k x.thread.number w.slot) w.depth base boxes type
  pub unmarked : IsUnmarked x w.slot

-- typing grants it
abbrev pub MayReadThere : Type 0
MayReadThere = (k : Cluster) (c : HasPaths k) (x : Standing) (i : Instr) (w : Lval) (n : ℕ) → GoesOn k x → instr_of (sight k) x ≡ Some i → Reads i w n → MayRead k c.types x w

-- no pointer that the thread follows there is stale
abbrev pub ReadAreFresh : Type 0
ReadAreFresh = (k : Cluster) (c : HasPaths k) (x : Standing) (i : Instr) (w : Lval) (n d : ℕ) (l : Location) → GoesOn k x → instr_of (sight k) x ≡ Some i → Reads i w n → d < n
    → locate (sight k).ground x.thread.number w.slot d ≡ Some l → IsStale (sight k) (Some l) → ⊥

-- the pointer's object lies where its word leads
pub record LiesUnder (k : Cluster) (p : BoxPtr) : Type 0 where
  pub server : ℕ
  pub address : ℕ
  pub there : LiesThere k server address p.object
  pub leads : LeadsTo server address p.word

-- a thread that doesn't wait for a cell: each pointer that it follows there leads to where the object lies
abbrev pub ReadLieThere : Type 0
ReadLieThere = (k : Cluster) → IsCoherent k → (x : Standing) (i : Instr) (w : Lval) (n d : ℕ) (l : Location) (v : Value) (p : BoxPtr) → GoesOn k x → instr_of (sight k) x ≡ Some i → Reads i w n → d < n
    → ((u : ℕ) → x.thread.phase ≡ phase.WaitCell u → ⊥) → locate (sight k).ground x.thread.number w.slot d ≡ Some l → value_in (sight k).ground l ≡ Some v → pointer_of v ≡ Some p → LiesUnder k p
