-- ENTRIES OF STEPS WITHOUT STARS ARE LEGAL (in the manner of DRust; the state is this project's).
use Rattle.std.specs.Prelude.{◌≡◌, ⊤, ℕ, Bool, Some, slice_get}
use Rattle.law_words_ends.specs.Below.fr_base.Rooms.{WithRoom}
use Rattle.law_words_ends.specs.Below.fr_base.declared.instruction.Instr.{Instr}
use Rattle.law_words_ends.specs.Below.fr_base.declared.instruction.Instr.TheVariants as instr
use Rattle.law_words_ends.specs.Below.fr_base.declared.place.Lval.{Lval}
use Rattle.law_words_ends.specs.Below.heap_partition.declared.value.Owned.{Owned}
use Rattle.law_words_ends.specs.Below.mut_borrow.declared.mutable.MutRef.{MutRef}
use Rattle.law_words_ends.specs.Below.thread_state.View.{ThreadState}
use Rattle.law_words_ends.specs.Below.thread_state.declared.value.Value.{Value}
use Rattle.law_words_ends.specs.Below.thread_state.declared.value.Value.TheVariants as value
use Rattle.law_words_ends.specs.Below.server_model.declared.event.What.TheVariants.{Step}
use Rattle.law_words_ends.specs.Below.server_model.Servers.{Server, Cluster, server_at}
use Rattle.law_words_ends.specs.Below.server_model.Work.{thread_in, last_of}
use Rattle.law_words_ends.specs.Below.coherent_types.ClusterTypes.{IsCoherent}
use Rattle.law_words_ends.specs.Below.law_counts_sums.Laws.{FewEvents}
use Rattle.law_words_ends.specs.variables.Ends.{EndsAtHand}
use Rattle.law_entries_variables.specs.deliveries.Entries.{EntryLegal}

-- each step of a thread in such a state at such an instruction has a legal entry, from a coherent cluster in which few events were done
abbrev pub StepsLegal : (ThreadState → Instr → Type 0) → Type 0
StepsLegal P = (k : Cluster) (number t : ℕ) (s : Server) (y : ThreadState) (i : Instr) → IsCoherent k → FewEvents k → server_at k.servers number ≡ Some s → thread_in s.threads t ≡ Some y → slice_get k.code y.pc ≡ Some i → P y i
    → EntryLegal k (record { server = number; what = Step t })

-- neither a mutable reference to an object nor a lock's mark
abbrev pub IsPlain : Value → Type 0
IsPlain (value.Mut r) = ⊥
IsPlain (value.Held m) = ⊥
IsPlain v = ⊤

-- such a value is on top and is discarded, or goes with the newest slot
pub data DropsPlain (y : ThreadState) : Instr → Type 0 where
  discards : (v : Value) → last_of y.temps ≡ Some v → IsPlain v → DropsPlain y instr.Discard
  drops : (v : Value) → last_of y.slots ≡ Some v → IsPlain v → DropsPlain y instr.DropSlot

-- a lock's content is put back
abbrev pub Unlocks : ThreadState → Instr → Type 0
Unlocks y i = i ≡ instr.Unlock

-- a lock or a dup of the mutex in a variable has what it asked for
pub data TakesGift (y : ThreadState) : Instr → Type 0 where
  locks_variable : (w : Lval) (v : Owned) → w.depth ≡ 0 → y.gift ≡ Some v → TakesGift y (instr.Lock w)
  dups_variable : (w : Lval) (v : Owned) → w.depth ≡ 0 → y.gift ≡ Some v → TakesGift y (instr.Dup w)

-- a thread starts
pub data Spawns (y : ThreadState) : Instr → Type 0 where
  spawns : (cs : WithRoom (ℕ × Bool)) (pc : ℕ) → Spawns y (instr.Spawn cs pc)

-- a pair starts
pub data Pairs (y : ThreadState) : Instr → Type 0 where
  pairs : (cs : WithRoom (ℕ × Bool)) (pc : ℕ) (ds : WithRoom (ℕ × Bool)) (other : ℕ) → Pairs y (instr.Par cs pc ds other)

-- a clean mutable reference ends, with its slot or from the hand, that has its first word or was made from the pointer in a variable: nothing is cleaned and no star is followed
pub data EndsClean (y : ThreadState) : Instr → Type 0 where
  discards_clean : (r : MutRef) → last_of y.temps ≡ Some (value.Mut r) → EndsAtHand r → EndsClean y instr.Discard
  drops_clean : (r : MutRef) → last_of y.slots ≡ Some (value.Mut r) → EndsAtHand r → EndsClean y instr.DropSlot
