-- WHAT A THREAD GIVES UP, over the locations of a coherent cluster: to what a value owns that is dropped, moved or put back nobody else points (this
-- project's rule).
use Rattle.std.specs.Prelude.{◌≡◌, ℕ, zero, suc, length, Option, Some, None}
use Rattle.law_words_kept.specs.Below.fr_base.declared.name.ObjNo.{ObjNo}
use Rattle.law_words_kept.specs.Below.fr_base.declared.place.Lval.{Lval}
use Rattle.law_words_kept.specs.Below.fr_base.declared.instruction.Instr.{Instr}
use Rattle.law_words_kept.specs.Below.fr_base.declared.instruction.Instr.TheVariants as instr
use Rattle.law_words_kept.specs.Below.heap_partition.declared.value.BoxPtr.{BoxPtr}
use Rattle.law_words_kept.specs.Below.heap_partition.declared.value.Owned.TheVariants as owned
use Rattle.law_words_kept.specs.Below.mut_borrow.declared.shared.SharedRef.{SharedRef}
use Rattle.law_words_kept.specs.Below.thread_state.View.{ThreadState}
use Rattle.law_words_kept.specs.Below.thread_state.declared.value.Value.{Value}
use Rattle.law_words_kept.specs.Below.thread_state.declared.value.Value.TheVariants as value
use Rattle.law_words_kept.specs.Below.server_model.Servers.{Cluster}
use Rattle.law_words_kept.specs.Below.coherent_memory.Names.{Among}
use Rattle.law_words_kept.specs.Below.coherent_memory.Things.{Location, at_temp, in_cell, shares, things_of}
use Rattle.law_words_kept.specs.Below.coherent_memory.Follow.{Standing, Ground, value_in, value_behind, place_at}
use Rattle.law_words_kept.specs.Below.coherent_memory.Sight.{Pointer, pointers_in, sight}
use Rattle.law_words_kept.specs.Below.coherent_memory.Walking.{instr_of}
use Rattle.law_words_kept.specs.Below.coherent_types.ClusterTypes.{Types}
use Rattle.law_words_kept.specs.Below.law_words_paths.paths.HeapStore.{GoesOn, HasPaths}
use Rattle.law_words_kept.specs.Below.law_words_paths.paths.Pointing.{MayWrite, WritesTo}

-- where a box leads
abbrev pub box_leads : Option Value → Option Location
box_leads (Some (value.Own (owned.Box p))) = Some (in_cell p.object)
box_leads v = None

-- so many boxes below a location
abbrev pub boxes_below : Ground → Location → ℕ → Option Location
boxes_below g l zero = Some l
boxes_below g l (suc n) = box_leads (value_behind g (boxes_below g l n))

-- a temporary value of the thread, or what stands where a place leads that typing lets it write
pub data MayGiveUp (k : Cluster) (t : Types k) (x : Standing) : Location → Type 0 where
  a_temp : (i : ℕ) → MayGiveUp k t x (at_temp x.thread.number i)
  a_place : {l : Location} (w : Lval) → MayWrite k t x w → place_at (sight k).ground x.thread.number w ≡ Some l → MayGiveUp k t x l

-- each pointer to the object stands there, and no shared reference or view leads to it
pub record IsOnlyPointer (k : Cluster) (h : Location) (o : ObjNo) : Type 0 where
  pub only : (p : Pointer) (m : Location) → Among p (pointers_in (things_of k)) → p.object ≡ o → p.at ≡ Some m → m ≡ h
  pub unshared : (m : Location) (q : SharedRef) → Among (shares m q) (things_of k) → q.object ≡ o → ⊥

-- to each object that the value there owns, however many boxes below, its box is the only pointer
abbrev pub OwnedAreAlone : Type 0
OwnedAreAlone = (k : Cluster) (c : HasPaths k) (x : Standing) (l : Location) (n : ℕ) (h : Location) (b : BoxPtr) → GoesOn k x → MayGiveUp k c.types x l → boxes_below (sight k).ground l n ≡ Some h → value_in (sight k).ground h ≡ Some (value.Own (owned.Box b)) → IsOnlyPointer k h b.object

-- the place of which an instruction gives the value up: the one that it writes or moves out of; the newest slot, which goes with its value, or from which a
-- lock's content is put back
pub data GivesUp (t : ThreadState) : Instr → Lval → Type 0 where
  written : {i : Instr} {w : Lval} → WritesTo i w → GivesUp t i w
  dropped : (slot : ℕ) → length t.slots ≡ suc slot → GivesUp t instr.DropSlot (record { slot = slot; depth = 0 })
  put_back : (slot : ℕ) → length t.slots ≡ suc slot → GivesUp t instr.Unlock (record { slot = slot; depth = 0 })

-- typing lets the thread write it
abbrev pub GivenUpMayBe : Type 0
GivenUpMayBe = (k : Cluster) (c : HasPaths k) (x : Standing) (i : Instr) (w : Lval) → GoesOn k x → instr_of (sight k) x ≡ Some i → GivesUp x.thread i w → MayWrite k c.types x w
