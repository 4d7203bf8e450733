-- WHO POINTS TO WHAT A THREAD WRITES, over the locations of a coherent cluster (Featherweight Rust's borrow invariance, made exact; this project's rule).
use Rattle.std.specs.Prelude.{◌≡◌, ◌⊎◌, ℕ, suc, ◌<◌, true, length, Some, slice_get}
use Rattle.coherent_types.specs.Below.fr_base.declared.name.ObjNo.{ObjNo}
use Rattle.coherent_types.specs.Below.fr_base.declared.place.Lval.{Lval}
use Rattle.coherent_types.specs.Below.fr_base.declared.instruction.Operand.{Operand}
use Rattle.coherent_types.specs.Below.fr_base.declared.instruction.Instr.{Instr}
use Rattle.coherent_types.specs.Below.fr_base.declared.instruction.Instr.TheVariants as instr
use Rattle.coherent_types.specs.Below.mut_borrow.declared.mutable.MutRef.{MutRef}
use Rattle.coherent_types.specs.Below.mut_borrow.declared.shared.SharedRef.{SharedRef}
use Rattle.coherent_types.specs.Below.mut_borrow.Refs.{changed}
use Rattle.coherent_types.specs.Below.thread_state.declared.value.Value.TheVariants as value
use Rattle.coherent_types.specs.Below.thread_state.View.{ThreadState}
use Rattle.coherent_types.specs.Below.thread_state.declared.phase.Phase.TheVariants as phase
use Rattle.coherent_types.specs.Below.server_model.Servers.{Cluster}
use Rattle.coherent_types.specs.Below.fr_store.Keys.{Key, slot_k}
use Rattle.coherent_types.specs.Below.fr_store.Typed.{Exact, Resolves, Unnamed}
use Rattle.coherent_types.specs.Below.coherent_memory.Names.{Among}
use Rattle.coherent_types.specs.Below.coherent_memory.Things.{Location, in_cell, shares, things_of}
use Rattle.coherent_types.specs.Below.coherent_memory.Follow.{Standing, Ground, value_in, locate, place_at}
use Rattle.coherent_types.specs.Below.coherent_memory.Walking.{instr_of}
use Rattle.coherent_types.specs.Below.coherent_memory.Stale.{holder_of}
use Rattle.coherent_types.specs.Below.coherent_memory.Sight.{Pointer, pointers_in, sight}
use Rattle.coherent_types.specs.Below.coherent_memory.Words.{IsStale}
use Rattle.coherent_types.specs.ClusterTypes.{Types}
use Rattle.law_words_paths.specs.paths.HeapStore.{GoesOn, IsUnmarked, HasPaths}

-- the pointer at l stands above the one at m: the mutable reference there was made from it, or from one that it stands above
pub data Above (g : Ground) (l : Location) : Location → Type 0 where
  made_from : {m : Location} (r : MutRef) → value_in g m ≡ Some (value.Mut r) → holder_of g m r.holder ≡ Some l → Above g l m
  made_below : {m h : Location} (r : MutRef) → value_in g m ≡ Some (value.Mut r) → holder_of g m r.holder ≡ Some h → Above g l h → Above g l m

-- by the types the thread may write the place, lend it mutably or drop what stands there: no type names its slot, and boxes and mutable references
-- alone lead to it
pub record MayWrite (k : Cluster) (t : Types k) (x : Standing) (w : Lval) : Type 0 where
  pub free : Unnamed t.typing.exact (slot_k x.thread.number w.slot)
  pub base : Key
  pub boxes : ℕ
  pub type : Exact
  pub resolves : Resolves t.typing.exact true (slot_k x.thread.number w.slot) w.depth base boxes type
  pub unmarked : IsUnmarked x w.slot

-- the place that an instruction writes, moves out of, or lends mutably
pub data WritesTo : Instr → Lval → Type 0 where
  assigns : {w : Lval} {o : Operand} → WritesTo (instr.Assign w o) w
  moves : {w : Lval} → WritesTo (instr.Read w true) w
  lends : {w : Lval} → WritesTo (instr.BorrowMut w) w

-- typing grants it
abbrev pub MayWriteThere : Type 0
MayWriteThere = (k : Cluster) (c : HasPaths k) (x : Standing) (i : Instr) (w : Lval) → GoesOn k x → instr_of (sight k) x ≡ Some i → WritesTo i w → MayWrite k c.types x w

-- the slot whose mutable reference an instruction ends, if there is one: an assignment to a variable, and the end of a variable
pub data EndsSlot (t : ThreadState) : Instr → ℕ → Type 0 where
  assigned : {w : Lval} {o : Operand} → w.depth ≡ 0 → EndsSlot t (instr.Assign w o) w.slot
  dropped : {slot : ℕ} → length t.slots ≡ suc slot → EndsSlot t instr.DropSlot slot

-- typing lets the thread write what a mutable reference leads to that its instruction ends
abbrev pub EndedMayWrite : Type 0
EndedMayWrite = (k : Cluster) (c : HasPaths k) (x : Standing) (i : Instr) (slot : ℕ) (r : MutRef) → GoesOn k x → instr_of (sight k) x ≡ Some i → EndsSlot x.thread i slot → slice_get x.thread.slots slot ≡ Some (value.Mut r)
    → MayWrite k c.types x (record { slot = slot; depth = 1 })

-- a thread that hasn't taken the object for a mutable borrow: no pointer that a place of its instruction follows for writing is stale
abbrev pub WrittenAreFresh : Type 0
WrittenAreFresh = (k : Cluster) (c : HasPaths k) (x : Standing) (i : Instr) (w : Lval) (d : ℕ) (l : Location) → GoesOn k x → instr_of (sight k) x ≡ Some i → WritesTo i w → ((v : ℕ) → x.thread.phase ≡ phase.Taken v → ⊥) → d < w.depth
    → locate (sight k).ground x.thread.number w.slot d ≡ Some l → IsStale (sight k) (Some l) → ⊥

-- threads that follow a pointer in common for writing are one thread
abbrev pub WrittenAreApart : Type 0
WrittenAreApart = (k : Cluster) (c : HasPaths k) (x z : Standing) (i j : Instr) (w v : Lval) (d e : ℕ) (l : Location) → GoesOn k x → GoesOn k z → instr_of (sight k) x ≡ Some i → instr_of (sight k) z ≡ Some j → WritesTo i w → WritesTo j v → d < w.depth → e < v.depth
    → locate (sight k).ground x.thread.number w.slot d ≡ Some l → locate (sight k).ground z.thread.number v.slot e ≡ Some l → x.thread.number ≡ z.thread.number

-- the last star of the place follows the pointer at h, which leads to the object
pub record LastHop (g : Ground) (t : ℕ) (w : Lval) (h : Location) (o : ObjNo) : Type 0 where
  pub stars : ℕ
  pub last : w.depth ≡ suc stars
  pub pointer : locate g t w.slot stars ≡ Some h
  pub leads : place_at g t w ≡ Some (in_cell o)

pub record SolePointers : Type 0 where
  -- each box of what a thread may write, and each mutable reference to it, in whatever thread, is the pointer that the place follows last or stands
  -- above it
  pub above : (k : Cluster) (c : HasPaths k) (x : Standing) (w : Lval) (h : Location) (o : ObjNo) → GoesOn k x → MayWrite k c.types x w → LastHop (sight k).ground x.thread.number w h o
      → (p : Pointer) (l : Location) → Among p (pointers_in (things_of k)) → p.object ≡ o → p.at ≡ Some l → (l ≡ h) ⊎ Above (sight k).ground l h
  -- and no shared reference or view leads to it
  pub unshared : (k : Cluster) (c : HasPaths k) (x : Standing) (w : Lval) (h : Location) (o : ObjNo) → GoesOn k x → MayWrite k c.types x w → LastHop (sight k).ground x.thread.number w h o
      → (l : Location) (r : SharedRef) → Among (shares l r) (things_of k) → r.object ≡ o → ⊥

pub record AboveIsStale : Type 0 where
  -- what stands above a changed mutable reference is stale
  pub changed : (k : Cluster) (l h : Location) (r : MutRef) → value_in (sight k).ground h ≡ Some (value.Mut r) → changed r ≡ true → Above (sight k).ground l h → IsStale (sight k) (Some l)
  -- and so is what stands above a stale pointer
  pub stale : (k : Cluster) (l h : Location) → IsStale (sight k) (Some h) → Above (sight k).ground l h → IsStale (sight k) (Some l)
