-- THE POINTER THROUGH WHICH AN OBJECT IS WRITTEN (this project's rule): each other pointer to the object stands above it. What tells this are places and holders
-- alone, no words and no types, so it stays in the small steps of an event that give pointers words.
use Rattle.std.specs.Prelude.{false, ◌≡◌, ◌⊎◌, ℕ, Option, Some, None, true}
use Rattle.law_words_paths.specs.Below.fr_base.declared.name.ObjNo.{ObjNo}
use Rattle.law_words_paths.specs.Below.fr_base.declared.place.Lval.{Lval}
use Rattle.law_words_paths.specs.Below.heap_partition.declared.value.Owned.TheVariants as owned
use Rattle.law_words_paths.specs.Below.mut_borrow.declared.mutable.MutRef.{MutRef}
use Rattle.law_words_paths.specs.Below.thread_state.declared.value.Value.{Value}
use Rattle.law_words_paths.specs.Below.thread_state.declared.value.Value.TheVariants as value
use Rattle.law_words_paths.specs.Below.server_model.Servers.{Cluster}
use Rattle.law_words_paths.specs.Below.coherent_memory.Names.{Among}
use Rattle.law_words_paths.specs.Below.coherent_memory.Things.{Location, in_cell, things_of}
use Rattle.law_words_paths.specs.Below.coherent_memory.Follow.{Standing, value_in, leads}
use Rattle.law_words_paths.specs.Below.coherent_memory.Stale.{Reference, references, is_held_at}
use Rattle.law_words_paths.specs.Below.coherent_memory.Sight.{Pointer, pointers_in, sight}
use Rattle.law_words_paths.specs.Below.coherent_memory.Placing.{standing_in, standing_pointers}
use Rattle.law_words_paths.specs.Below.coherent_memory.Words.{IsStale}
use Rattle.law_words_paths.specs.Below.coherent_memory.Dirty.{DirtyAlone}
use Rattle.law_words_paths.specs.paths.HeapStore.{GoesOn, HasPaths}
use Rattle.law_words_paths.specs.paths.Pointing.{Above, MayWrite, LastHop}
use Rattle.law_words_paths.specs.words.Reworded.{HasPlaces, Reworded}
use Rattle.law_words_paths.specs.words.Unmoved.{Taking, takings, Unmoved}

-- the pointer at h leads to the object; each other one in a slot, a temporary value or a cell stands above it, none stands elsewhere but the old word of an object
-- under way, and no reference was made from it
pub record IsSole (k : Cluster) (h : Location) (o : ObjNo) : Type 0 where
  pub to : (t : ℕ) → leads t (value_in (sight k).ground h) ≡ Some (in_cell o)
  pub above : (p : Pointer) (l : Location) → Among p (pointers_in (things_of k)) → p.object ≡ o → p.at ≡ Some l → (l ≡ h) ⊎ Above (sight k).ground l h
  pub placed : (p : Pointer) → Among p (standing_pointers (sight k)) → p.object ≡ o → p.at ≡ None → ⊥
  pub unmade : (r : Reference) → Among r (references (sight k).ground (things_of k)) → is_held_at h r.holder ≡ true → ⊥

-- each other pointer to the object that stands somewhere may also be stale, whatever it stands above
pub record IsOnly (k : Cluster) (h : Location) (o : ObjNo) : Type 0 where
  pub to : (t : ℕ) → leads t (value_in (sight k).ground h) ≡ Some (in_cell o)
  pub others : (p : Pointer) (l : Location) → Among p (pointers_in (things_of k)) → p.object ≡ o → p.at ≡ Some l → (l ≡ h) ⊎ (Above (sight k).ground l h ⊎ IsStale (sight k) (Some l))
  pub placed : (p : Pointer) → Among p (standing_pointers (sight k)) → p.object ≡ o → p.at ≡ None → ⊥
  pub unmade : (r : Reference) → Among r (references (sight k).ground (things_of k)) → is_held_at h r.holder ≡ true → ⊥

-- of whatever object a pointer through which it is written is such a one, and so is each dirty reference that isn't stale, since it is alone
pub record AreOnly : Type 0 where
  pub soles : (k : Cluster) (h : Location) (o : ObjNo) → IsSole k h o → IsOnly k h o
  pub dirty : (k : Cluster) (h : Location) (r : MutRef) → HasPlaces k → DirtyAlone (sight k) → value_in (sight k).ground h ≡ Some (value.Mut r) → r.dirty ≡ true → (IsStale (sight k) (Some h) → ⊥) → IsOnly k h r.object

-- the pointer that a place follows last which a thread may write, where it isn't stale, is one through which its object is written
abbrev pub WrittenAreSole : Type 0
WrittenAreSole = (k : Cluster) (c : HasPaths k) (x : Standing) (w : Lval) (h : Location) (o : ObjNo) → GoesOn k x → MayWrite k c.types x w → LastHop (sight k).ground x.thread.number w h o
    → (IsStale (sight k) (Some h) → ⊥) → IsSole k h o

-- THE SAME BUT FOR WORDS

-- where a value leads, and what a mutable reference was made from, without words, marks and pins
abbrev pub outline : Option Value → Option Value
outline (Some (value.Own (owned.Box p))) = Some (value.Own (owned.Box (record p { word = 0 })))
outline (Some (value.SharedSlot i)) = Some (value.SharedSlot i)
outline (Some (value.MutSlot i)) = Some (value.MutSlot i)
outline (Some (value.Shared r)) = Some (value.Shared (record r { word = 0; pinned = false }))
outline (Some (value.Mut r)) = Some (value.Mut (record r { word = 0; dirty = false }))
outline v = None

-- a thread had taken the same, under whatever word
pub record TookIt (k : Cluster) (t : Taking) : Type 0 where
  pub taking : Taking
  pub among : Among taking (takings k.code (sight k).ground.threads)
  pub thread : taking.thread ≡ t.thread
  pub place : taking.place ≡ t.place

-- a pointer to the same object stood at no location
pub record PointedTo (k : Cluster) (p : Pointer) : Type 0 where
  pub pointer : Pointer
  pub among : Among pointer (standing_in (things_of k))
  pub at : pointer.at ≡ None
  pub object : pointer.object ≡ p.object

pub record SameOutlines (k z : Cluster) : Type 0 where
  pub stands : (l : Location) → outline (value_in (sight z).ground l) ≡ outline (value_in (sight k).ground l)
  pub takes : (t : Taking) → Among t (takings z.code (sight z).ground.threads) → TookIt k t
  pub standing : (p : Pointer) → p.at ≡ None → Among p (standing_in (things_of z)) → PointedTo k p

-- then a pointer through which an object is written stays so. It is that where nothing changes that words see, and where one pointer gets another word; and it
-- goes on from one small step to the next
pub record SolesStay : Type 0 where
  pub soles : (k z : Cluster) (h : Location) (o : ObjNo) → HasPlaces k → HasPlaces z → SameOutlines k z → IsSole k h o → IsSole z h o
  pub unmoved : (k z : Cluster) → Unmoved k z → SameOutlines k z
  pub reworded : (k z : Cluster) (h : Location) (o : ObjNo) (w : ℕ) → Reworded k z h o w → SameOutlines k z
  pub chain : (k y z : Cluster) → SameOutlines k y → SameOutlines y z → SameOutlines k z
