-- THE WORDS OF OBJECTS GO ON where one of them changes (this project's rules).
use Rattle.std.specs.Prelude.{false, true, ◌≡◌, ◌≢◌, ℕ, Some}
use Rattle.law_words_paths.specs.Below.fr_base.declared.name.ObjNo.{ObjNo}
use Rattle.law_words_paths.specs.Below.mut_borrow.declared.mutable.MutRef.{MutRef}
use Rattle.law_words_paths.specs.Below.mut_borrow.Refs.{changed}
use Rattle.law_words_paths.specs.Below.thread_state.declared.value.Value.TheVariants as value
use Rattle.law_words_paths.specs.Below.server_model.Servers.{Cluster}
use Rattle.law_words_paths.specs.Below.coherent_memory.Names.{Among}
use Rattle.law_words_paths.specs.Below.coherent_memory.Things.{Location, things_of}
use Rattle.law_words_paths.specs.Below.coherent_memory.Follow.{value_in}
use Rattle.law_words_paths.specs.Below.coherent_memory.Stale.{Reference, references}
use Rattle.law_words_paths.specs.Below.coherent_memory.Sight.{Pointer, Sight, sight, issued}
use Rattle.law_words_paths.specs.Below.coherent_memory.Coherent.{Holds, are_issued, first_at_holder}
use Rattle.law_words_paths.specs.Below.coherent_memory.Dirty.{DirtyAlone, PastWords}
use Rattle.law_words_paths.specs.Below.coherent_memory.Words.{all_pointers, IsStale, HasWords}
use Rattle.law_words_paths.specs.words.Reworded.{HasPlaces, Reworded}
use Rattle.law_words_paths.specs.words.Soles.{IsSole, IsOnly}

-- the words afterwards: that of the object is the new one, and each other one is what it was
pub record WordsAfter (s z : Sight) (o : ObjNo) (w : ℕ) (before : HasWords s) : Type 0 where
  pub after : HasWords z
  pub new : after.word o ≡ w
  pub others : (p : ObjNo) → (p ≡ o → ⊥) → after.word p ≡ before.word p

-- the pointer at h is the only one that stands, isn't stale and isn't above it, from it none was made, and it gets another word
pub record Rewrites (k z : Cluster) (h : Location) (o : ObjNo) (w : ℕ) : Type 0 where
  pub before : HasPlaces k
  pub only : IsOnly k h o
  pub fresh : IsStale (sight k) (Some h) → ⊥
  -- each reference knows the word at its holder
  pub firsts : Holds k first_at_holder
  pub places : HasPlaces z
  pub reworded : Reworded k z h o w

-- then the words go on
abbrev pub WordsGoOn : Type 0
WordsGoOn = (k z : Cluster) (h : Location) (o : ObjNo) (w : ℕ) → Rewrites k z h o w → (before : HasWords (sight k)) → WordsAfter (sight k) (sight z) o w before

-- references know the words at their holders, since none was made from that pointer
abbrev pub HoldersGoOn : Type 0
HoldersGoOn = (k z : Cluster) (h : Location) (o : ObjNo) (w : ℕ) → Rewrites k z h o w → Holds z first_at_holder

-- and dirty references are alone
abbrev pub DirtyGoOn : Type 0
DirtyGoOn = (k z : Cluster) (h : Location) (o : ObjNo) (w : ℕ) → Rewrites k z h o w → DirtyAlone (sight k) → DirtyAlone (sight z)

-- the word isn't the first one of a reference to the object that has another one
abbrev pub IsNoFirst : Cluster → ObjNo → ℕ → Type 0
IsNoFirst k o w = (r : Reference) → Among r (references (sight k).ground (things_of k)) → r.reference.object ≡ o → r.reference.word ≢ r.reference.first → w ≢ r.reference.first

-- so it is with a word that wasn't issued, and with that of a pointer to the object that isn't stale
pub record AreNoFirsts : Type 0 where
  pub unissued : (k : Cluster) (o : ObjNo) (w : ℕ) → Holds k are_issued → issued (sight k) w ≡ false → IsNoFirst k o w
  pub present : (k : Cluster) (p : Pointer) → PastWords (sight k) → Among p (all_pointers (sight k)) → (IsStale (sight k) p.at → ⊥) → IsNoFirst k p.object p.word

-- then first words that were left are no words of today
abbrev pub PastGoesOn : Type 0
PastGoesOn = (k z : Cluster) (h : Location) (o : ObjNo) (w : ℕ) → Rewrites k z h o w → IsNoFirst k o w → PastWords (sight k) → PastWords (sight z)

-- all of it
pub record KeepsWords (k z : Cluster) (o : ObjNo) (w : ℕ) (before : HasWords (sight k)) : Type 0 where
  pub words : WordsAfter (sight k) (sight z) o w before
  pub holders : Holds z first_at_holder
  pub dirty : DirtyAlone (sight k) → DirtyAlone (sight z)
  pub past : PastWords (sight k) → PastWords (sight z)

-- a word that wasn't issued leaves it
abbrev pub NewWordsGoOn : Type 0
NewWordsGoOn = (k z : Cluster) (h : Location) (o : ObjNo) (w : ℕ) → Rewrites k z h o w → Holds k are_issued → issued (sight k) w ≡ false → (before : HasWords (sight k)) → KeepsWords k z o w before

-- a pointer from which no reference was made, and that isn't stale, isn't stale afterwards
abbrev pub FreshGoOn : Type 0
FreshGoOn = (k z : Cluster) (h : Location) (o : ObjNo) (w : ℕ) → Rewrites k z h o w → (l : Location) (p : ObjNo) → IsSole k l p → (IsStale (sight k) (Some l) → ⊥) → IsStale (sight z) (Some l) → ⊥

-- where a changed reference gets the word, nothing becomes stale, as what stands above it was
abbrev pub ChangedRewords : Type 0
ChangedRewords = (k z : Cluster) (h : Location) (o : ObjNo) (w : ℕ) → Rewrites k z h o w → (r : MutRef) → value_in (sight k).ground h ≡ Some (value.Mut r) → changed r ≡ true → (l : Location) → IsStale (sight z) (Some l) → IsStale (sight k) (Some l)
