-- A MUTABLE REFERENCE ENDS (this project's rule): the pointer that it was made from gets its word, where that isn't the first one, and the reference is gone.
use Rattle.std.specs.Prelude.{false, ◌≡◌, ◌≢◌, ℕ, true, Some, None}
use Rattle.law_words_paths.specs.Below.heap_partition.declared.value.Cell.{Cell}
use Rattle.law_words_paths.specs.Below.mut_borrow.declared.mutable.MutRef.{MutRef}
use Rattle.law_words_paths.specs.Below.thread_state.declared.value.Value.{Value}
use Rattle.law_words_paths.specs.Below.thread_state.declared.value.Value.TheVariants as value
use Rattle.law_words_paths.specs.Below.server_model.Servers.{Cluster}
use Rattle.law_words_paths.specs.Below.server_model.Places.{with_word}
use Rattle.law_words_paths.specs.Below.coherent_memory.Names.{Among}
use Rattle.law_words_paths.specs.Below.coherent_memory.Things.{Location, lies, things_of}
use Rattle.law_words_paths.specs.Below.coherent_memory.Follow.{value_in, place_at}
use Rattle.law_words_paths.specs.Below.coherent_memory.Stale.{Reference, references, holder_of, is_held_at, is_among, lent_places, one_star_less}
use Rattle.law_words_paths.specs.Below.coherent_memory.Sight.{Pointer, pointers_in, sight}
use Rattle.law_words_paths.specs.Below.coherent_memory.Placing.{standing_in}
use Rattle.law_words_paths.specs.Below.coherent_memory.Words.{IsStale, HasWords}
use Rattle.law_words_paths.specs.Below.coherent_memory.Dirty.{DirtyAlone, PastWords}
use Rattle.law_words_paths.specs.Below.coherent_memory.Coherent.{Holds, first_at_holder}
use Rattle.law_words_paths.specs.words.Reworded.{HasPlaces, LiesThere}
use Rattle.law_words_paths.specs.words.Unmoved.{pointing, Taking, takings, WordsStay}

-- the pointer that the reference was made from: as it was, where the reference's word is the first one, else with that word
pub data GetsBack (r : MutRef) (old new : Value) : Type 0 where
  as_it_was : r.word ≡ r.first → new ≡ old → GetsBack r old new
  its_word : r.word ≢ r.first → with_word r.word old ≡ Some new → GetsBack r old new

-- a clean reference at `at`, which isn't stale, was made from the pointer at h, and is gone
pub record Ended (k z : Cluster) (at h : Location) (r : MutRef) : Type 0 where
  pub stood : value_in (sight k).ground at ≡ Some (value.Mut r)
  pub held : holder_of (sight k).ground at r.holder ≡ Some h
  pub clean : r.dirty ≡ false
  pub fresh : IsStale (sight k) (Some at) → ⊥
  -- no other reference was made from the pointer at h, no thread has taken an object from it, and none was made from the one that ends
  pub only : (q : Reference) → Among q (references (sight k).ground (things_of k)) → is_held_at h q.holder ≡ true → q.at ≡ at
  pub untaken : is_among h (lent_places k.code (sight k).ground (sight k).ground.threads) ≡ true → ⊥
  pub unmade : (q : Reference) → Among q (references (sight k).ground (things_of k)) → is_held_at at q.holder ≡ true → ⊥
  -- what stands afterwards
  pub gone : pointing (value_in (sight z).ground at) ≡ None
  pub old : Value
  pub new : Value
  pub before : value_in (sight k).ground h ≡ Some old
  pub after : value_in (sight z).ground h ≡ Some new
  pub back : GetsBack r old new
  pub elsewhere : (l : Location) → (l ≡ at → ⊥) → (l ≡ h → ⊥) → pointing (value_in (sight z).ground l) ≡ pointing (value_in (sight k).ground l)
  -- no holder of another reference, and no place that a thread has taken, leads through the one that ends
  pub holders : (l : Location) (q : MutRef) → (l ≡ at → ⊥) → value_in (sight k).ground l ≡ Some (value.Mut q) → holder_of (sight z).ground l q.holder ≡ holder_of (sight k).ground l q.holder
  pub taken : (t : Taking) → Among t (takings k.code (sight k).ground.threads) → (place_at (sight z).ground t.thread t.place ≡ place_at (sight k).ground t.thread t.place)
      × (one_star_less (sight z).ground t.thread t.place.slot t.place.depth ≡ one_star_less (sight k).ground t.thread t.place.slot t.place.depth)
  pub takes : (t : Taking) → Among t (takings z.code (sight z).ground.threads) → Among t (takings k.code (sight k).ground.threads)
  pub took : (t : Taking) → Among t (takings k.code (sight k).ground.threads) → Among t (takings z.code (sight z).ground.threads)
  pub loose : (p : Pointer) → p.at ≡ None → Among p (pointers_in (things_of z)) → Among p (pointers_in (things_of k))
  pub remain : (p : Pointer) → p.at ≡ None → Among p (pointers_in (things_of k)) → Among p (pointers_in (things_of z))
  pub standing : (p : Pointer) → p.at ≡ None → Among p (standing_in (things_of z)) → Among p (standing_in (things_of k))
  pub lay : (m a : ℕ) (c : Cell) → Among (lies m a c) (things_of z) → LiesThere k m a c.object

-- then each object keeps its word: what becomes fresh is the pointer at h, and what is joined to that by references that aren't changed, so has the same word;
-- references know the words at their holders; dirty references are alone; and no first word that was left is a word of today
pub record EndsLeaveWords : Type 0 where
  pub words : (k z : Cluster) (at h : Location) (r : MutRef) → HasPlaces k → HasPlaces z → Ended k z at h r → Holds k first_at_holder → (b : HasWords (sight k)) → WordsStay (sight k) (sight z) b
  pub holders : (k z : Cluster) (at h : Location) (r : MutRef) → HasPlaces k → HasPlaces z → Ended k z at h r → Holds k first_at_holder → Holds z first_at_holder
  pub dirty : (k z : Cluster) (at h : Location) (r : MutRef) → HasPlaces k → HasPlaces z → Ended k z at h r → Holds k first_at_holder → HasWords (sight k) → PastWords (sight k) → DirtyAlone (sight k) → DirtyAlone (sight z)
  pub past : (k z : Cluster) (at h : Location) (r : MutRef) → HasPlaces k → HasPlaces z → Ended k z at h r → Holds k first_at_holder → HasWords (sight k) → PastWords (sight k) → PastWords (sight z)
