-- ONE POINTER MORE, which stands at no location (this project's rule): the old word of an object that leaves, or a new shared reference.
use Rattle.std.specs.Prelude.{◌≡◌, ◌⊎◌, ℕ, Some, None, true}
use Rattle.law_words_paths.specs.Below.fr_base.declared.name.ObjNo.{ObjNo}
use Rattle.law_words_paths.specs.Below.heap_partition.declared.value.Cell.{Cell}
use Rattle.law_words_paths.specs.Below.server_model.Servers.{Cluster}
use Rattle.law_words_paths.specs.Below.coherent_memory.Names.{Among}
use Rattle.law_words_paths.specs.Below.coherent_memory.Things.{Location, lies, things_of}
use Rattle.law_words_paths.specs.Below.coherent_memory.Follow.{value_in}
use Rattle.law_words_paths.specs.Below.coherent_memory.Stale.{Reference, references}
use Rattle.law_words_paths.specs.Below.coherent_memory.Sight.{Pointer, pointers_in, sight}
use Rattle.law_words_paths.specs.Below.coherent_memory.Placing.{standing_in}
use Rattle.law_words_paths.specs.Below.coherent_memory.Words.{all_pointers, IsStale}
use Rattle.law_words_paths.specs.words.Reworded.{HasPlaces, LiesThere}
use Rattle.law_words_paths.specs.words.Unmoved.{seen_at, Taking, takings, LeavesWords}

-- no dirty reference to the object isn't stale
abbrev pub IsClean : Cluster → ObjNo → Type 0
IsClean k o = (r : Reference) → Among r (references (sight k).ground (things_of k)) → r.reference.dirty ≡ true → (IsStale (sight k) (Some r.at) → ⊥) → r.reference.object ≡ o → ⊥

-- a pointer to the same object with the same word, which isn't stale
pub record Beside (k : Cluster) (p : Pointer) : Type 0 where
  pub pointer : Pointer
  pub among : Among pointer (all_pointers (sight k))
  pub fresh : IsStale (sight k) pointer.at → ⊥
  pub object : pointer.object ≡ p.object
  pub word : pointer.word ≡ p.word

-- the second cluster has the pointer beside what the first one has
pub record OneMore (k z : Cluster) (p : Pointer) : Type 0 where
  pub stands : (l : Location) → seen_at l (value_in (sight z).ground l) ≡ seen_at l (value_in (sight k).ground l)
  pub takes : (t : Taking) → Among t (takings z.code (sight z).ground.threads) → Among t (takings k.code (sight k).ground.threads)
  pub took : (t : Taking) → Among t (takings k.code (sight k).ground.threads) → Among t (takings z.code (sight z).ground.threads)
  pub loose : (q : Pointer) → q.at ≡ None → Among q (pointers_in (things_of z)) → (p ≡ q) ⊎ Among q (pointers_in (things_of k))
  pub remain : (q : Pointer) → q.at ≡ None → Among q (pointers_in (things_of k)) → Among q (pointers_in (things_of z))
  -- where it counts beside dirty references, no such one leads to its object
  pub standing : (q : Pointer) → q.at ≡ None → Among q (standing_in (things_of z)) → IsClean k q.object ⊎ Among q (standing_in (things_of k))
  pub lay : (r a : ℕ) (c : Cell) → Among (lies r a c) (things_of z) → LiesThere k r a c.object
  pub nowhere : p.at ≡ None
  pub beside : Beside k p

-- that leaves each object the word that it had, and what else is kept of words
abbrev pub OneMoreStays : Type 0
OneMoreStays = (k z : Cluster) (p : Pointer) → HasPlaces k → HasPlaces z → OneMore k z p → LeavesWords k z
