-- A POINTER LESS (this project's rule): a shared reference goes. Each object that lies somewhere still has a pointer that isn't stale: where its owner is stale, a
-- mutable reference to it was made from that, and so on, and no circle of them.
use Rattle.std.specs.Prelude.{◌≡◌, ◌<◌, ℕ, Some, None}
use Rattle.law_words_values.specs.Below.heap_partition.declared.value.Cell.{Cell}
use Rattle.law_words_values.specs.Below.mut_borrow.declared.mutable.MutRef.{MutRef}
use Rattle.law_words_values.specs.Below.thread_state.declared.value.Value.TheVariants as value
use Rattle.law_words_values.specs.Below.server_model.Servers.{Cluster}
use Rattle.law_words_values.specs.Below.coherent_memory.Names.{Among}
use Rattle.law_words_values.specs.Below.coherent_memory.Things.{Location, lies, things_of}
use Rattle.law_words_values.specs.Below.coherent_memory.Follow.{value_in}
use Rattle.law_words_values.specs.Below.coherent_memory.Stale.{holder_of}
use Rattle.law_words_values.specs.Below.coherent_memory.Sight.{Pointer, pointers_in, sight}
use Rattle.law_words_values.specs.Below.coherent_memory.Placing.{standing_in}
use Rattle.law_words_values.specs.Below.coherent_memory.Words.{Fresh}
use Rattle.law_words_values.specs.Below.coherent_memory.Coherent.{Holds, first_at_holder}
use Rattle.law_words_values.specs.Below.law_words_paths.paths.HeapStore.{HasPaths}
use Rattle.law_words_values.specs.Below.law_words_paths.words.Reworded.{HasPlaces, LiesThere}
use Rattle.law_words_values.specs.Below.law_words_paths.words.Unmoved.{seen_at, Taking, takings, LeavesWords}

-- each mutable reference ranks above the pointer that it was made from
pub record IsRanked (k : Cluster) : Type 0 where
  pub rank : Location → ℕ
  pub above : (l h : Location) (r : MutRef) → value_in (sight k).ground l ≡ Some (value.Mut r) → holder_of (sight k).ground l r.holder ≡ Some h → rank h < rank l

-- so it is by types
abbrev pub TypesRank : Type 0
TypesRank = (k : Cluster) → HasPaths k → IsRanked k

-- then an object that lies somewhere has a box, a mutable reference, or a word that was taken, which isn't stale
abbrev pub RankedAreFresh : Type 0
RankedAreFresh = (k : Cluster) → HasPlaces k → Holds k first_at_holder → IsRanked k → (r a : ℕ) (c : Cell) → Among (lies r a c) (things_of k) → Fresh (sight k) c.object

-- the second cluster has what the first one has, but for pointers at no location
pub record Fewer (k z : Cluster) : Type 0 where
  pub stands : (l : Location) → seen_at l (value_in (sight z).ground l) ≡ seen_at l (value_in (sight k).ground l)
  pub takes : (t : Taking) → Among t (takings z.code (sight z).ground.threads) → Among t (takings k.code (sight k).ground.threads)
  pub took : (t : Taking) → Among t (takings k.code (sight k).ground.threads) → Among t (takings z.code (sight z).ground.threads)
  pub loose : (p : Pointer) → p.at ≡ None → Among p (pointers_in (things_of z)) → Among p (pointers_in (things_of k))
  pub standing : (p : Pointer) → p.at ≡ None → Among p (standing_in (things_of z)) → Among p (standing_in (things_of k))
  pub lay : (r a : ℕ) (c : Cell) → Among (lies r a c) (things_of z) → LiesThere k r a c.object

-- that leaves the words, where references rank
abbrev pub FewerStays : Type 0
FewerStays = (k z : Cluster) → HasPlaces k → HasPlaces z → Holds k first_at_holder → IsRanked k → Fewer k z → LeavesWords k z
