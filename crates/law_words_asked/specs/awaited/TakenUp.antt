-- A THREAD TAKES AN OBJECT from a pointer for its mutable borrow (this project's rule): nothing that stands anywhere changes, and the word stands in the thread's phase.
use Rattle.std.specs.Prelude.{◌≡◌, ◌⊎◌, ℕ, true, false, Some}
use Rattle.law_words_asked.specs.Below.fr_base.declared.name.ObjNo.{ObjNo}
use Rattle.law_words_asked.specs.Below.heap_partition.declared.value.Cell.{Cell}
use Rattle.law_words_asked.specs.Below.server_model.Servers.{Cluster}
use Rattle.law_words_asked.specs.Below.coherent_memory.Names.{Among}
use Rattle.law_words_asked.specs.Below.coherent_memory.Things.{Location, Thing, in_cell, lies, things_of}
use Rattle.law_words_asked.specs.Below.coherent_memory.Follow.{value_in, place_at}
use Rattle.law_words_asked.specs.Below.coherent_memory.Stale.{one_star_less}
use Rattle.law_words_asked.specs.Below.coherent_memory.Sight.{sight, issued}
use Rattle.law_words_asked.specs.Below.coherent_memory.Weights.{cells}
use Rattle.law_words_asked.specs.Below.coherent_memory.Words.{IsStale, LeadsTo}
use Rattle.law_words_asked.specs.Below.law_words_paths.words.Reworded.{HasPlaces, LiesThere, is_loose}
use Rattle.law_words_asked.specs.Below.law_words_paths.words.Soles.{IsSole}
use Rattle.law_words_asked.specs.Below.law_words_paths.words.Unmoved.{Taking, takings}
use Rattle.law_words_asked.specs.Below.law_words_paths.words.WordsAfter.{IsNoFirst}
use Rattle.law_words_asked.specs.Below.law_words_kept.prepared.Requests.{WordsRise}

pub record TakenUp (k z : Cluster) (h : Location) (o : ObjNo) (t : Taking) : Type 0 where
  pub code : z.code ≡ k.code
  pub stands : (l : Location) → value_in (sight z).ground l ≡ value_in (sight k).ground l
  -- the thread has taken it from the pointer at h; the others have taken what they had taken
  pub taken : Among t (takings z.code (sight z).ground.threads)
  pub takes : (u : Taking) → Among u (takings z.code (sight z).ground.threads) → (t ≡ u) ⊎ Among u (takings k.code (sight k).ground.threads)
  pub took : (u : Taking) → Among u (takings k.code (sight k).ground.threads) → Among u (takings z.code (sight z).ground.threads)
  pub lent : one_star_less (sight k).ground t.thread t.place.slot t.place.depth ≡ Some h
  pub place : place_at (sight k).ground t.thread t.place ≡ Some (in_cell o)
  -- what points outside of locations is the same, but for the object itself where it was under way
  pub loose : (y : Thing) → Among y (things_of z) → is_loose y ≡ true → Among y (things_of k)
  pub remain : (y : Thing) → Among y (things_of k) → is_loose y ≡ true → cells o y ≡ 0 → Among y (things_of z)
  -- the object lies where the word leads, and each other one lies where it lay
  pub server : ℕ
  pub address : ℕ
  pub lying : LiesThere z server address o
  pub leads : (r a : ℕ) (c : Cell) → Among (lies r a c) (things_of z) → c.object ≡ o → LeadsTo r a t.word
  pub lay : (r a : ℕ) (c : Cell) → Among (lies r a c) (things_of z) → (c.object ≡ o → ⊥) → LiesThere k r a c.object

-- from a pointer through which the object is written, and that isn't stale: then the words hold, and that of the object is the one that was taken, where it is no
-- first word that was left, and wasn't issued
abbrev pub TakingKeeps : Type 0
TakingKeeps = (k z : Cluster) (h : Location) (o : ObjNo) (t : Taking) → HasPlaces k → HasPlaces z → TakenUp k z h o t → IsSole k h o → (IsStale (sight k) (Some h) → ⊥) → IsNoFirst k o t.word → issued (sight k) t.word ≡ false → WordsRise k k → WordsRise k z
