-- AN OBJECT LIES ELSEWHERE (this project's rule): two clusters that are the same but for where one object lies, or that it was under way.
use Rattle.std.specs.Prelude.{◌≡◌, ◌≢◌, ◌≤◌, ℕ, List, Some, None, map, true, length, slice_get, slice_index_or}
use Rattle.law_words_paths.specs.Below.fr_base.declared.name.ObjNo.{ObjNo}
use Rattle.law_words_paths.specs.Below.heap_partition.declared.value.BoxPtr.{BoxPtr}
use Rattle.law_words_paths.specs.Below.heap_partition.declared.value.Cell.{Cell}
use Rattle.law_words_paths.specs.Below.heap_partition.declared.value.Owned.TheVariants as owned
use Rattle.law_words_paths.specs.Below.mut_borrow.declared.mutable.MutRef.{MutRef}
use Rattle.law_words_paths.specs.Below.owner_box.View.{PartitionState}
use Rattle.law_words_paths.specs.Below.owner_box.Partition.{freed, next_place}
use Rattle.law_words_paths.specs.Below.thread_state.View.{ThreadState}
use Rattle.law_words_paths.specs.Below.thread_state.declared.value.Value.{Value}
use Rattle.law_words_paths.specs.Below.thread_state.declared.value.Value.TheVariants as value
use Rattle.law_words_paths.specs.Below.server_model.Servers.{Cluster}
use Rattle.law_words_paths.specs.Below.server_model.Work.{Hand, look}
use Rattle.law_words_paths.specs.Below.server_model.NewWords.{NewWord, issue_renewal}
use Rattle.law_words_paths.specs.Below.server_model.Places.{in_slot, in_cell, pointer_of, put_word}
use Rattle.law_words_paths.specs.Below.coherent_memory.Names.{Among}
use Rattle.law_words_paths.specs.Below.coherent_memory.Things.{Location, at_slot, in_cell as heap_cell, Thing, lies, things_of}
use Rattle.law_words_paths.specs.Below.coherent_memory.Follow.{value_in}
use Rattle.law_words_paths.specs.Below.coherent_memory.Sight.{sight}
use Rattle.law_words_paths.specs.Below.coherent_memory.Weights.{cells}
use Rattle.law_words_paths.specs.words.Reworded.{turn_of, is_loose, HasPlaces, LiesThere, Reworded}
use Rattle.law_words_paths.specs.words.PutBack.{put_in, StandsHere, LeadsHome}

pub record Relaid (k z : Cluster) (o : ObjNo) : Type 0 where
  pub code : z.code ≡ k.code
  pub stands : (l : Location) → value_in (sight z).ground l ≡ value_in (sight k).ground l
  pub turns : map turn_of (sight z).ground.threads ≡ map turn_of (sight k).ground.threads
  pub loose : (y : Thing) → Among y (things_of z) → is_loose y ≡ true → Among y (things_of k)
  pub remain : (y : Thing) → Among y (things_of k) → is_loose y ≡ true → cells o y ≡ 0 → Among y (things_of z)
  pub lay : (r a : ℕ) (c : Cell) → Among (lies r a c) (things_of z) → (c.object ≡ o → ⊥) → LiesThere k r a c.object

-- then a word that its pointer gets, as the object lies where that leads, is one step with it
abbrev pub RelaidRewords : Type 0
RelaidRewords = (k y z : Cluster) (h : Location) (o : ObjNo) (w : ℕ) → Relaid k y o → Reworded y z h o w → Reworded k z h o w

-- the address for the next object was used before or is the next one, and is vacant
pub record NextIsVacant (p : PartitionState) : Type 0 where
  pub within : (next_place p).0 ≤ length p.cells
  pub vacant : slice_index_or p.cells (next_place p).0 None ≡ None

-- RENEWAL: the object of a pointer leaves its address for the next one, where its new word leads
pub record Renewal (k : Cluster) (n : ℕ) (ts : List ThreadState) (e : ℕ) (h : Hand) (p : BoxPtr) (w : NewWord) : Type 0 where
  pub stands : StandsHere k n ts h
  pub cell : Cell
  pub here : look h.work.rest.partition p.word ≡ Some cell
  pub object : cell.object ≡ p.object
  pub room : NextIsVacant (freed h.work.rest.partition p.word)
  pub issued : issue_renewal p h.work ≡ Some w
  pub before : HasPlaces (put_in k n ts e h)
  pub moved : HasPlaces (put_in k n ts e (record h { work = w.work }))
  pub home : LeadsHome (put_in k n ts e (record h { work = w.work })) (record p { word = w.word })

pub record RenewalsReword : Type 0 where
  pub relays : (k : Cluster) (n : ℕ) (ts : List ThreadState) (e : ℕ) (h : Hand) (p : BoxPtr) (w : NewWord) → Renewal k n ts e h p w → Relaid (put_in k n ts e h) (put_in k n ts e (record h { work = w.work })) p.object
  -- with the word in a slot, which isn't a reference's first one
  pub slot : (k : Cluster) (n : ℕ) (ts : List ThreadState) (e : ℕ) (h h2 : Hand) (p : BoxPtr) (w : NewWord) (i : ℕ) (v : Value) → Renewal k n ts e h p w
      → slice_get h.thread.slots i ≡ Some v
      → pointer_of v ≡ Some p
      → put_word (in_slot i) w h ≡ Some h2
      → HasPlaces (put_in k n ts e h2)
      → ((r : MutRef) → v ≡ value.Mut r → w.word ≢ r.first)
      → Reworded (put_in k n ts e h) (put_in k n ts e h2) (at_slot h.thread.number i) p.object w.word
  -- or in a cell
  pub in_cells : (k : Cluster) (n : ℕ) (ts : List ThreadState) (e : ℕ) (h h2 : Hand) (p : BoxPtr) (w : NewWord) (at : ℕ) (c : Cell) → Renewal k n ts e h p w
      → look w.work.rest.partition at ≡ Some c
      → c.value ≡ owned.Box p
      → put_word (in_cell at None) w h ≡ Some h2
      → HasPlaces (put_in k n ts e h2)
      → Reworded (put_in k n ts e h) (put_in k n ts e h2) (heap_cell c.object) p.object w.word
