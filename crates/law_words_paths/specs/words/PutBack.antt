-- A SMALL STEP OF AN EVENT gives a pointer another word: the cluster with the thread put back where it stood, before the step and after it (this project's
-- rule).
use Rattle.std.specs.Prelude.{◌≡◌, ◌≢◌, ℕ, List, Option, Some, None, IsSome, option_map, slice_get}
use Rattle.law_words_paths.specs.Below.global_addr.Words.{next_word}
use Rattle.law_words_paths.specs.Below.heap_partition.declared.value.BoxPtr.{BoxPtr}
use Rattle.law_words_paths.specs.Below.heap_partition.declared.value.Cell.{Cell}
use Rattle.law_words_paths.specs.Below.heap_partition.declared.value.Owned.TheVariants as owned
use Rattle.law_words_paths.specs.Below.mut_borrow.declared.mutable.MutRef.{MutRef}
use Rattle.law_words_paths.specs.Below.thread_state.View.{ThreadState}
use Rattle.law_words_paths.specs.Below.thread_state.declared.value.Value.{Value}
use Rattle.law_words_paths.specs.Below.thread_state.declared.value.Value.TheVariants as value
use Rattle.law_words_paths.specs.Below.server_model.Servers.{Cluster, server_at}
use Rattle.law_words_paths.specs.Below.server_model.Work.{Hand, look, thread_in, set_thread}
use Rattle.law_words_paths.specs.Below.server_model.Clusters.{with_server}
use Rattle.law_words_paths.specs.Below.server_model.NewWords.{NewWord, issue_tint}
use Rattle.law_words_paths.specs.Below.server_model.Places.{in_slot, in_cell, note_write, pointer_of, set_pointer, put_word}
use Rattle.law_words_paths.specs.Below.server_model.Prepare.{box_of}
use Rattle.law_words_paths.specs.Below.coherent_memory.Names.{Among}
use Rattle.law_words_paths.specs.Below.coherent_memory.Things.{at_slot, in_cell as heap_cell, lies, things_of}
use Rattle.law_words_paths.specs.Below.coherent_memory.Words.{IsStale, HasWords, LeadsTo}
use Rattle.law_words_paths.specs.Below.coherent_memory.Balances.{AtMostOne}
use Rattle.law_words_paths.specs.Below.coherent_memory.Weights.{states}
use Rattle.law_words_paths.specs.Below.coherent_memory.Sight.{sight}
use Rattle.law_words_paths.specs.Below.coherent_memory.Coherent.{Holds, are_issued, first_at_holder}
use Rattle.law_words_paths.specs.words.Reworded.{HasPlaces, LiesThere, Reworded}
use Rattle.law_words_paths.specs.words.Soles.{IsOnly}
use Rattle.law_words_paths.specs.words.WordsAfter.{KeepsWords}

-- the cluster with a hand's thread among those of its server, which has done so many events
abbrev pub put_in : Cluster → ℕ → List ThreadState → ℕ → Hand → Cluster
put_in k n ts e h = record k { servers = with_server k.servers n (record { rest = h.work.rest; threads = set_thread ts h.thread; events = e }) }

-- the thread of a hand stands at a server of the cluster
pub record StandsHere (k : Cluster) (n : ℕ) (ts : List ThreadState) (h : Hand) : Type 0 where
  pub server : IsSome (server_at k.servers n)
  pub number : h.work.rest.number ≡ n
  pub thread : IsSome (thread_in ts h.thread.number)

-- the object lies where its pointer's word leads
pub record LeadsHome (k : Cluster) (p : BoxPtr) : Type 0 where
  pub server : ℕ
  pub address : ℕ
  pub lying : LiesThere k server address p.object
  pub leads : (r a : ℕ) (c : Cell) → Among (lies r a c) (things_of k) → c.object ≡ p.object → LeadsTo r a p.word

-- A WORD IN A SLOT: whatever word is put, where the object lies where it leads; that of a mutable reference isn't its first one
abbrev pub SlotsReword : Type 0
SlotsReword = (k : Cluster) (n : ℕ) (ts : List ThreadState) (e : ℕ) (h h2 : Hand) (i w : ℕ) (v : Value) (p : BoxPtr) → StandsHere k n ts h
    → slice_get h.thread.slots i ≡ Some v
    → pointer_of v ≡ Some p
    → set_pointer (in_slot i) w h ≡ Some h2
    → HasPlaces (put_in k n ts e h)
    → HasPlaces (put_in k n ts e h2)
    → LeadsHome (put_in k n ts e h) (record p { word = w })
    → ((r : MutRef) → v ≡ value.Mut r → w ≢ r.first)
    → Reworded (put_in k n ts e h) (put_in k n ts e h2) (at_slot h.thread.number i) p.object w

-- TINT: the pointer in a slot gets the next colour
abbrev pub TintRewords : Type 0
TintRewords = (k : Cluster) (n : ℕ) (ts : List ThreadState) (e : ℕ) (h h2 : Hand) (i : ℕ) (v : Value) (p : BoxPtr) → StandsHere k n ts h
    → slice_get h.thread.slots i ≡ Some v
    → pointer_of v ≡ Some p
    → put_word (in_slot i) (issue_tint p h.work) h ≡ Some h2
    → HasPlaces (put_in k n ts e h)
    → HasPlaces (put_in k n ts e h2)
    → LeadsHome (put_in k n ts e h) p
    → ((r : MutRef) → v ≡ value.Mut r → next_word p.word ≢ r.first)
    → Reworded (put_in k n ts e h) (put_in k n ts e h2) (at_slot h.thread.number i) p.object (next_word p.word)

-- so where that pointer is the only one to its object, and isn't stale, and the object lies, each object has a word afterwards: that of the
-- object is the next colour; and what else is kept of words is kept. What is asked beside it: each address has one state, words that stand anywhere were issued, and references know their holders' words
abbrev pub TintKeepsWords : Type 0
TintKeepsWords = (k : Cluster) (n : ℕ) (ts : List ThreadState) (e : ℕ) (h h2 : Hand) (i : ℕ) (v : Value) (p : BoxPtr) → StandsHere k n ts h
    → slice_get h.thread.slots i ≡ Some v
    → pointer_of v ≡ Some p
    → put_word (in_slot i) (issue_tint p h.work) h ≡ Some h2
    → HasPlaces (put_in k n ts e h)
    → HasPlaces (put_in k n ts e h2)
    → IsOnly (put_in k n ts e h) (at_slot h.thread.number i) p.object
    → (IsStale (sight (put_in k n ts e h)) (Some (at_slot h.thread.number i)) → ⊥)
    → Holds (put_in k n ts e h) are_issued
    → Holds (put_in k n ts e h) first_at_holder
    → AtMostOne states (things_of (put_in k n ts e h))
    → (before : HasWords (sight (put_in k n ts e h))) (r a : ℕ) → LiesThere (put_in k n ts e h) r a p.object
    → KeepsWords (put_in k n ts e h) (put_in k n ts e h2) p.object (next_word p.word) before

-- A WORD IN A CELL: the box in a cell that lies here gets another word. `put_word` also marks the mutable reference in a slot that led straight to the cell, which
-- is a mark as below
pub record CellsReword : Type 0 where
  -- whatever word is put, where the object lies where it leads
  pub put : (k : Cluster) (n : ℕ) (ts : List ThreadState) (e : ℕ) (h h2 : Hand) (at v : ℕ) (c : Cell) (p : BoxPtr) → StandsHere k n ts h
      → look h.work.rest.partition at ≡ Some c
      → c.value ≡ owned.Box p
      → set_pointer (in_cell at None) v h ≡ Some h2
      → HasPlaces (put_in k n ts e h)
      → HasPlaces (put_in k n ts e h2)
      → LeadsHome (put_in k n ts e h) (record p { word = v })
      → Reworded (put_in k n ts e h) (put_in k n ts e h2) (heap_cell c.object) p.object v
  -- so is a tint
  pub tint : (k : Cluster) (n : ℕ) (ts : List ThreadState) (e : ℕ) (h h2 : Hand) (at : ℕ) (c : Cell) (p : BoxPtr) → StandsHere k n ts h
      → look h.work.rest.partition at ≡ Some c
      → c.value ≡ owned.Box p
      → put_word (in_cell at None) (issue_tint p h.work) h ≡ Some h2
      → HasPlaces (put_in k n ts e h)
      → HasPlaces (put_in k n ts e h2)
      → LeadsHome (put_in k n ts e h) p
      → Reworded (put_in k n ts e h) (put_in k n ts e h2) (heap_cell c.object) p.object (next_word p.word)
  -- with a reference that led there it is that and then the mark
  pub in_two : (at : ℕ) (through : Option ℕ) (v : NewWord) (h : Hand) → put_word (in_cell at through) v h ≡ option_map (note_write through) (put_word (in_cell at None) v h)

-- MARK: what a mutable reference in a slot leads to is written, which is noted on the reference. Its word stays
abbrev pub MarkRewords : Type 0
MarkRewords = (k : Cluster) (n : ℕ) (ts : List ThreadState) (e : ℕ) (h : Hand) (i : ℕ) (r : MutRef) → StandsHere k n ts h
    → slice_get h.thread.slots i ≡ Some (value.Mut r)
    → HasPlaces (put_in k n ts e h)
    → HasPlaces (put_in k n ts e (note_write (Some i) h))
    → LeadsHome (put_in k n ts e h) (box_of r)
    → Reworded (put_in k n ts e h) (put_in k n ts e (note_write (Some i) h)) (at_slot h.thread.number i) r.object r.word
