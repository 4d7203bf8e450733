-- AN OBJECT COMES (this project's rule): it was under way to a server, and lies there once its message is delivered.
use Rattle.std.specs.Prelude.{◌≡◌, ◌≢◌, ℕ, Some, None, slice_get}
use Rattle.law_results_events.specs.Below.heap_partition.declared.value.BoxPtr.{BoxPtr}
use Rattle.law_results_events.specs.Below.heap_partition.declared.value.Cell.{Cell}
use Rattle.law_results_events.specs.Below.heap_partition.declared.value.Owned.TheVariants as owned
use Rattle.law_results_events.specs.Below.mut_borrow.declared.mutable.MutRef.{MutRef}
use Rattle.law_results_events.specs.Below.owner_box.Partition.{made, new_word}
use Rattle.law_results_events.specs.Below.server_msgs.declared.message.Message.TheVariants.{Moved}
use Rattle.law_results_events.specs.Below.thread_state.declared.value.Value.{Value}
use Rattle.law_results_events.specs.Below.thread_state.declared.value.Value.TheVariants as value
use Rattle.law_results_events.specs.Below.server_model.Servers.{Server, Cluster, server_at}
use Rattle.law_results_events.specs.Below.server_model.Work.{Hand, look, receive, thread_in}
use Rattle.law_results_events.specs.Below.server_model.Places.{in_slot, in_cell, pointer_of, set_pointer}
use Rattle.law_results_events.specs.Below.coherent_memory.Things.{at_slot, in_cell as heap_cell}
use Rattle.law_results_events.specs.Below.law_words_paths.words.Reworded.{HasPlaces, Reworded}
use Rattle.law_results_events.specs.Below.law_words_paths.words.PutBack.{put_in, LeadsHome}
use Rattle.law_results_events.specs.Below.law_words_kept.moves.Relaid.{Relaid, NextIsVacant}

-- the message number i of the server is delivered, which has the object's cell; the thread of the hand is as it was, and the cell lies at the next address
pub record Arrival (k : Cluster) (s : Server) (i old t e : ℕ) (c : Cell) (h : Hand) : Type 0 where
  pub here : server_at k.servers s.rest.number ≡ Some s
  pub message : slice_get s.rest.inbox i ≡ Some (Moved old c t)
  pub at : thread_in s.threads t ≡ Some h.thread
  pub named : h.thread.number ≡ t
  pub rest : h.work.rest ≡ record (receive s.rest i) { partition = made s.rest.partition c }
  pub room : NextIsVacant s.rest.partition
  pub before : HasPlaces k
  pub came : HasPlaces (put_in k s.rest.number s.threads e h)

pub record ArrivalsReword : Type 0 where
  -- all is as it was, but that the object lies there
  pub relays : (k : Cluster) (s : Server) (i old t e : ℕ) (c : Cell) (h : Hand) → Arrival k s i old t e c h → Relaid k (put_in k s.rest.number s.threads e h) c.object
  -- its pointer in a slot gets the word that leads there, which isn't a reference's first one
  pub slot : (k : Cluster) (s : Server) (i old t e : ℕ) (c : Cell) (h h2 : Hand) (j : ℕ) (v : Value) (p : BoxPtr) → Arrival k s i old t e c h
      → LeadsHome (put_in k s.rest.number s.threads e h) (record { word = new_word s.rest.partition; object = c.object })
      → slice_get h.thread.slots j ≡ Some v
      → pointer_of v ≡ Some p
      → p.object ≡ c.object
      → set_pointer (in_slot j) (new_word s.rest.partition) h ≡ Some h2
      → HasPlaces (put_in k s.rest.number s.threads e h2)
      → ((r : MutRef) → v ≡ value.Mut r → new_word s.rest.partition ≢ r.first)
      → Reworded k (put_in k s.rest.number s.threads e h2) (at_slot h.thread.number j) c.object (new_word s.rest.partition)
  -- or in a cell
  pub in_cells : (k : Cluster) (s : Server) (i old t e : ℕ) (c : Cell) (h h2 : Hand) (at : ℕ) (b : Cell) (p : BoxPtr) → Arrival k s i old t e c h
      → LeadsHome (put_in k s.rest.number s.threads e h) (record { word = new_word s.rest.partition; object = c.object })
      → look h.work.rest.partition at ≡ Some b
      → b.value ≡ owned.Box p
      → p.object ≡ c.object
      → set_pointer (in_cell at None) (new_word s.rest.partition) h ≡ Some h2
      → HasPlaces (put_in k s.rest.number s.threads e h2)
      → Reworded k (put_in k s.rest.number s.threads e h2) (heap_cell b.object) c.object (new_word s.rest.partition)
