-- The reference that led straight to the cell which is written gets its mark: objects have the words that they had.
use Rattle.std.proofs.Common.{◌≡◌, true, ℕ, ◌+◌, Option, Some, None, refl, sym, subst}
use Rattle.law_heap_writes.specs.Below.law_words_asked.Below.mut_borrow.declared.mutable.MutRef.{MutRef}
use Rattle.law_heap_writes.specs.Below.law_words_asked.Below.thread_state.View.{ThreadState}
use Rattle.law_heap_writes.specs.Below.law_words_asked.Below.thread_state.declared.value.Value.TheVariants as value
use Rattle.law_heap_writes.specs.Below.law_words_asked.Below.server_model.Servers.{Server, Cluster, server_at}
use Rattle.law_heap_writes.specs.Below.law_words_asked.Below.server_model.Work.{Hand, thread_in}
use Rattle.law_heap_writes.specs.Below.law_words_asked.Below.server_model.Places.{in_cell, note_slot, note_write}
use Rattle.law_heap_writes.specs.Below.law_words_asked.Below.server_model.Prepare.{box_of}
use Rattle.law_entries_writes.specs.Below.law_entries_variables.Below.coloured_heap.Heap.{Coloured}
use Rattle.law_heap_writes.specs.Below.law_words_asked.Below.coherent_memory.Things.{Location, at_slot}
use Rattle.law_heap_writes.specs.Below.law_words_asked.Below.coherent_memory.Follow.{value_in}
use Rattle.law_heap_writes.specs.Below.law_words_asked.Below.coherent_memory.Sight.{sight}
use Rattle.law_heap_writes.specs.Below.law_words_asked.Below.coherent_memory.Colours.{StandsColoured}
use Rattle.law_heap_writes.specs.Below.law_words_asked.Below.coherent_types.ClusterTypes.{IsCoherent}
use Rattle.law_heap_writes.specs.Below.law_words_asked.Below.law_words_paths.words.Reworded.{HasPlaces, Reworded}
use Rattle.law_heap_writes.proofs.Below.law_words_writes.Below.law_words_asked.Below.law_words_paths.words.Tints.{slot_stands}
use Rattle.law_heap_writes.proofs.Below.law_words_writes.Below.law_words_asked.Below.law_words_paths.words.Marks.{mark_rewords}
use Rattle.law_heap_writes.proofs.Below.law_words_writes.Below.law_words_asked.Below.law_words_kept.prepared.Hands.{put, places, stands}
use Rattle.law_heap_writes.proofs.Below.law_words_writes.Below.law_words_asked.writes.Passing.{Fits, State}
use Rattle.law_heap_writes.proofs.Below.law_words_writes.Below.law_words_asked.writes.Hops.{Through, Walk, home_now}
use Rattle.law_heap_writes.proofs.Below.law_words_writes.Marking.{mark_state}
use Rattle.law_entries_writes.proofs.Below.law_entries_reads.asks.Frames.{SameFrames}
use Rattle.law_entries_writes.proofs.Below.law_entries_reads.asks.KeptRest.{set_frames}
use Rattle.law_entries_writes.proofs.Below.law_entries_reads.asks.Recoloured.{NewWords}
use Rattle.law_entries_writes.proofs.walks.Given.{Given, given_marked}
use Rattle.law_entries_writes.proofs.walks.Hops.{rewrites, word_now}

module _ (k : Cluster) (coherent : IsCoherent k) (s : Server) (here : server_at k.servers s.rest.number ≡ Some s) (t : ℕ) (y : ThreadState) (at : thread_in s.threads t ≡ Some y) (c0 : Coloured) (is_coloured : StandsColoured k c0) where
  abbrev n : ℕ
  n = s.rest.number

  abbrev O : Hand → Type 0
  O = Fits k coherent s here t y at

  abbrev P : Hand → Cluster
  P = put k coherent s here t y at

  abbrev G : Hand → NewWords → Type 0
  G = Given k coherent s here t y at c0 is_coloured

  by_mark : (h : Hand) (q : Option ℕ) (l : NewWords) → State k coherent s here t y at h → Through k coherent s here t y at h.thread q → O (note_write q h) → G h l → G (note_write q h) l
  by_mark h None l st through ok g = g
  by_mark h (Some i) l st through ok g =
      given_marked k coherent s here t y at c0 is_coloured h h2 l g st.ok ok u a.object a.word (rewrites k coherent s here t y at c0 is_coloured h h2 st ok u a.object a.word through.2 mark)
      (word_now k coherent s here t y at c0 is_coloured h st l g u (value.Mut a) (box_of a) through.2 stood refl) refl frames refl
    where
      a : MutRef
      a = through.0

      h2 : Hand
      h2 = note_write (Some i) h

      u : Location
      u = at_slot h.thread.number i

      placed : (x : Hand) → O x → HasPlaces (P x)
      placed x o = places k coherent s here t y at x o

      stood : value_in (sight (P h)).ground u ≡ Some (value.Mut a)
      stood = slot_stands k n s.threads (s.events + 1) h i (value.Mut a) (stands k coherent s here t y at h st.ok) (placed h st.ok) through.1

      mark : Reworded (P h) (P h2) u a.object a.word
      mark = mark_rewords k n s.threads (s.events + 1) h i a (stands k coherent s here t y at h st.ok) through.1 (placed h st.ok) (placed h2 ok) (home_now k coherent s here t y at h st u (value.Mut a) (box_of a) through.2 stood refl)

      frames : SameFrames h2.thread.slots h.thread.slots
      frames = subst (λ o. SameFrames (note_slot h.thread.slots i o) h.thread.slots) (sym through.1) (set_frames h.thread.slots i (value.Mut a) (value.Mut (record a { dirty = true })) through.1 refl)

  -- so it is where the place is ready
  pub mark_given : (h : Hand) (b : ℕ) (q : Option ℕ) (l : NewWords) → Walk k coherent s here t y at h (in_cell b q) → G h l → G (note_write q h) l
  mark_given h b q l walk g = by_mark h q l walk.state walk.through (mark_state k coherent s here t y at h b q walk).ok g
