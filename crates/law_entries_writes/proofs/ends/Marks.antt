-- The reference through which the holder's cell is written gets its mark: objects have the words that they had.
use Rattle.std.proofs.Common.{◌≡◌, ℕ, ◌+◌, true, Option, Some, None, refl, sym, subst}
use Rattle.std.specs.Prelude.{slice_get}
use Rattle.law_entries_reads.specs.Below.law_entries_variables.Below.law_words_ends.Below.mut_borrow.declared.mutable.MutRef.{MutRef}
use Rattle.law_entries_reads.specs.Below.law_entries_variables.Below.law_words_ends.Below.thread_state.View.{ThreadState}
use Rattle.law_entries_reads.specs.Below.law_entries_variables.Below.law_words_ends.Below.thread_state.declared.value.Value.TheVariants as value
use Rattle.law_entries_reads.specs.Below.law_entries_variables.Below.law_words_ends.Below.server_model.Servers.{Server, Cluster, server_at}
use Rattle.law_entries_reads.specs.Below.law_entries_variables.Below.law_words_ends.Below.server_model.Work.{Hand, thread_in}
use Rattle.law_entries_reads.specs.Below.law_entries_variables.Below.law_words_ends.Below.server_model.Places.{in_cell, note_slot, note_write}
use Rattle.law_entries_reads.specs.Below.law_entries_variables.Below.law_words_ends.Below.server_model.Prepare.{box_of}
use Rattle.law_entries_writes.specs.Below.law_entries_variables.Below.coloured_heap.Heap.{Coloured}
use Rattle.law_entries_reads.specs.Below.law_entries_variables.Below.law_words_ends.Below.coherent_memory.Things.{Location, at_slot}
use Rattle.law_entries_reads.specs.Below.law_entries_variables.Below.law_words_ends.Below.coherent_memory.Follow.{value_in}
use Rattle.law_entries_reads.specs.Below.law_entries_variables.Below.law_words_ends.Below.coherent_memory.Sight.{sight}
use Rattle.law_entries_reads.specs.Below.law_entries_variables.Below.law_words_ends.Below.coherent_memory.Words.{HasWords}
use Rattle.law_entries_reads.specs.Below.law_entries_variables.Below.law_words_ends.Below.coherent_memory.Colours.{StandsColoured}
use Rattle.law_entries_reads.specs.Below.law_entries_variables.Below.law_words_ends.Below.coherent_types.ClusterTypes.{IsCoherent}
use Rattle.law_entries_reads.specs.Below.law_entries_variables.Below.law_words_ends.Below.law_words_paths.words.Reworded.{HasPlaces, Reworded}
use Rattle.law_entries_reads.proofs.Below.law_entries_variables.Below.law_words_ends.Below.law_words_paths.words.Marks.{mark_rewords}
use Rattle.law_entries_reads.proofs.Below.law_entries_variables.Below.law_words_ends.Below.law_words_paths.words.Tints.{slot_stands}
use Rattle.law_heap_writes.proofs.Below.law_words_writes.Below.law_words_kept.prepared.Hands.{put, places, stands}
use Rattle.law_heap_writes.proofs.Below.law_words_writes.Below.law_words_asked.writes.Onward.{IsWritten}
use Rattle.law_heap_writes.proofs.Below.law_words_writes.Below.law_words_asked.writes.Passing.{State}
use Rattle.law_heap_writes.proofs.Below.law_words_writes.Below.law_words_asked.writes.Hops.{Through, Walk, home_now}
use Rattle.law_heap_writes.proofs.Below.law_words_writes.Marking.{mark_state}
use Rattle.law_entries_writes.proofs.Below.law_entries_reads.asks.Recoloured.{NewWords}
use Rattle.law_entries_writes.proofs.Below.law_entries_reads.asks.Frames.{SameFrames}
use Rattle.law_entries_writes.proofs.Below.law_entries_reads.asks.KeptRest.{set_frames}
use Rattle.law_entries_writes.proofs.Below.law_entries_reads.asks.Agreeing.{Rewords}
use Rattle.law_entries_writes.proofs.walks.Given.{Given, given_marked}
use Rattle.law_entries_writes.proofs.walks.Hops.{rewrites, word_now}

module _ (k : Cluster) (coherent : IsCoherent k) (s : Server) (here : server_at k.servers s.rest.number ≡ Some s) (t : ℕ) (y : ThreadState) (at : thread_in s.threads t ≡ Some y) (c0 : Coloured) (is_coloured : StandsColoured k c0)
    (h : Hand) (b : ℕ) (l : NewWords) (g : Given k coherent s here t y at c0 is_coloured h l) where
  abbrev P : Hand → Cluster
  P = put k coherent s here t y at

  abbrev before : HasWords (sight k)
  before = coherent.sound.words.have_words

  module _ (i : ℕ) (walk : Walk k coherent s here t y at h (in_cell b (Some i))) (a : MutRef) (slot : slice_get h.thread.slots i ≡ Some (value.Mut a)) (through : IsWritten k (at_slot h.thread.number i) a.object) where
    abbrev h2 : Hand
    h2 = note_write (Some i) h

    abbrev u : Location
    u = at_slot h.thread.number i

    st : State k coherent s here t y at h
    st = walk.state

    st2 : State k coherent s here t y at h2
    st2 = mark_state k coherent s here t y at h b (Some i) walk

    spread : HasPlaces (P h)
    spread = places k coherent s here t y at h st.ok

    stood : value_in (sight (P h)).ground u ≡ Some (value.Mut a)
    stood = slot_stands k s.rest.number s.threads (s.events + 1) h i (value.Mut a) (stands k coherent s here t y at h st.ok) spread slot

    mark : Reworded (P h) (P h2) u a.object a.word
    mark = mark_rewords k s.rest.number s.threads (s.events + 1) h i a (stands k coherent s here t y at h st.ok) slot spread (places k coherent s here t y at h2 st2.ok) (home_now k coherent s here t y at h st u (value.Mut a) (box_of a) through stood refl)

    frames : SameFrames h2.thread.slots h.thread.slots
    frames = subst (λ o. SameFrames (note_slot h.thread.slots i o) h.thread.slots) (sym slot) (set_frames h.thread.slots i (value.Mut a) (value.Mut (record a { dirty = true })) slot refl)

    slot_marked : Rewords k (P h2) l before
    slot_marked =
        (given_marked k coherent s here t y at c0 is_coloured h h2 l g st.ok st2.ok u a.object a.word (rewrites k coherent s here t y at c0 is_coloured h h2 st st2.ok u a.object a.word through mark)
        (word_now k coherent s here t y at c0 is_coloured h st l g u (value.Mut a) (box_of a) through stood refl) refl frames refl).rewords

  -- whichever reference led there, or none
  pub marked_words : (q : Option ℕ) → Walk k coherent s here t y at h (in_cell b q) → Rewords k (P (note_write q h)) l before
  marked_words None walk = g.rewords
  marked_words (Some i) walk = let q : Through k coherent s here t y at h.thread (Some i) = walk.through in slot_marked i walk q.0 q.1 q.2
