-- The reference that led straight to a cell is marked: the object of the cell is covered then.
use Rattle.std.proofs.Common.{◌≡◌, ℕ, ◌+◌, true, Option, Some, None, refl, sym, subst}
use Rattle.std.specs.Prelude.{slice_get}
use Rattle.law_counts_waiting.specs.Below.fr_base.declared.name.ObjNo.{ObjNo}
use Rattle.law_counts_waiting.specs.Below.mut_borrow.declared.mutable.MutRef.{MutRef}
use Rattle.law_counts_waiting.specs.Below.thread_state.View.{ThreadState}
use Rattle.law_counts_waiting.specs.Below.thread_state.declared.value.Value.TheVariants as value
use Rattle.law_counts_waiting.specs.Below.server_model.Servers.{Server, Cluster, server_at}
use Rattle.law_counts_waiting.specs.Below.server_model.Work.{Hand, thread_in}
use Rattle.law_counts_waiting.specs.Below.server_model.Places.{in_cell, note_slot, note_write}
use Rattle.law_counts_waiting.specs.Below.server_model.Prepare.{box_of}
use Rattle.law_counts_waiting.specs.Below.coherent_memory.Things.{Location, at_slot, in_cell as in_object}
use Rattle.law_counts_waiting.specs.Below.coherent_memory.Follow.{value_in}
use Rattle.law_counts_waiting.specs.Below.coherent_memory.Sight.{sight}
use Rattle.law_counts_waiting.specs.Below.coherent_memory.Words.{IsStale}
use Rattle.law_counts_waiting.specs.Below.coherent_types.ClusterTypes.{IsCoherent}
use Rattle.law_words_ends.specs.Below.law_words_paths.words.Reworded.{Reworded}
use Rattle.law_words_ends.specs.Below.law_words_paths.words.WordsAfter.{Rewrites}
use Rattle.law_words_ends.proofs.Below.law_words_paths.words.Marks.{mark_rewords}
use Rattle.law_words_ends.proofs.Below.law_words_paths.words.Slots.{set_same}
use Rattle.law_words_ends.proofs.Below.law_words_paths.words.Tints.{slot_stands}
use Rattle.law_words_ends.proofs.Below.law_words_kept.prepared.Hands.{put, places, stands}
use Rattle.law_words_ends.proofs.Below.law_words_asked.writes.Onward.{IsWritten}
use Rattle.law_words_ends.proofs.Below.law_words_asked.writes.Passing.{State}
use Rattle.law_words_ends.proofs.Below.law_words_asked.writes.Hops.{Walk, home_now}
use Rattle.law_words_ends.proofs.Below.law_words_writes.Marking.{mark_state}
use Rattle.law_copies_kept.proofs.hidden.Reworded.{IsCovered, but_any, settles_mark}
use Rattle.law_copies_writes.proofs.writes.Hops.{Now, CoveredAt, Fair, HadCell, rewrites}

no_cell : {t i : ℕ} {o : ObjNo} → at_slot t i ≡ in_object o → ⊥
no_cell e = absurd (cc e)

module _ (k : Cluster) (coherent : IsCoherent k) (s : Server) (here : server_at k.servers s.rest.number ≡ Some s) (t : ℕ) (y : ThreadState) (at : thread_in s.threads t ≡ Some y) where
  abbrev P : Hand → Cluster
  P = put k coherent s here t y at

  -- each object is what it was, or covered, and this one is covered
  pub record CoveredNow (h : Hand) (o : ObjNo) : Type 0 where
    pub now : Now k coherent s here t y at h
    pub covered : IsCovered k (P h) coherent.sound.words.have_words now.after o

  module _ (h : Hand) (u i : ℕ) (a : MutRef) (walk : Walk k coherent s here t y at h (in_cell u (Some i))) (now : Now k coherent s here t y at h) (slot : slice_get h.thread.slots i ≡ Some (value.Mut a)) (same : a.word ≡ coherent.sound.words.have_words.word a.object)
      (through : IsWritten k (at_slot h.thread.number i) a.object) (had : HadCell k coherent s here t y at a.object) where
    abbrev e : ℕ
    e = s.events + 1

    abbrev h3 : Hand
    h3 = note_write (Some i) h

    abbrev l : Location
    l = at_slot h.thread.number i

    st : State k coherent s here t y at h
    st = walk.state

    st3 : State k coherent s here t y at h3
    st3 = mark_state k coherent s here t y at h u (Some i) walk

    stood : value_in (sight (P h)).ground l ≡ Some (value.Mut a)
    stood = slot_stands k s.rest.number s.threads e h i (value.Mut a) (stands k coherent s here t y at h st.ok) (places k coherent s here t y at h st.ok) slot

    mark : Reworded (P h) (P h3) l a.object a.word
    mark = mark_rewords k s.rest.number s.threads e h i a (stands k coherent s here t y at h st.ok) slot (places k coherent s here t y at h st.ok) (places k coherent s here t y at h3 st3.ok) (home_now k coherent s here t y at h st l (value.Mut a) (box_of a) through stood refl)

    marked_slot : slice_get h3.thread.slots i ≡ Some (value.Mut (record a { dirty = true }))
    marked_slot = subst (λ o. slice_get (note_slot h.thread.slots i o) i ≡ Some (value.Mut (record a { dirty = true }))) (sym slot) (set_same h.thread.slots i (value.Mut a) (value.Mut (record a { dirty = true })) slot)

    there : value_in (sight (P h3)).ground l ≡ Some (value.Mut (record a { dirty = true }))
    there = slot_stands k s.rest.number s.threads e h3 i (value.Mut (record a { dirty = true })) (stands k coherent s here t y at h3 st3.ok) (places k coherent s here t y at h3 st3.ok) marked_slot

    fresh : IsStale (sight (P h3)) (Some l) → ⊥
    fresh = st3.onward.fresh l a.object through.sole through.fresh

    its : Rewrites (P h) (P h3) l a.object a.word
    its = rewrites k coherent s here t y at h h3 st st3.ok l a.object a.word through mark

    pub marked_now : CoveredNow h3 a.object
    marked_now =
        let all = settles_mark k (P h) (P h3) coherent.sound.words.have_words l a.object a.word its (λ o. ⊥) (but_any k (P h) coherent.sound.words.have_words (λ o. ⊥) now) (λ o f out. absurd (no_cell f)) (record a { dirty = true }) there fresh refl refl same had.cell had.object had.among had.unasked (λ o. ⊥)
        (λ o away out f. f) in
        let q = all.turns in
        record { now = record { after = (q.settled).after; each = λ o. (q.settled).each o (λ f. f) }; covered = record { covers = all.covers; unasked = had.unasked } }

  -- by the slot of a reference that led there, or where none did
  pub noted_covered : (h : Hand) (u : ℕ) (q : Option ℕ) (l : Location) (o : ObjNo) → l ≡ in_object o → Walk k coherent s here t y at h (in_cell u q) → Fair k coherent s here t y at h (in_cell u q) l → HadCell k coherent s here t y at o → CoveredNow (note_write q h) o
  noted_covered h u q l o is walk fair had = by q walk fair.covered
    where
      by : (q : Option ℕ) → Walk k coherent s here t y at h (in_cell u q) → CoveredAt k coherent s here t y at h (fair.now).after (in_cell u q) l → CoveredNow (note_write q h) o
      by None walk cover = record { now = fair.now; covered = record { covers = cover o is; unasked = had.unasked } }
      by (Some i) walk cover =
          let object : (cover.0).object ≡ o = cover.4 o is in
          subst (λ p. CoveredNow (note_write (Some i) h) p) object (marked_now h u i cover.0 walk fair.now cover.1 cover.2 cover.3 (subst (λ p. HadCell k coherent s here t y at p) (sym object) had))
