-- What a cell has is moved out of it: cells of other objects and changed references stay.
use Rattle.std.proofs.Common.{◌≡◌, ◌⊎◌, inl, inr, ℕ, false, List, [], ◌∷◌, ◌++◌, length, Some, None, refl}
use Rattle.std.specs.Prelude.{slice_get}
use Rattle.law_counts_waiting.specs.Below.heap_partition.declared.value.Cell.{Cell}
use Rattle.law_counts_waiting.specs.Below.heap_partition.declared.value.Owned.{Owned}
use Rattle.law_counts_waiting.specs.Below.heap_partition.declared.value.Owned.TheVariants as owned
use Rattle.law_counts_waiting.specs.Below.owner_box.Partition.{stored}
use Rattle.law_counts_waiting.specs.Below.thread_state.View.{ThreadState}
use Rattle.law_counts_waiting.specs.Below.thread_state.declared.value.Value.TheVariants as value
use Rattle.law_counts_waiting.specs.Below.server_model.Servers.{Server, Cluster, server_at}
use Rattle.law_counts_waiting.specs.Below.server_model.Work.{Hand, Work, thread_in, without_thread}
use Rattle.law_counts_waiting.specs.Below.coherent_memory.Things.{Thing, thread_things, servers_things}
use Rattle.law_counts_waiting.specs.Below.coherent_types.ClusterTypes.{IsCoherent}
use Rattle.law_words_ends.specs.Below.law_words_paths.words.Reworded.{HasPlaces}
use Rattle.law_words_ends.specs.Below.law_words_paths.words.Unmoved.{pointing}
use Rattle.law_counts_waiting.proofs.Below.law_counts_sums.Bags.{all_standing, body_things}
use Rattle.law_counts_waiting.proofs.Below.law_counts_sums.Events.{others_of}
use Rattle.law_words_ends.proofs.Below.law_words_kept.stays.Alike.{itself}
use Rattle.law_words_ends.proofs.Below.law_words_kept.prepared.Hands.{put, places}
use Rattle.law_words_ends.proofs.Below.law_words_values.carried.Hands.{Moved, passed}
use Rattle.law_words_ends.proofs.Below.law_words_values.carried.Passing.{slot, temp, nowhere}
use Rattle.law_words_ends.proofs.Below.law_words_values.carried.Places.{gift_to_temp}
use Rattle.law_words_ends.proofs.Below.law_results_events.writes.Memory.{Leads}
use Rattle.law_words_ends.proofs.Below.law_words_asked.writes.Passing.{State, Fits}
use Rattle.law_words_ends.proofs.Below.law_words_writes.Swapped.{given}
use Rattle.law_words_ends.proofs.Below.law_words_writes.Storing.{Tip, Reaches, emptied_so}
use Rattle.law_words_ends.proofs.Below.law_words_values.carried.Hands.{moved_over}
use Rattle.law_words_ends.proofs.Below.law_words_writes.TakenOut.{taken_hand as its_taken_hand, taken_ok as its_taken_ok}
use Rattle.law_copies_kept.proofs.copies.Clean.{clean_goes}
use Rattle.law_copies_writes.proofs.writes.Others.{KeepsOthers, others_chain, others_clean}
use Rattle.law_copies_writes.proofs.writes.Storing.{emptied_others}

module _ (k : Cluster) (coherent : IsCoherent k) (s : Server) (here : server_at k.servers s.rest.number ≡ Some s) (t : ℕ) (y : ThreadState) (at : thread_in s.threads t ≡ Some y) where
  abbrev n : ℕ
  n = s.rest.number

  abbrev others : List Thing
  others = all_standing n (without_thread s.threads t) ++ servers_things (others_of k.servers n)

  abbrev O : Hand → Type 0
  O = Fits k coherent s here t y at

  abbrev P : Hand → Cluster
  P = put k coherent s here t y at

  abbrev spread : (h : Hand) → O h → HasPlaces (P h)
  spread h g = places k coherent s here t y at h g

  module _ (h : Hand) (st : State k coherent s here t y at h) (free : h.thread.gift ≡ None) (w : ℕ) (c : Cell) (leads : Leads h.work.rest.partition w c) (tip : Tip k coherent s here t y at c.object) where
    abbrev x : ThreadState
    x = h.thread

    abbrev u : Owned
    u = c.value

    abbrev empty : Work
    empty = record h.work { rest = record h.work.rest { partition = stored h.work.rest.partition w owned.Nothing } }

    abbrev h1 : Hand
    h1 = record { work = empty; thread = given x u }

    first : Reaches k coherent s here t y at h h1
    first = emptied_so k coherent s here t y at h st free w c leads tip

    abbrev taken_hand : Hand
    taken_hand = its_taken_hand k coherent s here t y at h st free w c leads tip

    taken_fits : O taken_hand
    taken_fits = its_taken_ok k coherent s here t y at h st free w c leads tip

    moved : Moved k.code n h1 taken_hand
    moved =
        passed (given x u) (record x { gift = None; temps = x.temps ++ value.Own u ∷ [] }) refl (itself (thread_things n false (given x u))) (λ o. refl) (gift_to_temp k.code n (given x u) st.untaken u refl) (λ i q. not_there i q)
        (record { number = refl; named = refl; alike = itself (thread_things n false (record x { gift = None; temps = x.temps ++ value.Own u ∷ [] }) ++ body_things n empty.rest) })
      where
        not_there : (i : ℕ) → (slot i ≡ nowhere) ⊎ (slot i ≡ temp (length x.temps)) → pointing (slice_get x.slots i) ≡ None
        not_there i (inl q) = absurd (cc q)
        not_there i (inr q) = absurd (cc q)

    -- so cells of other objects and changed references stay
    pub taken_others : KeepsOthers c.object (P h) (P taken_hand)
    taken_others =
        others_chain c.object (P h) (P h1) (P taken_hand) (emptied_others k coherent s here t y at h st free w c leads tip)
        (others_clean c.object (P h1) (P taken_hand) (moved_over k coherent.sound s here t y at clean_goes h1 taken_hand first.fits.number first.fits.thread (spread h1 first.fits) (spread taken_hand taken_fits) first.rooted (first.leaves.holders st.onward.words.first_at_holder) moved))
