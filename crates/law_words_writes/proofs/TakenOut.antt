-- An owned value is moved out of a cell: it becomes the thread's gift, and then its newest temporary value.
use Rattle.std.proofs.Common.{◌≡◌, ◌⊎◌, inl, inr, ℕ, false, List, [], ◌∷◌, ◌++◌, length, Some, None, refl, subst}
use Rattle.std.specs.Prelude.{slice_get}
use Rattle.law_words_asked.specs.Below.heap_partition.declared.value.Cell.{Cell}
use Rattle.law_words_asked.specs.Below.heap_partition.declared.value.Owned.{Owned}
use Rattle.law_words_asked.specs.Below.heap_partition.declared.value.Owned.TheVariants as owned
use Rattle.law_words_asked.specs.Below.owner_box.Partition.{stored}
use Rattle.law_words_asked.specs.Below.thread_state.View.{ThreadState}
use Rattle.law_words_asked.specs.Below.thread_state.declared.value.Value.TheVariants as value
use Rattle.law_words_asked.specs.Below.server_model.Servers.{Server, Cluster, server_at}
use Rattle.law_words_asked.specs.Below.server_model.Work.{Hand, Work, thread_in, without_thread}
use Rattle.law_words_asked.specs.Below.coherent_memory.Things.{Thing, thread_things, servers_things}
use Rattle.law_words_asked.specs.Below.coherent_types.ClusterTypes.{IsCoherent}
use Rattle.law_words_asked.specs.Below.law_words_paths.words.Reworded.{HasPlaces}
use Rattle.law_words_asked.specs.Below.law_words_paths.words.Unmoved.{pointing, LeavesWords}
use Rattle.law_words_asked.proofs.Below.law_counts_sums.Bags.{all_standing, body_things}
use Rattle.law_words_asked.proofs.Below.law_counts_sums.Events.{others_of}
use Rattle.law_words_asked.proofs.Below.law_counts_sums.RulesKeep.{sums_kept}
use Rattle.law_words_asked.proofs.Below.law_counts_sums.Values.{pushes_temp}
use Rattle.law_words_asked.proofs.Below.law_words_kept.stays.Alike.{itself}
use Rattle.law_words_asked.proofs.Below.law_words_kept.prepared.Hands.{put, places}
use Rattle.law_words_values.proofs.carried.Hands.{Moved, passed, moved_from, leaves_chain}
use Rattle.law_words_values.proofs.carried.Passing.{slot, temp, nowhere}
use Rattle.law_words_values.proofs.carried.Places.{gift_to_temp}
use Rattle.law_words_asked.proofs.Below.law_results_events.writes.Memory.{Leads}
use Rattle.law_words_asked.proofs.writes.Passing.{State, Fits}
use Rattle.law_words_writes.proofs.Swapped.{given}
use Rattle.law_words_writes.proofs.Storing.{Tip, Reaches, half_ok, emptied_so}

module _ (k : Cluster) (coherent : IsCoherent k) (s : Server) (here : server_at k.servers s.rest.number ≡ Some s) (t : ℕ) (y : ThreadState) (at : thread_in s.threads t ≡ Some y) where
  abbrev n : ℕ
  n = s.rest.number

  abbrev others : List Thing
  others = all_standing n (without_thread s.threads t) ++ servers_things (others_of k.servers n)

  abbrev O : Hand → Type 0
  O = Fits k coherent s here t y at

  abbrev P : Hand → Cluster
  P = put k coherent s here t y at

  abbrev spread : (h : Hand) → O h → HasPlaces (P h)
  spread h g = places k coherent s here t y at h g

  module _ (h : Hand) (st : State k coherent s here t y at h) (free : h.thread.gift ≡ None) (w : ℕ) (c : Cell) (leads : Leads h.work.rest.partition w c) (tip : Tip k coherent s here t y at c.object) where
    abbrev x : ThreadState
    x = h.thread

    abbrev u : Owned
    u = c.value

    abbrev empty : Work
    empty = record h.work { rest = record h.work.rest { partition = stored h.work.rest.partition w owned.Nothing } }

    abbrev h1 : Hand
    h1 = record { work = empty; thread = given x u }

    first : Reaches k coherent s here t y at h h1
    first = emptied_so k coherent s here t y at h st free w c leads tip

    abbrev pub taken_hand : Hand
    taken_hand = record { work = empty; thread = record x { gift = None; temps = x.temps ++ value.Own u ∷ [] } }

    pub taken_ok : O taken_hand
    taken_ok =
        subst (λ g. O (record { work = empty; thread = record x { gift = g; temps = x.temps ++ value.Own u ∷ [] } })) free
        (pushes_temp sums_kept n s.events t others (value.Own u) (record { work = empty; thread = x }) (half_ok k coherent s here t y at h st free w c leads tip))

    moved : Moved k.code n h1 taken_hand
    moved =
        passed (given x u) (record x { gift = None; temps = x.temps ++ value.Own u ∷ [] }) refl (itself (thread_things n false (given x u))) (λ o. refl) (gift_to_temp k.code n (given x u) st.untaken u refl) (λ i q. not_there i q)
        (record { number = refl; named = refl; alike = itself (thread_things n false (record x { gift = None; temps = x.temps ++ value.Own u ∷ [] }) ++ body_things n empty.rest) })
      where
        not_there : (i : ℕ) → (slot i ≡ nowhere) ⊎ (slot i ≡ temp (length x.temps)) → pointing (slice_get x.slots i) ≡ None
        not_there i (inl q) = absurd (cc q)
        not_there i (inr q) = absurd (cc q)

    pub taken_so : LeavesWords (P h) (P taken_hand)
    taken_so =
        leaves_chain first.leaves
        (moved_from k coherent.sound s here t y at h1 taken_hand first.fits.number first.fits.thread (spread h1 first.fits) (spread taken_hand taken_ok) first.rooted (first.leaves.holders st.onward.words.first_at_holder) moved)
