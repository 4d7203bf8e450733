-- What a cell has becomes its thread's gift: cells of other objects and changed references stay.
use Rattle.std.proofs.Common.{◌≡◌, ℕ, ◌+◌, List, ◌++◌, Some, None, refl}
use Rattle.law_counts_waiting.specs.Below.fr_base.declared.name.ObjNo.{ObjNo}
use Rattle.law_counts_waiting.specs.Below.global_addr.Words.{address_of}
use Rattle.law_counts_waiting.specs.Below.heap_partition.declared.value.Cell.{Cell}
use Rattle.law_counts_waiting.specs.Below.heap_partition.declared.value.Owned.TheVariants as owned
use Rattle.law_counts_waiting.specs.Below.owner_box.Partition.{stored}
use Rattle.law_counts_waiting.specs.Below.thread_state.View.{ThreadState}
use Rattle.law_counts_waiting.specs.Below.server_model.Servers.{Server, Cluster, server_at}
use Rattle.law_counts_waiting.specs.Below.server_model.Work.{Hand, thread_in, without_thread}
use Rattle.law_counts_waiting.specs.Below.coherent_memory.Things.{in_cell, Thing, servers_things}
use Rattle.law_counts_waiting.specs.Below.coherent_types.ClusterTypes.{IsCoherent}
use Rattle.law_words_ends.specs.Below.law_words_paths.words.Reworded.{HasPlaces}
use Rattle.law_counts_waiting.proofs.Below.law_counts_sums.Bags.{all_standing}
use Rattle.law_counts_waiting.proofs.Below.law_counts_sums.Events.{others_of}
use Rattle.law_words_ends.proofs.Below.law_words_kept.prepared.Hands.{put, places, stands}
use Rattle.law_words_ends.specs.Below.law_words_values.carried.Carried.{Carried}
use Rattle.law_words_ends.proofs.Below.law_words_values.carried.Hands.{RootedIn, rooted}
use Rattle.law_words_ends.proofs.Below.law_words_values.carried.Passing.{Quiet}
use Rattle.law_words_ends.proofs.Below.law_results_events.writes.Memory.{Leads}
use Rattle.law_words_ends.proofs.Below.law_words_asked.writes.Passing.{State, Fits}
use Rattle.law_words_ends.proofs.Below.law_words_writes.Swapped.{Swapped, value_before, elsewhere, cell_given}
use Rattle.law_words_ends.proofs.Below.law_words_writes.Unvisited.{goes_quiet}
use Rattle.law_words_ends.proofs.Below.law_words_writes.EndTypes.{alone_on, rooted_on, apart_on}
use Rattle.law_words_ends.proofs.Below.law_words_writes.Emptying.{emptied_hand, swapped}
use Rattle.law_words_ends.proofs.Below.law_words_writes.Storing.{Tip, emptied_so}
use Rattle.law_copies_writes.proofs.writes.Others.{KeepsOthers, others_carried}

module _ (k : Cluster) (coherent : IsCoherent k) (s : Server) (here : server_at k.servers s.rest.number ≡ Some s) (t : ℕ) (y : ThreadState) (at : thread_in s.threads t ≡ Some y) where
  abbrev n : ℕ
  n = s.rest.number

  abbrev e : ℕ
  e = s.events + 1

  abbrev others : List Thing
  others = all_standing n (without_thread s.threads t) ++ servers_things (others_of k.servers n)

  abbrev O : Hand → Type 0
  O = Fits k coherent s here t y at

  abbrev P : Hand → Cluster
  P = put k coherent s here t y at

  abbrev St : Hand → Type 0
  St = State k coherent s here t y at

  module _ (h : Hand) (st : St h) (free : h.thread.gift ≡ None) (w : ℕ) (c : Cell) (leads : Leads h.work.rest.partition w c) (tip : Tip k coherent s here t y at c.object) where
    abbrev without : Hand
    without = emptied_hand k n s.threads e h (stands k coherent s here t y at h st.ok) free st.untaken w c leads.there

    abbrev half : Hand
    half = record h { work = record h.work { rest = record h.work.rest { partition = stored h.work.rest.partition w owned.Nothing } } }

    abbrev A : Cluster
    A = P h

    abbrev B : Cluster
    B = P without

    without_ok : O without
    without_ok = (emptied_so k coherent s here t y at h st free w c leads tip).fits

    abbrev before : HasPlaces A
    before = places k coherent s here t y at h st.ok

    abbrev after : HasPlaces B
    after = places k coherent s here t y at without without_ok

    its : Swapped A B n (address_of w) c h.thread
    its = swapped k n s.threads e h (stands k coherent s here t y at h st.ok) free st.untaken w c leads.there

    rooted_before : RootedIn A
    rooted_before = rooted_on k A st.onward.outlines refl (rooted k coherent.sound)

    quiet : Quiet A B (Some (in_cell c.object)) None
    quiet =
        goes_quiet A B c.object (λ l f. elsewhere A B n (address_of w) c h.thread its before after l f) st.onward.words.first_at_holder rooted_before c.value (value_before A B n (address_of w) c h.thread its before after)
        (alone_on k A st.onward.outlines (in_cell c.object) tip.alone) (apart_on k A st.onward.outlines (in_cell c.object) tip.apart)

    carried : Carried A B (Some (in_cell c.object)) None
    carried = cell_given A B n (address_of w) c h.thread its before after quiet

    -- so cells of other objects and changed references stay
    pub emptied_others : KeepsOthers c.object A B
    emptied_others = others_carried c.object A B (Some (in_cell c.object)) None before after st.onward.words.first_at_holder (λ o away. elsewhere A B n (address_of w) c h.thread its before after (in_cell o) (λ f. away (object_is f))) carried
      where
        object_is : {a b : ObjNo} → in_cell a ≡ in_cell b → a ≡ b
        object_is f = cc
