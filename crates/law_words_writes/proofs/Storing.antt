-- A value is stored in a cell, or taken out of it: first what the cell has is its thread's gift, and the words stay.
use Rattle.std.proofs.Common.{◌≡◌, ℕ, ◌+◌, ◌≤◌, if◌then◌else◌, List, ◌∷◌, ◌++◌, Some, None, refl, ap, ◌∙◌}
use Rattle.law_words_asked.specs.Below.fr_base.declared.name.ObjNo.{ObjNo}
use Rattle.law_words_asked.specs.Below.global_addr.Words.{address_of}
use Rattle.law_words_asked.specs.Below.heap_partition.declared.value.Cell.{Cell}
use Rattle.law_words_asked.specs.Below.heap_partition.declared.value.Owned.TheVariants as owned
use Rattle.law_words_asked.specs.Below.owner_box.Partition.{stored}
use Rattle.law_words_asked.specs.Below.thread_state.View.{ThreadState}
use Rattle.law_words_asked.specs.Below.server_model.Servers.{Server, Cluster, server_at}
use Rattle.law_words_asked.specs.Below.server_model.Work.{Hand, thread_in, without_thread}
use Rattle.law_words_asked.specs.Below.coherent_memory.Names.{Among}
use Rattle.law_words_asked.specs.Below.coherent_memory.Things.{in_cell, in_hand, holds, Thing, servers_things}
use Rattle.law_words_asked.specs.Below.coherent_memory.Follow.{locate}
use Rattle.law_words_asked.specs.Below.coherent_memory.Sight.{sight}
use Rattle.law_words_asked.specs.Below.coherent_types.ClusterTypes.{IsCoherent}
use Rattle.law_words_asked.specs.Below.law_words_paths.words.Reworded.{HasPlaces}
use Rattle.law_words_asked.specs.Below.law_words_paths.words.Unmoved.{Taking, takings, LeavesWords}
use Rattle.law_words_asked.proofs.Below.law_counts_sums.Bags.{all_standing, body_things}
use Rattle.law_words_asked.proofs.Below.law_counts_sums.Events.{others_of}
use Rattle.law_words_asked.proofs.Below.law_words_kept.prepared.Hands.{put, places, stands}
use Rattle.law_words_values.specs.carried.Carried.{Carried}
use Rattle.law_words_values.proofs.carried.Carrying.{carried_stays}
use Rattle.law_words_values.proofs.carried.Hands.{RootedIn, rooted}
use Rattle.law_words_values.proofs.carried.Owned.{OwnsAlone}
use Rattle.law_words_values.proofs.carried.Passing.{Quiet}
use Rattle.law_words_asked.proofs.Below.law_results_events.writes.Memory.{Leads, looks, leads_on}
use Rattle.law_words_asked.proofs.writes.Passing.{State, Fits}
use Rattle.law_words_writes.proofs.Swapped.{Swapped, value_before, elsewhere, cell_given}
use Rattle.law_words_writes.proofs.Unvisited.{goes_quiet}
use Rattle.law_words_writes.proofs.EndTypes.{alone_on, rooted_on, apart_on}
use Rattle.law_words_writes.proofs.Emptying.{emptied_hand, swapped, gift_comes, cell_trades, nothing_comes}

module _ (k : Cluster) (coherent : IsCoherent k) (s : Server) (here : server_at k.servers s.rest.number ≡ Some s) (t : ℕ) (y : ThreadState) (at : thread_in s.threads t ≡ Some y) where
  abbrev n : ℕ
  n = s.rest.number

  abbrev e : ℕ
  e = s.events + 1

  abbrev others : List Thing
  others = all_standing n (without_thread s.threads t) ++ servers_things (others_of k.servers n)

  abbrev O : Hand → Type 0
  O = Fits k coherent s here t y at

  abbrev P : Hand → Cluster
  P = put k coherent s here t y at

  abbrev St : Hand → Type 0
  St = State k coherent s here t y at

  -- what is known of the end of the place when the event began
  pub record Tip (o : ObjNo) : Type 0 where
    pub alone : OwnsAlone k (in_cell o)
    pub apart : (a : Taking) (f : ℕ) → Among a (takings k.code (sight k).ground.threads) → f ≤ a.place.depth → locate (sight k).ground a.thread a.place.slot f ≡ Some (in_cell o) → ⊥

  -- the words of one hand are those of another one
  pub record Reaches (h h2 : Hand) : Type 0 where
    pub leaves : LeavesWords (P h) (P h2)
    pub fits : O h2
    pub rooted : RootedIn (P h2)

  module _ (h : Hand) (st : St h) (free : h.thread.gift ≡ None) (w : ℕ) (c : Cell) (leads : Leads h.work.rest.partition w c) (tip : Tip c.object) where
    abbrev pub without : Hand
    without = emptied_hand k n s.threads e h (stands k coherent s here t y at h st.ok) free st.untaken w c leads.there

    abbrev half : Hand
    half = record h { work = record h.work { rest = record h.work.rest { partition = stored h.work.rest.partition w owned.Nothing } } }

    abbrev A : Cluster
    A = P h

    abbrev B : Cluster
    B = P without

    pub half_ok : Rattle.law_words_asked.proofs.Below.law_counts_sums.Bags.HandOk Rattle.law_words_asked.specs.Below.law_counts_sums.Sums.Sums n s.events t (holds in_hand c.value ∷ others) half
    half_ok =
        cell_trades n s.events t others w c owned.Nothing h half (looks h.work.rest.partition w c leads) (ap (λ b. if b then Some half else None) (leads_on h.work.rest.partition w c leads)) (nothing_comes n s.events t others h st.ok)

    pub without_ok : O without
    without_ok = gift_comes n s.events t others c.value half free half_ok

    abbrev before : HasPlaces A
    before = places k coherent s here t y at h st.ok

    abbrev after : HasPlaces B
    after = places k coherent s here t y at without without_ok

    its : Swapped A B n (address_of w) c h.thread
    its = swapped k n s.threads e h (stands k coherent s here t y at h st.ok) free st.untaken w c leads.there

    rooted_before : RootedIn A
    rooted_before = rooted_on k A st.onward.outlines refl (rooted k coherent.sound)

    quiet : Quiet A B (Some (in_cell c.object)) None
    quiet =
        goes_quiet A B c.object (λ l f. elsewhere A B n (address_of w) c h.thread its before after l f) st.onward.words.first_at_holder rooted_before c.value (value_before A B n (address_of w) c h.thread its before after)
        (alone_on k A st.onward.outlines (in_cell c.object) tip.alone) (apart_on k A st.onward.outlines (in_cell c.object) tip.apart)

    carried : Carried A B (Some (in_cell c.object)) None
    carried = cell_given A B n (address_of w) c h.thread its before after quiet

    -- the cell has nothing, and its value is the gift
    pub emptied_so : Reaches h without
    emptied_so = record {
      leaves = carried_stays A B (Some (in_cell c.object)) None before after st.onward.words.first_at_holder carried;
      fits = without_ok;
      rooted = λ v f. (let a = carried.takes v f in let r = rooted_before v a in (r.0, (carried.taken v a).0 ∙ r.1));
    }
