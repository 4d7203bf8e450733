-- What lies at the event's server when it begins, in the coloured heap: the loads on the way of a write are reached.
use Rattle.std.proofs.Common.{◌≡◌, ℕ, zero, suc, Bool, true, false, if◌then◌else◌, List, [], ◌∷◌, Option, Some, None, option_map, refl, sym, ap, subst, ◌∙◌, arith}
use Rattle.law_entries_reads.specs.Below.law_entries_variables.Below.law_words_ends.Below.fr_base.declared.label.Label.{Label}
use Rattle.law_entries_reads.specs.Below.law_entries_variables.Below.law_words_ends.Below.fr_base.declared.name.ObjNo.{ObjNo}
use Rattle.law_entries_reads.specs.Below.law_entries_variables.Below.law_words_ends.Below.fr_base.declared.label.Plain.{Plain}
use Rattle.law_entries_reads.specs.Below.law_entries_variables.Below.law_words_ends.Below.global_addr.Words.{address_of}
use Rattle.law_entries_reads.specs.Below.law_entries_variables.Below.law_words_ends.Below.heap_partition.Plain.{plain_of}
use Rattle.law_entries_reads.specs.Below.law_entries_variables.Below.law_words_ends.Below.heap_partition.declared.value.Cell.{Cell}
use Rattle.law_entries_reads.specs.Below.law_entries_variables.Below.law_words_ends.Below.thread_state.View.{ThreadState}
use Rattle.law_entries_reads.specs.Below.law_entries_variables.Below.law_words_ends.Below.server_model.Servers.{Server, Cluster, server_at}
use Rattle.law_entries_reads.specs.Below.law_entries_variables.Below.law_words_ends.Below.server_model.Places.{load_of}
use Rattle.law_entries_writes.specs.Below.law_entries_variables.Below.coloured_heap.Heap.{Lies, Living}
use Rattle.law_entries_reads.specs.Below.law_entries_variables.Below.law_words_ends.Below.coherent_memory.Names.{tot, some, same_object}
use Rattle.law_entries_reads.specs.Below.law_entries_variables.Below.law_words_ends.Below.coherent_memory.Things.{Location, at_slot, at_temp, in_cell, lies, things_of}
use Rattle.law_entries_reads.specs.Below.law_entries_variables.Below.law_words_ends.Below.coherent_memory.Follow.{Ground, cell_of, locate}
use Rattle.law_entries_reads.specs.Below.law_entries_variables.Below.law_words_ends.Below.coherent_memory.Sight.{sight, word}
use Rattle.law_entries_reads.specs.Below.law_entries_variables.Below.law_words_ends.Below.coherent_memory.OneHeap.{first_shown}
use Rattle.law_entries_reads.specs.Below.law_entries_variables.Below.law_words_ends.Below.coherent_memory.Coherent.{IsSound}
use Rattle.law_entries_reads.proofs.Below.law_entries_variables.Below.law_words_ends.Below.coherent_memory.Sums.{server_parts}
use Rattle.law_entries_reads.proofs.Below.law_entries_variables.Below.law_words_ends.Below.coherent_memory.Words.{itself}
use Rattle.law_entries_reads.proofs.Below.law_entries_variables.Below.law_words_ends.Below.law_counts_sums.Values.{stores}
use Rattle.law_entries_writes.proofs.Below.law_entries_variables.Below.law_heap_still.events.Told.{told}
use Rattle.law_entries_writes.proofs.Below.law_entries_variables.deliveries.Answers.{answers_of}
use Rattle.law_entries_writes.proofs.Below.law_entries_variables.deliveries.Shown.{if_some, placed_in, placings, same_placed, dropped_by, as_living, living_is}
use Rattle.law_entries_writes.proofs.Below.law_entries_variables.deliveries.Live.{placed_cells}
use Rattle.law_entries_writes.proofs.Below.law_entries_variables.deliveries.Changed.{AreThere, at_server}
use Rattle.law_entries_writes.proofs.Below.law_entries_reads.served.Lying.{found_there}
use Rattle.law_heap_writes.proofs.Below.law_heap_steps.turns.ReadWalk.{loads_of, loads_behind, passed_loads}
use Rattle.law_heap_writes.proofs.Below.law_results_events.writes.Memory.{Leads, looks}
use Rattle.law_heap_writes.proofs.Below.law_results_events.writes.Route.{Route}
use Rattle.law_entries_writes.proofs.Below.law_entries_reads.asks.Recoloured.{NewWords, reworded_by, recoloured}
use Rattle.law_entries_writes.proofs.stores.Storing.{leaving, dropping, Lying, AllLoads, loads_append}
use Rattle.law_entries_writes.proofs.stores.Lays.{LaysAt, LaysTo}

module _ (k : Cluster) (sound : IsSound k) (number : ℕ) (s : Server) (here : server_at k.servers number ≡ Some s) where
  abbrev n : ℕ
  n = s.rest.number

  -- the cell to which a word leads is there
  pub cell_there : (u : ℕ) (c : Cell) → Leads s.rest.partition u c → AreThere k (lies n (address_of u) c ∷ [])
  cell_there u c leads = at_server k number s here (lies n (address_of u) c ∷ []) (λ f. let t = stores n s.rest.partition u c c.value (looks s.rest.partition u c leads) in omega (arith, server_parts f s, t.before f))

  -- so its object lies here
  pub placed_there : (u : ℕ) (c : Cell) → Leads s.rest.partition u c → first_shown (placed_in c.object) (things_of k) ≡ Some (plain_of c.value, Lies n)
  placed_there u c leads =
      found_there same_placed placings (placed_in c.object) (plain_of c.value, Lies n) (things_of k) (omega (arith, placed_cells c.object k, sound.one_home.home_of_each c.object)) (λ h.
      let shows : told h (placed_in c.object (lies n (address_of u) c)) ≡ h (plain_of c.value, Lies n) = ap (λ b. told h (if_some b (plain_of c.value, Lies n))) (itself c.object c.object refl) in
      let l = cell_there u c leads (λ x. told h (placed_in c.object x)) in
      omega (arith, shows, l))

  -- whatever words objects got, and whoever was given up
  module _ (l : NewWords) (d : Option ObjNo) where
    pub lying_there : (o : ObjNo) (v : Plain) → first_shown (placed_in o) (things_of k) ≡ Some (v, Lies n) → Lying (dropping d (recoloured l (answers_of (sight k)))) n o v
    lying_there o v e = record {
      living = leaving d it;
      there = ap (λ x. option_map (leaving d) (option_map (reworded_by l) x)) (living_is (sight k) o ∙ ap (option_map (as_living o (word (sight k) o) (some (tot (dropped_by o) (things_of k))))) e);
      here = (still d).0;
      value = (still d).1;
    }
      where
        it : Living
        it = reworded_by l (as_living o (word (sight k) o) (some (tot (dropped_by o) (things_of k))) (v, Lies n))

        still : (d : Option ObjNo) → ((leaving d it).place ≡ Lies n) × ((leaving d it).value ≡ v)
        still None = (refl, refl)
        still (Some p) = by (same_object o p)
          where
            by : (b : Bool) → ((if b then record it { is_condemned = true } else it).place ≡ Lies n) × ((if b then record it { is_condemned = true } else it).value ≡ v)
            by true = (refl, refl)
            by false = (refl, refl)

    -- the loads on the way
    module _ (y : ThreadState) (slot depth : ℕ) (route : Route s.rest y (cell_of (sight k).ground.cells) (locate (sight k).ground y.number slot) depth) where
      abbrev g : Ground
      g = (sight k).ground

      abbrev A : List Label → Type 0
      A = AllLoads (dropping d (recoloured l (answers_of (sight k)))) n

      loads_at : (m : Location) → LaysAt g s.rest y slot depth route m → A (loads_of g m)
      loads_at (in_cell o) (u, c, has, leads) = subst (λ x. A (load_of x)) (sym has) (lying_there c.object (plain_of c.value) (placed_there u c leads), tt)
      loads_at (at_slot u i) q = tt
      loads_at (at_temp u i) q = tt

      loads_behind_at : (m : Option Location) → ((j : Location) → m ≡ Some j → LaysAt g s.rest y slot depth route j) → A (loads_behind g m)
      loads_behind_at None q = tt
      loads_behind_at (Some m) q = loads_at m (q m refl)

      pub all_loads : (j : ℕ) → LaysTo g s.rest y slot depth route j → A (passed_loads g y.number slot j)
      all_loads zero q = tt
      all_loads (suc j) q =
          loads_append (dropping d (recoloured l (answers_of (sight k)))) n (passed_loads g y.number slot j) (loads_behind g (locate g y.number slot j))
          (all_loads j (λ i le. q i (omega (arith, le)))) (loads_behind_at (locate g y.number slot j) (λ m e. q j (omega arith) m e))
