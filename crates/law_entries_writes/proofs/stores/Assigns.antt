-- An assignment through stars: what stood at the end of its place is dropped, and a value comes there.
use Rattle.std.proofs.Common.{◌≡◌, ℕ, suc, ◌+◌, nat_lt, length, arith, Bool, true, false, if◌then◌else◌, List, [], ◌∷◌, ◌++◌, Option, Some, None, option_map, refl, sym, ap, ap₂, subst, ◌∙◌, append-nil}
use Rattle.std.specs.Prelude.{slice_get, slice_set}
use Rattle.law_heap_writes.specs.Below.law_words_asked.Below.fr_base.declared.label.Label.{Label}
use Rattle.law_heap_writes.specs.Below.law_words_asked.Below.fr_base.declared.label.Label.TheVariants as label
use Rattle.law_heap_writes.specs.Below.law_words_asked.Below.fr_base.declared.instruction.Operand.{Operand as Item}
use Rattle.law_heap_writes.specs.Below.law_words_asked.Below.fr_base.declared.instruction.Operand.TheVariants as operand
use Rattle.law_heap_writes.specs.Below.law_words_asked.Below.fr_base.declared.place.Lval.{Lval}
use Rattle.law_heap_writes.specs.Below.law_words_asked.Below.fr_base.declared.instruction.Instr.{Instr}
use Rattle.law_heap_writes.specs.Below.law_words_asked.Below.fr_base.declared.instruction.Instr.TheVariants as instr
use Rattle.law_heap_writes.specs.Below.law_words_asked.Below.fr_base.declared.step.Fresh.TheVariants as fresh
use Rattle.law_heap_writes.specs.Below.law_words_asked.Below.heap_partition.Plain.{plain_of}
use Rattle.law_heap_writes.specs.Below.law_words_asked.Below.heap_partition.declared.value.Cell.{Cell}
use Rattle.law_heap_writes.specs.Below.law_words_asked.Below.global_addr.Words.{address_of}
use Rattle.law_heap_writes.specs.Below.law_words_asked.Below.heap_partition.declared.value.Owned.{Owned}
use Rattle.law_heap_writes.specs.Below.law_words_asked.Below.heap_partition.declared.value.Owned.TheVariants as owned
use Rattle.law_heap_writes.specs.Below.law_words_asked.Below.owner_box.View.{PartitionState}
use Rattle.law_heap_writes.specs.Below.law_words_asked.Below.owner_box.Partition.{stored}
use Rattle.law_heap_writes.specs.Below.law_words_asked.Below.thread_state.View.{ThreadState, is_over}
use Rattle.law_heap_writes.specs.Below.law_words_asked.Below.thread_state.declared.value.Value.{Value}
use Rattle.law_heap_writes.specs.Below.law_words_asked.Below.thread_state.declared.value.Value.TheVariants as value
use Rattle.law_heap_writes.specs.Below.law_words_asked.Below.server_model.declared.event.What.TheVariants.{Step}
use Rattle.law_heap_writes.specs.Below.law_words_asked.Below.server_model.Servers.{Rest, Server, Cluster, server_at}
use Rattle.law_heap_writes.specs.Below.law_words_asked.Below.server_model.Work.{Hand, Popped, Work, label_all, last_of, front_of, owned_of, pop_owned, taken_as, thread_in, with_partition, with_slots, with_temps, working, then_some}
use Rattle.law_heap_writes.specs.Below.law_words_asked.Below.server_model.Places.{Spot, in_slot, in_cell, nowhere as no_spot, cell_at, value_in as cell_value, value_at, note_write}
use Rattle.law_heap_writes.specs.Below.law_words_asked.Below.server_model.Drop.{give_up, drop_labels, drop_value}
use Rattle.law_heap_writes.specs.Below.law_words_asked.Below.server_model.Commit.{label_dropped, store_labels, store_at, replace_at, assign, goes_on}
use Rattle.law_heap_writes.specs.Below.law_words_asked.Below.server_model.Events.{enabled, Stepped, committed, step}
use Rattle.law_entries_writes.specs.Below.law_entries_variables.Below.coloured_heap.Heap.{Coloured}
use Rattle.law_heap_writes.specs.Below.law_words_asked.Below.coherent_memory.Names.{tot}
use Rattle.law_heap_writes.specs.Below.law_words_asked.Below.coherent_memory.Things.{Location, Thing, at_slot, in_slot as slot_spot, in_cell as in_object, partition_things, slot_things, things_at}
use Rattle.law_heap_writes.specs.Below.law_words_asked.Below.coherent_memory.Follow.{Ground, cell_of}
use Rattle.law_heap_writes.specs.Below.law_words_asked.Below.coherent_memory.Sight.{sight}
use Rattle.law_heap_writes.specs.Below.law_words_asked.Below.coherent_memory.Colours.{StandsColoured}
use Rattle.law_heap_writes.specs.Below.law_words_asked.Below.coherent_memory.Words.{HasWords}
use Rattle.law_heap_writes.specs.Below.law_words_asked.Below.coherent_types.ClusterTypes.{IsCoherent}
use Rattle.law_heap_writes.proofs.Below.law_words_writes.Below.law_words_asked.Below.law_words_paths.paths.Sole.{some_is}
use Rattle.law_heap_writes.specs.Below.law_words_asked.Below.law_words_paths.words.Unmoved.{LeavesWords}
use Rattle.law_heap_writes.specs.Below.law_words_asked.Below.law_counts_sums.Laws.{Gives, FewEvents}
use Rattle.law_heap_writes.proofs.Below.law_words_writes.Below.law_words_asked.Below.law_counts_sums.Results.{weaker}
use Rattle.law_heap_writes.proofs.Below.law_words_writes.Below.law_words_asked.Below.law_words_kept.stays.Steps.{TakesNoneHere}
use Rattle.law_heap_writes.proofs.Below.law_words_writes.Below.law_words_asked.Below.law_words_kept.prepared.Hands.{put}
use Rattle.law_heap_writes.proofs.Below.law_words_writes.Below.law_words_asked.Below.law_results_reads.Known.{Steps}
use Rattle.law_heap_writes.proofs.Below.law_words_writes.Below.law_words_asked.Below.law_results_events.writes.Writes.{Light, owned_value, nothing_left}
use Rattle.law_heap_writes.proofs.Below.law_words_writes.Below.law_words_asked.Below.law_results_events.writes.Memory.{Leads, looks, leads_on}
use Rattle.law_heap_writes.proofs.Below.law_words_writes.Below.law_words_asked.Below.law_results_events.writes.Route.{At, a_slot, a_cell}
use Rattle.law_heap_writes.specs.Below.law_words_asked.writes.Writing.{assigns}
use Rattle.law_heap_writes.proofs.Below.law_words_writes.Below.law_words_asked.writes.Passing.{Fits, State}
use Rattle.law_heap_writes.proofs.Below.law_words_writes.Doing.{free_at_start, untaken_at_start}
use Rattle.law_heap_writes.proofs.Below.law_words_writes.EndTypes.{end_alone, end_apart}
use Rattle.law_heap_writes.proofs.Below.law_words_writes.Marking.{noted_work, noted_thread, noted_same, together_by, mark_state}
use Rattle.law_heap_writes.proofs.Below.law_words_writes.Light.{light_end}
use Rattle.law_heap_writes.proofs.Below.law_words_writes.Storing.{Tip}
use Rattle.law_heap_writes.proofs.Below.law_words_writes.Putting.{Operand, on_top, plain as plainly, stored_hand, stored_ok, stored_so, give_same}
use Rattle.law_heap_writes.proofs.Below.law_words_writes.Filling.{filled_ok, filled_so, without_slot, without_ok, without_so, rooted_without}
use Rattle.law_heap_writes.proofs.Below.law_heap_steps.turns.ReadWalk.{passed_loads}
use Rattle.law_entries_writes.proofs.Below.law_entries_variables.deliveries.Weighed.{Seen, marks_of}
use Rattle.law_entries_writes.specs.Below.law_entries_variables.deliveries.Entries.{LeadsOn}
use Rattle.law_entries_writes.proofs.Below.law_entries_variables.deliveries.Answers.{Answers, answers_of}
use Rattle.law_entries_writes.proofs.Below.law_entries_variables.deliveries.GiveUp.{give_news, give_acts}
use Rattle.law_entries_reads.proofs.Below.law_entries_variables.variables.Led.{done_entry}
use Rattle.law_entries_writes.proofs.Below.law_entries_reads.asks.Frames.{marks_same}
use Rattle.law_entries_writes.proofs.Below.law_entries_reads.asks.Recoloured.{recoloured}
use Rattle.law_entries_writes.proofs.walks.Given.{Given}
use Rattle.law_heap_writes.proofs.Below.law_words_writes.Below.law_words_values.carried.Hands.{RootedIn, leaves_chain, rooted}
use Rattle.law_heap_writes.proofs.Below.law_words_writes.Below.law_words_values.carried.Owned.{OwnsAlone}
use Rattle.law_heap_writes.proofs.Below.law_words_writes.Below.law_words_values.carried.Places.{set_twice}
use Rattle.law_heap_writes.proofs.Below.law_words_writes.EndTypes.{rooted_on}
use Rattle.law_heap_writes.proofs.Below.law_words_writes.Below.law_words_asked.Below.law_words_paths.words.Slots.{set_same}
use Rattle.law_heap_writes.specs.Below.law_words_asked.Below.coherent_memory.Coherent.{Holds, first_at_holder}
use Rattle.law_entries_writes.proofs.Below.law_entries_variables.Below.law_heap_still.events.Alike.{all_seen}
use Rattle.law_entries_reads.proofs.Below.law_entries_variables.variables.Slots.{slot_put, IsUnmarked}
use Rattle.law_entries_writes.proofs.stores.Standing.{slot_there}
use Rattle.law_entries_writes.proofs.stores.Storing.{dropping, AllLoads, loads_append, stores_none, stores_one}
use Rattle.law_entries_writes.proofs.stores.GivingUp.{StoodIn, in_place, in_a_cell, owns_none, given_of}
use Rattle.law_entries_writes.proofs.stores.Marked.{mark_given}
use Rattle.law_entries_writes.proofs.stores.Lying.{cell_there, placed_there, lying_there, all_loads}
use Rattle.law_entries_writes.proofs.stores.Doing.{reworded_by_left, Wrote, EndsDone, over}
use Rattle.law_entries_writes.proofs.stores.Ready.{memory_turns, giving_turns, gave, same_memory, stored_memory, leads_so}
use Rattle.law_entries_writes.proofs.stores.Writes as writes
use Rattle.law_entries_writes.proofs.stores.Writes.{IsReadied, by_ready, end_lays, locks_beside}

-- THE OPERAND

-- an operand that is owned, whatever it is
operand_is : (o : Item) (h : Hand) (Q : Hand → Type 0) (f : Owned → Hand → Option Hand) → ((v : Owned) (ts : List Value) → Operand h.thread v ts → Gives Q (f v (with_temps ts h))) → Gives Q (then_some (pop_owned o h) (λ u. f u.item u.hand))
operand_is (operand.Const i) h Q f go = go (owned.Int i) h.thread.temps (plainly refl)
operand_is operand.Unit h Q f go = go owned.Unit h.thread.temps (plainly refl)
operand_is operand.Pop h Q f go = by (last_of h.thread.temps) refl
  where
    h1 : Hand
    h1 = with_temps (front_of h.thread.temps) h

    own_is : (v : Value) (u : Owned) → owned_of v ≡ Some u → v ≡ value.Own u
    own_is (value.Own w) u e = ap (λ z. value.Own z) (some_is e)
    own_is value.Gone u e = absurd (cc e)
    own_is (value.SharedSlot i) u e = absurd (cc e)
    own_is (value.MutSlot i) u e = absurd (cc e)
    own_is (value.Shared r) u e = absurd (cc e)
    own_is (value.Mut r) u e = absurd (cc e)
    own_is (value.Held m) u e = absurd (cc e)

    as_owned : (v : Value) → last_of h.thread.temps ≡ Some v → (o : Option Owned) → owned_of v ≡ o → Gives Q (then_some {X = Popped Owned} (option_map (λ u. record { item = u; hand = with_temps (front_of h.thread.temps) h }) o) (λ u. f u.item u.hand))
    as_owned v e None q = tt
    as_owned v e (Some u) q = go u (front_of h.thread.temps) (on_top (e ∙ ap Some (own_is v u q)))

    by : (o : Option Value) → last_of h.thread.temps ≡ o → Gives Q (then_some {X = Popped Owned} (then_some {X = Popped Value} (option_map (λ v. record { item = v; hand = with_temps (front_of h.thread.temps) h }) o) (taken_as owned_of)) (λ u. f u.item u.hand))
    by None e = tt
    by (Some v) e = as_owned v e (owned_of v) refl

-- other temporary values under a mark
noted_temps : (q : Option ℕ) (h : Hand) (ts : List Value) → (note_write q (with_temps ts h)).thread ≡ record (note_write q h).thread { temps = ts }
noted_temps None h ts = refl
noted_temps (Some i) h ts = refl

-- dropping loads nothing
drop_loads : (a : Answers) (n : ℕ) (u : Owned) → AllLoads a n (drop_labels (value.Own u))
drop_loads a n (owned.Box b) = tt
drop_loads a n (owned.Mutex m) = tt
drop_loads a n (owned.Task i) = tt
drop_loads a n owned.Nothing = tt
drop_loads a n owned.Unit = tt
drop_loads a n (owned.Int i) = tt

module _ (k : Cluster) (coherent : IsCoherent k) (few : FewEvents k) (s : Server) (here : server_at k.servers s.rest.number ≡ Some s) (t : ℕ) (y : ThreadState) (at : thread_in s.threads t ≡ Some y) (own : thread_in s.threads y.number ≡ Some y) (live : is_over y.phase ≡ false)
    (on : enabled k.options s (Step t) ≡ true) (w : Lval) (d : ℕ) (o : Item) (code : slice_get k.code y.pc ≡ Some (instr.Assign w o)) (depth : w.depth ≡ suc d) (c0 : Coloured) (is_coloured : StandsColoured k c0) where
  abbrev n : ℕ
  n = s.rest.number

  abbrev i : Instr
  i = instr.Assign w o

  abbrev O : Hand → Type 0
  O = Fits k coherent s here t y at

  abbrev P : Hand → Cluster
  P = put k coherent s here t y at

  abbrev before : HasWords (sight k)
  before = coherent.sound.words.have_words

  abbrev g : Ground
  g = writes.g k coherent few s here t y at own on i code w d (assigns o depth) c0 is_coloured

  abbrev place : ℕ → Option Location
  place = writes.place k coherent few s here t y at own on i code w d (assigns o depth) c0 is_coloured

  abbrev z : Steps k n t s y i
  z = writes.its k coherent few s here t y at own on i code w d (assigns o depth) c0 is_coloured

  abbrev W : Hand → Type 0
  W = Wrote k coherent few s here t y at own c0

  abbrev Ready : Hand → Spot → Type 0
  Ready = IsReadied k coherent few s here t y at own on i code w d (assigns o depth) c0 is_coloured

  abbrev Ends : Stepped → Type 0
  Ends = EndsDone k coherent few s here t y at own c0 i code

  bare : y.gift ≡ None
  bare = free_at_start k coherent few s here t y at on i code w d (assigns o depth)

  untaken_here : TakesNoneHere k.code y
  untaken_here = untaken_at_start k coherent few s here t y at on i code w d (assigns o depth)

  module _ (h : Hand) (sp : Spot) (r : Ready h sp) where
    named_h : h.thread.number ≡ y.number
    named_h = ap (λ (x : ThreadState). x.number) r.writing.thread

    free : h.thread.gift ≡ None
    free = ap (λ (x : ThreadState). x.gift) r.writing.thread ∙ bare

    -- marks of locks are where they were
    marks_start : (f : Thing → ℕ) (x : Seen f) → marks_of f x h.thread ≡ marks_of f x y
    marks_start f x = ap (λ j. tot f (things_at (slot_things 0 j) 0 h.thread.slots)) named_h ∙ marks_same f x 0 y.number 0 h.thread.slots y.slots r.given.frames

    abbrev passed : List Label
    passed = passed_loads g y.number w.slot w.depth

    -- what was loaded, and the label of what is dropped
    loads_of_all : (u : Owned) → AllLoads (dropping (given_of u) (recoloured r.words (answers_of (sight k)))) n (passed ++ drop_labels (value.Own u))
    loads_of_all u =
        loads_append (dropping (given_of u) (recoloured r.words (answers_of (sight k)))) n passed (drop_labels (value.Own u))
        (all_loads k coherent.sound n s here r.words (given_of u) y w.slot w.depth (writes.way k coherent few s here t y at own on i code w d (assigns o depth) c0 is_coloured) w.depth r.lays) (drop_loads (dropping (given_of u) (recoloured r.words (answers_of (sight k)))) n u)

  -- IN A CELL

  module _ (h : Hand) (b : ℕ) (q : Option ℕ) (r : Ready h (in_cell b q)) (c : Cell) (leads_it : Leads h.work.rest.partition b c) (has : cell_of g.cells c.object ≡ Some c) (ends : place w.depth ≡ Some (in_object c.object)) where
    abbrev hm : Hand
    hm = note_write q h

    st : State k coherent s here t y at hm
    st = mark_state k coherent s here t y at h b q r.walked

    free_m : hm.thread.gift ≡ None
    free_m = ap (λ (x : ThreadState). x.gift) (noted_thread q h) ∙ free h (in_cell b q) r

    leads_m : Leads hm.work.rest.partition b c
    leads_m = subst (λ (x : Work). Leads x.rest.partition b c) (sym (noted_work q h)) leads_it

    tip : Tip k coherent s here t y at c.object
    tip = record { alone = end_alone k n t s y i z w d (assigns o depth) (in_object c.object) ends; apart = λ a f. end_apart k n t s y i z w d (assigns o depth) c.object ends untaken_here a f }

    operand_m : (v : Owned) (ts : List Value) → Operand h.thread v ts → Operand hm.thread v ts
    operand_m v _ (on_top last) = subst (λ x. Operand x v (front_of h.thread.temps)) (sym (noted_thread q h)) (on_top last)
    operand_m v _ (plainly own_it) = subst (λ x. Operand x v h.thread.temps) (sym (noted_thread q h)) (plainly own_it)

    given_m : Given k coherent s here t y at c0 is_coloured hm r.words
    given_m = mark_given k coherent s here t y at c0 is_coloured h b q r.words r.walked r.given

    lay : (u : ℕ) × Leads s.rest.partition u c
    lay = end_lays k coherent few s here t y at own on i code w d (assigns o depth) c0 is_coloured c.object c ends has r.lays

    module _ (v : Owned) (ts : List Value) (op : Operand h.thread v ts) where
      abbrev ht : Hand
      ht = with_temps ts h

      there : value_at ht (in_cell b q) ≡ Some (value.Own c.value)
      there = ap cell_value (looks h.work.rest.partition b c leads_it)

      abbrev hs : Hand
      hs = working (with_partition (stored h.work.rest.partition b v)) (working (label_all (store_labels (cell_at (label_dropped (value.Own c.value) ht) (in_cell b q)) v)) (label_dropped (value.Own c.value) ht))

      abbrev hb : Hand
      hb = note_write q hs

      abbrev final : Hand
      final = working (give_up c.value) hb

      abbrev goal : Hand
      goal = stored_hand k coherent s here t y at hm st free_m b c leads_m tip v ts (operand_m v ts op)

      thread_is : hb.thread ≡ record hm.thread { temps = ts }
      thread_is = noted_same q ht hs refl ∙ noted_temps q h ts

      same_rest : final.work.rest ≡ goal.work.rest
      same_rest =
          give_same c.value (record hm.work { rest = record hm.work.rest { partition = stored hm.work.rest.partition b v } }) hb.work
          (ap (λ (x : Work). x.rest) (noted_work q hs) ∙ ap (λ (x : Work). record x.rest { partition = stored x.rest.partition b v }) (sym (noted_work q h)))

      abbrev memory : PartitionState
      memory = stored h.work.rest.partition b v

      rest_b : hb.work.rest ≡ record s.rest { partition = memory }
      rest_b = ap (λ (x : Work). x.rest) (noted_work q hs) ∙ ap (λ (x : Rest). record x { partition = memory }) r.writing.rest

      named_b : hb.thread.number ≡ y.number
      named_b = ap (λ (x : ThreadState). x.number) (thread_is ∙ ap (λ (x : ThreadState). record x { temps = ts }) (noted_thread q h)) ∙ named_h h (in_cell b q) r

      marks_b : (f : Thing → ℕ) (x : Seen f) → marks_of f x hb.thread ≡ marks_of f x y
      marks_b f x = ap₂ (λ j l. tot f (things_at (slot_things 0 j) 0 l)) named_b (ap (λ (x : ThreadState). x.slots) thread_is) ∙ marks_same f x 0 y.number 0 hm.thread.slots y.slots given_m.frames

      abbrev ls : List Label
      ls = passed h (in_cell b q) r ++ drop_labels (value.Own c.value)

      labels_are : final.work.labels ≡ ls ++ label.Store c.object (plain_of v) ∷ []
      labels_are =
          (gave c.value hb.work).1 ∙ ap (λ (x : Work). x.labels) (noted_work q hs) ∙ ap (λ m. (h.work.labels ++ drop_labels (value.Own c.value)) ++ store_labels m v) (looks h.work.rest.partition b c leads_it)
          ∙ ap (λ l. (l ++ drop_labels (value.Own c.value)) ++ label.Store c.object (plain_of v) ∷ []) r.labels

      cell_wrote : W final
      cell_wrote = record {
        words = r.words;
        reached = goal;
        left = reworded_by_left k (P hm) (P goal) r.words before given_m.rewords (stored_so k coherent s here t y at hm st free_m b c leads_m tip v ts (operand_m v ts op));
        fits = stored_ok k coherent s here t y at hm st free_m b c leads_m tip v ts (operand_m v ts op);
        same = together_by goal final thread_is same_rest;
        untaken = subst (λ x. TakesNoneHere k.code x) (sym thread_is) st.untaken;
        acts = h.work.acts ++ give_acts c.value;
        olds = partition_things n s.rest.partition;
        news = partition_things n memory ++ give_news c.value;
        turned = giving_turns s y (partition_things n s.rest.partition) (partition_things n memory) h.work.acts hb c.value final (memory_turns s y hb memory h.work.acts rest_b named_b marks_b) refl refl;
        noted = (gave c.value hb.work).0 ∙ ap (λ (x : Work). x.acts ++ give_acts c.value) (noted_work q hs);
        free = ap (λ (x : ThreadState). x.gift) thread_is ∙ free_m;
        leads = λ c2 x named free2 over2 f words.
            subst (λ ll. LeadsOn k.options (done_entry n y.number fresh.None (h.work.acts ++ give_acts c.value) ll) c0 c2) (sym labels_are)
            (leads_so k coherent s here t y at own bare live c0 is_coloured h r.words r.given r.walked.state.ok (marks_start h (in_cell b q) r) memory (Some (c.object, plain_of v))
            (stored_memory k coherent s here t y at own bare live c0 is_coloured h r.words r.given b c v leads_it (placed_there k coherent.sound n s here lay.0 c lay.1))
            (locks_beside k coherent few s here t y at own on i code w d (assigns o depth) c0 is_coloured c.object ends) c.value (in_a_cell n (address_of lay.0) c.object (cell_there k coherent.sound n s here lay.0 c lay.1)) ls (label.Store c.object (plain_of v) ∷ [])
            (loads_of_all h (in_cell b q) r c.value)
            (stores_one c.object (plain_of c.value) (plain_of v) (lying_there k coherent.sound n s here r.words (given_of c.value) c.object (plain_of c.value) (placed_there k coherent.sound n s here lay.0 c lay.1))) c2 x named free2 over2 f words);
      }

      cell_stored : Gives W (replace_at (in_cell b q) v ht)
      cell_stored =
          subst (λ m. Gives W (then_some m (λ old. then_some (store_at (in_cell b q) v (label_dropped old ht)) (drop_value no_spot old)))) (sym there)
          (subst (λ m. Gives W (then_some (if m then Some hb else None) (drop_value no_spot (value.Own c.value)))) (sym (leads_on h.work.rest.partition b c leads_it)) cell_wrote)

  -- IN A SLOT

  module _ (h : Hand) (m : ℕ) (r : Ready h (in_slot m)) (ends : place w.depth ≡ Some (at_slot y.number m)) where
    abbrev st_here : State k coherent s here t y at h
    st_here = r.walked.state

    alone : OwnsAlone k (at_slot h.thread.number m)
    alone = subst (λ a. OwnsAlone k (at_slot a m)) (sym (named_h h (in_slot m) r)) (end_alone k n t s y i z w d (assigns o depth) (at_slot y.number m) ends)

    -- the slot is as it was
    slot_was : slice_get h.thread.slots m ≡ slice_get y.slots m
    slot_was = r.writing.slots m (λ j less e. (writes.way k coherent few s here t y at own on i code w d (assigns o depth) c0 is_coloured).apart w.depth j less (omega arith) (at_slot y.number m) e ends)

    -- it gets a value
    module _ (old : Value) (v : Owned) (stood : slice_get h.thread.slots m ≡ Some old) (unmarked : IsUnmarked old) (ts : List Value) where
      abbrev put_thread : ThreadState
      put_thread = record h.thread { temps = ts; slots = slice_set h.thread.slots m (value.Own v) }

      marks_put : (f : Thing → ℕ) (x : Seen f) → marks_of f x put_thread ≡ marks_of f x y
      marks_put f x = slot_put f x 0 h.thread.number h.thread.slots m old (value.Own v) stood unmarked tt ∙ marks_start h (in_slot m) r f x

    module _ (u v : Owned) (ts : List Value) (stood : slice_get h.thread.slots m ≡ Some (value.Own u)) (op : Operand h.thread v ts) where
      abbrev put_there : Hand
      put_there = with_slots (slice_set h.thread.slots m (value.Own v)) (working (label_all (store_labels None v)) (label_dropped (value.Own u) (with_temps ts h)))

      abbrev last : Hand
      last = working (give_up u) put_there

      abbrev h2 : Hand
      h2 = without_slot k coherent s here t y at h st_here (free h (in_slot m) r) m u stood alone

      ok2 : O h2
      ok2 = without_ok k coherent s here t y at h st_here (free h (in_slot m) r) m u stood alone

      gone : slice_get h2.thread.slots m ≡ Some value.Gone
      gone = set_same h.thread.slots m (value.Own u) value.Gone stood

      firsts : Holds (P h2) first_at_holder
      firsts = (without_so k coherent s here t y at h st_here (free h (in_slot m) r) m u stood alone).holders st_here.onward.words.first_at_holder

      root : RootedIn (P h2)
      root = rooted_without k coherent s here t y at h st_here (free h (in_slot m) r) m u stood alone

      op2 : (rs : List Value) → Operand h.thread v rs → Operand h2.thread v rs
      op2 _ (on_top e) = on_top e
      op2 _ (plainly e) = plainly e

      abbrev over_it : Hand
      over_it = record h2 { thread = record h2.thread { temps = ts; slots = slice_set h2.thread.slots m (value.Own v) } }

      leaves : LeavesWords (P h) (P over_it)
      leaves = leaves_chain (without_so k coherent s here t y at h st_here (free h (in_slot m) r) m u stood alone) (filled_so k coherent s here t y at h2 ok2 (free h (in_slot m) r) st_here.untaken firsts root m gone v ts (op2 ts op))

      over_thread : last.thread ≡ over_it.thread
      over_thread = ap (λ vs. record h.thread { temps = ts; slots = vs }) (sym (set_twice h.thread.slots m value.Gone (value.Own v)))

      over_rest : last.work.rest ≡ over_it.work.rest
      over_rest = give_same u h.work put_there.work refl

      stood_there : StoodIn k u
      stood_there = in_place (slot_spot y.number (0 + m)) (slot_there k n s here y own m (value.Own u) (sym slot_was ∙ stood))

      labels_so : last.work.labels ≡ (passed h (in_slot m) r ++ drop_labels (value.Own u)) ++ []
      labels_so = (gave u put_there.work).1 ∙ ap (λ l. (l ++ drop_labels (value.Own u)) ++ []) r.labels

      over_wrote : W last
      over_wrote = record {
        words = r.words;
        reached = over_it;
        left = reworded_by_left k (P h) (P over_it) r.words before r.given.rewords leaves;
        fits = filled_ok k coherent s here t y at h2 ok2 (free h (in_slot m) r) st_here.untaken firsts root m gone v ts (op2 ts op);
        same = together_by over_it last over_thread over_rest;
        untaken = st_here.untaken;
        acts = h.work.acts ++ give_acts u;
        olds = partition_things n s.rest.partition;
        news = partition_things n h.work.rest.partition ++ give_news u;
        turned = giving_turns s y (partition_things n s.rest.partition) (partition_things n h.work.rest.partition) h.work.acts put_there u last (memory_turns s y put_there h.work.rest.partition h.work.acts r.writing.rest (named_h h (in_slot m) r) (marks_put (value.Own u) v stood tt ts)) refl refl;
        noted = (gave u put_there.work).0;
        free = free h (in_slot m) r;
        leads = λ c2 x named free2 over2 f words.
            subst (λ ll. LeadsOn k.options (done_entry n y.number fresh.None (h.work.acts ++ give_acts u) ll) c0 c2) (sym labels_so)
            (leads_so k coherent s here t y at own bare live c0 is_coloured h r.words r.given r.walked.state.ok (marks_start h (in_slot m) r) h.work.rest.partition None (same_memory k coherent s here t y at own bare live c0 is_coloured h r.words r.given)
            (λ a b e p q j le. all_seen _) u stood_there (passed h (in_slot m) r ++ drop_labels (value.Own u)) [] (loads_of_all h (in_slot m) r u) stores_none c2 x named free2 over2 f words);
      }

      slot_over : Gives W (replace_at (in_slot m) v (with_temps ts h))
      slot_over =
          subst (λ e. Gives W (then_some e (λ x. then_some (store_at (in_slot m) v (label_dropped x (with_temps ts h))) (drop_value no_spot x)))) (sym stood) (by (nat_lt m (length h.thread.slots)))
        where
          by : (b : Bool) → Gives W (then_some (if b then Some put_there else None) (drop_value no_spot (value.Own u)))
          by false = tt
          by true = over_wrote

    module _ (v : Owned) (ts : List Value) (stood : slice_get h.thread.slots m ≡ Some value.Gone) (op : Operand h.thread v ts) where
      abbrev put_here : Hand
      put_here = with_slots (slice_set h.thread.slots m (value.Own v)) (working (label_all (store_labels None v)) (label_dropped value.Gone (with_temps ts h)))

      rooted_here : RootedIn (P h)
      rooted_here = rooted_on k (P h) st_here.onward.outlines refl (rooted k coherent.sound)

      abbrev filled_it : Hand
      filled_it = record h { thread = record h.thread { temps = ts; slots = slice_set h.thread.slots m (value.Own v) } }

      labels_now : put_here.work.labels ≡ (passed h (in_slot m) r ++ drop_labels (value.Own owned.Nothing)) ++ []
      labels_now = ap (λ l. (l ++ []) ++ []) r.labels

      fill_wrote : W put_here
      fill_wrote = record {
        words = r.words;
        reached = filled_it;
        left = reworded_by_left k (P h) (P filled_it) r.words before r.given.rewords (filled_so k coherent s here t y at h st_here.ok (free h (in_slot m) r) st_here.untaken st_here.onward.words.first_at_holder rooted_here m stood v ts op);
        fits = filled_ok k coherent s here t y at h st_here.ok (free h (in_slot m) r) st_here.untaken st_here.onward.words.first_at_holder rooted_here m stood v ts op;
        same = together_by filled_it put_here refl refl;
        untaken = st_here.untaken;
        acts = h.work.acts ++ [];
        olds = partition_things n s.rest.partition;
        news = partition_things n h.work.rest.partition ++ [];
        turned = giving_turns s y (partition_things n s.rest.partition) (partition_things n h.work.rest.partition) h.work.acts put_here owned.Nothing put_here (memory_turns s y put_here h.work.rest.partition h.work.acts r.writing.rest (named_h h (in_slot m) r) (marks_put value.Gone v stood tt ts)) refl refl;
        noted = sym (append-nil h.work.acts);
        free = free h (in_slot m) r;
        leads = λ c2 x named free2 over2 f words.
            subst (λ ll. LeadsOn k.options (done_entry n y.number fresh.None (h.work.acts ++ []) ll) c0 c2) (sym labels_now)
            (leads_so k coherent s here t y at own bare live c0 is_coloured h r.words r.given r.walked.state.ok (marks_start h (in_slot m) r) h.work.rest.partition None (same_memory k coherent s here t y at own bare live c0 is_coloured h r.words r.given)
            (λ a b e p q j le. all_seen _) owned.Nothing (owns_none refl) (passed h (in_slot m) r ++ drop_labels (value.Own owned.Nothing)) [] (loads_of_all h (in_slot m) r owned.Nothing) stores_none c2 x named free2 over2 f words);
      }

      slot_fills : Gives W (replace_at (in_slot m) v (with_temps ts h))
      slot_fills =
          subst (λ e. Gives W (then_some e (λ x. then_some (store_at (in_slot m) v (label_dropped x (with_temps ts h))) (drop_value no_spot x)))) (sym stood) (by (nat_lt m (length h.thread.slots)))
        where
          by : (b : Bool) → Gives W (then_some (if b then Some put_here else None) (drop_value no_spot value.Gone))
          by false = tt
          by true = fill_wrote

    slot_stored : (v : Owned) (ts : List Value) (old : Value) → slice_get h.thread.slots m ≡ Some old → Light old → Operand h.thread v ts → Gives W (replace_at (in_slot m) v (with_temps ts h))
    slot_stored v ts _ stood (owned_value u) op = slot_over u v ts stood op
    slot_stored v ts _ stood nothing_left op = slot_fills v ts stood op

  -- wherever it is
  stores_so : (h : Hand) (sp : Spot) → Ready h sp → (v : Owned) (ts : List Value) → Operand h.thread v ts → Gives W (replace_at sp v (with_temps ts h))
  stores_so h sp r v ts op = by sp r.location r r.ends r.spot
    where
      by : (sp : Spot) (l : Location) → Ready h sp → place w.depth ≡ Some l → At s.rest y (cell_of g.cells) place h.work.rest.partition w.depth sp l → Gives W (replace_at sp v (with_temps ts h))
      by _ _ r ends (a_slot m) =
          let e = light_end k n t s y w d o z depth h (in_slot m) (at_slot y.number m) ends (a_slot m) r.writing in
          slot_stored h m r ends v ts e.0 e.1 e.2 op
      by _ _ r ends (a_cell b q o2 c leads_it has object behind) = cell_stored h b q r c leads_it (ap (cell_of g.cells) object ∙ has) (ends ∙ ap (λ x. Some (in_object x)) (sym object)) v ts op

  assigns_so : (h : Hand) (sp : Spot) → Ready h sp → Gives W (assign w w.depth o sp h)
  assigns_so h sp r = subst (λ m. Gives W (assign w m o sp h)) (sym depth) (operand_is o h W (replace_at sp) (λ v ts op. stores_so h sp r v ts op))

  pub assigns_done : Gives Ends (step k.options.servers i (writes.start k coherent few s here t y at own on i code w d (assigns o depth) c0 is_coloured))
  assigns_done =
      by_ready k coherent few s here t y at own on i code w d (assigns o depth) c0 is_coloured
      (λ h sp r. weaker _ Ends (committed (goes_on (assign w w.depth o sp h))) (over k coherent few s here t y at own c0 (assign w w.depth o sp h) (assigns_so h sp r)) (λ x q names. q))
