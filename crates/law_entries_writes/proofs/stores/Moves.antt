-- A move out through stars: what stood in the cell at the end of its place is on top, and the cell has nothing.
use Rattle.std.proofs.Common.{◌≡◌, ℕ, suc, true, false, if◌then◌else◌, List, [], ◌∷◌, ◌++◌, Option, Some, None, option_map, refl, sym, ap, ap₂, subst, ◌∙◌, append-nil}
use Rattle.std.specs.Prelude.{slice_get}
use Rattle.law_heap_writes.specs.Below.law_words_asked.Below.fr_base.declared.label.Label.{Label}
use Rattle.law_heap_writes.specs.Below.law_words_asked.Below.fr_base.declared.label.Label.TheVariants as label
use Rattle.law_heap_writes.specs.Below.law_words_asked.Below.fr_base.declared.label.Plain.TheVariants as plain
use Rattle.law_heap_writes.specs.Below.law_words_asked.Below.fr_base.declared.place.Lval.{Lval}
use Rattle.law_heap_writes.specs.Below.law_words_asked.Below.fr_base.declared.instruction.Instr.{Instr}
use Rattle.law_heap_writes.specs.Below.law_words_asked.Below.fr_base.declared.instruction.Instr.TheVariants as instr
use Rattle.law_heap_writes.specs.Below.law_words_asked.Below.fr_base.declared.step.Fresh.TheVariants as fresh
use Rattle.law_heap_writes.specs.Below.law_words_asked.Below.heap_partition.Plain.{plain_of}
use Rattle.law_heap_writes.specs.Below.law_words_asked.Below.heap_partition.declared.value.Cell.{Cell}
use Rattle.law_heap_writes.specs.Below.law_words_asked.Below.heap_partition.declared.value.Owned.TheVariants as owned
use Rattle.law_heap_writes.specs.Below.law_words_asked.Below.owner_box.Partition.{stored}
use Rattle.law_heap_writes.specs.Below.law_words_asked.Below.thread_state.View.{ThreadState, is_over}
use Rattle.law_heap_writes.specs.Below.law_words_asked.Below.thread_state.declared.value.Value.TheVariants as value
use Rattle.law_heap_writes.specs.Below.law_words_asked.Below.server_model.declared.event.What.TheVariants.{Step}
use Rattle.law_heap_writes.specs.Below.law_words_asked.Below.server_model.Servers.{Rest, Server, Cluster, server_at}
use Rattle.law_heap_writes.specs.Below.law_words_asked.Below.server_model.Work.{Hand, Work, label_all, push_temp, thread_in, with_partition, working, then_some}
use Rattle.law_heap_writes.specs.Below.law_words_asked.Below.server_model.Places.{Spot, in_cell, cell_at, value_in as cell_value, load_of, load_at, note_write}
use Rattle.law_heap_writes.specs.Below.law_words_asked.Below.server_model.Commit.{store_labels, take_out, read, goes_on}
use Rattle.law_heap_writes.specs.Below.law_words_asked.Below.server_model.Events.{enabled, Stepped, committed, step}
use Rattle.law_entries_writes.specs.Below.law_entries_variables.Below.coloured_heap.Heap.{Coloured}
use Rattle.law_heap_writes.specs.Below.law_words_asked.Below.coherent_memory.Names.{tot}
use Rattle.law_heap_writes.specs.Below.law_words_asked.Below.coherent_memory.Things.{Location, Thing, in_cell as in_object, partition_things, slot_things, things_at}
use Rattle.law_heap_writes.specs.Below.law_words_asked.Below.coherent_memory.Follow.{Ground, cell_of}
use Rattle.law_heap_writes.specs.Below.law_words_asked.Below.coherent_memory.Sight.{sight}
use Rattle.law_heap_writes.specs.Below.law_words_asked.Below.coherent_memory.Colours.{StandsColoured}
use Rattle.law_heap_writes.specs.Below.law_words_asked.Below.coherent_memory.Words.{HasWords}
use Rattle.law_heap_writes.specs.Below.law_words_asked.Below.coherent_types.ClusterTypes.{IsCoherent}
use Rattle.law_heap_writes.specs.Below.law_words_asked.Below.law_counts_sums.Laws.{Gives, FewEvents}
use Rattle.law_heap_writes.proofs.Below.law_words_writes.Below.law_words_asked.Below.law_counts_sums.Results.{weaker}
use Rattle.law_heap_writes.proofs.Below.law_words_writes.Below.law_words_asked.Below.law_words_kept.stays.Steps.{TakesNoneHere}
use Rattle.law_heap_writes.proofs.Below.law_words_writes.Below.law_words_asked.Below.law_words_kept.prepared.Hands.{put}
use Rattle.law_heap_writes.proofs.Below.law_words_writes.Below.law_words_asked.Below.law_results_reads.Known.{Steps}
use Rattle.law_heap_writes.proofs.Below.law_words_writes.Below.law_words_asked.Below.law_results_events.writes.Memory.{Leads, looks, leads_on}
use Rattle.law_heap_writes.proofs.Below.law_words_writes.Below.law_words_asked.Below.law_results_events.writes.Route.{At, a_slot, a_cell}
use Rattle.law_heap_writes.specs.Below.law_words_asked.writes.Writing.{moves}
use Rattle.law_heap_writes.proofs.Below.law_words_writes.Below.law_words_asked.writes.Passing.{State}
use Rattle.law_heap_writes.proofs.Below.law_words_writes.Doing.{free_at_start, untaken_at_start}
use Rattle.law_heap_writes.proofs.Below.law_words_writes.EndTypes.{end_alone, end_apart}
use Rattle.law_heap_writes.proofs.Below.law_words_writes.Marking.{noted_work, noted_thread, noted_same, together_by, mark_state}
use Rattle.law_heap_writes.proofs.Below.law_words_writes.OwnEnds.{ends_in_cell}
use Rattle.law_heap_writes.proofs.Below.law_words_writes.Storing.{Tip}
use Rattle.law_heap_writes.proofs.Below.law_words_writes.TakenOut.{taken_hand, taken_ok, taken_so}
use Rattle.law_heap_writes.proofs.Below.law_heap_steps.turns.ReadWalk.{passed_loads}
use Rattle.law_entries_writes.proofs.Below.law_entries_variables.deliveries.Weighed.{Seen, marks_of}
use Rattle.law_entries_writes.specs.Below.law_entries_variables.deliveries.Entries.{LeadsOn}
use Rattle.law_entries_writes.proofs.Below.law_entries_variables.deliveries.Answers.{answers_of}
use Rattle.law_entries_reads.proofs.Below.law_entries_variables.variables.Turning.{Turning}
use Rattle.law_entries_reads.proofs.Below.law_entries_variables.variables.Led.{done_entry}
use Rattle.law_entries_writes.proofs.Below.law_entries_reads.asks.Frames.{marks_same}
use Rattle.law_entries_writes.proofs.Below.law_entries_reads.asks.Recoloured.{recoloured}
use Rattle.law_entries_writes.proofs.walks.Given.{Given}
use Rattle.law_entries_writes.proofs.stores.Storing.{dropping, loads_append, stores_one}
use Rattle.law_entries_writes.proofs.stores.GivingUp.{owns_none}
use Rattle.law_entries_writes.proofs.stores.Marked.{mark_given}
use Rattle.law_entries_writes.proofs.stores.Lying.{placed_there, lying_there, all_loads}
use Rattle.law_entries_writes.proofs.stores.Doing.{shadow, reworded_by_left, Wrote, EndsDone, over}
use Rattle.law_entries_writes.proofs.stores.Ready.{memory_turns, giving_turns, stored_memory, leads_so}
use Rattle.law_entries_writes.proofs.stores.Writes as writes
use Rattle.law_entries_writes.proofs.stores.Writes.{IsReadied, by_ready, end_lays, locks_beside}

module _ (k : Cluster) (coherent : IsCoherent k) (few : FewEvents k) (s : Server) (here : server_at k.servers s.rest.number ≡ Some s) (t : ℕ) (y : ThreadState) (at : thread_in s.threads t ≡ Some y) (own : thread_in s.threads y.number ≡ Some y) (live : is_over y.phase ≡ false)
    (on : enabled k.options s (Step t) ≡ true) (w : Lval) (d : ℕ) (code : slice_get k.code y.pc ≡ Some (instr.Read w true)) (depth : w.depth ≡ suc d) (c0 : Coloured) (is_coloured : StandsColoured k c0) where
  abbrev n : ℕ
  n = s.rest.number

  abbrev i : Instr
  i = instr.Read w true

  abbrev P : Hand → Cluster
  P = put k coherent s here t y at

  abbrev before : HasWords (sight k)
  before = coherent.sound.words.have_words

  abbrev g : Ground
  g = writes.g k coherent few s here t y at own on i code w d (moves depth) c0 is_coloured

  abbrev place : ℕ → Option Location
  place = writes.place k coherent few s here t y at own on i code w d (moves depth) c0 is_coloured

  abbrev z : Steps k n t s y i
  z = writes.its k coherent few s here t y at own on i code w d (moves depth) c0 is_coloured

  abbrev W : Hand → Type 0
  W = Wrote k coherent few s here t y at own c0

  abbrev Ready : Hand → Spot → Type 0
  Ready = IsReadied k coherent few s here t y at own on i code w d (moves depth) c0 is_coloured

  abbrev Ends : Stepped → Type 0
  Ends = EndsDone k coherent few s here t y at own c0 i code

  bare : y.gift ≡ None
  bare = free_at_start k coherent few s here t y at on i code w d (moves depth)

  untaken_here : TakesNoneHere k.code y
  untaken_here = untaken_at_start k coherent few s here t y at on i code w d (moves depth)

  module _ (h : Hand) (b : ℕ) (q : Option ℕ) (r : Ready h (in_cell b q)) (c : Cell) (leads_it : Leads h.work.rest.partition b c) (has : cell_of g.cells c.object ≡ Some c)
      (ends : place w.depth ≡ Some (in_object c.object)) where
    abbrev hm : Hand
    hm = note_write q h

    st : State k coherent s here t y at hm
    st = mark_state k coherent s here t y at h b q r.walked

    free_m : hm.thread.gift ≡ None
    free_m = ap (λ (x : ThreadState). x.gift) (noted_thread q h) ∙ ap (λ (x : ThreadState). x.gift) r.writing.thread ∙ bare

    leads_m : Leads hm.work.rest.partition b c
    leads_m = subst (λ (x : Work). Leads x.rest.partition b c) (sym (noted_work q h)) leads_it

    tip : Tip k coherent s here t y at c.object
    tip = record { alone = end_alone k n t s y i z w d (moves depth) (in_object c.object) ends; apart = λ a f. end_apart k n t s y i z w d (moves depth) c.object ends untaken_here a f }

    abbrev hl : Hand
    hl = load_at (in_cell b q) h

    abbrev hs : Hand
    hs = working (with_partition (stored h.work.rest.partition b owned.Nothing)) (working (label_all (store_labels (cell_at hl (in_cell b q)) owned.Nothing)) hl)

    abbrev final : Hand
    final = push_temp (value.Own c.value) (note_write q hs)

    abbrev goal : Hand
    goal = taken_hand k coherent s here t y at hm st free_m b c leads_m tip

    same_thread : final.thread ≡ goal.thread
    same_thread = ap (λ (x : ThreadState). record x { temps = x.temps ++ value.Own c.value ∷ [] }) (noted_same q h hs refl) ∙ ap (λ g. record hm.thread { gift = g; temps = hm.thread.temps ++ value.Own c.value ∷ [] }) free_m

    same_rest : final.work.rest ≡ goal.work.rest
    same_rest = ap (λ (x : Work). x.rest) (noted_work q hs) ∙ ap (λ (x : Work). record x.rest { partition = stored x.rest.partition b owned.Nothing }) (sym (noted_work q h))

    given_m : Given k coherent s here t y at c0 is_coloured hm r.words
    given_m = mark_given k coherent s here t y at c0 is_coloured h b q r.words r.walked r.given

    -- marks of locks are where they were
    marks_h : (z : ThreadState) → z.number ≡ y.number → z.slots ≡ hm.thread.slots → (f : Thing → ℕ) (x : Seen f) → marks_of f x z ≡ marks_of f x y
    marks_h z named slots f x = ap₂ (λ j l. tot f (things_at (slot_things 0 j) 0 l)) named slots ∙ marks_same f x 0 y.number 0 hm.thread.slots y.slots given_m.frames

    lay : (u : ℕ) × Leads s.rest.partition u c
    lay = end_lays k coherent few s here t y at own on i code w d (moves depth) c0 is_coloured c.object c ends has r.lays

    abbrev ls : List Label
    ls = passed_loads g y.number w.slot w.depth ++ label.Load c.object (plain_of c.value) ∷ []

    labels_are : final.work.labels ≡ ls ++ label.Store c.object plain.Nothing ∷ []
    labels_are =
        ap (λ (v : Work). v.labels) (noted_work q hs) ∙ ap (λ m. (h.work.labels ++ load_of m) ++ store_labels m owned.Nothing) (looks h.work.rest.partition b c leads_it)
        ∙ ap (λ l. (l ++ label.Load c.object (plain_of c.value) ∷ []) ++ label.Store c.object plain.Nothing ∷ []) r.labels

    named_final : final.thread.number ≡ y.number
    named_final = ap (λ (x : ThreadState). x.number) (noted_same q h hs refl ∙ noted_thread q h) ∙ ap (λ (x : ThreadState). x.number) r.writing.thread

    rest_final : final.work.rest ≡ record s.rest { partition = stored h.work.rest.partition b owned.Nothing }
    rest_final = ap (λ (x : Work). x.rest) (noted_work q hs) ∙ ap (λ (x : Rest). record x { partition = stored h.work.rest.partition b owned.Nothing }) r.writing.rest

    turned : Turning s y (partition_things n s.rest.partition) (partition_things n (stored h.work.rest.partition b owned.Nothing) ++ []) (h.work.acts ++ []) (shadow (h.work.acts ++ []) final)
    turned =
        giving_turns s y (partition_things n s.rest.partition) (partition_things n (stored h.work.rest.partition b owned.Nothing)) h.work.acts final owned.Nothing final
        (memory_turns s y final (stored h.work.rest.partition b owned.Nothing) h.work.acts rest_final named_final (marks_h final.thread named_final (ap (λ (x : ThreadState). x.slots) (noted_same q h hs refl)))) refl refl

    marks_start : (f : Thing → ℕ) (x : Seen f) → marks_of f x h.thread ≡ marks_of f x y
    marks_start f x = ap (λ j. tot f (things_at (slot_things 0 j) 0 h.thread.slots)) (ap (λ (z : ThreadState). z.number) r.writing.thread) ∙ marks_same f x 0 y.number 0 h.thread.slots y.slots r.given.frames

    wrote : W final
    wrote = record {
      words = r.words;
      reached = goal;
      left = reworded_by_left k (P hm) (P goal) r.words before given_m.rewords (taken_so k coherent s here t y at hm st free_m b c leads_m tip);
      fits = taken_ok k coherent s here t y at hm st free_m b c leads_m tip;
      same = together_by goal final same_thread same_rest;
      untaken = subst (λ x. TakesNoneHere k.code x) (sym same_thread) st.untaken;
      acts = h.work.acts ++ [];
      olds = partition_things n s.rest.partition;
      news = partition_things n (stored h.work.rest.partition b owned.Nothing) ++ [];
      turned = turned;
      noted = ap (λ (x : Work). x.acts) (noted_work q hs) ∙ sym (append-nil h.work.acts);
      free = ap (λ (x : ThreadState). x.gift) (noted_same q h hs refl) ∙ free_m;
      leads = λ c2 x named free over2 f words. subst (λ ll. LeadsOn k.options (done_entry n y.number fresh.None (h.work.acts ++ []) ll) c0 c2) (sym labels_are)
          (leads_so k coherent s here t y at own bare live c0 is_coloured h r.words r.given r.walked.state.ok marks_start (stored h.work.rest.partition b owned.Nothing) (Some (c.object, plain.Nothing))
          (stored_memory k coherent s here t y at own bare live c0 is_coloured h r.words r.given b c owned.Nothing leads_it (placed_there k coherent.sound n s here lay.0 c lay.1))
          (locks_beside k coherent few s here t y at own on i code w d (moves depth) c0 is_coloured c.object ends) owned.Nothing (owns_none refl) ls (label.Store c.object plain.Nothing ∷ [])
          (loads_append (dropping None (recoloured r.words (answers_of (sight k)))) n
          (passed_loads g y.number w.slot w.depth) (label.Load c.object (plain_of c.value) ∷ [])
          (all_loads k coherent.sound n s here r.words None y w.slot w.depth (writes.way k coherent few s here t y at own on i code w d (moves depth) c0 is_coloured) w.depth r.lays)
          (lying_there k coherent.sound n s here r.words None c.object (plain_of c.value) (placed_there k coherent.sound n s here lay.0 c lay.1), tt))
          (stores_one c.object (plain_of c.value) plain.Nothing (lying_there k coherent.sound n s here r.words None c.object (plain_of c.value) (placed_there k coherent.sound n s here lay.0 c lay.1))) c2 x named free over2 f words);
    }

    cell_read : Gives W (read true (in_cell b q) h)
    cell_read =
        subst (λ m. Gives W (then_some m (λ v. option_map (push_temp v) (take_out (in_cell b q) (load_at (in_cell b q) h))))) (sym (ap cell_value (looks h.work.rest.partition b c leads_it)))
        (subst (λ m. Gives W (option_map (push_temp (value.Own c.value)) (if m then Some (note_write q hs) else None))) (sym (leads_on h.work.rest.partition b c leads_it)) wrote)

  reads_so : (h : Hand) (sp : Spot) → Ready h sp → Gives W (read true sp h)
  reads_so h sp r = by sp r.location r r.ends r.spot
    where
      by : (sp : Spot) (l : Location) → Ready h sp → place w.depth ≡ Some l
          → At s.rest y (cell_of g.cells) place h.work.rest.partition w.depth sp l → Gives W (read true sp h)
      by _ _ r ends (a_slot m) = absurd (ends_in_cell k n t s y w d z depth m ends)
      by _ _ r ends (a_cell b q o c leads_it has object behind) =
          cell_read h b q r c leads_it (ap (cell_of g.cells) object ∙ has) (ends ∙ ap (λ x. Some (in_object x)) (sym object))

  pub moves_done : Gives Ends (step k.options.servers i (writes.start k coherent few s here t y at own on i code w d (moves depth) c0 is_coloured))
  moves_done =
      by_ready k coherent few s here t y at own on i code w d (moves depth) c0 is_coloured
      (λ h sp r. weaker _ Ends (committed (goes_on (read true sp h))) (over k coherent few s here t y at own c0 (read true sp h) (reads_so h sp r)) (λ x q names. q))
