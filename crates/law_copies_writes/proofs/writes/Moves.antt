-- A move through stars that is done: the object of its cell is covered, and all others are what they were, or covered.
use Rattle.std.proofs.Common.{◌≡◌, ℕ, suc, true, if◌then◌else◌, [], ◌∷◌, ◌++◌, Option, Some, None, option_map, refl, sym, ap, subst, ◌∙◌}
use Rattle.std.specs.Prelude.{slice_get}
use Rattle.law_counts_waiting.specs.Below.fr_base.declared.name.ObjNo.{ObjNo}
use Rattle.law_counts_waiting.specs.Below.fr_base.declared.place.Lval.{Lval}
use Rattle.law_counts_waiting.specs.Below.fr_base.declared.instruction.Instr.{Instr}
use Rattle.law_counts_waiting.specs.Below.fr_base.declared.instruction.Instr.TheVariants as instr
use Rattle.law_counts_waiting.specs.Below.heap_partition.declared.value.Cell.{Cell}
use Rattle.law_counts_waiting.specs.Below.heap_partition.declared.value.Owned.TheVariants as owned
use Rattle.law_counts_waiting.specs.Below.owner_box.Partition.{stored}
use Rattle.law_counts_waiting.specs.Below.thread_state.View.{ThreadState}
use Rattle.law_counts_waiting.specs.Below.thread_state.declared.value.Value.TheVariants as value
use Rattle.law_counts_waiting.specs.Below.server_model.declared.event.What.TheVariants.{Step}
use Rattle.law_counts_waiting.specs.Below.server_model.Servers.{Server, Cluster, server_at}
use Rattle.law_counts_waiting.specs.Below.server_model.Work.{Hand, Work, label_all, push_temp, thread_in, with_partition, working, then_some}
use Rattle.law_counts_waiting.specs.Below.server_model.Places.{Spot, in_cell, cell_at, value_in as cell_value, load_at, note_write}
use Rattle.law_counts_waiting.specs.Below.server_model.Commit.{store_labels, take_out, read}
use Rattle.law_counts_waiting.specs.Below.server_model.Events.{enabled}
use Rattle.law_counts_waiting.specs.Below.coherent_memory.Things.{Location, in_cell as in_object}
use Rattle.law_counts_waiting.specs.Below.coherent_types.ClusterTypes.{IsCoherent}
use Rattle.law_counts_waiting.specs.Below.law_counts_sums.Laws.{Gives, FewEvents}
use Rattle.law_words_ends.proofs.Below.law_words_kept.stays.Steps.{TakesNoneHere}
use Rattle.law_counts_waiting.proofs.Below.law_results_reads.Known.{Steps}
use Rattle.law_words_ends.proofs.Below.law_results_events.writes.Memory.{Leads, looks, leads_on}
use Rattle.law_words_ends.proofs.Below.law_results_events.writes.Route.{Writing, At, a_slot, a_cell}
use Rattle.law_words_ends.specs.Below.law_words_asked.writes.Writing.{moves}
use Rattle.law_words_ends.proofs.Below.law_words_asked.writes.Passing.{State}
use Rattle.law_words_ends.proofs.Below.law_words_asked.writes.Hops.{Walk}
use Rattle.law_words_ends.proofs.Below.law_words_asked.writes.Ways.{cell_there, place}
use Rattle.law_words_ends.proofs.Below.law_words_asked.writes.Asking.{steps}
use Rattle.law_words_ends.proofs.Below.law_words_writes.Doing.{free_at_start, untaken_at_start}
use Rattle.law_words_ends.proofs.Below.law_words_writes.EndTypes.{end_alone, end_apart}
use Rattle.law_words_ends.proofs.Below.law_words_writes.Marking.{noted_work, noted_thread, noted_same, together_by, mark_state}
use Rattle.law_words_ends.proofs.Below.law_words_writes.OwnEnds.{ends_in_cell}
use Rattle.law_words_ends.proofs.Below.law_words_writes.Storing.{Tip}
use Rattle.law_words_ends.proofs.Below.law_words_writes.TakenOut.{taken_hand, taken_ok, taken_so}
use Rattle.law_words_ends.proofs.Below.law_words_kept.prepared.Hands.{put, places}
use Rattle.law_copies_writes.proofs.writes.Hops.{Fair}
use Rattle.law_copies_writes.proofs.writes.Settling.{Settles}
use Rattle.law_copies_writes.proofs.writes.Doing.{Does, its_cell}
use Rattle.law_copies_writes.proofs.writes.Marked.{CoveredNow, noted_covered}
use Rattle.law_copies_writes.proofs.writes.Others.{settled_over}
use Rattle.law_copies_writes.proofs.writes.TakenOut.{taken_others}

module _ (k : Cluster) (coherent : IsCoherent k) (few : FewEvents k) (s : Server) (here : server_at k.servers s.rest.number ≡ Some s) (t : ℕ) (y : ThreadState) (at : thread_in s.threads t ≡ Some y)
    (on : enabled k.options s (Step t) ≡ true) (w : Lval) (d : ℕ) (code : slice_get k.code y.pc ≡ Some (instr.Read w true)) (depth : w.depth ≡ suc d) where
  abbrev n : ℕ
  n = s.rest.number

  abbrev i : Instr
  i = instr.Read w true

  abbrev z : Steps k n t s y i
  z = steps k coherent few s here t y at on i code w d (moves depth)

  abbrev Cells : ObjNo → Option Cell
  Cells = cell_there k n t s y i z w d (moves depth)

  abbrev leads : ℕ → Option Location
  leads = place k n t s y i z w d (moves depth)

  abbrev H : Hand → Type 0
  H = Settles k coherent few s here t y at

  abbrev P : Hand → Cluster
  P = put k coherent s here t y at

  abbrev F : Hand → Spot → Location → Type 0
  F = Fair k coherent s here t y at

  untaken_here : TakesNoneHere k.code y
  untaken_here = untaken_at_start k coherent few s here t y at on i code w d (moves depth)

  module _ (h : Hand) (way : Writing s.rest y Cells leads w.depth h) (b : ℕ) (q : Option ℕ) (c : Cell) (walk : Walk k coherent s here t y at h (in_cell b q)) (leads_it : Leads h.work.rest.partition b c) (ends : leads w.depth ≡ Some (in_object c.object)) (fair : F h (in_cell b q) (in_object c.object)) where
    abbrev hm : Hand
    hm = note_write q h

    st : State k coherent s here t y at hm
    st = mark_state k coherent s here t y at h b q walk

    marked : CoveredNow k coherent s here t y at hm c.object
    marked = noted_covered k coherent s here t y at h b q (in_object c.object) c.object refl walk fair (its_cell k coherent few s here t y at on i code w d (moves depth) c.object ends)

    free : h.thread.gift ≡ None
    free = ap (λ (x : ThreadState). x.gift) way.thread ∙ free_at_start k coherent few s here t y at on i code w d (moves depth)

    free_m : hm.thread.gift ≡ None
    free_m = ap (λ (x : ThreadState). x.gift) (noted_thread q h) ∙ free

    leads_m : Leads hm.work.rest.partition b c
    leads_m = subst (λ (x : Work). Leads x.rest.partition b c) (sym (noted_work q h)) leads_it

    tip : Tip k coherent s here t y at c.object
    tip = record { alone = end_alone k n t s y i z w d (moves depth) (in_object c.object) ends; apart = λ a f. end_apart k n t s y i z w d (moves depth) c.object ends untaken_here a f }

    abbrev hl : Hand
    hl = load_at (in_cell b q) h

    abbrev hs : Hand
    hs = working (with_partition (stored h.work.rest.partition b owned.Nothing)) (working (label_all (store_labels (cell_at hl (in_cell b q)) owned.Nothing)) hl)

    abbrev final : Hand
    final = push_temp (value.Own c.value) (note_write q hs)

    abbrev goal : Hand
    goal = taken_hand k coherent s here t y at hm st free_m b c leads_m tip

    same_thread : final.thread ≡ goal.thread
    same_thread = ap (λ (x : ThreadState). record x { temps = x.temps ++ value.Own c.value ∷ [] }) (noted_same q h hs refl) ∙ ap (λ g. record hm.thread { gift = g; temps = hm.thread.temps ++ value.Own c.value ∷ [] }) free_m

    same_rest : final.work.rest ≡ goal.work.rest
    same_rest = ap (λ (x : Work). x.rest) (noted_work q hs) ∙ ap (λ (x : Work). record x.rest { partition = stored x.rest.partition b owned.Nothing }) (sym (noted_work q h))

    cell_done : H final
    cell_done = record {
      reached = goal;
      now = settled_over k (P hm) (P goal) coherent.sound.words.have_words (places k coherent s here t y at hm st.ok) (places k coherent s here t y at goal (taken_ok k coherent s here t y at hm st free_m b c leads_m tip)) marked.now
          (taken_so k coherent s here t y at hm st free_m b c leads_m tip) c.object (taken_others k coherent s here t y at hm st free_m b c leads_m tip) marked.covered;
      fits = taken_ok k coherent s here t y at hm st free_m b c leads_m tip;
      same = together_by goal final same_thread same_rest;
      untaken = subst (λ x. TakesNoneHere k.code x) (sym same_thread) st.untaken;
    }

    cell_read : Gives H (read true (in_cell b q) h)
    cell_read =
        subst (λ m. Gives H (then_some m (λ v. option_map (push_temp v) (take_out (in_cell b q) (load_at (in_cell b q) h))))) (sym (ap cell_value (looks h.work.rest.partition b c leads_it)))
        (subst (λ m. Gives H (option_map (push_temp (value.Own c.value)) (if m then Some (note_write q hs) else None))) (sym (leads_on h.work.rest.partition b c leads_it)) cell_done)

  reads_so : (h : Hand) (sp : Spot) (l : Location) → leads w.depth ≡ Some l → At s.rest y Cells leads h.work.rest.partition w.depth sp l → Writing s.rest y Cells leads w.depth h → Walk k coherent s here t y at h sp → F h sp l → Gives H (read true sp h)
  reads_so h _ _ ends (a_slot m) way walk fair = absurd (ends_in_cell k n t s y w d z depth m ends)
  reads_so h _ _ ends (a_cell b q o c leads_it there object behind) way walk fair = cell_read h way b q c walk leads_it (ends ∙ ap (λ x. Some (in_object x)) (sym object)) (subst (λ x. F h (in_cell b q) (in_object x)) (sym object) fair)

  pub move : Does k coherent few s here t y at on i code w d (moves depth)
  move = record { does_it = λ sp h. read true sp h; commits = λ servers sp h. refl; settles_it = λ h sp l ends spot way walk fair. reads_so h sp l ends spot way walk fair }
