-- A move out through stars, at the server and on the plain machine: what stood in the cell is on top, and nothing stands there.
use Rattle.std.proofs.Common.{◌≡◌, ℕ, suc, ◌+◌, true, false, if◌then◌else◌, List, [], ◌∷◌, ◌++◌, map, reverse, Option, Some, None, option_map, refl, sym, ap, ap₂, subst, ◌∙◌, arith, not}
use Rattle.law_heap_writes.specs.Below.fr_base.declared.label.Label.TheVariants as label
use Rattle.law_heap_writes.specs.Below.fr_base.declared.label.Plain.TheVariants as plain
use Rattle.law_heap_writes.specs.Below.fr_base.declared.name.ObjNo.{ObjNo}
use Rattle.law_heap_writes.specs.Below.fr_base.declared.place.Lval.{Lval}
use Rattle.law_heap_writes.specs.Below.fr_base.declared.step.Fresh.{Fresh}
use Rattle.law_heap_writes.specs.Below.fr_base.declared.step.Fresh.TheVariants as fresh
use Rattle.law_heap_writes.specs.Below.fr_base.declared.instruction.Instr.{Instr}
use Rattle.law_heap_writes.specs.Below.fr_base.declared.instruction.Instr.TheVariants as instr
use Rattle.law_heap_writes.specs.Below.fr_plain.declared.value.Value.{Value as PlainValue}
use Rattle.law_heap_writes.specs.Below.fr_plain.declared.value.Value.TheVariants as plain_v
use Rattle.law_heap_writes.specs.Below.fr_plain.Heap.{with_cell}
use Rattle.law_heap_writes.specs.Below.fr_plain.State as state
use Rattle.law_heap_writes.specs.Below.fr_plain.State.{then_reached}
use Rattle.law_heap_writes.specs.Below.fr_plain.MachineActs.{act as act_of, do_read, read_did}
use Rattle.law_heap_writes.specs.Below.fr_plain.PlainState.{SameState, plain_state}
use Rattle.law_heap_writes.specs.Below.fr_code.Machine.{CodeWhole, CodeRunning}
use Rattle.law_heap_writes.specs.Below.fr_code.Steps.{Place, CodeAct, over_at, run_instr}
use Rattle.law_heap_writes.specs.Below.heap_partition.Plain.{plain_of}
use Rattle.law_heap_writes.specs.Below.heap_partition.declared.value.Cell.{Cell}
use Rattle.law_heap_writes.specs.Below.heap_partition.declared.value.Owned.TheVariants as owned
use Rattle.law_heap_writes.specs.Below.owner_box.Partition.{stored}
use Rattle.law_heap_writes.specs.Below.read_cache.Cache.{Copy}
use Rattle.law_heap_writes.specs.Below.migration.Packing.{unpin_all}
use Rattle.law_heap_writes.specs.Below.thread_state.View.{ThreadState}
use Rattle.law_heap_writes.specs.Below.thread_state.declared.value.Value.{Value}
use Rattle.law_heap_writes.specs.Below.thread_state.declared.value.Value.TheVariants as value
use Rattle.law_heap_writes.specs.Below.server_model.declared.event.Event.{Event}
use Rattle.law_heap_writes.specs.Below.server_model.Servers.{Server, Cluster}
use Rattle.law_heap_writes.specs.Below.server_model.Work.{Hand, Work, look, label_all, push_temp, with_partition, with_cache, working, then_some}
use Rattle.law_heap_writes.specs.Below.server_model.Places.{Spot, in_cell, cell_at as cell_of_spot, value_in as cell_value, load_at, note_write, load_of}
use Rattle.law_heap_writes.specs.Below.server_model.Commit.{goes_on, go_on, store_labels, take_out, read}
use Rattle.law_heap_writes.specs.Below.server_model.Events.{Stepped, stepped, committed, step}
use Rattle.law_heap_writes.specs.Below.coherent_memory.Names.{one, same_object}
use Rattle.law_heap_writes.specs.Below.coherent_memory.Things.{Location, Thing, in_cell as in_object}
use Rattle.law_heap_writes.specs.Below.coherent_memory.Follow.{cell_of, locate}
use Rattle.law_heap_writes.specs.Below.coherent_memory.Sight.{Sight, sight}
use Rattle.law_heap_writes.specs.Below.coherent_memory.OneHeap.{Node, object_n, mutex_n, task_n, owns, plain_value, is_in_state, running_at, one_heap, state_of}
use Rattle.law_heap_writes.specs.Below.coherent_types.ClusterTypes.{IsCoherent}
use Rattle.law_heap_writes.specs.Below.law_counts_sums.Laws.{Gives, FewEvents}
use Rattle.law_heap_writes.proofs.Below.law_counts_sums.GiftsTaken.{gift_fits}
use Rattle.law_heap_writes.proofs.Below.law_words_paths.paths.Sole.{some_is}
use Rattle.law_words_writes.proofs.Below.law_heap_still.events.Readied.{readied_slots, copies_ready}
use Rattle.law_words_writes.proofs.Below.law_heap_still.events.Sites.{Moves}
use Rattle.law_words_writes.proofs.Below.law_heap_still.events.Alike.{LocksSeeIn}
use Rattle.law_heap_writes.specs.Below.law_heap_steps.turns.Turns.{StepsTo, IsPlainStep}
use Rattle.law_heap_writes.proofs.Below.law_heap_steps.turns.Parts.{owned_in}
use Rattle.law_heap_writes.proofs.Below.law_heap_steps.turns.OneTurn.{Calm, after}
use Rattle.law_heap_writes.proofs.Below.law_heap_steps.turns.PlainTurn.{state_at}
use Rattle.law_heap_writes.proofs.Below.law_heap_steps.turns.Instructions.{shown_last, shown_push, owned_push}
use Rattle.law_heap_writes.proofs.Below.law_heap_steps.turns.PlainReads.{stars_shown, plain_spot}
use Rattle.law_heap_writes.proofs.Below.law_heap_steps.turns.ReadWalk.{passed_loads}
use Rattle.law_heap_writes.proofs.Below.law_heap_steps.turns.StarLines.{x as standing, goes}
use Rattle.law_heap_writes.proofs.Below.law_heap_steps.turns.StarSteps.{alike_owned}
use Rattle.law_heap_writes.proofs.Below.law_heap_steps.turns.Events.{AtStep, Sends, then_same}
use Rattle.law_heap_writes.proofs.Below.law_heap_steps.mutexes.DupLines.{running_to}
use Rattle.law_heap_writes.proofs.Below.law_heap_steps.mutexes.OneThread.{GoesOn}
use Rattle.law_heap_writes.proofs.Below.law_heap_steps.mutexes.ThreadTurns.{Next}
use Rattle.law_words_writes.proofs.Below.law_results_events.writes.Memory.{Leads, looks, leads_on}
use Rattle.law_words_writes.proofs.Below.law_results_events.writes.Route.{At, a_slot, a_cell}
use Rattle.law_words_writes.specs.Below.law_words_asked.writes.Writing.{moves}
use Rattle.law_words_writes.proofs.Marking.{noted_work, noted_thread, noted_same}
use Rattle.law_words_writes.proofs.OwnEnds.{ends_in_cell}
use Rattle.law_heap_writes.proofs.writes.CellApart as apart
use Rattle.law_heap_writes.proofs.writes.CellChange as change
use Rattle.law_heap_writes.proofs.writes.CellMoves.{cell_moves}
use Rattle.law_heap_writes.proofs.writes.GivenUp.{noted_plain}
use Rattle.law_heap_writes.proofs.writes.PlainCells.{moves_then, steps_there}
use Rattle.law_heap_writes.proofs.writes.Readies as readies
use Rattle.law_heap_writes.proofs.writes.Readies.{IsReady, by_ready}
use Rattle.law_heap_writes.proofs.writes.Seen.{locks_at, inner_at}
use Rattle.law_heap_writes.proofs.writes.Following.{Lay}

pub nothing_owns : (q : Node) → owns q owned.Nothing ≡ false
nothing_owns (object_n o) = refl
nothing_owns (mutex_n m) = refl
nothing_owns (task_n u) = refl

module _ (k : Cluster) (co : IsCoherent k) (few : FewEvents k) (e : Event) (w : Lval) (s : Server) (t : ℕ) (y : ThreadState) (a : AtStep k e (instr.Read w true) s t y) (d : ℕ) (depth : w.depth ≡ suc d) where
  abbrev i : Instr
  i = instr.Read w true

  abbrev n : ℕ
  n = s.rest.number

  abbrev start : Hand
  start = readies.start k co few e i s t y a w d (moves depth)

  abbrev Ready : Hand → Spot → Type 0
  Ready = IsReady k co few e i s t y a w d (moves depth)

  pub bare : y.gift ≡ None
  bare = (gift_fits k co.sound e.server s a.here t y a.at i a.code).0

  abbrev Wanted : Stepped → Type 0
  Wanted x = Sends k e s (stepped s x) → IsPlainStep k (Next k co.sound e i refl s t y a x, (stepped s x).1)

  abbrev Done : Stepped → Type 0
  Done x = (names : Fresh) → x.names ≡ Some names → Wanted x

  -- the hand whose place is ready, and the cell at its end, now and when the event began
  module _ (h : Hand) (b : ℕ) (q : Option ℕ) (r : Ready h (in_cell b q)) (c : Cell) (leads_it : Leads h.work.rest.partition b c) (u : ℕ) (lay : Leads s.rest.partition u c) (has : cell_of (sight k).ground.cells c.object ≡ Some c) (ends : locate (sight k).ground y.number w.slot w.depth ≡ Some (in_object c.object)) where
    abbrev there : look s.rest.partition u ≡ Some c
    there = looks s.rest.partition u c lay

    abbrev O : ObjNo
    O = c.object

    -- AT THE SERVER

    abbrev hl : Hand
    hl = load_at (in_cell b q) h

    abbrev hs : Hand
    hs = working (with_partition (stored h.work.rest.partition b owned.Nothing)) (working (label_all (store_labels (cell_of_spot hl (in_cell b q)) owned.Nothing)) hl)

    abbrev final : Hand
    final = push_temp (value.Own c.value) (note_write q hs)

    abbrev slots : List Value
    slots = (note_write q h).thread.slots

    slots_plain : map plain_value slots ≡ map plain_value y.slots
    slots_plain = noted_plain q h ∙ readied_slots r.readied

    abbrev temps : List Value
    temps = y.temps ++ value.Own c.value ∷ []

    abbrev became : ThreadState
    became = after y (y.pc + 1) slots temps

    thread_is : final.thread ≡ record y { slots = slots; temps = temps; passed = h.thread.passed }
    thread_is =
        ap (λ (v : ThreadState). record v { temps = v.temps ++ value.Own c.value ∷ [] }) (noted_same q h hs refl ∙ noted_thread q h)
        ∙ ap (λ (v : ThreadState). record v { slots = slots; temps = v.temps ++ value.Own c.value ∷ [] }) r.way_there.thread

    rest_is : final.work.rest ≡ record h.work.rest { partition = stored h.work.rest.partition b owned.Nothing }
    rest_is = ap (λ (v : Work). v.rest) (noted_work q hs)

    labels_are : final.work.labels ≡ (passed_loads (sight k).ground y.number w.slot w.depth ++ label.Load O (plain_of c.value) ∷ []) ++ label.Store O plain.Nothing ∷ []
    labels_are =
        ap (λ (v : Work). v.labels) (noted_work q hs) ∙ ap (λ m. (h.work.labels ++ load_of m) ++ store_labels m owned.Nothing) (looks h.work.rest.partition b c leads_it)
        ∙ ap (λ l. (l ++ label.Load O (plain_of c.value) ∷ []) ++ label.Store O plain.Nothing ∷ []) r.labels

    -- THE STATE

    abbrev s1 : Sight
    s1 = change.s1 k co.sound e i refl s t y a bare u c there

    inner : is_in_state s1 (object_n O) ≡ true
    inner = inner_at k co few e i s t y a w d (moves depth) bare u c there ends refl

    slots_owned : (p : Node) → owned_in p slots ≡ owned_in p y.slots
    slots_owned p = alike_owned p slots y.slots (sym slots_plain)

    even : (p : Node) → owned_in p y.slots + owned_in p y.temps + one (owns p c.value) ≡ owned_in p slots + owned_in p temps + 0 + one (owns p owned.Nothing)
    even p = omega (arith, slots_owned p, owned_push p y.temps (value.Own c.value), ap one (nothing_owns p))

    none_inner : (p : Node) → owns p owned.Nothing ≡ true → is_in_state (change.s2 k co.sound e i refl s t y a bare u c there inner (locks_at k co few e i s t y a w d (moves depth) bare u c there ends refl) became owned.Nothing None) (object_n O) ≡ true
    none_inner p f = absurd (cc (sym f ∙ nothing_owns p))

    abbrev paths : LocksSeeIn (λ q. not (same_object q O)) s1
    paths = locks_at k co few e i s t y a w d (moves depth) bare u c there ends refl

    abbrev s2 : Sight
    s2 = change.s2 k co.sound e i refl s t y a bare u c there inner paths became owned.Nothing None

    calm2 : Calm became.phase
    calm2 = record { alone = refl; goes = refl }

    -- ON THE PLAIN MACHINE

    abbrev act : CodeAct
    act = do_read w true

    steps : (v : CodeWhole) → SameState (plain_state v) (one_heap k) → StepsTo k.code v y.number fresh.None (state_of s2) final.work.labels
    steps v same =
        let A = state_of s1 in
        let ls = (passed_loads (sight k).ground y.number w.slot w.depth ++ label.Load O (plain_of c.value) ∷ []) ++ label.Store O plain.Nothing ∷ [] in
        let plug : PlainValue → Place = λ z. record { pc = y.pc + 1; temps = z ∷ shown_last y.temps } in
        let to : CodeRunning = running_to (y.pc + 1) (plain_v.Own (plain_of c.value) ∷ shown_last y.temps) (shown_last y.slots) in
        let shown : SameState (plain_state v) A = then_same (plain_state v) (one_heap k) A same (apart.state_before k co.sound e i refl s t y a bare u c there) in
        let goes_to : GoesOn y.number (running_at y) to A (state_of s2) =
        subst (λ z. GoesOn y.number (running_at y) z A (state_of s2)) (ap₂ (λ l m. running_to (y.pc + 1) l m) (shown_push y.temps (value.Own c.value)) (ap reverse slots_plain))
        (change.thread_on k co.sound e i refl s t y a bare u c there inner paths became owned.Nothing None even none_inner calm2 refl) in
        let before = change.it_before k co.sound e i refl s t y a bare u c there inner paths became owned.Nothing None even none_inner in
        let value_there : state.value_at (state_at v y.number (shown_last y.slots)) (state.in_cell O) ≡ Some (plain_v.Own (plain_of c.value)) = ap state.owned (shown.objects O ∙ before) in
        let led = stars_shown k co (standing k co e i s t y a) (goes k co e i s t y a) v same w.slot w.depth (in_object O) ends in
        let did : act_of act (state_at v y.number (shown_last y.slots)) ≡ Some (record { value = plain_v.Own (plain_of c.value); state = record { thread = y.number; slots = shown_last y.slots; heap = with_cell v.heap O (Some plain.Nothing) }; labels = ls }) =
        ap (λ o. then_reached o (λ z. read_did (state_at v y.number (shown_last y.slots)) true z (state.value_at (state_at v y.number (shown_last y.slots)) z.spot))) led
        ∙ ap (read_did (state_at v y.number (shown_last y.slots)) true (record { spot = plain_spot (in_object O); passed = passed_loads (sight k).ground y.number w.slot w.depth })) value_there in
        subst (λ z. StepsTo k.code v y.number fresh.None (state_of s2) z) (sym labels_are)
        (steps_there k.code v y.number (running_at y) to A (state_of s2) O (plain_of c.value) plain.Nothing goes_to shown
        (change.made_on k co.sound e i refl s t y a bare u c there inner paths became owned.Nothing None even none_inner calm2 refl) before
        (change.it_then k co.sound e i refl s t y a bare u c there inner paths became owned.Nothing None even none_inner) (change.others_on k co.sound e i refl s t y a bare u c there inner paths became owned.Nothing None even none_inner)
        (change.mutexes_on k co.sound e i refl s t y a bare u c there inner paths became owned.Nothing None even none_inner) (change.names_on k co.sound e i refl s t y a bare u c there inner paths became owned.Nothing None even none_inner) ls
        (moves_then k.code v goes_to.way y.number (running_at y) act plug (plain_v.Own (plain_of c.value)) (shown_last y.slots) (with_cell v.heap O (Some plain.Nothing)) ls (ap (λ j. over_at j (shown_last y.temps)) a.code)
        (ap (λ j. run_instr j y.pc (shown_last y.temps)) a.code) (λ m p. refl) did refl))

    -- THE EVENT

    abbrev G2 : List Thing
    G2 = change.G2 k co.sound e i refl s t y a bare u c there inner paths became owned.Nothing None

    settled : Gives Done (committed (goes_on (Some final)))
    settled = by (unpin_all final.thread.walk final.work.rest.cache)
      where
        by : (z : Option (List Copy)) → Gives Done (option_map (λ h2. record { hand = h2; names = Some fresh.None })
            (option_map (λ cs. record { work = with_cache cs final.work; thread = record (go_on final).thread { passed = 0; walk = []; moved_since_step = false } }) z))
        by None = tt
        by (Some cs) = λ names named sends. apart.is_step k co.sound e i refl s t y a bare u c there (record { hand = record { work = with_cache cs final.work; thread = record (go_on final).thread { passed = 0; walk = []; moved_since_step = false } }; names = Some fresh.None }) (record {
          became = became;
          names = fresh.None;
          thread = ap (λ (v : ThreadState). after v (v.pc + 1) v.slots v.temps) thread_is ∙ ap (λ z. (let v : ThreadState = record became { gift = z } in v)) bare;
          named = refl;
          comes = G2;
          moves = cell_moves s.rest h.work.rest (record final.work.rest { cache = cs }) u b c owned.Nothing r.readied.moves (looks h.work.rest.partition b c leads_it)
              (subst (λ z. Moves [] [] z (record final.work.rest { cache = cs })) rest_is (copies_ready final cs []).0.moves);
          beside = (tt, (tt, tt));
          unstray = refl;
          once = change.once_then k co.sound e i refl s t y a bare u c there inner paths became owned.Nothing None calm2;
          steps = steps;
        }) sends

    cell_read : Gives Done (committed (goes_on (read true (in_cell b q) h)))
    cell_read =
        subst (λ m. Gives Done (committed (goes_on (then_some m (λ v. option_map (push_temp v) (take_out (in_cell b q) (load_at (in_cell b q) h))))))) (sym (ap cell_value (looks h.work.rest.partition b c leads_it)))
        (subst (λ m. Gives Done (committed (goes_on (option_map (push_temp (value.Own c.value)) (if m then Some (note_write q hs) else None))))) (sym (leads_on h.work.rest.partition b c leads_it)) settled)

  read_ready : (h : Hand) (sp : Spot) → Ready h sp → Gives Done (committed (goes_on (read true sp h)))
  read_ready h sp r = by sp r.location r r.ends r.spot r.lay
    where
      by : (sp : Spot) (l : Location) → Ready h sp → locate (sight k).ground y.number w.slot w.depth ≡ Some l → At s.rest y (cell_of (sight k).ground.cells) (locate (sight k).ground y.number w.slot) h.work.rest.partition w.depth sp l
          → Lay (sight k).ground s.rest y w.slot w.depth (readies.way k co few e i s t y a w d (moves depth)) l → Gives Done (committed (goes_on (read true sp h)))
      by _ _ r ends (a_slot m) lay = absurd (ends_in_cell k e.server t s y w d (readies.step_here k co few e i s t y a w d (moves depth)) depth m ends)
      by _ _ r ends (a_cell b q o c leads_it has object behind) lay =
          let same : lay.1 ≡ c = some_is (sym lay.2 ∙ has) in
          cell_read h b q r c leads_it lay.0 (subst (Leads s.rest.partition lay.0) same lay.3) (ap (cell_of (sight k).ground.cells) object ∙ has) (ends ∙ ap (λ z. Some (in_object z)) (sym object))

  pub move_line : Gives Done (step k.options.servers i start)
  move_line = by_ready k co few e i s t y a w d (moves depth) Wanted (λ h sp r. read_ready h sp r)
