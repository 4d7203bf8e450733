-- An assignment through stars to a cell, at the server and on the plain machine: the value on top stands there, and what stood there is dropped.
use Rattle.std.proofs.Common.{◌≡◌, ◌≤◌, ℕ, suc, ◌+◌, true, false, if◌then◌else◌, List, [], ◌∷◌, ◌++◌, map, reverse, not, Option, Some, None, option_map, refl, sym, ap, subst, ◌∙◌, arith}
use Rattle.law_heap_writes.specs.Below.fr_base.declared.label.Label.{Label}
use Rattle.law_heap_writes.specs.Below.fr_base.declared.label.Label.TheVariants as label
use Rattle.law_heap_writes.specs.Below.fr_base.declared.name.ObjNo.{ObjNo}
use Rattle.law_heap_writes.specs.Below.fr_base.declared.place.Lval.{Lval}
use Rattle.law_heap_writes.specs.Below.fr_base.declared.step.Fresh.{Fresh}
use Rattle.law_heap_writes.specs.Below.fr_base.declared.step.Fresh.TheVariants as fresh
use Rattle.law_heap_writes.specs.Below.fr_base.declared.instruction.Operand.{Operand}
use Rattle.law_heap_writes.specs.Below.fr_base.declared.instruction.Instr.{Instr}
use Rattle.law_heap_writes.specs.Below.fr_base.declared.instruction.Instr.TheVariants as instr
use Rattle.law_heap_writes.specs.Below.fr_plain.declared.value.Value.{Value as PlainValue}
use Rattle.law_heap_writes.specs.Below.fr_plain.declared.value.Value.TheVariants as plain_v
use Rattle.law_heap_writes.specs.Below.fr_plain.Heap.{Heap, with_cell}
use Rattle.law_heap_writes.specs.Below.fr_plain.State as state
use Rattle.law_heap_writes.specs.Below.fr_plain.State.{then_reached, drops, without}
use Rattle.law_heap_writes.specs.Below.fr_plain.MachineActs.{act as act_of, do_assign, assign_did, drops_last, end_of, end_of_some, where_reached, unit}
use Rattle.law_heap_writes.specs.Below.fr_plain.PlainState.{SameState, plain_state}
use Rattle.law_heap_writes.specs.Below.fr_plain.MachineThreads.{dropped}
use Rattle.law_heap_writes.specs.Below.fr_plain.Machine.{step_of}
use Rattle.law_heap_writes.specs.Below.fr_code.Machine.{CodeWhole, CodeRunning}
use Rattle.law_heap_writes.specs.Below.fr_code.Steps.{Place, CodeAct, over_at, run_instr, quiet, code_moves}
use Rattle.law_heap_writes.specs.Below.heap_partition.Plain.{plain_of}
use Rattle.law_heap_writes.specs.Below.heap_partition.declared.value.Cell.{Cell}
use Rattle.law_heap_writes.specs.Below.heap_partition.declared.value.Owned.{Owned}
use Rattle.law_heap_writes.specs.Below.owner_box.Partition.{stored}
use Rattle.law_heap_writes.specs.Below.read_cache.Cache.{Copy}
use Rattle.law_heap_writes.specs.Below.migration.Packing.{unpin_all}
use Rattle.law_heap_writes.specs.Below.thread_state.View.{ThreadState}
use Rattle.law_heap_writes.specs.Below.thread_state.declared.value.Value.{Value}
use Rattle.law_heap_writes.specs.Below.thread_state.declared.value.Value.TheVariants as value
use Rattle.law_heap_writes.specs.Below.server_model.declared.event.Event.{Event}
use Rattle.law_heap_writes.specs.Below.server_model.Servers.{Server, Cluster}
use Rattle.law_heap_writes.specs.Below.server_model.Work.{Hand, Work, look, label_all, with_partition, with_temps, with_cache, working, then_some}
use Rattle.law_heap_writes.specs.Below.server_model.Places.{Spot, in_cell, cell_at as cell_of_spot, value_in as cell_value, note_write, nowhere}
use Rattle.law_heap_writes.specs.Below.server_model.Drop.{give_up, drop_labels, drop_value}
use Rattle.law_heap_writes.specs.Below.server_model.Commit.{goes_on, go_on, label_dropped, store_labels, store_at, replace_at}
use Rattle.law_heap_writes.specs.Below.server_model.Events.{Stepped, stepped, committed}
use Rattle.law_heap_writes.specs.Below.coherent_memory.Names.{one, same_object}
use Rattle.law_heap_writes.specs.Below.coherent_memory.Things.{Thing, in_cell as in_object}
use Rattle.law_heap_writes.specs.Below.coherent_memory.Follow.{cell_of, locate}
use Rattle.law_heap_writes.specs.Below.coherent_memory.Sight.{Sight, sight}
use Rattle.law_heap_writes.specs.Below.coherent_memory.OneHeap.{Node, object_n, owns, plain_value, is_in_state, running_at, one_heap, state_of}
use Rattle.law_heap_writes.specs.Below.coherent_types.ClusterTypes.{IsCoherent}
use Rattle.law_heap_writes.specs.Below.law_counts_sums.Laws.{Gives, FewEvents}
use Rattle.law_heap_writes.proofs.Below.law_counts_sums.GiftsTaken.{gift_fits}
use Rattle.law_words_writes.proofs.Below.law_heap_still.events.Readied.{readied_slots, copies_ready}
use Rattle.law_words_writes.proofs.Below.law_heap_still.events.Sites.{Moves}
use Rattle.law_words_writes.proofs.Below.law_heap_still.events.Alike.{LocksSeeIn}
use Rattle.law_heap_writes.specs.Below.law_heap_steps.turns.Turns.{StepsTo, IsPlainStep}
use Rattle.law_heap_writes.proofs.Below.law_heap_steps.turns.Parts.{value_owns, owned_in}
use Rattle.law_heap_writes.proofs.Below.law_heap_steps.turns.OneTurn.{Calm, after}
use Rattle.law_heap_writes.proofs.Below.law_heap_steps.turns.PlainTurn.{state_at}
use Rattle.law_heap_writes.proofs.Below.law_heap_steps.turns.Instructions.{shown_last, Pops}
use Rattle.law_heap_writes.proofs.Below.law_heap_steps.turns.PlainReads.{stars_shown, plain_spot}
use Rattle.law_heap_writes.proofs.Below.law_heap_steps.turns.ReadWalk.{passed_loads}
use Rattle.law_heap_writes.proofs.Below.law_heap_steps.turns.StarLines.{x as standing, goes}
use Rattle.law_heap_writes.proofs.Below.law_heap_steps.turns.StarSteps.{alike_owned}
use Rattle.law_heap_writes.proofs.Below.law_heap_steps.turns.Events.{AtStep, Sends, then_same}
use Rattle.law_heap_writes.proofs.Below.law_heap_steps.mutexes.DupLines.{running_to}
use Rattle.law_heap_writes.proofs.Below.law_heap_steps.mutexes.OneThread.{GoesOn}
use Rattle.law_heap_writes.proofs.Below.law_heap_steps.mutexes.PlainMutex.{found}
use Rattle.law_heap_writes.proofs.Below.law_heap_steps.mutexes.ThreadTurns.{Next}
use Rattle.law_heap_writes.proofs.Below.law_heap_steps.mutexes.ThreadTurns as turns
use Rattle.law_heap_writes.proofs.drops.Carrying.{Carries}
use Rattle.law_heap_writes.proofs.drops.Dropped.{drop_shows}
use Rattle.law_heap_writes.proofs.drops.DropLines.{labels_shown}
use Rattle.law_heap_writes.proofs.Below.law_results_reads.Known as known
use Rattle.law_words_writes.proofs.Below.law_results_events.writes.Memory.{Leads, looks, leads_on}
use Rattle.law_words_writes.specs.Below.law_words_asked.writes.Writing.{assigns}
use Rattle.law_words_writes.proofs.Marking.{noted_work, noted_thread, noted_same}
use Rattle.law_heap_writes.proofs.writes.CellApart as apart
use Rattle.law_heap_writes.proofs.writes.CellChange as change
use Rattle.law_heap_writes.proofs.writes.CellMoves.{cell_moves}
use Rattle.law_heap_writes.proofs.writes.CellOthers as others
use Rattle.law_heap_writes.proofs.writes.Chains.{Chain, chain_to}
use Rattle.law_heap_writes.proofs.writes.GivenUp.{gives_up, given_labels, then_moves, noted_plain, noted_temps}
use Rattle.law_heap_writes.proofs.writes.PlainCells.{goes_with_heap, drops_from, heap_shows}
use Rattle.law_heap_writes.proofs.writes.Readies as readies
use Rattle.law_heap_writes.proofs.writes.Readies.{IsReady}
use Rattle.law_heap_writes.proofs.writes.Seen.{locks_at, inner_at}
use Rattle.law_heap_writes.proofs.writes.Untouched.{own_end}

-- what a constant owns is nothing, and else the value was a temporary one
pub popped_from : (o : Operand) (vs : List Value) (v : Value) (rest : List Value) → Pops o vs v rest → (q : Node) → value_owns q v ≡ true → 1 ≤ owned_in q vs
popped_from o vs v rest u q e = omega (arith, u.owned q, ap one e)

module _ (k : Cluster) (co : IsCoherent k) (few : FewEvents k) (e : Event) (w : Lval) (o : Operand) (s : Server) (t : ℕ) (y : ThreadState) (a : AtStep k e (instr.Assign w o) s t y) (d : ℕ) (depth : w.depth ≡ suc d) where
  abbrev pub i : Instr
  i = instr.Assign w o

  abbrev n : ℕ
  n = s.rest.number

  abbrev pub start : Hand
  start = readies.start k co few e i s t y a w d (assigns o depth)

  abbrev pub Ready : Hand → Spot → Type 0
  Ready = IsReady k co few e i s t y a w d (assigns o depth)

  pub bare : y.gift ≡ None
  bare = (gift_fits k co.sound e.server s a.here t y a.at i a.code).0

  abbrev pub Wanted : Stepped → Type 0
  Wanted x = Sends k e s (stepped s x) → IsPlainStep k (Next k co.sound e i refl s t y a x, (stepped s x).1)

  abbrev pub Done : Stepped → Type 0
  Done x = (names : Fresh) → x.names ≡ Some names → Wanted x

  -- the hand whose place is ready, and the cell at its end, now and when the event began; and the value that the operand takes
  module _ (h : Hand) (b : ℕ) (q : Option ℕ) (r : Ready h (in_cell b q)) (c : Cell) (leads_it : Leads h.work.rest.partition b c) (u : ℕ) (lay : Leads s.rest.partition u c) (has : cell_of (sight k).ground.cells c.object ≡ Some c)
      (ends : locate (sight k).ground y.number w.slot w.depth ≡ Some (in_object c.object)) (v : Owned) (rest : List Value) (pops : Pops o y.temps (value.Own v) rest) where
    abbrev there : look s.rest.partition u ≡ Some c
    there = looks s.rest.partition u c lay

    abbrev O : ObjNo
    O = c.object

    abbrev old : Owned
    old = c.value

    -- AT THE SERVER

    abbrev hd : Hand
    hd = label_dropped (value.Own old) (with_temps rest h)

    abbrev hs : Hand
    hs = working (with_partition (stored h.work.rest.partition b v)) (working (label_all (store_labels (cell_of_spot hd (in_cell b q)) v)) hd)

    abbrev final : Hand
    final = working (give_up old) (note_write q hs)

    abbrev slots : List Value
    slots = (note_write q h).thread.slots

    slots_plain : map plain_value slots ≡ map plain_value y.slots
    slots_plain = noted_plain q h ∙ readied_slots r.readied

    abbrev became : ThreadState
    became = after y (y.pc + 1) slots rest

    thread_is : final.thread ≡ record y { slots = slots; temps = rest; passed = h.thread.passed }
    thread_is =
        noted_same q (with_temps rest h) hs refl ∙ noted_temps q h rest ∙ ap (λ (x : ThreadState). record x { temps = rest }) (noted_thread q h) ∙ ap (λ (x : ThreadState). record x { slots = slots; temps = rest }) r.way_there.thread

    rest_is : (note_write q hs).work.rest ≡ record h.work.rest { partition = stored h.work.rest.partition b v }
    rest_is = ap (λ (x : Work). x.rest) (noted_work q hs)

    abbrev labels : List Label
    labels = (passed_loads (sight k).ground y.number w.slot w.depth ++ drop_labels (value.Own old)) ++ label.Store O (plain_of v) ∷ []

    labels_are : final.work.labels ≡ labels
    labels_are =
        given_labels old (note_write q hs).work ∙ ap (λ (x : Work). x.labels) (noted_work q hs) ∙ ap (λ m. (h.work.labels ++ drop_labels (value.Own old)) ++ store_labels m v) (looks h.work.rest.partition b c leads_it)
        ∙ ap (λ l. (l ++ drop_labels (value.Own old)) ++ label.Store O (plain_of v) ∷ []) r.labels

    -- THE STATE

    abbrev s1 : Sight
    s1 = change.s1 k co.sound e i refl s t y a bare u c there

    inner : is_in_state s1 (object_n O) ≡ true
    inner = inner_at k co few e i s t y a w d (assigns o depth) bare u c there ends refl

    abbrev paths : LocksSeeIn (λ p. not (same_object p O)) s1
    paths = locks_at k co few e i s t y a w d (assigns o depth) bare u c there ends refl

    abbrev z : known.Steps k e.server t s y i
    z = readies.step_here k co few e i s t y a w d (assigns o depth)

    on_way : (xs : List ObjNo) × Chain y.slots (cell_of (sight k).ground.cells) O xs
    on_way =
        let own = own_end k e.server t s y i z w d (assigns o depth) (turns.quiet k co.sound e i refl s t y a).alone O ends in
        chain_to k (known.paths k e.server t s y i z) (known.standing k e.server t s y i z) (known.goes k e.server t s y i z) own.0 own.1 O own.2

    slots_stay : (p : Node) → owned_in p y.slots ≡ owned_in p slots
    slots_stay p = sym (alike_owned p slots y.slots (sym slots_plain))

    even : (p : Node) → owned_in p y.slots + owned_in p y.temps ≡ owned_in p slots + owned_in p rest + one (owns p v)
    even p = omega (arith, slots_stay p, pops.owned p)

    from_temps : (p : Node) → owns p v ≡ true → 1 ≤ owned_in p y.temps
    from_temps p f = popped_from o y.temps (value.Own v) rest pops p f

    calm2 : Calm became.phase
    calm2 = record { alone = refl; goes = refl }

    stays_in : (p : Node) → owns p v ≡ true → is_in_state (change.s2 k co.sound e i refl s t y a bare u c there inner paths became v (Some old)) (object_n O) ≡ true
    stays_in p f =
        others.stays_in k co.sound (known.paths k e.server t s y i z) e i refl s t y a (known.goes k e.server t s y i z) bare u c there inner paths became v on_way.0 on_way.1 even slots_stay from_temps (Some old)

    even_hand : (p : Node) → owned_in p y.slots + owned_in p y.temps + one (owns p old) ≡ owned_in p slots + owned_in p rest + one (owns p old) + one (owns p v)
    even_hand p = omega (arith, even p)

    abbrev sv : Sight
    sv = change.s2 k co.sound e i refl s t y a bare u c there inner paths became v (Some old)

    abbrev s2 : Sight
    s2 = change.s2 k co.sound e i refl s t y a bare u c there inner paths became v None

    abbrev B : List Thing
    B = others.B k co.sound (known.paths k e.server t s y i z) e i refl s t y a (known.goes k e.server t s y i z) bare u c there inner paths became v on_way.0 on_way.1 even slots_stay from_temps

    abbrev next_y : ThreadState
    next_y = others.y k co.sound (known.paths k e.server t s y i z) e i refl s t y a (known.goes k e.server t s y i z) bare u c there inner paths became v on_way.0 on_way.1 even slots_stay from_temps

    -- ON THE PLAIN MACHINE

    abbrev act : CodeAct
    act = do_assign w (plain_v.Own (plain_of v))

    steps : (x : CodeWhole) → SameState (plain_state x) (one_heap k) → StepsTo k.code x y.number fresh.None (state_of s2) final.work.labels
    steps x same =
        let A = state_of s1 in
        let st = state_at x y.number (shown_last y.slots) in
        let plug : PlainValue → Place = λ m. record { pc = y.pc + 1; temps = shown_last rest } in
        let to : CodeRunning = running_to (y.pc + 1) (shown_last rest) (shown_last y.slots) in
        let shown : SameState (plain_state x) A = then_same (plain_state x) (one_heap k) A same (apart.state_before k co.sound e i refl s t y a bare u c there) in
        let goes_to : GoesOn y.number (running_at y) to A (state_of sv) =
        subst (λ m. GoesOn y.number (running_at y) m A (state_of sv)) (ap (λ m. running_to (y.pc + 1) (shown_last rest) m) (ap reverse slots_plain))
        (change.thread_on k co.sound e i refl s t y a bare u c there inner paths became v (Some old) even_hand stays_in calm2 refl) in
        let before = change.it_before k co.sound e i refl s t y a bare u c there inner paths became v (Some old) even_hand stays_in in
        let value_there : state.value_at st (state.in_cell O) ≡ Some (plain_v.Own (plain_of old)) = ap state.owned (shown.objects O ∙ before) in
        let led = stars_shown k co (standing k co e i s t y a) (goes k co e i s t y a) x same w.slot w.depth (in_object O) ends in
        let heap : Heap = with_cell x.heap O (Some (plain_of v)) in
        let at_end : state.Reached = record { spot = plain_spot (in_object O); passed = passed_loads (sight k).ground y.number w.slot w.depth } in
        let did : act_of act st ≡ Some (record { value = unit; state = record { thread = y.number; slots = shown_last y.slots; heap = without heap (plain_v.Own (plain_of old)) }; labels = labels }) =
        ap (λ m. then_reached m (λ p. assign_did st (plain_v.Own (plain_of v)) p (state.value_at st p.spot))) led ∙ ap (assign_did st (plain_v.Own (plain_of v)) at_end) value_there
        ∙ ap (λ l. Some (record { value = unit; state = record { thread = y.number; slots = shown_last y.slots; heap = without heap (plain_v.Own (plain_of old)) }; labels = (passed_loads (sight k).ground y.number w.slot w.depth ++ l) ++ label.Store O (plain_of v) ∷ [] })) (labels_shown old) in
        let last : drops_last act st ≡ end_of heap (plain_v.Own (plain_of old)) =
        ap (λ m. where_reached m (λ p. end_of_some (state.with_value st p.spot (plain_v.Own (plain_of v))).heap (state.value_at st p.spot))) led ∙ ap (end_of_some heap) value_there in
        let first : CodeWhole = goes_with_heap x goes_to.way y.number to heap labels in
        let carried : Carries k n next_y B first old = record {
          same = heap_shows k.code x y.number (running_at y) to A (state_of sv) O (plain_of old) (plain_of v) goes_to shown (change.made_on k co.sound e i refl s t y a bare u c there inner paths became v (Some old) even_hand stays_in calm2 refl) before
              (change.it_then k co.sound e i refl s t y a bare u c there inner paths became v (Some old) even_hand stays_in) (change.others_on k co.sound e i refl s t y a bare u c there inner paths became v (Some old) even_hand stays_in)
              (change.mutexes_on k co.sound e i refl s t y a bare u c there inner paths became v (Some old) even_hand stays_in) (change.names_on k co.sound e i refl s t y a bare u c there inner paths became v (Some old) even_hand stays_in) labels;
          alone = others.alone_then k co.sound (known.paths k e.server t s y i z) e i refl s t y a (known.goes k e.server t s y i z) bare u c there inner paths became v on_way.0 on_way.1 even slots_stay from_temps;
          known = others.known_then k co.sound (known.paths k e.server t s y i z) e i refl s t y a (known.goes k e.server t s y i z) bare u c there inner paths became v on_way.0 on_way.1 even slots_stay from_temps calm2;
        } in
        subst (λ l. StepsTo k.code x y.number fresh.None (state_of s2) l) (sym labels_are) (record {
          after = record { state = dropped first (plain_of old); labels = labels };
          steps = ap (step_of (code_moves k.code) x fresh.None) (found k.code x y.number (running_at y) to A (state_of sv) goes_to shown)
              ∙ drops_from k.code x goes_to.way y.number (running_at y) act plug unit (shown_last y.slots) heap labels (ap (λ j. over_at j (shown_last y.temps)) a.code)
              (ap (λ j. run_instr j y.pc (shown_last y.temps)) a.code ∙ pops.taken (λ m ts. quiet (y.pc + 1) ts (do_assign w m))) (λ m p. refl) (plain_of old) did last;
          same = drop_shows k n next_y B (others.others_known k co.sound (known.paths k e.server t s y i z) e i refl s t y a (known.goes k e.server t s y i z) bare u c there inner paths became v on_way.0 on_way.1 even slots_stay from_temps calm2) first old carried;
          labelled = refl;
        })

    -- THE EVENT

    settled : Gives Done (committed (goes_on (Some final)))
    settled = by (unpin_all final.thread.walk final.work.rest.cache)
      where
        by : (m : Option (List Copy)) → Gives Done (option_map (λ h2. record { hand = h2; names = Some fresh.None })
            (option_map (λ cs. record { work = with_cache cs final.work; thread = record (go_on final).thread { passed = 0; walk = []; moved_since_step = false } }) m))
        by None = tt
        by (Some cs) = λ names named sends. apart.is_step k co.sound e i refl s t y a bare u c there (record { hand = record { work = with_cache cs final.work; thread = record (go_on final).thread { passed = 0; walk = []; moved_since_step = false } }; names = Some fresh.None }) (record {
          became = became;
          names = fresh.None;
          thread = ap (λ (x : ThreadState). after x (x.pc + 1) x.slots x.temps) thread_is ∙ ap (λ m. (let x : ThreadState = record became { gift = m } in x)) bare;
          named = refl;
          comes = change.G2 k co.sound e i refl s t y a bare u c there inner paths became v None;
          moves = cell_moves s.rest h.work.rest (record final.work.rest { cache = cs }) u b c v r.readied.moves (looks h.work.rest.partition b c leads_it)
              (subst (λ m. Moves [] [] m (record final.work.rest { cache = cs })) rest_is (then_moves (note_write q hs).work.rest final.work.rest (record final.work.rest { cache = cs }) (gives_up old (note_write q hs).work) (copies_ready final cs []).0.moves));
          beside = (tt, (tt, tt));
          unstray = refl;
          once = change.once_then k co.sound e i refl s t y a bare u c there inner paths became v None calm2;
          steps = steps;
        }) sends

    pub cell_assigned : Gives Done (committed (goes_on (replace_at (in_cell b q) v (with_temps rest h))))
    cell_assigned =
        subst (λ m. Gives Done (committed (goes_on (then_some m (λ x. then_some (store_at (in_cell b q) v (label_dropped x (with_temps rest h))) (drop_value nowhere x)))))) (sym (ap cell_value (looks h.work.rest.partition b c leads_it)))
        (subst (λ m. Gives Done (committed (goes_on (then_some (if m then Some (note_write q hs) else None) (drop_value nowhere (value.Own old)))))) (sym (leads_on h.work.rest.partition b c leads_it)) settled)
