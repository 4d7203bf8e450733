-- An assignment through stars to a variable to which a mutable reference leads, at the server and on the plain machine.
use Rattle.std.proofs.Common.{◌≡◌, ℕ, suc, ◌+◌, true, false, if◌then◌else◌, List, [], ◌∷◌, ◌++◌, map, reverse, length, nat_lt, Bool, Option, Some, None, option_map, refl, sym, ap, ap₂, subst, ◌∙◌, arith}
use Rattle.std.specs.Prelude.{slice_get, slice_set}
use Rattle.law_heap_writes.specs.Below.fr_base.declared.label.Label.{Label}
use Rattle.law_heap_writes.specs.Below.fr_base.declared.place.Lval.{Lval}
use Rattle.law_heap_writes.specs.Below.fr_base.declared.step.Fresh.TheVariants as fresh
use Rattle.law_heap_writes.specs.Below.fr_base.declared.instruction.Operand.{Operand}
use Rattle.law_heap_writes.specs.Below.fr_base.declared.instruction.Instr.{Instr}
use Rattle.law_heap_writes.specs.Below.fr_base.declared.instruction.Instr.TheVariants as instr
use Rattle.law_heap_writes.specs.Below.fr_plain.declared.value.Value.{Value as PlainValue}
use Rattle.law_heap_writes.specs.Below.fr_plain.declared.value.Value.TheVariants as plain_v
use Rattle.law_heap_writes.specs.Below.fr_plain.State as state
use Rattle.law_heap_writes.specs.Below.fr_plain.State.{then_reached, drops, without}
use Rattle.law_heap_writes.specs.Below.fr_plain.MachineActs.{act as act_of, do_assign, assign_did, drops_last, end_of, end_of_some, where_reached, unit}
use Rattle.law_heap_writes.specs.Below.fr_plain.Machine.{step_of}
use Rattle.law_heap_writes.specs.Below.fr_plain.PlainState.{SameState, plain_state}
use Rattle.law_heap_writes.specs.Below.fr_plain.MachineThreads.{dropped}
use Rattle.law_heap_writes.specs.Below.fr_code.Machine.{CodeWhole, CodeRunning}
use Rattle.law_heap_writes.specs.Below.fr_code.Steps.{Place, CodeAct, code_moves, over_at, run_instr, quiet}
use Rattle.law_heap_writes.specs.Below.heap_partition.Plain.{plain_of}
use Rattle.law_heap_writes.specs.Below.heap_partition.declared.value.Owned.{Owned}
use Rattle.law_heap_writes.specs.Below.heap_partition.declared.value.Owned.TheVariants as owned
use Rattle.law_heap_writes.specs.Below.read_cache.Cache.{Copy}
use Rattle.law_heap_writes.specs.Below.migration.Packing.{unpin_all}
use Rattle.law_heap_writes.specs.Below.thread_state.View.{ThreadState}
use Rattle.law_heap_writes.specs.Below.thread_state.declared.value.Value.{Value}
use Rattle.law_heap_writes.specs.Below.thread_state.declared.value.Value.TheVariants as value
use Rattle.law_heap_writes.specs.Below.server_model.declared.event.Event.{Event}
use Rattle.law_heap_writes.specs.Below.server_model.Servers.{Server, Cluster, Rest}
use Rattle.law_heap_writes.specs.Below.server_model.Work.{Hand, label_all, with_slots, with_temps, with_cache, working, then_some}
use Rattle.law_heap_writes.specs.Below.server_model.Places.{Spot, in_slot, nowhere}
use Rattle.law_heap_writes.specs.Below.server_model.Drop.{give_up, drop_labels, drop_value}
use Rattle.law_heap_writes.specs.Below.server_model.Commit.{goes_on, go_on, label_dropped, store_at, replace_at}
use Rattle.law_heap_writes.specs.Below.server_model.Events.{Stepped, committed}
use Rattle.law_heap_writes.specs.Below.coherent_memory.Names.{one}
use Rattle.law_heap_writes.specs.Below.coherent_memory.Things.{Thing, at_slot}
use Rattle.law_heap_writes.specs.Below.coherent_memory.Follow.{locate}
use Rattle.law_heap_writes.specs.Below.coherent_memory.Sight.{Sight, sight}
use Rattle.law_heap_writes.specs.Below.coherent_memory.OneHeap.{Node, owns, plain_value, running_at, one_heap, state_of}
use Rattle.law_heap_writes.specs.Below.coherent_types.ClusterTypes.{IsCoherent}
use Rattle.law_heap_writes.specs.Below.law_counts_sums.Laws.{Gives, FewEvents}
use Rattle.law_heap_writes.proofs.Below.law_counts_sums.Bags.{counts_of}
use Rattle.law_heap_writes.proofs.Below.law_words_paths.paths.Shown.{shown_value}
use Rattle.law_words_writes.proofs.Below.law_heap_still.events.Readied.{readied_slots, copies_ready}
use Rattle.law_words_writes.proofs.Below.law_heap_still.events.Sites.{Moves}
use Rattle.law_heap_writes.specs.Below.law_heap_steps.turns.Turns.{StepsTo}
use Rattle.law_heap_writes.proofs.Below.law_heap_steps.turns.Parts.{value_owns, owned_in}
use Rattle.law_heap_writes.proofs.Below.law_heap_steps.turns.OneTurn.{Calm, after}
use Rattle.law_heap_writes.proofs.Below.law_heap_steps.turns.PlainTurn.{state_at}
use Rattle.law_heap_writes.proofs.Below.law_heap_steps.turns.Instructions.{shown_last, Pops}
use Rattle.law_heap_writes.proofs.Below.law_heap_steps.turns.PlainReads.{stars_shown, plain_spot}
use Rattle.law_heap_writes.proofs.Below.law_heap_steps.turns.ReadWalk.{passed_loads}
use Rattle.law_heap_writes.proofs.Below.law_heap_steps.turns.SlotReads.{set_shown}
use Rattle.law_heap_writes.proofs.Below.law_heap_steps.turns.DropLines.{set_owned}
use Rattle.law_heap_writes.proofs.Below.law_heap_steps.turns.StarLines.{x as standing, goes}
use Rattle.law_heap_writes.proofs.Below.law_heap_steps.turns.StarSteps.{alike_owned}
use Rattle.law_heap_writes.proofs.Below.law_heap_steps.turns.Events.{AtStep, then_same}
use Rattle.law_heap_writes.proofs.Below.law_heap_steps.mutexes.Changed as changed
use Rattle.law_heap_writes.proofs.Below.law_heap_steps.mutexes.DupLines.{running_to}
use Rattle.law_heap_writes.proofs.Below.law_heap_steps.mutexes.OneThread.{GoesOn}
use Rattle.law_heap_writes.proofs.Below.law_heap_steps.mutexes.PlainMutex.{found}
use Rattle.law_heap_writes.proofs.Below.law_heap_steps.mutexes.ThreadTurns.{is_step}
use Rattle.law_heap_writes.proofs.drops.Carrying.{Carries}
use Rattle.law_heap_writes.proofs.drops.Dropped.{drop_shows}
use Rattle.law_heap_writes.proofs.drops.DropLines.{labels_shown}
use Rattle.law_heap_writes.proofs.drops.PlainDrop.{goes_first, first_shows}
use Rattle.law_heap_writes.proofs.drops.ThreadLoses as loses
use Rattle.law_words_writes.specs.Below.law_words_asked.writes.Writing.{assigns}
use Rattle.law_words_writes.proofs.Below.law_results_events.writes.Writes.{Light, owned_value, nothing_left}
use Rattle.law_heap_writes.proofs.writes.AssignCells as cells
use Rattle.law_heap_writes.proofs.writes.GivenUp.{gives_up, given_labels, then_moves, set_alike}
use Rattle.law_heap_writes.proofs.writes.PlainCells.{drops_from}
use Rattle.law_heap_writes.proofs.writes.Readies as readies
use Rattle.law_heap_writes.proofs.writes.Readies.{IsReady}
use Rattle.law_heap_writes.proofs.writes.MoveLines.{nothing_owns}

-- what is left there is given up as an owned value
abbrev pub owned_part : Value → Owned
owned_part (value.Own v) = v
owned_part v = owned.Nothing

light_shown : (v : Value) → Light v → plain_value v ≡ plain_v.Own (plain_of (owned_part v))
light_shown _ (owned_value v) = refl
light_shown _ nothing_left = refl

gone_owns : (q : Node) → owns q owned.Nothing ≡ false
gone_owns = nothing_owns

light_owns : (q : Node) (v : Value) → Light v → value_owns q v ≡ owns q (owned_part v)
light_owns q _ (owned_value v) = refl
light_owns q _ nothing_left = sym (gone_owns q)

light_dropped : (h : Hand) (v : Value) → Light v → drop_value nowhere v h ≡ Some (working (give_up (owned_part v)) h)
light_dropped h _ (owned_value v) = refl
light_dropped h _ nothing_left = refl

light_labels : (v : Value) → Light v → drop_labels v ≡ drop_labels (value.Own (owned_part v))
light_labels _ (owned_value v) = refl
light_labels _ nothing_left = refl

module _ (k : Cluster) (co : IsCoherent k) (few : FewEvents k) (e : Event) (w : Lval) (o : Operand) (s : Server) (t : ℕ) (y : ThreadState) (a : AtStep k e (instr.Assign w o) s t y) (d : ℕ) (depth : w.depth ≡ suc d) where
  abbrev i : Instr
  i = instr.Assign w o

  abbrev n : ℕ
  n = s.rest.number

  abbrev start : Hand
  start = readies.start k co few e i s t y a w d (assigns o depth)

  abbrev Ready : Hand → Spot → Type 0
  Ready = IsReady k co few e i s t y a w d (assigns o depth)

  abbrev Done : Stepped → Type 0
  Done = cells.Done k co few e w o s t y a d depth

  bare : y.gift ≡ None
  bare = cells.bare k co few e w o s t y a d depth

  module _ (h : Hand) (m : ℕ) (r : Ready h (in_slot m)) (ends : locate (sight k).ground y.number w.slot w.depth ≡ Some (at_slot y.number m)) (item : Value) (there : slice_get h.thread.slots m ≡ Some item) (before : slice_get y.slots m ≡ Some item) (light : Light item) (v : Owned) (rest : List Value)
      (pops : Pops o y.temps (value.Own v) rest) where
    abbrev old : Owned
    old = owned_part item

    abbrev new : Value
    new = value.Own v

    -- AT THE SERVER

    abbrev hd : Hand
    hd = working (label_all []) (label_dropped item (with_temps rest h))

    abbrev final : Hand
    final = working (give_up old) (with_slots (slice_set h.thread.slots m new) hd)

    abbrev slots : List Value
    slots = slice_set h.thread.slots m new

    abbrev became : ThreadState
    became = after y (y.pc + 1) slots rest

    thread_is : final.thread ≡ record y { slots = slots; temps = rest; walk = h.thread.walk; passed = h.thread.passed }
    thread_is = ap (λ (x : ThreadState). record x { slots = slots; temps = rest }) r.readied.thread ∙ ap₂ (λ l p. record y { slots = slots; temps = rest; walk = l; passed = p }) (sym (ap (λ (x : ThreadState). x.walk) r.readied.thread)) (sym (ap (λ (x : ThreadState). x.passed) r.readied.thread))

    slots_plain : map plain_value h.thread.slots ≡ map plain_value y.slots
    slots_plain = readied_slots r.readied

    abbrev labels : List Label
    labels = (passed_loads (sight k).ground y.number w.slot w.depth ++ drop_labels (value.Own old)) ++ []

    labels_are : final.work.labels ≡ labels
    labels_are =
        given_labels old (with_slots (slice_set h.thread.slots m new) hd).work ∙ ap₂ (λ l p. (l ++ p) ++ []) r.labels (light_labels item light)

    -- THE STATE

    even : (q : Node) → owned_in q y.slots + owned_in q y.temps ≡ owned_in q slots + owned_in q rest + one (owns q old)
    even q =
        omega (arith, alike_owned q y.slots h.thread.slots slots_plain, set_owned q h.thread.slots m item new there, pops.owned q, ap one (light_owns q item light))

    calm2 : Calm became.phase
    calm2 = record { alone = refl; goes = refl }

    abbrev s1 : Sight
    s1 = loses.s1 k co.sound e i refl s t y a bare old became even

    abbrev s2 : Sight
    s2 = loses.s2 k co.sound e i refl s t y a bare old became even

    abbrev sv : Sight
    sv = loses.with_it k co.sound e i refl s t y a bare old became even (Some old)

    abbrev B : List Thing
    B = loses.B k co.sound e i refl s t y a bare old became even

    abbrev next_y : ThreadState
    next_y = loses.y k co.sound e i refl s t y a bare old became even

    -- ON THE PLAIN MACHINE

    abbrev act : CodeAct
    act = do_assign w (plain_v.Own (plain_of v))

    slots_then : reverse (map plain_value slots) ≡ state.with_slot (shown_last y.slots) m (plain_value new)
    slots_then = ap reverse (set_alike h.thread.slots y.slots m new slots_plain) ∙ sym (set_shown y.slots m new)

    steps : (x : CodeWhole) → SameState (plain_state x) (one_heap k) → StepsTo k.code x y.number fresh.None (state_of s2) final.work.labels
    steps x same =
        let A = state_of s1 in
        let st = state_at x y.number (shown_last y.slots) in
        let after_slots = state.with_slot (shown_last y.slots) m (plain_value new) in
        let plug : PlainValue → Place = λ z. record { pc = y.pc + 1; temps = shown_last rest } in
        let to : CodeRunning = running_to (y.pc + 1) (shown_last rest) after_slots in
        let shown : SameState (plain_state x) A = then_same (plain_state x) (one_heap k) A same (changed.state_before k co.sound e s a.here t y a.at a.number) in
        let goes_to : GoesOn y.number (running_at y) to A (state_of sv) =
        subst (λ z. GoesOn y.number (running_at y) z A (state_of sv)) (ap (λ z. running_to (y.pc + 1) (shown_last rest) z) slots_then) (loses.thread_on k co.sound e i refl s t y a bare old became even calm2 refl) in
        let value_there : state.value_at st (state.in_slot m) ≡ Some (plain_v.Own (plain_of old)) = shown_value y.slots m ∙ ap (option_map plain_value) before ∙ ap Some (light_shown item light) in
        let led = stars_shown k co (standing k co e i s t y a) (goes k co e i s t y a) x same w.slot w.depth (at_slot y.number m) ends in
        let at_end : state.Reached = record { spot = plain_spot (at_slot y.number m); passed = passed_loads (sight k).ground y.number w.slot w.depth } in
        let did : act_of act st ≡ Some (record { value = unit; state = record { thread = y.number; slots = after_slots; heap = without x.heap (plain_v.Own (plain_of old)) }; labels = labels }) =
        ap (λ z. then_reached z (λ p. assign_did st (plain_v.Own (plain_of v)) p (state.value_at st p.spot))) led ∙ ap (assign_did st (plain_v.Own (plain_of v)) at_end) value_there
        ∙ ap (λ l. Some (record { value = unit; state = record { thread = y.number; slots = after_slots; heap = without x.heap (plain_v.Own (plain_of old)) }; labels = (passed_loads (sight k).ground y.number w.slot w.depth ++ l) ++ [] })) (labels_shown old) in
        let last : drops_last act st ≡ end_of x.heap (plain_v.Own (plain_of old)) =
        ap (λ z. where_reached z (λ p. end_of_some (state.with_value st p.spot (plain_v.Own (plain_of v))).heap (state.value_at st p.spot))) led ∙ ap (end_of_some x.heap) value_there in
        let first : CodeWhole = goes_first x goes_to.way y.number to labels in
        let carried : Carries k n next_y B first old = record {
          same = first_shows k.code x y.number (running_at y) to A (state_of sv) goes_to shown (loses.made_on k co.sound e i refl s t y a bare old became even calm2 refl) (loses.objects_on k co.sound e i refl s t y a bare old became even) (loses.mutexes_on k co.sound e i refl s t y a bare old became even)
              (loses.names_on k co.sound e i refl s t y a bare old became even) labels;
          alone = loses.alone_then k co.sound e i refl s t y a bare old became even;
          known = loses.known_then k co.sound e i refl s t y a bare old became even (λ q. refl) (loses.once_then k co.sound e i refl s t y a bare old became even calm2 refl);
        } in
        subst (λ l. StepsTo k.code x y.number fresh.None (state_of s2) l) (sym labels_are) (record {
          after = record { state = dropped first (plain_of old); labels = labels };
          steps = ap (step_of (code_moves k.code) x fresh.None) (found k.code x y.number (running_at y) to A (state_of sv) goes_to shown)
              ∙ drops_from k.code x goes_to.way y.number (running_at y) act plug unit after_slots x.heap labels (ap (λ j. over_at j (shown_last y.temps)) a.code)
              (ap (λ j. run_instr j y.pc (shown_last y.temps)) a.code ∙ pops.taken (λ z ts. quiet (y.pc + 1) ts (do_assign w z))) (λ m p. refl) (plain_of old) did last;
          same = drop_shows k n next_y B (loses.others_known k co.sound e i refl s t y a bare old became even (λ q. refl) (loses.once_then k co.sound e i refl s t y a bare old became even calm2 refl)) first old carried;
          labelled = refl;
        })

    -- THE EVENT

    beside_counts : (r1 r2 : Rest) → Moves [] [] r1 r2 → Moves (counts_of r1.number 0 r1 ∷ []) (counts_of r1.number 0 r1 ∷ []) r1 r2
    beside_counts r1 r2 f = record { number = f.number; alike = λ q z. (let l = f.alike q z in omega (arith, l)) }

    settled : Gives Done (committed (goes_on (Some final)))
    settled = by (unpin_all final.thread.walk final.work.rest.cache)
      where
        by : (z : Option (List Copy)) → Gives Done (option_map (λ h2. record { hand = h2; names = Some fresh.None })
            (option_map (λ cs. record { work = with_cache cs final.work; thread = record (go_on final).thread { passed = 0; walk = []; moved_since_step = false } }) z))
        by None = tt
        by (Some cs) = λ names named sends. is_step k co.sound e i refl s t y a (record { hand = record { work = with_cache cs final.work; thread = record (go_on final).thread { passed = 0; walk = []; moved_since_step = false } }; names = Some fresh.None }) (record {
          became = became;
          names = fresh.None;
          thread = ap (λ (x : ThreadState). after x (x.pc + 1) x.slots x.temps) thread_is ∙ ap (λ z. (let x : ThreadState = record became { gift = z } in x)) bare;
          named = refl;
          comes = counts_of n 0 s.rest ∷ [];
          moves = beside_counts s.rest (record final.work.rest { cache = cs })
              (then_moves s.rest h.work.rest (record final.work.rest { cache = cs }) r.readied.moves
              (then_moves h.work.rest final.work.rest (record final.work.rest { cache = cs }) (gives_up old (with_slots (slice_set h.thread.slots m new) hd).work) (copies_ready final cs []).0.moves));
          beside = (tt, tt);
          unstray = refl;
          once = loses.once_then k co.sound e i refl s t y a bare old became even calm2 refl;
          steps = steps;
        }) sends

    pub slot_assigned : Gives Done (committed (goes_on (replace_at (in_slot m) v (with_temps rest h))))
    slot_assigned =
        subst (λ z. Gives Done (committed (goes_on (then_some z (λ x. then_some (store_at (in_slot m) v (label_dropped x (with_temps rest h))) (drop_value nowhere x)))))) (sym there) (by (nat_lt m (length h.thread.slots)))
      where
        by : (b : Bool) → Gives Done (committed (goes_on (then_some (if b then Some (with_slots (slice_set h.thread.slots m new) hd) else None) (drop_value nowhere item))))
        by true = subst (λ z. Gives Done (committed (goes_on z))) (sym (light_dropped (with_slots (slice_set h.thread.slots m new) hd) item light)) settled
        by false = tt
