-- A step that drops an owned value, whatever it owns, at the server and on the plain machine.
use Rattle.std.proofs.Common.{◌≡◌, ℕ, ◌+◌, true, false, List, [], ◌∷◌, ◌++◌, length, Option, Some, None, option_map, refl, sym, ap, ap₂, subst, ◌∙◌, arith}
use Rattle.std.specs.Prelude.{◌-◌, slice_get, slice_set, nat_lt, Bool, if◌then◌else◌}
use Rattle.law_words_writes.specs.Below.law_results_reads.Below.fr_base.Lists.{last_of}
use Rattle.law_words_writes.specs.Below.law_results_reads.Below.fr_base.declared.label.Label.{Label}
use Rattle.law_words_writes.specs.Below.law_results_reads.Below.fr_base.declared.release.Released.TheVariants as released
use Rattle.law_words_writes.specs.Below.law_results_reads.Below.fr_base.declared.step.Fresh.TheVariants as fresh
use Rattle.law_words_writes.specs.Below.law_results_reads.Below.fr_base.declared.instruction.Instr.{Instr}
use Rattle.law_words_writes.specs.Below.law_results_reads.Below.fr_base.declared.instruction.Instr.TheVariants as instr
use Rattle.law_words_writes.specs.Below.law_results_reads.Below.fr_plain.declared.value.Value.{Value as PlainValue}
use Rattle.law_words_writes.specs.Below.law_results_reads.Below.fr_plain.declared.value.Value.TheVariants as plain_v
use Rattle.law_words_writes.specs.Below.law_results_reads.Below.fr_base.declared.place.Lval.{Lval}
use Rattle.law_words_writes.specs.Below.law_results_reads.Below.fr_base.declared.instruction.Operand.{Operand}
use Rattle.law_words_writes.specs.Below.law_results_reads.Below.fr_plain.State.{drops, without, slot_at}
use Rattle.law_words_writes.specs.Below.law_results_reads.Below.fr_plain.State.{in_slot as state_slot}
use Rattle.law_words_writes.specs.Below.law_results_reads.Below.fr_plain.MachineActs.{Did, assign_did, end_of_some, do_assign, act as act_of, drops_last, do_discard, do_drop, end_of, unit}
use Rattle.law_words_writes.specs.Below.law_results_reads.Below.fr_plain.MachineThreads.{going}
use Rattle.law_words_writes.specs.Below.law_results_reads.Below.fr_plain.Machine.{done_act, alone_stepped, step_of}
use Rattle.law_words_writes.specs.Below.law_results_reads.Below.fr_plain.PlainState.{SameState, plain_state}
use Rattle.law_words_writes.specs.Below.law_results_reads.Below.fr_code.Machine.{CodeWhole, CodeRunning}
use Rattle.law_words_writes.specs.Below.law_results_reads.Below.fr_code.Steps.{Place, CodeAct, code_moves, over_at, run_instr, quiet}
use Rattle.law_words_writes.specs.Below.law_results_reads.Below.global_addr.Words.{server_of}
use Rattle.law_words_writes.specs.Below.law_results_reads.Below.heap_partition.Plain.{plain_of}
use Rattle.law_words_writes.specs.Below.law_results_reads.Below.heap_partition.declared.value.Owned.{Owned}
use Rattle.law_words_writes.specs.Below.law_results_reads.Below.heap_partition.declared.value.Owned.TheVariants as owned
use Rattle.law_words_writes.specs.Below.law_results_reads.Below.read_cache.Cache.{Copy}
use Rattle.law_words_writes.specs.Below.law_results_reads.Below.migration.Packing.{unpin_all}
use Rattle.law_words_writes.specs.Below.law_results_reads.Below.thread_state.View.{ThreadState}
use Rattle.law_words_writes.specs.Below.law_results_reads.Below.thread_state.declared.value.Value.{Value}
use Rattle.law_words_writes.specs.Below.law_results_reads.Below.thread_state.declared.value.Value.TheVariants as value
use Rattle.law_words_writes.specs.Below.law_results_reads.Below.journal.declared.act.Act.TheVariants as act
use Rattle.law_words_writes.specs.Below.law_results_reads.Below.server_msgs.declared.message.Message.TheVariants as message
use Rattle.law_words_writes.specs.Below.law_results_reads.Below.server_model.declared.event.Event.{Event}
use Rattle.law_words_writes.specs.Below.law_results_reads.Below.server_model.Servers.{Server, Cluster}
use Rattle.law_words_writes.specs.Below.law_results_reads.Below.server_model.Work.{Work, Hand, Popped, pop, note, label_all, front_of, with_slots, with_temps, with_cache, then_some}
use Rattle.law_words_writes.specs.Below.law_results_reads.Below.server_model.Places.{put_slot, nowhere, in_slot, on_top}
use Rattle.law_words_writes.specs.Below.law_results_reads.Below.server_model.Prepare.{prepare, ending}
use Rattle.law_words_writes.specs.Below.law_results_reads.Below.server_model.Drop.{home_of, give_up, drop_labels, drop_value}
use Rattle.law_words_writes.specs.Below.law_results_reads.Below.server_model.Commit.{goes_on, go_on, label_dropped, replace_slot}
use Rattle.law_words_writes.specs.Below.law_results_reads.Below.server_model.Events.{Stepped, stepped, begin_work, committed, prepared, step}
use Rattle.law_words_writes.specs.Below.law_results_reads.Below.coherent_memory.Names.{one}
use Rattle.law_words_writes.specs.Below.law_results_reads.Below.coherent_memory.Things.{Thing}
use Rattle.law_words_writes.specs.Below.law_results_reads.Below.coherent_memory.Sight.{Sight}
use Rattle.law_words_writes.specs.Below.law_results_reads.Below.coherent_memory.Requests.{is_par_end}
use Rattle.law_words_writes.specs.Below.law_results_reads.Below.coherent_memory.OneHeap.{Node, plain_value, owns, running_at, one_heap, state_of}
use Rattle.law_words_writes.specs.Below.law_results_reads.Below.coherent_memory.Coherent.{IsSound}
use Rattle.law_words_writes.specs.Below.law_results_reads.Below.law_counts_sums.Laws.{Gives}
use Rattle.law_words_writes.proofs.Below.law_results_reads.Below.law_counts_sums.Bags.{counts_of, rest_things}
use Rattle.law_words_writes.proofs.Below.law_results_reads.Below.law_counts_sums.GiftsTaken.{gift_fits}
use Rattle.law_words_writes.proofs.Below.law_results_reads.Below.law_counts_sums.Values.{last_split}
use Rattle.law_heap_steps.proofs.Below.law_heap_still.events.Readied.{copies_ready}
use Rattle.law_heap_steps.proofs.Below.law_heap_still.events.Sites.{shown, Moves, sends}
use Rattle.law_heap_steps.specs.turns.Turns.{StepsTo, IsPlainStep}
use Rattle.law_heap_steps.proofs.turns.Parts.{owned_in}
use Rattle.law_heap_steps.proofs.turns.OneTurn.{Calm, Going, after}
use Rattle.law_heap_steps.proofs.turns.PlainTurn.{thread_as, state_at}
use Rattle.law_heap_steps.proofs.turns.Instructions.{shown_last, shown_push, owned_push, Pops, PopsTo, itself as same_value, popped}
use Rattle.law_heap_steps.proofs.turns.Events.{AtStep, Sends, then_same}
use Rattle.law_words_writes.proofs.Below.law_words_paths.paths.Shown.{shown_value}
use Rattle.law_heap_steps.proofs.turns.SlotReads.{set_shown}
use Rattle.law_heap_steps.proofs.turns.DropLines.{set_owned}
use Rattle.law_heap_steps.proofs.mutexes.Changed as changed
use Rattle.law_heap_steps.proofs.mutexes.DupLines.{running_to}
use Rattle.law_heap_steps.proofs.mutexes.OneThread.{GoesOn}
use Rattle.law_heap_steps.proofs.mutexes.PlainMutex.{found, move_as}
use Rattle.law_heap_steps.proofs.mutexes.ThreadTurns.{ThreadTurn, Next, is_step}
use Rattle.law_heap_writes.proofs.drops.Carrying.{Carries}
use Rattle.law_heap_writes.proofs.drops.Dropped.{drop_shows}
use Rattle.law_heap_writes.proofs.drops.PlainDrop.{goes_first, drops_then, first_shows}
use Rattle.law_heap_writes.proofs.drops.ThreadLoses as loses

module _ (k : Cluster) (sound : IsSound k) (e : Event) (i : Instr) (single : is_par_end (Some i) ≡ false) (s : Server) (t : ℕ) (x : ThreadState) (at : AtStep k e i s t x) (bare : x.gift ≡ None) (v : Owned) (slots temps : List Value)
    (even : (q : Node) → owned_in q x.slots + owned_in q x.temps ≡ owned_in q slots + owned_in q temps + one (owns q v)) where
  abbrev start : Hand
  start = record { work = begin_work s.rest; thread = x }

  abbrev n : ℕ
  n = s.rest.number

  abbrev s1 : Sight
  s1 = loses.s1 k sound e i single s t x at bare v (after x (x.pc + 1) slots temps) even

  abbrev s2 : Sight
  s2 = loses.s2 k sound e i single s t x at bare v (after x (x.pc + 1) slots temps) even

  abbrev sv : Sight
  sv = loses.with_it k sound e i single s t x at bare v (after x (x.pc + 1) slots temps) even (Some v)

  abbrev B : List Thing
  B = loses.B k sound e i single s t x at bare v (after x (x.pc + 1) slots temps) even

  abbrev y : ThreadState
  y = loses.y k sound e i single s t x at bare v (after x (x.pc + 1) slots temps) even

  abbrev counts_then : Thing
  counts_then = counts_of n 0 s.rest

  goes2 : Calm (after x (x.pc + 1) slots temps).phase
  goes2 = record { alone = refl; goes = refl }

  -- the value goes from the thread, and whoever has what it leads to is told
  abbrev pub gone_work : Work
  gone_work = give_up v (label_all (drop_labels (value.Own v)) (begin_work s.rest))

  abbrev pub gone_hand : Hand
  gone_hand = record { work = gone_work; thread = record x { slots = slots; temps = temps } }

  abbrev pub Wanted : Stepped → Type 0
  Wanted d = Sends k e s (stepped s d) → IsPlainStep k (Next k sound e i single s t x at d, (stepped s d).1)

  -- ON THE PLAIN MACHINE

  module _ (a : CodeAct) (plug : PlainValue → Place) (now : over_at (Some i) (shown_last x.temps) ≡ going) (move : run_instr (Some i) x.pc (shown_last x.temps) ≡ Some (record { act = a; plug = plug }))
      (place : running_to (x.pc + 1) (shown_last temps) (shown_last slots) ≡ record { place = plug unit; slots = shown_last slots })
      (lone : (c : CodeWhole) (g : Going) → done_act (code_moves k.code) c (thread_as g x.number (running_at x)) fresh.None (move_as g a plug) a ≡ alone_stepped (code_moves k.code) c (thread_as g x.number (running_at x)) (move_as g a plug) a)
      (did : (c : CodeWhole) → act_of a (state_at c x.number (shown_last x.slots)) ≡ Some (record { value = unit; state = record { thread = x.number; slots = shown_last slots; heap = without c.heap (plain_v.Own (plain_of v)) }; labels = drop_labels (value.Own v) }))
      (last : (c : CodeWhole) → drops_last a (state_at c x.number (shown_last x.slots)) ≡ end_of c.heap (plain_v.Own (plain_of v))) where
    steps : (c : CodeWhole) → SameState (plain_state c) (one_heap k) → StepsTo k.code c x.number fresh.None (state_of s2) (drop_labels (value.Own v))
    steps c same =
        let A = state_of s1 in
        let ls = drop_labels (value.Own v) in
        let q : CodeRunning = record { place = plug unit; slots = shown_last slots } in
        let shown_too : SameState (plain_state c) A = then_same (plain_state c) (one_heap k) A same (changed.state_before k sound e s at.here t x at.at at.number) in
        let goes : GoesOn x.number (running_at x) q A (state_of sv) = subst (λ z. GoesOn x.number (running_at x) z A (state_of sv)) place (loses.thread_on k sound e i single s t x at bare v (after x (x.pc + 1) slots temps) even goes2 refl) in
        let it = found k.code c x.number (running_at x) q A (state_of sv) goes shown_too in
        let carried : Carries k n y B (goes_first c goes.way x.number q ls) v = record {
          same = first_shows k.code c x.number (running_at x) q A (state_of sv) goes shown_too (loses.made_on k sound e i single s t x at bare v (after x (x.pc + 1) slots temps) even goes2 refl) (loses.objects_on k sound e i single s t x at bare v (after x (x.pc + 1) slots temps) even) (loses.mutexes_on k sound e i single s t x at bare v (after x (x.pc + 1) slots temps) even)
              (loses.names_on k sound e i single s t x at bare v (after x (x.pc + 1) slots temps) even) ls;
          alone = loses.alone_then k sound e i single s t x at bare v (after x (x.pc + 1) slots temps) even;
          known = loses.known_then k sound e i single s t x at bare v (after x (x.pc + 1) slots temps) even (λ r. refl) (loses.once_then k sound e i single s t x at bare v (after x (x.pc + 1) slots temps) even goes2 refl);
        } in
        record {
          after = record { state = _; labels = ls };
          steps = ap (step_of (code_moves k.code) c fresh.None) it
              ∙ drops_then k.code c goes.way x.number (running_at x) a plug (shown_last slots) ls (plain_of v) (ap (λ j. over_at j (shown_last x.temps)) at.code ∙ now) (ap (λ j. run_instr j x.pc (shown_last x.temps)) at.code ∙ move) (lone c goes.way) (did c) (last c);
          same = drop_shows k n y B (loses.others_known k sound e i single s t x at bare v (after x (x.pc + 1) slots temps) even (λ r. refl) (loses.once_then k sound e i single s t x at bare v (after x (x.pc + 1) slots temps) even goes2 refl)) (goes_first c goes.way x.number q ls) v carried;
          labelled = refl;
        }

    -- AT THE SERVER

    abbrev begun : Owned → Work
    begun u = label_all (drop_labels (value.Own u)) (begin_work s.rest)

    told : Moves [] [] s.rest gone_work.rest
    told = by v
      where
        stays : Moves [] [] s.rest s.rest
        stays = record { number = refl; alike = λ w z. refl }

        by : (u : Owned) → Moves [] [] s.rest (give_up u (begun u)).rest
        by (owned.Box p) = sends [] [] s.rest (note (act.Condemn p.object p.word) (begun (owned.Box p))) (server_of p.word) (message.Drop p.word p.object) stays (λ w z. omega (arith, z))
        by (owned.Mutex m) = sends [] [] s.rest (note (act.LetGo (released.Mutex m)) (begun (owned.Mutex m))) m.home (message.Release (released.Mutex m)) stays (λ w z. omega (arith, z))
        by (owned.Task u) = sends [] [] s.rest (note (act.LetGo (released.Task u)) (begun (owned.Task u))) (home_of u) (message.Release (released.Task u)) stays (λ w z. omega (arith, z))
        by owned.Nothing = stays
        by owned.Unit = stays
        by (owned.Int j) = stays

    labelled : gone_work.labels ≡ drop_labels (value.Own v)
    labelled = by v
      where
        by : (u : Owned) → (give_up u (label_all (drop_labels (value.Own u)) (begin_work s.rest))).labels ≡ drop_labels (value.Own u)
        by (owned.Box p) = refl
        by (owned.Mutex m) = refl
        by (owned.Task u) = refl
        by owned.Nothing = refl
        by owned.Unit = refl
        by (owned.Int j) = refl

    module _ (cs : List Copy) where
      abbrev d : Stepped
      d = record { hand = record { work = with_cache cs gone_hand.work; thread = record (go_on gone_hand).thread { passed = 0; walk = []; moved_since_step = false } }; names = Some fresh.None }

      abbrev became : ThreadState
      became = after x (x.pc + 1) slots temps

      moves_to : Moves (counts_then ∷ []) (counts_then ∷ []) s.rest d.hand.work.rest
      moves_to = record {
        number = told.number;
        alike = λ w z.
            let cache : shown w (rest_things gone_hand.work.rest.number 0 gone_hand.work.rest) ≡ shown w (rest_things gone_hand.work.rest.number 0 d.hand.work.rest) = (copies_ready gone_hand cs []).0.moves.alike w z in
            let at_n : shown w (rest_things n 0 gone_hand.work.rest) ≡ shown w (rest_things n 0 d.hand.work.rest) = subst (λ q. shown w (rest_things q 0 gone_hand.work.rest) ≡ shown w (rest_things q 0 d.hand.work.rest)) told.number cache in
            omega (arith, told.alike w z, at_n);
      }

      turn : ThreadTurn k sound e i single s t x at d
      turn = record {
        became = became;
        names = fresh.None;
        thread = ap (λ g. (let z : ThreadState = record became { gift = g } in z)) bare;
        named = refl;
        comes = counts_then ∷ [];
        moves = moves_to;
        beside = (tt, tt);
        unstray = refl;
        once = loses.once_then k sound e i single s t x at bare v (after x (x.pc + 1) slots temps) even goes2 refl;
        steps = λ c same. subst (λ ls. StepsTo k.code c x.number fresh.None (state_of s2) ls) (sym labelled) (steps c same);
      }

    pub settled : Gives Wanted (committed (goes_on (Some gone_hand)))
    settled = by (unpin_all x.walk gone_hand.work.rest.cache)
      where
        by : (q : Option (List Copy)) → Gives Wanted (option_map (λ h2. record { hand = h2; names = Some fresh.None })
            (option_map (λ cs. record { work = with_cache cs gone_hand.work; thread = record (go_on gone_hand).thread { passed = 0; walk = []; moved_since_step = false } }) q))
        by None = tt
        by (Some cs) = λ goes. is_step k sound e i single s t x at (d cs) (turn cs) goes

-- THE INSTRUCTIONS

-- what a drop of the value is labelled with
pub labels_shown : (v : Owned) → drops (plain_v.Own (plain_of v)) ≡ drop_labels (value.Own v)
labels_shown (owned.Box p) = refl
labels_shown (owned.Mutex m) = refl
labels_shown (owned.Task u) = refl
labels_shown owned.Nothing = refl
labels_shown owned.Unit = refl
labels_shown (owned.Int j) = refl

-- a gone hand keeps its thread
given_hand : (v : Owned) (h : Hand) → drop_value nowhere (value.Own v) (label_dropped (value.Own v) h) ≡ Some (record { work = give_up v (label_all (drop_labels (value.Own v)) h.work); thread = h.thread })
given_hand v h = refl

last_shown : (vs : List Value) (v : Owned) → last_of vs ≡ Some (value.Own v) → shown_last vs ≡ plain_v.Own (plain_of v) ∷ shown_last (front_of vs)
last_shown vs v e = ap shown_last (last_split vs (value.Own v) e) ∙ shown_push (front_of vs) (value.Own v)

last_owned : (q : Node) (vs : List Value) (v : Owned) → last_of vs ≡ Some (value.Own v) → owned_in q vs ≡ owned_in q (front_of vs) + one (owns q v)
last_owned q vs v e = ap (owned_in q) (last_split vs (value.Own v) e) ∙ owned_push q (front_of vs) (value.Own v)

module _ (k : Cluster) (sound : IsSound k) (e : Event) (s : Server) (t : ℕ) (x : ThreadState) (v : Owned) where
  module _ (at : AtStep k e instr.Discard s t x) (q : last_of x.temps ≡ Some (value.Own v)) where
    abbrev start1 : Hand
    start1 = record { work = begin_work s.rest; thread = x }

    abbrev front1 : List Value
    front1 = front_of x.temps

    pub bare1 : x.gift ≡ None
    bare1 = (gift_fits k sound e.server s at.here t x at.at instr.Discard at.code).0

    pub even1 : (w : Node) → owned_in w x.slots + owned_in w x.temps ≡ owned_in w x.slots + owned_in w front1 + one (owns w v)
    even1 w = omega (arith, last_owned w x.temps v q)

    abbrev Wanted1 : Stepped → Type 0
    Wanted1 = Wanted k sound e instr.Discard refl s t x at bare1 v x.slots front1 even1

    discarded : Gives Wanted1 (committed (goes_on (Some (gone_hand k sound e instr.Discard refl s t x at bare1 v x.slots front1 even1))))
    discarded =
        settled k sound e instr.Discard refl s t x at bare1 v x.slots front1 even1 (do_discard (plain_v.Own (plain_of v))) (λ z. record { pc = x.pc + 1; temps = shown_last front1 }) refl (ap (λ l. run_instr (Some instr.Discard) x.pc l) (last_shown x.temps v q)) refl (λ c g. refl)
        (λ c. ap (λ ls. Some (record { value = unit; state = record { thread = x.number; slots = shown_last x.slots; heap = without c.heap (plain_v.Own (plain_of v)) }; labels = ls })) (labels_shown v)) (λ c. refl)

    pub discard_line : Gives Wanted1 (step k.options.servers instr.Discard start1)
    discard_line =
        subst (λ l. Gives Wanted1 (prepared k.options.servers instr.Discard (prepare (ending on_top l) start1))) (sym q)
        (subst (λ l. Gives Wanted1 (committed (goes_on (then_some {X = Popped Value} (option_map (λ z. record { item = z; hand = with_temps front1 start1 }) l) (λ z. drop_value nowhere z.item (label_dropped z.item z.hand)))))) (sym q) discarded)

  module _ (at : AtStep k e instr.DropSlot s t x) (q : last_of x.slots ≡ Some (value.Own v)) where
    abbrev start2 : Hand
    start2 = record { work = begin_work s.rest; thread = x }

    abbrev front2 : List Value
    front2 = front_of x.slots

    pub bare2 : x.gift ≡ None
    bare2 = (gift_fits k sound e.server s at.here t x at.at instr.DropSlot at.code).0

    pub even2 : (w : Node) → owned_in w x.slots + owned_in w x.temps ≡ owned_in w front2 + owned_in w x.temps + one (owns w v)
    even2 w = omega (arith, last_owned w x.slots v q)

    abbrev Wanted2 : Stepped → Type 0
    Wanted2 = Wanted k sound e instr.DropSlot refl s t x at bare2 v front2 x.temps even2

    abbrev dropping : CodeAct
    dropping = do_drop

    dropped : Gives Wanted2 (committed (goes_on (Some (gone_hand k sound e instr.DropSlot refl s t x at bare2 v front2 x.temps even2))))
    dropped =
        settled k sound e instr.DropSlot refl s t x at bare2 v front2 x.temps even2 do_drop (λ z. record { pc = x.pc + 1; temps = shown_last x.temps }) refl refl refl (λ c g. refl)
        (λ c. ap (λ l. act_of dropping (state_at c x.number l)) (last_shown x.slots v q)
        ∙ ap (λ ls. Some (record { value = unit; state = record { thread = x.number; slots = shown_last front2; heap = without c.heap (plain_v.Own (plain_of v)) }; labels = ls })) (labels_shown v))
        (λ c. ap (λ l. drops_last dropping (state_at c x.number l)) (last_shown x.slots v q))

    pub drop_line : Gives Wanted2 (step k.options.servers instr.DropSlot start2)
    drop_line =
        subst (λ l. Gives Wanted2 (prepared k.options.servers instr.DropSlot (prepare (ending (in_slot (length x.slots - 1)) l) start2))) (sym q)
        (subst (λ l. Gives Wanted2 (committed (goes_on (then_some {X = Popped Value} (option_map (λ z. record { item = z; hand = with_slots front2 start2 }) l) (λ z. drop_value nowhere z.item (label_dropped z.item z.hand)))))) (sym q) dropped)

-- a variable
abbrev pub variable : ℕ → Lval
variable j = record { slot = j; depth = 0 }

module _ (k : Cluster) (sound : IsSound k) (e : Event) (s : Server) (t : ℕ) (x : ThreadState) (old : Owned) (j : ℕ) (o : Operand) (at : AtStep k e (instr.Assign (variable j) o) s t x) (q : slice_get x.slots j ≡ Some (value.Own old)) where
  abbrev i3 : Instr
  i3 = instr.Assign (variable j) o

  abbrev start3 : Hand
  start3 = record { work = begin_work s.rest; thread = x }

  pub bare3 : x.gift ≡ None
  bare3 = (gift_fits k sound e.server s at.here t x at.at i3 at.code).0

  abbrev slots3 : Value → List Value
  slots3 v = slice_set x.slots j v

  pub even3 : (v : Value) (rest : List Value) → Pops o x.temps v rest → (w : Node) → owned_in w x.slots + owned_in w x.temps ≡ owned_in w (slots3 v) + owned_in w rest + one (owns w old)
  even3 v rest u w = omega (arith, u.owned w, set_owned w x.slots j (value.Own old) v q)

  abbrev Wanted3 : Stepped → Type 0
  Wanted3 d = Sends k e s (stepped s d) → IsPlainStep k (Next k sound e i3 refl s t x at d, (stepped s d).1)

  module _ (v : Value) (rest : List Value) (u : Pops o x.temps v rest) where
    seen : (c : CodeWhole) → slot_at (shown_last x.slots) j ≡ Some (plain_v.Own (plain_of old))
    seen c = shown_value x.slots j ∙ ap (option_map plain_value) q

    assigned : (c : CodeWhole) → List PlainValue → List Label → Option Did
    assigned c l ls = Some (record { value = unit; state = record { thread = x.number; slots = l; heap = without c.heap (plain_v.Own (plain_of old)) }; labels = ls })

    no_more : (ls : List Label) → ls ++ [] ≡ ls
    no_more [] = refl
    no_more (l ∷ ls) = ap (λ z. l ∷ z) (no_more ls)

    assigned3 : Gives Wanted3 (committed (goes_on (Some (gone_hand k sound e i3 refl s t x at bare3 old (slots3 v) rest (even3 v rest u)))))
    assigned3 =
        settled k sound e i3 refl s t x at bare3 old (slots3 v) rest (even3 v rest u) (do_assign (variable j) (plain_value v)) (λ z. record { pc = x.pc + 1; temps = shown_last rest }) refl (u.taken (λ w ts. quiet (x.pc + 1) ts (do_assign (variable j) w))) refl (λ c g. refl)
        (λ c. ap (assign_did (state_at c x.number (shown_last x.slots)) (plain_value v) (record { spot = state_slot j; passed = [] })) (seen c)
        ∙ ap₂ (λ l ls. Some (record { value = unit; state = record { thread = x.number; slots = l; heap = without c.heap (plain_v.Own (plain_of old)) }; labels = ls })) (set_shown x.slots j v) (no_more (drops (plain_v.Own (plain_of old))) ∙ labels_shown old))
        (λ c. ap (end_of_some c.heap) (seen c))

    put_line : Gives Wanted3 (committed (goes_on (then_some (put_slot j v (label_dropped (value.Own old) (with_temps rest start3))) (drop_value nowhere (value.Own old)))))
    put_line = by (nat_lt j (length x.slots))
      where
        by : (b : Bool) → Gives Wanted3 (committed (goes_on (then_some (if b then Some (with_slots (slots3 v) (label_dropped (value.Own old) (with_temps rest start3))) else None) (drop_value nowhere (value.Own old)))))
        by true = assigned3
        by false = tt

    with_value3 : Gives Wanted3 (committed (goes_on (replace_slot j nowhere v (with_temps rest start3))))
    with_value3 = subst (λ l. Gives Wanted3 (committed (goes_on (then_some l (λ z. then_some (put_slot j v (label_dropped z (with_temps rest start3))) (drop_value nowhere z)))))) (sym q) put_line

  pub assign_line : Gives Wanted3 (step k.options.servers i3 start3)
  assign_line = subst (λ l. Gives Wanted3 (prepared k.options.servers i3 (prepare (ending (in_slot j) l) start3))) (sym q) (by (pop o start3) (popped o start3))
    where
      by : (z : Option (Popped Value)) → Gives (PopsTo o start3 same_value) z → Gives Wanted3 (committed (goes_on (then_some z (λ p. replace_slot j nowhere p.item p.hand))))
      by None g = tt
      by (Some p) g = subst (λ h. Gives Wanted3 (committed (goes_on (replace_slot j nowhere p.item h)))) (sym g.hand) (with_value3 p.item g.rest g.pops)
