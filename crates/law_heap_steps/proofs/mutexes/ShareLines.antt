-- A step that drops a value of a mutex, at the server and on the plain machine, where another value of it is in the state.
use Rattle.std.proofs.Common.{◌≡◌, ℕ, zero, suc, ◌+◌, ◌≤◌, true, false, List, [], ◌∷◌, length, Option, Some, None, option_map, refl, sym, ap, subst, ◌∙◌, arith}
use Rattle.std.specs.Prelude.{◌-◌, slice_get, slice_set, nat_lt, Bool, if◌then◌else◌}
use Rattle.law_heap_steps.specs.Below.fr_base.Lists.{last_of}
use Rattle.law_heap_steps.specs.Below.fr_base.declared.name.MutexNo.{MutexNo}
use Rattle.law_heap_steps.specs.Below.fr_base.declared.release.Released.TheVariants as released
use Rattle.law_heap_steps.specs.Below.fr_base.declared.label.Plain.{Plain}
use Rattle.law_heap_steps.specs.Below.fr_base.declared.label.Plain.TheVariants as plain
use Rattle.law_heap_steps.specs.Below.fr_base.declared.step.Fresh.TheVariants as fresh
use Rattle.law_heap_steps.specs.Below.fr_base.declared.instruction.Instr.{Instr}
use Rattle.law_heap_steps.specs.Below.fr_base.declared.instruction.Instr.TheVariants as instr
use Rattle.law_heap_steps.specs.Below.fr_plain.declared.value.Value.{Value as PlainValue}
use Rattle.law_heap_steps.specs.Below.fr_plain.declared.value.Value.TheVariants as plain_v
use Rattle.law_heap_steps.specs.Below.fr_base.declared.place.Lval.{Lval}
use Rattle.law_heap_steps.specs.Below.fr_base.declared.instruction.Operand.{Operand}
use Rattle.law_heap_steps.specs.Below.fr_plain.State.{without, slot_at, with_slot}
use Rattle.law_heap_steps.specs.Below.fr_plain.State.{in_slot as state_slot}
use Rattle.law_heap_steps.specs.Below.fr_plain.MachineActs.{Did, assign_did, end_of_some, do_assign, act as act_of, drops_last, do_discard, do_drop, end_of, unit}
use Rattle.law_heap_steps.specs.Below.fr_plain.MachineThreads.{Shared, going, mutex_there, with_mutex}
use Rattle.law_heap_steps.specs.Below.fr_plain.Machine.{done_act, alone_stepped}
use Rattle.law_heap_steps.specs.Below.fr_plain.PlainState.{SameState, plain_state}
use Rattle.law_heap_steps.specs.Below.fr_code.Machine.{CodeWhole, CodeRunning}
use Rattle.law_heap_steps.specs.Below.fr_code.Steps.{Place, CodeAct, code_moves, over_at, run_instr, quiet}
use Rattle.law_heap_steps.specs.Below.heap_partition.declared.value.Owned.TheVariants as owned
use Rattle.law_heap_steps.specs.Below.read_cache.Cache.{Copy}
use Rattle.law_heap_steps.specs.Below.migration.Packing.{unpin_all}
use Rattle.law_heap_steps.specs.Below.thread_state.View.{ThreadState}
use Rattle.law_heap_steps.specs.Below.thread_state.declared.value.Value.{Value}
use Rattle.law_heap_steps.specs.Below.thread_state.declared.value.Value.TheVariants as value
use Rattle.law_heap_steps.specs.Below.journal.declared.act.Act.TheVariants as act
use Rattle.law_heap_steps.specs.Below.server_msgs.declared.message.Message.TheVariants as message
use Rattle.law_heap_steps.specs.Below.server_model.declared.event.Event.{Event}
use Rattle.law_heap_steps.specs.Below.server_model.Servers.{Server, Cluster}
use Rattle.law_heap_steps.specs.Below.server_model.Work.{Hand, Popped, pop, send, note, label_all, front_of, with_slots, with_temps, with_cache, mutex_of, then_some}
use Rattle.law_heap_steps.specs.Below.server_model.Places.{put_slot, nowhere, in_slot, on_top}
use Rattle.law_heap_steps.specs.Below.server_model.Prepare.{prepare, ending}
use Rattle.law_heap_steps.specs.Below.server_model.Drop.{drop_value}
use Rattle.law_heap_steps.specs.Below.server_model.Commit.{goes_on, go_on, label_dropped, replace_slot}
use Rattle.law_heap_steps.specs.Below.server_model.Events.{Stepped, stepped, begin_work, committed, prepared, step}
use Rattle.law_heap_steps.specs.Below.server_model.Clusters.{apply}
use Rattle.law_heap_steps.specs.Below.coherent_memory.Names.{one}
use Rattle.law_heap_steps.specs.Below.coherent_memory.Things.{Thing}
use Rattle.law_heap_steps.specs.Below.coherent_memory.Sight.{Sight, sight}
use Rattle.law_heap_steps.specs.Below.coherent_memory.Requests.{is_par_end}
use Rattle.law_heap_steps.specs.Below.coherent_memory.OneHeap.{Node, plain_value, mutex_n, owns, is_in_state, running_at, one_heap, state_of}
use Rattle.law_heap_steps.specs.Below.coherent_memory.Coherent.{IsSound}
use Rattle.law_heap_steps.specs.Below.law_counts_sums.Laws.{Gives}
use Rattle.law_heap_steps.proofs.Below.law_counts_sums.Bags.{counts_of, rest_things}
use Rattle.law_heap_steps.proofs.Below.law_counts_sums.GiftsTaken.{gift_fits}
use Rattle.law_heap_steps.proofs.Below.law_counts_sums.Values.{last_split}
use Rattle.law_plain_values.proofs.acts.Mutexes.{given_set}
use Rattle.law_heap_steps.proofs.Below.law_heap_still.events.Readied.{copies_ready}
use Rattle.law_heap_steps.proofs.Below.law_heap_still.events.Sites.{shown, Moves, sends}
use Rattle.law_heap_steps.specs.turns.Turns.{StepsTo, IsPlainStep, instr_of}
use Rattle.law_heap_steps.proofs.turns.Parts.{owned_in}
use Rattle.law_heap_steps.proofs.turns.OneTurn.{Going, after}
use Rattle.law_heap_steps.proofs.turns.PlainTurn.{thread_as, state_at}
use Rattle.law_heap_steps.proofs.turns.Instructions.{shown_last, shown_push, owned_push, Pops, PopsTo, itself as same_value, popped}
use Rattle.law_heap_steps.proofs.turns.Clauses.{same_thread}
use Rattle.law_heap_steps.proofs.turns.Events.{AtStep, Sends, events_are, then_same}
use Rattle.law_heap_still.proofs.Below.law_words_paths.paths.Shown.{shown_value}
use Rattle.law_heap_steps.proofs.turns.SlotReads.{set_shown}
use Rattle.law_heap_steps.proofs.turns.DropLines.{set_owned}
use Rattle.law_heap_steps.specs.mutexes.Locks.{variable_share, dropped_share, SharesGo}
use Rattle.law_heap_steps.proofs.mutexes.Changed as changed
use Rattle.law_heap_steps.proofs.mutexes.DupLines.{running_to}
use Rattle.law_heap_steps.proofs.mutexes.OneThread.{GoesOn, next}
use Rattle.law_heap_steps.proofs.mutexes.PlainMutex.{found, move_as, steps_with, set_shows}
use Rattle.law_heap_steps.proofs.mutexes.PlainShare.{share_goes}
use Rattle.law_heap_steps.proofs.mutexes.ShareGoes as share_gone
use Rattle.law_heap_steps.proofs.mutexes.ThreadTurns.{ThreadTurn, Next, is_step}

-- one less than a number from one on
one_less : (i : ℕ) → 1 ≤ i → (j : ℕ) × (i ≡ suc j)
one_less zero l = absurd (omega (arith, l))
one_less (suc j) l = (j, refl)

module _ (k : Cluster) (sound : IsSound k) (e : Event) (i : Instr) (single : is_par_end (Some i) ≡ false) (s : Server) (t : ℕ) (x : ThreadState) (at : AtStep k e i s t x) (bare : x.gift ≡ None) (m : MutexNo) (slots temps : List Value)
    (even : (q : Node) → owned_in q x.slots + owned_in q x.temps ≡ owned_in q slots + owned_in q temps + one (owns q (owned.Mutex m))) where
  abbrev start : Hand
  start = record { work = begin_work s.rest; thread = x }

  abbrev n : ℕ
  n = s.rest.number

  abbrev s2 : Sight
  s2 = share_gone.s2 k sound e i single s t x at bare m slots temps even

  abbrev counts_then : Thing
  counts_then = counts_of n 0 s.rest

  -- the value goes from the thread, and its home is told
  abbrev pub gone_hand : Hand
  gone_hand = record { work = send m.home (message.Release (released.Mutex m)) (note (act.LetGo (released.Mutex m)) (label_all [] (begin_work s.rest))); thread = record x { slots = slots; temps = temps } }

  abbrev pub Wanted : Stepped → Type 0
  Wanted d = Sends k e s (stepped s d) → is_in_state (sight (Next k sound e i single s t x at d)) (mutex_n m) ≡ true → IsPlainStep k (Next k sound e i single s t x at d, (stepped s d).1)

  -- an act that drops it on the plain machine
  module _ (a : CodeAct) (plug : PlainValue → Place) (now : over_at (Some i) (shown_last x.temps) ≡ going) (move : run_instr (Some i) x.pc (shown_last x.temps) ≡ Some (record { act = a; plug = plug }))
      (place : running_to (x.pc + 1) (shown_last temps) (shown_last slots) ≡ record { place = plug unit; slots = shown_last slots })
      (lone : (c : CodeWhole) (g : Going) → done_act (code_moves k.code) c (thread_as g x.number (running_at x)) fresh.None (move_as g a plug) a ≡ alone_stepped (code_moves k.code) c (thread_as g x.number (running_at x)) (move_as g a plug) a)
      (did : (c : CodeWhole) → act_of a (state_at c x.number (shown_last x.slots)) ≡ Some (record { value = unit; state = record { thread = x.number; slots = shown_last slots; heap = without c.heap (plain_v.Own (plain.Mutex m)) }; labels = [] }))
      (last : (c : CodeWhole) → drops_last a (state_at c x.number (shown_last x.slots)) ≡ end_of c.heap (plain_v.Own (plain.Mutex m))) where
    module _ (in_then : is_in_state s2 (mutex_n m) ≡ true) where
      abbrev content : Option Plain
      content = share_gone.content k sound e i single s t x at bare m slots temps even in_then

      abbrev left : ℕ
      left = share_gone.left k sound e i single s t x at bare m slots temps even in_then

      steps : (c : CodeWhole) → SameState (plain_state c) (one_heap k) → StepsTo k.code c x.number fresh.None (state_of s2) []
      steps c same =
          let A = state_of (share_gone.s1 k sound e i single s t x at bare m slots temps even) in
          let q : CodeRunning = record { place = plug unit; slots = shown_last slots } in
          let shown_too : SameState (plain_state c) A = then_same (plain_state c) (one_heap k) A same (changed.state_before k sound e s at.here t x at.at at.number) in
          let goes : GoesOn x.number (running_at x) q A (state_of s2) = subst (λ z. GoesOn x.number (running_at x) z A (state_of s2)) place (share_gone.thread_on k sound e i single s t x at bare m slots temps even in_then) in
          let less = one_less left (share_gone.some_left k sound e i single s t x at bare m slots temps even in_then) in
          let old : Shared = record { content = content; shares = left + 1 } in
          let new : Shared = record { content = content; shares = suc less.0 } in
          let there : mutex_there c.mutexes m ≡ Some old = shown_too.mutexes m ∙ share_gone.it_before k sound e i single s t x at bare m slots temps even in_then in
          let new_is : (state_of s2).mutex m ≡ Some new = share_gone.it_then k sound e i single s t x at bare m slots temps even in_then ∙ ap (λ z. Some (record { content = content; shares = z })) less.1 in
          steps_with k.code c x.number (running_at x) q A (state_of s2) goes shown_too fresh.None (with_mutex c.mutexes m (Some new)) []
          (share_goes k.code c goes.way x.number (running_at x) a plug (shown_last slots) m old less.0 (ap (λ j. over_at j (shown_last x.temps)) at.code ∙ now) (ap (λ j. run_instr j x.pc (shown_last x.temps)) at.code ∙ move) (thread_as goes.way x.number (running_at x))
          (found k.code c x.number (running_at x) q A (state_of s2) goes shown_too) there (omega (arith, less.1)) (lone c goes.way) (did c) (last c))
          (share_gone.made_on k sound e i single s t x at bare m slots temps even in_then) (share_gone.objects_on k sound e i single s t x at bare m slots temps even in_then)
          (set_shows c.mutexes m (Some new) old (λ w. (state_of s2).mutex w) there new_is (λ w ne. shown_too.mutexes w ∙ share_gone.others_on k sound e i single s t x at bare m slots temps even in_then w ne))
          (λ w. given_set c.mutexes m (Some new) w ∙ shown_too.given w ∙ share_gone.names_on k sound e i single s t x at bare m slots temps even in_then w)

    module _ (cs : List Copy) where
      abbrev d : Stepped
      d = record { hand = record { work = with_cache cs gone_hand.work; thread = record (go_on gone_hand).thread { passed = 0; walk = []; moved_since_step = false } }; names = Some fresh.None }

      abbrev became : ThreadState
      became = after x (x.pc + 1) slots temps

      thread_is : d.hand.thread ≡ next x became
      thread_is = ap (λ g. (let z : ThreadState = record became { gift = g } in z)) bare

      moves_to : Moves (counts_then ∷ []) (counts_then ∷ []) s.rest d.hand.work.rest
      moves_to =
          let goes : Moves [] [] s.rest gone_hand.work.rest = sends [] [] s.rest (note (act.LetGo (released.Mutex m)) (label_all [] (begin_work s.rest))) m.home (message.Release (released.Mutex m)) (record { number = refl; alike = λ w z. refl }) (λ w z. omega (arith, z)) in
          record {
            number = goes.number;
            alike = λ w z.
                let cache : shown w (rest_things gone_hand.work.rest.number 0 gone_hand.work.rest) ≡ shown w (rest_things gone_hand.work.rest.number 0 d.hand.work.rest) = (copies_ready gone_hand cs []).0.moves.alike w z in
                let at_n : shown w (rest_things n 0 gone_hand.work.rest) ≡ shown w (rest_things n 0 d.hand.work.rest) = subst (λ q. shown w (rest_things q 0 gone_hand.work.rest) ≡ shown w (rest_things q 0 d.hand.work.rest)) goes.number cache in
                omega (arith, goes.alike w z, at_n);
          }

      there : Sends k e s (stepped s d) → is_in_state (sight (Next k sound e i single s t x at d)) (mutex_n m) ≡ true → is_in_state s2 (mutex_n m) ≡ true
      there goes in_it =
          changed.nodes_after k sound e s at.here t x at.at at.number d became thread_is (counts_then ∷ []) moves_to goes (share_gone.beside1 k sound e i single s t x at bare m slots temps even) (tt, tt) refl (share_gone.once_then k sound e i single s t x at bare m slots temps even) (mutex_n m) ∙ in_it

      turn : is_in_state s2 (mutex_n m) ≡ true → ThreadTurn k sound e i single s t x at d
      turn in_then = record {
        became = became;
        names = fresh.None;
        thread = thread_is;
        named = refl;
        comes = counts_then ∷ [];
        moves = moves_to;
        beside = (tt, tt);
        unstray = refl;
        once = share_gone.once_then k sound e i single s t x at bare m slots temps even;
        steps = steps in_then;
      }

    pub settled : Gives Wanted (committed (goes_on (Some gone_hand)))
    settled = by (unpin_all x.walk gone_hand.work.rest.cache)
      where
        by : (q : Option (List Copy)) → Gives Wanted (option_map (λ h2. record { hand = h2; names = Some fresh.None })
            (option_map (λ cs. record { work = with_cache cs gone_hand.work; thread = record (go_on gone_hand).thread { passed = 0; walk = []; moved_since_step = false } }) q))
        by None = tt
        by (Some cs) = λ goes in_it. is_step k sound e i single s t x at (d cs) (turn cs (there cs goes in_it)) goes

-- THE INSTRUCTIONS

abbrev dropping : CodeAct
dropping = do_drop

abbrev share : MutexNo → Value
share m = value.Own (owned.Mutex m)

last_shown : (vs : List Value) (m : MutexNo) → last_of vs ≡ Some (share m) → shown_last vs ≡ plain_v.Own (plain.Mutex m) ∷ shown_last (front_of vs)
last_shown vs m e = ap shown_last (last_split vs (share m) e) ∙ shown_push (front_of vs) (share m)

last_owned : (q : Node) (vs : List Value) (m : MutexNo) → last_of vs ≡ Some (share m) → owned_in q vs ≡ owned_in q (front_of vs) + one (owns q (owned.Mutex m))
last_owned q vs m e = ap (owned_in q) (last_split vs (share m) e) ∙ owned_push q (front_of vs) (share m)

module _ (k : Cluster) (sound : IsSound k) (e : Event) (s : Server) (t : ℕ) (x : ThreadState) (m : MutexNo) where
  module _ (at : AtStep k e instr.Discard s t x) (q : last_of x.temps ≡ Some (share m)) where
    abbrev start1 : Hand
    start1 = record { work = begin_work s.rest; thread = x }

    abbrev front1 : List Value
    front1 = front_of x.temps

    pub bare1 : x.gift ≡ None
    bare1 = (gift_fits k sound e.server s at.here t x at.at instr.Discard at.code).0

    pub even1 : (v : Node) → owned_in v x.slots + owned_in v x.temps ≡ owned_in v x.slots + owned_in v front1 + one (owns v (owned.Mutex m))
    even1 v = omega (arith, last_owned v x.temps m q)

    abbrev Wanted1 : Stepped → Type 0
    Wanted1 = Wanted k sound e instr.Discard refl s t x at bare1 m x.slots front1 even1

    discarded : Gives Wanted1 (committed (goes_on (Some (gone_hand k sound e instr.Discard refl s t x at bare1 m x.slots front1 even1))))
    discarded =
        settled k sound e instr.Discard refl s t x at bare1 m x.slots front1 even1 (do_discard (plain_v.Own (plain.Mutex m))) (λ z. record { pc = x.pc + 1; temps = shown_last front1 }) refl (ap (λ l. run_instr (Some instr.Discard) x.pc l) (last_shown x.temps m q)) refl (λ c g. refl) (λ c. refl) (λ c. refl)

    pub discard_line : Gives Wanted1 (step k.options.servers instr.Discard start1)
    discard_line =
        subst (λ l. Gives Wanted1 (prepared k.options.servers instr.Discard (prepare (ending on_top l) start1))) (sym q)
        (subst (λ l. Gives Wanted1 (committed (goes_on (then_some {X = Popped Value} (option_map (λ v. record { item = v; hand = with_temps front1 start1 }) l) (λ z. drop_value nowhere z.item (label_dropped z.item z.hand)))))) (sym q) discarded)

  module _ (at : AtStep k e instr.DropSlot s t x) (q : last_of x.slots ≡ Some (share m)) where
    abbrev start2 : Hand
    start2 = record { work = begin_work s.rest; thread = x }

    abbrev front2 : List Value
    front2 = front_of x.slots

    pub bare2 : x.gift ≡ None
    bare2 = (gift_fits k sound e.server s at.here t x at.at instr.DropSlot at.code).0

    pub even2 : (v : Node) → owned_in v x.slots + owned_in v x.temps ≡ owned_in v front2 + owned_in v x.temps + one (owns v (owned.Mutex m))
    even2 v = omega (arith, last_owned v x.slots m q)

    abbrev Wanted2 : Stepped → Type 0
    Wanted2 = Wanted k sound e instr.DropSlot refl s t x at bare2 m front2 x.temps even2

    dropped : Gives Wanted2 (committed (goes_on (Some (gone_hand k sound e instr.DropSlot refl s t x at bare2 m front2 x.temps even2))))
    dropped =
        settled k sound e instr.DropSlot refl s t x at bare2 m front2 x.temps even2 do_drop (λ z. record { pc = x.pc + 1; temps = shown_last x.temps }) refl refl refl (λ c g. refl) (λ c. ap (λ l. act_of dropping (state_at c x.number l)) (last_shown x.slots m q)) (λ c. ap (λ l. drops_last dropping (state_at c x.number l)) (last_shown x.slots m q))

    pub drop_line : Gives Wanted2 (step k.options.servers instr.DropSlot start2)
    drop_line =
        subst (λ l. Gives Wanted2 (prepared k.options.servers instr.DropSlot (prepare (ending (in_slot (length x.slots - 1)) l) start2))) (sym q)
        (subst (λ l. Gives Wanted2 (committed (goes_on (then_some {X = Popped Value} (option_map (λ v. record { item = v; hand = with_slots front2 start2 }) l) (λ z. drop_value nowhere z.item (label_dropped z.item z.hand)))))) (sym q) dropped)

-- a variable
abbrev variable : ℕ → Lval
variable j = record { slot = j; depth = 0 }

module _ (k : Cluster) (sound : IsSound k) (e : Event) (s : Server) (t : ℕ) (x : ThreadState) (m : MutexNo) (j : ℕ) (o : Operand) (at : AtStep k e (instr.Assign (variable j) o) s t x) (q : slice_get x.slots j ≡ Some (share m)) where
  abbrev i3 : Instr
  i3 = instr.Assign (variable j) o

  abbrev start3 : Hand
  start3 = record { work = begin_work s.rest; thread = x }

  pub bare3 : x.gift ≡ None
  bare3 = (gift_fits k sound e.server s at.here t x at.at i3 at.code).0

  abbrev slots3 : Value → List Value
  slots3 v = slice_set x.slots j v

  pub even3 : (v : Value) (rest : List Value) → Pops o x.temps v rest → (w : Node) → owned_in w x.slots + owned_in w x.temps ≡ owned_in w (slots3 v) + owned_in w rest + one (owns w (owned.Mutex m))
  even3 v rest u w = omega (arith, u.owned w, set_owned w x.slots j (share m) v q)

  abbrev Wanted3 : Stepped → Type 0
  Wanted3 d = Sends k e s (stepped s d) → is_in_state (sight (Next k sound e i3 refl s t x at d)) (mutex_n m) ≡ true → IsPlainStep k (Next k sound e i3 refl s t x at d, (stepped s d).1)

  module _ (v : Value) (rest : List Value) (u : Pops o x.temps v rest) where
    seen : (c : CodeWhole) → slot_at (shown_last x.slots) j ≡ Some (plain_v.Own (plain.Mutex m))
    seen c = shown_value x.slots j ∙ ap (option_map plain_value) q

    assigning : CodeAct
    assigning = do_assign (variable j) (plain_value v)

    set : (c : CodeWhole) → Option Did
    set c = Some (record { value = unit; state = record { thread = x.number; slots = with_slot (shown_last x.slots) j (plain_value v); heap = without c.heap (plain_v.Own (plain.Mutex m)) }; labels = [] })

    assigned3 : Gives Wanted3 (committed (goes_on (Some (gone_hand k sound e i3 refl s t x at bare3 m (slots3 v) rest (even3 v rest u)))))
    assigned3 =
        settled k sound e i3 refl s t x at bare3 m (slots3 v) rest (even3 v rest u) (do_assign (variable j) (plain_value v)) (λ z. record { pc = x.pc + 1; temps = shown_last rest }) refl (u.taken (λ w ts. quiet (x.pc + 1) ts (do_assign (variable j) w))) refl (λ c g. refl)
        (λ c. ap (assign_did (state_at c x.number (shown_last x.slots)) (plain_value v) (record { spot = state_slot j; passed = [] })) (seen c) ∙ ap (λ l. Some (record { value = unit; state = record { thread = x.number; slots = l; heap = without c.heap (plain_v.Own (plain.Mutex m)) }; labels = [] })) (set_shown x.slots j v))
        (λ c. ap (end_of_some c.heap) (seen c))

    put_line : Gives Wanted3 (committed (goes_on (then_some (put_slot j v (label_dropped (share m) (with_temps rest start3))) (drop_value nowhere (share m)))))
    put_line = by (nat_lt j (length x.slots))
      where
        by : (b : Bool) → Gives Wanted3 (committed (goes_on (then_some (if b then Some (with_slots (slots3 v) (label_dropped (share m) (with_temps rest start3))) else None) (drop_value nowhere (share m)))))
        by true = assigned3
        by false = tt

    with_value3 : Gives Wanted3 (committed (goes_on (replace_slot j nowhere v (with_temps rest start3))))
    with_value3 = subst (λ l. Gives Wanted3 (committed (goes_on (then_some l (λ old. then_some (put_slot j v (label_dropped old (with_temps rest start3))) (drop_value nowhere old)))))) (sym q) put_line

  pub assign_line : Gives Wanted3 (step k.options.servers i3 start3)
  assign_line = subst (λ l. Gives Wanted3 (prepared k.options.servers i3 (prepare (ending (in_slot j) l) start3))) (sym q) (by (pop o start3) (popped o start3))
    where
      by : (z : Option (Popped Value)) → Gives (PopsTo o start3 same_value) z → Gives Wanted3 (committed (goes_on (then_some z (λ p. replace_slot j nowhere p.item p.hand))))
      by None g = tt
      by (Some p) g = subst (λ h. Gives Wanted3 (committed (goes_on (replace_slot j nowhere p.item h)))) (sym g.hand) (with_value3 p.item g.rest g.pops)

-- which value it is
share_is : (o : Option Value) (m : MutexNo) → then_some o mutex_of ≡ Some m → o ≡ Some (share m)
share_is None m e = absurd (cc e)
share_is (Some (value.Own (owned.Mutex w))) m e = let same : w ≡ m = cc in ap (λ z. Some (share z)) same
share_is (Some (value.Own owned.Nothing)) m e = absurd (cc e)
share_is (Some (value.Own owned.Unit)) m e = absurd (cc e)
share_is (Some (value.Own (owned.Int n))) m e = absurd (cc e)
share_is (Some (value.Own (owned.Box p))) m e = absurd (cc e)
share_is (Some (value.Own (owned.Task u))) m e = absurd (cc e)
share_is (Some value.Gone) m e = absurd (cc e)
share_is (Some (value.SharedSlot j)) m e = absurd (cc e)
share_is (Some (value.MutSlot j)) m e = absurd (cc e)
share_is (Some (value.Shared r)) m e = absurd (cc e)
share_is (Some (value.Mut r)) m e = absurd (cc e)
share_is (Some (value.Held w)) m e = absurd (cc e)

pub shares_go : SharesGo
shares_go k e i y m q th it sound few = by i q it
  where
    of_slot : (j d : ℕ) (o : Operand) → instr_of k e ≡ Some (instr.Assign (record { slot = j; depth = d }) o) → variable_share d (slice_get y.slots j) ≡ Some m → Gives (λ d. is_in_state (sight d.0) (mutex_n m) ≡ true → IsPlainStep k d) (apply k e)
    of_slot j (suc d) o q it = absurd (cc it)
    of_slot j zero o q it =
        events_are (λ d. is_in_state (sight d.0) (mutex_n m) ≡ true → IsPlainStep k d) k e (instr.Assign (variable j) o) sound few (λ s t x at.
        assign_line k sound e s t x m j o at (share_is (slice_get x.slots j) m (ap (λ (z : ThreadState). then_some (slice_get z.slots j) mutex_of) (same_thread k e (instr.Assign (variable j) o) s t x y at th) ∙ it))) q

    of_variable : (w : Lval) (o : Operand) → instr_of k e ≡ Some (instr.Assign w o) → variable_share w.depth (slice_get y.slots w.slot) ≡ Some m → Gives (λ d. is_in_state (sight d.0) (mutex_n m) ≡ true → IsPlainStep k d) (apply k e)
    of_variable w o q it = of_slot w.slot w.depth o q it

    by : (i : Instr) → instr_of k e ≡ Some i → dropped_share i y ≡ Some m → Gives (λ d. is_in_state (sight d.0) (mutex_n m) ≡ true → IsPlainStep k d) (apply k e)
    by instr.Discard q it =
        events_are (λ d. is_in_state (sight d.0) (mutex_n m) ≡ true → IsPlainStep k d) k e instr.Discard sound few (λ s t x at. discard_line k sound e s t x m at (share_is (last_of x.temps) m (ap (λ (z : ThreadState). then_some (last_of z.temps) mutex_of) (same_thread k e instr.Discard s t x y at th) ∙ it))) q
    by instr.DropSlot q it =
        events_are (λ d. is_in_state (sight d.0) (mutex_n m) ≡ true → IsPlainStep k d) k e instr.DropSlot sound few (λ s t x at. drop_line k sound e s t x m at (share_is (last_of x.slots) m (ap (λ (z : ThreadState). then_some (last_of z.slots) mutex_of) (same_thread k e instr.DropSlot s t x y at th) ∙ it))) q
    by (instr.Assign w o) q it = of_variable w o q it
    by _ q it = absurd (cc it)
