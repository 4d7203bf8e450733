-- A step of a thread is the same with other messages in front.
use Rattle.std.proofs.Common.{◌≡◌, ℕ, zero, suc, ◌+◌, ◌==◌, Bool, true, false, List, [], ◌∷◌, Option, Some, None, refl, ap, ◌∙◌}
use Rattle.std.specs.Prelude.{slice_get, option_map}
use Rattle.law_runs_whole.specs.Below.fr_base.Rooms.{WithRoom}
use Rattle.law_runs_whole.specs.Below.fr_base.declared.name.MutexNo.{MutexNo}
use Rattle.law_runs_whole.specs.Below.fr_base.declared.label.Label.TheVariants as label
use Rattle.law_runs_whole.specs.Below.fr_base.declared.place.Lval.{Lval}
use Rattle.law_runs_whole.specs.Below.fr_base.declared.place.Op.{Op}
use Rattle.law_runs_whole.specs.Below.fr_base.declared.step.Fresh.{Fresh}
use Rattle.law_runs_whole.specs.Below.fr_base.declared.step.Fresh.TheVariants as fresh
use Rattle.law_runs_whole.specs.Below.fr_base.declared.instruction.Instr.{Instr}
use Rattle.law_runs_whole.specs.Below.fr_base.declared.instruction.Instr.TheVariants as instr
use Rattle.law_runs_whole.specs.Below.fr_base.declared.instruction.Operand.{Operand}
use Rattle.law_runs_whole.specs.Below.heap_partition.declared.value.Owned.{Owned}
use Rattle.law_runs_whole.specs.Below.heap_partition.declared.value.Owned.TheVariants as owned
use Rattle.law_runs_whole.specs.Below.join_home.Tasks.{can_begin, can_begin_pair}
use Rattle.law_runs_whole.specs.Below.mutex_home.Mutexes.{can_make, next_mutex}
use Rattle.law_runs_coherent.specs.Below.migration.Packing.{unpin_all}
use Rattle.law_runs_whole.specs.Below.thread_state.View.{new_thread}
use Rattle.law_runs_whole.specs.Below.thread_state.declared.phase.Phase.{Phase}
use Rattle.law_runs_whole.specs.Below.thread_state.declared.phase.Phase.TheVariants as phase
use Rattle.law_runs_whole.specs.Below.thread_state.declared.value.Value.{Value}
use Rattle.law_runs_whole.specs.Below.thread_state.declared.value.Value.TheVariants as value
use Rattle.law_runs_coherent.specs.Below.server_msgs.declared.message.Message.{Message}
use Rattle.law_runs_coherent.specs.Below.server_msgs.declared.message.Message.TheVariants as message
use Rattle.law_runs_whole.specs.Below.journal.declared.act.Act.TheVariants as act
use Rattle.law_runs_whole.specs.Below.server_model.Servers.{Sent}
use Rattle.law_runs_whole.specs.Below.server_model.Work.{Work, Hand, Popped, then_some, working, note, label_all, with_phase, with_slots, pop_slot, pop, owned_of, task_of, mutex_of, push_temp}
use Rattle.law_runs_whole.specs.Below.server_model.Places.{Spot, in_slot, on_top, in_cell, in_copy, nowhere, cell_at, value_at, load_at, put_at, second_of}
use Rattle.law_runs_whole.specs.Below.server_model.Drop.{home_of, drop_value}
use Rattle.law_runs_whole.specs.Below.server_model.Start.{next_thread, server_for, start_thread, capture}
use Rattle.law_runs_whole.specs.Below.server_model.Prepare.{Prepared, ready, requested, nothing, access_of, prepare}
use Rattle.law_runs_whole.specs.Below.server_model.Commit.{Committed, done, waits, refused, done_where, go_on, goes_on, waiting, let_slot, label_dropped, replace_slot, store_labels, store_at, replace_at, assign, take_out, read_as, read, shared_from, borrow_from, mutable_from, borrow_mut_from, discard, drop_slot, next_object, push_box, make_box, box_up, arith, print, begun, spawn_with, spawn, ask_join, take_gift, join, pair_begun, par_with, par, par_end, end_with, end_thread, mutex, mutex_at, ask_dup, dup, ask_lock, push_content, lock, held_of, send_content, unlock, commit, settle}
use Rattle.law_runs_whole.specs.Below.server_model.Events.{Stepped, done_step, committed, prepared, step, step_in}
use Rattle.law_runs_rounds.proofs.rounds.Chains.{map_by, then_by, map_same, then_same, if_same}
use Rattle.law_runs_rounds.proofs.rounds.Behind.{work_behind, hand_behind, popped_behind, word_behind, sends, hand_sends, pops_temp, pops_slot, pops, takes_as, pops_owned, pops_int, places_it, cell_same, value_same, loads, puts, puts_slot, gives_up, drops}
use Rattle.law_runs_rounds.proofs.rounds.BehindPlaces.{prepared_behind, prepares}

module _ (ms : List Message) (xs : List Sent) where
  abbrev behind : Hand → Hand
  behind h = hand_behind ms xs h

  abbrev popped : {X : Type 0} → Popped X → Popped X
  popped p = popped_behind ms xs p

  abbrev committed_behind : Committed → Committed
  committed_behind (done names h) = done names (hand_behind ms xs h)
  committed_behind (waits h) = waits (hand_behind ms xs h)
  committed_behind refused = refused

  abbrev Alike : (Hand → Option Hand) → Hand → Type 0
  Alike f h = f (behind h) ≡ option_map behind (f h)

  abbrev Commits : (Hand → Committed) → Hand → Type 0
  Commits f h = f (behind h) ≡ committed_behind (f h)

  is_done_where : (names : Fresh) (o2 o : Option Hand) → o2 ≡ option_map behind o → done_where names o2 ≡ committed_behind (done_where names o)
  is_done_where names o2 o e = ap (done_where names) e ∙ by o
    where
      by : (o : Option Hand) → done_where names (option_map behind o) ≡ committed_behind (done_where names o)
      by None = refl
      by (Some h) = refl

  is_waiting : (o2 o : Option Hand) → o2 ≡ option_map behind o → waiting o2 ≡ committed_behind (waiting o)
  is_waiting o2 o e = ap waiting e ∙ by o
    where
      by : (o : Option Hand) → waiting (option_map behind o) ≡ committed_behind (waiting o)
      by None = refl
      by (Some h) = refl

  going : (o2 o : Option Hand) → o2 ≡ option_map behind o → option_map go_on o2 ≡ option_map behind (option_map go_on o)
  going o2 o e = map_by behind behind o2 o go_on go_on e (λ h. refl)

  goes : (o2 o : Option Hand) → o2 ≡ option_map behind o → goes_on o2 ≡ committed_behind (goes_on o)
  goes o2 o e = is_done_where fresh.None (option_map go_on o2) (option_map go_on o) (going o2 o e)

  -- SLOTS AND PLACES

  lets : (o : Operand) (h : Hand) → Alike (let_slot o) h
  lets o h = map_by popped behind _ _ _ _ (pops ms xs o h) (λ p. refl)

  replaces_slot : (i : ℕ) (holder : Spot) (v : Value) (h : Hand) → Alike (replace_slot i holder v) h
  replaces_slot i holder v h = then_same behind (slice_get h.thread.slots i) _ _ (λ old. then_by behind behind _ _ (drop_value holder old) (drop_value holder old) (puts_slot ms xs i v (label_dropped old h)) (λ h2. drops ms xs holder old h2))

  stores : (s : Spot) (v : Owned) (h : Hand) → Alike (store_at s v) h
  stores s v h = ap (λ c. put_at s (value.Own v) (working (label_all (store_labels c v)) (behind h))) (cell_same ms xs h s) ∙ puts ms xs s (value.Own v) (working (label_all (store_labels (cell_at h s) v)) h)

  replaces_at : (s : Spot) (v : Owned) (h : Hand) → Alike (replace_at s v) h
  replaces_at s v h =
      ap (λ o. then_some o (λ old. then_some (store_at s v (label_dropped old (behind h))) (drop_value nowhere old))) (value_same ms xs h s)
      ∙ then_same behind (value_at h s) _ _ (λ old. then_by behind behind _ _ (drop_value nowhere old) (drop_value nowhere old) (stores s v (label_dropped old h)) (λ h2. drops ms xs nowhere old h2))

  assigns : (w : Lval) (d : ℕ) (o : Operand) (s : Spot) (h : Hand) → Alike (assign w d o s) h
  assigns w zero o s h = then_by popped behind _ _ _ _ (pops ms xs o h) (λ p. replaces_slot w.slot s p.item p.hand)
  assigns w (suc d) o s h = then_by popped behind _ _ _ _ (pops_owned ms xs o h) (λ p. replaces_at s p.item p.hand)

  takes_out : (s : Spot) (h : Hand) → Alike (take_out s) h
  takes_out (in_slot i) h = puts_slot ms xs i value.Gone h
  takes_out on_top h = stores on_top owned.Nothing h
  takes_out (in_cell w through) h = stores (in_cell w through) owned.Nothing h
  takes_out (in_copy w) h = stores (in_copy w) owned.Nothing h
  takes_out nowhere h = stores nowhere owned.Nothing h

  reads_as : (take : Bool) (s : Spot) (v : Value) (h : Hand) → Alike (read_as take s v) h
  reads_as false s v h = map_same behind (second_of v) _ _ (λ u. refl)
  reads_as true s v h = map_by behind behind _ _ (push_temp v) (push_temp v) (takes_out s h) (λ h2. refl)

  reads_it : (take : Bool) (s : Spot) (h : Hand) → Alike (read take s) h
  reads_it take s h =
      ap (λ o. then_some o (λ v. read_as take s v (load_at s (behind h)))) (value_same ms xs h s)
      ∙ then_same behind (value_at h s) _ _ (λ v. ap (read_as take s v) (loads ms xs s h) ∙ reads_as take s v (load_at s h))

  borrows : (w : Lval) (d : ℕ) (s : Spot) (h : Hand) → Alike (borrow_from w d s) h
  borrows w zero s h = refl
  borrows w (suc d) s h =
      ap (λ o. then_some o (λ v. option_map (λ r. push_temp r (behind h)) (shared_from v))) (value_same ms xs h s) ∙ then_same behind (value_at h s) _ _ (λ v. map_same behind (shared_from v) _ _ (λ u. refl))

  lends : (w : Lval) (d : ℕ) (s : Spot) (h : Hand) → Alike (borrow_mut_from w d s) h
  lends w zero s h = refl
  lends w (suc d) s h =
      ap (λ o. then_some o (λ v. option_map (λ r. push_temp r (behind h)) (mutable_from h.thread.phase (record w { depth = d }) v))) (value_same ms xs h s)
      ∙ then_same behind (value_at h s) _ _ (λ v. map_same behind (mutable_from h.thread.phase (record w { depth = d }) v) _ _ (λ u. refl))

  discards : (s : Spot) (h : Hand) → Alike (discard s) h
  discards s h = then_by popped behind _ _ _ _ (pops_temp ms xs h) (λ p. drops ms xs s p.item (label_dropped p.item p.hand))

  drops_slot : (s : Spot) (h : Hand) → Alike (drop_slot s) h
  drops_slot s h = then_by popped behind _ _ _ _ (pops_slot ms xs h) (λ p. drops ms xs s p.item (label_dropped p.item p.hand))

  -- OBJECTS AND NUMBERS

  makes_box : (v : Owned) (h : Hand) → Alike (make_box v) h
  makes_box v h = map_by (word_behind ms xs) behind _ _ (λ n. push_box v n h) (λ n. push_box v n (behind h)) (places_it ms xs (act.Make (next_object h)) (record { object = next_object h; value = v }) h.work) (λ n. refl)

  boxes_up : (o : Operand) (h : Hand) → Alike (box_up o) h
  boxes_up o h = then_by popped behind _ _ _ _ (pops_owned ms xs o h) (λ p. makes_box p.item p.hand)

  calculates : (f : Op) (a b : Operand) (h : Hand) → Alike (arith f a b) h
  calculates f a b h = then_by popped behind _ _ _ _ (pops_int ms xs b h) (λ y. map_by popped behind _ _ _ _ (pops_int ms xs a y.hand) (λ x. refl))

  prints : (o : Operand) (h : Hand) → Alike (print o) h
  prints o h = map_by popped behind _ _ _ _ (pops_int ms xs o h) (λ p. refl)

  -- MUTEXES

  makes_mutex : (o : Operand) (h : Hand) → Commits (mutex o) h
  makes_mutex o h =
      is_done_where (fresh.Mutex (next_mutex h.work.rest.mutexes)) _ _ (going _ _ (then_by popped behind _ _ _ _ (pops_owned ms xs o h) (λ p. if_same behind (can_make p.hand.work.rest.mutexes) _ _ refl)))

  finds_mutex : (h : Hand) (s : Spot) → mutex_at (behind h) s ≡ mutex_at h s
  finds_mutex h s = ap (λ o. then_some o mutex_of) (value_same ms xs h s)

  asks_dup : (h : Hand) (m : MutexNo) → ask_dup (behind h) m ≡ behind (ask_dup h m)
  asks_dup h m = ap (with_phase (phase.WaitDup m)) (hand_sends ms xs m.home (message.Dup m h.work.rest.number h.thread.number) (act.AskDup m) h)

  asks_lock : (h : Hand) (m : MutexNo) → ask_lock (behind h) m ≡ behind (ask_lock h m)
  asks_lock h m = ap (with_phase (phase.WaitLock m)) (hand_sends ms xs m.home (message.Lock m h.work.rest.number h.thread.number) (act.AskLock m) h)

  dups : (s : Spot) (gift : Option Owned) (h : Hand) → Commits (dup s gift) h
  dups s None h = is_waiting _ _ (ap (option_map (ask_dup (behind h))) (finds_mutex h s) ∙ map_same behind (mutex_at h s) (ask_dup h) (ask_dup (behind h)) (asks_dup h))
  dups s (Some v) h =
      goes _ _ (ap (option_map (λ m. push_temp (value.Own v) (load_at s (take_gift (behind h))))) (finds_mutex h s)
      ∙ map_same behind (mutex_at h s) _ _ (λ m. ap (push_temp (value.Own v)) (loads ms xs s (take_gift h))))

  locks : (s : Spot) (gift : Option Owned) (h : Hand) → Commits (lock s gift) h
  locks s None h = is_waiting _ _ (ap (option_map (ask_lock (behind h))) (finds_mutex h s) ∙ map_same behind (mutex_at h s) (ask_lock h) (ask_lock (behind h)) (asks_lock h))
  locks s (Some v) h =
      goes _ _ (ap (option_map (push_content v (load_at s (take_gift (behind h))))) (finds_mutex h s)
      ∙ map_same behind (mutex_at h s) (push_content v (load_at s (take_gift h))) (push_content v (load_at s (take_gift (behind h)))) (λ m. ap (λ x. push_content v x m) (loads ms xs s (take_gift h))))

  sends_content : (m : MutexNo) (v : Owned) (h : Hand) → send_content m v (behind h) ≡ behind (send_content m v h)
  sends_content m v h = ap (λ w. record h { work = w }) (sends ms xs m.home (message.Unlock m v) (label_all (label.Unlock m ∷ []) (note (act.GiveBack m) h.work)))

  unlocks : (h : Hand) → Alike unlock h
  unlocks h =
      then_by popped behind _ _ _ _ (takes_as ms xs owned_of _ (pop_slot h) (pops_slot ms xs h))
      (λ v. map_by popped behind _ _ _ _ (takes_as ms xs held_of _ (pop_slot v.hand) (pops_slot ms xs v.hand)) (λ m. sends_content m.item v.item m.hand))

  -- THREADS

  asks_join : (h : Hand) (u : ℕ) → ask_join (behind h) u ≡ behind (ask_join h u)
  asks_join h u = ap (with_phase (phase.WaitJoin u)) (hand_sends ms xs (home_of u) (message.Join u h.work.rest.number h.thread.number) (act.AskJoin u) h)

  finds_task : (o2 o : Option (Popped Value)) → o2 ≡ option_map popped o → then_some o2 (λ p. task_of p.item) ≡ then_some o (λ p. task_of p.item)
  finds_task o2 o e = ap (λ x. then_some x (λ p. task_of p.item)) e ∙ by o
    where
      by : (o : Option (Popped Value)) → then_some (option_map popped o) (λ p. task_of p.item) ≡ then_some o (λ p. task_of p.item)
      by None = refl
      by (Some p) = refl

  joins : (o : Operand) (gift : Option Owned) (h : Hand) → Commits (join o gift) h
  joins o None h =
      is_waiting _ _ (ap (option_map (ask_join (behind h))) (finds_task (pop o (behind h)) (pop o h) (pops ms xs o h)) ∙ map_same behind (then_some (pop o h) (λ p. task_of p.item)) (ask_join h) (ask_join (behind h)) (asks_join h))
  joins o (Some result) h = goes _ _ (map_by popped behind _ _ _ _ (takes_as ms xs task_of _ (pop o (take_gift h)) (pops ms xs o (take_gift h))) (λ p. refl))

  par_ends : (p : Phase) (h : Hand) → Alike (par_end p) h
  par_ends (phase.GotPar a b) h = refl
  par_ends phase.Ready h = refl
  par_ends _ h = refl

  ends_with : (main : Bool) (v : Owned) (h : Hand) → Alike (end_with main v) h
  ends_with true v h =
      let dropped = label_dropped (value.Own v) h in
      ap (λ w. Some (working (λ x. label_all (label.End h.thread.number ∷ []) w) dropped)) (gives_up ms xs v dropped.work)
  ends_with false v h =
      ap (λ w. Some (record h { work = w })) (sends ms xs h.thread.home (message.Finished h.thread.number v) (label_all (label.End h.thread.number ∷ []) (note (act.Finish h.thread.number) h.work)))

  ends : (o : Operand) (h : Hand) → Commits (end_thread o) h
  ends o h =
      is_done_where fresh.None _ _ (map_by behind behind _ _ (with_phase phase.Over) (with_phase phase.Over)
      (then_by popped behind _ _ _ _ (pops_owned ms xs o h) (λ p. ends_with (h.thread.number == 0) p.item p.hand)) (λ h2. refl))

  module _ (servers : ℕ) where
    starts : (pc : ℕ) (vs : List Value) (w : Work) → start_thread servers pc vs (work_behind ms xs w) ≡ work_behind ms xs (start_thread servers pc vs w)
    starts pc vs w =
        sends ms xs (server_for servers w.rest) (message.Start (new_thread (next_thread w.rest) pc vs))
        (label_all (label.Start (next_thread w.rest) ∷ []) (note (act.Start (next_thread w.rest) (server_for servers w.rest)) (record w { rest = record w.rest { started = w.rest.started + 1 } })))

    begins : (h : Hand) → Alike begun h
    begins h = if_same behind (can_begin h.work.rest.tasks (next_thread h.work.rest)) _ _ refl

    spawns_with : (pc u : ℕ) (h : Hand) (new : List Value × List Value) → spawn_with servers pc u (behind h) new ≡ option_map behind (spawn_with servers pc u h new)
    spawns_with pc u h new = map_by behind behind _ _ _ _ (begins h) (λ h2. ap (λ w. push_temp (value.Own (owned.Task u)) (record (with_slots new.1 h2) { work = w })) (starts pc new.0 h2.work))

    spawns : (cs : WithRoom (ℕ × Bool)) (pc : ℕ) (h : Hand) → Commits (spawn servers cs pc) h
    spawns cs pc h =
        is_done_where (fresh.Thread (next_thread h.work.rest)) _ _ (going _ _ (then_same behind (capture false cs.items h.thread.slots) _ _ (λ new. spawns_with pc (next_thread h.work.rest) h new)))

    begins_pair : (h : Hand) (a b : ℕ) → pair_begun (behind h) a b ≡ option_map behind (pair_begun h a b)
    begins_pair h a b = if_same behind (can_begin_pair h.work.rest.tasks h.thread.number a b) _ _ refl

    pars_with : (pc other a b : ℕ) (h : Hand) (first : List Value) (second : List Value × List Value) → par_with servers pc other a b (behind h) first second ≡ option_map behind (par_with servers pc other a b h first second)
    pars_with pc other a b h first second =
        map_by behind behind _ _ _ _ (begins_pair h a b)
        (λ h2. ap (λ w. with_phase (phase.WaitPar a b) (go_on (record (with_slots second.1 h2) { work = w })))
        (ap (start_thread servers other second.0) (starts pc first h2.work) ∙ starts other second.0 (start_thread servers pc first h2.work)))

    pars : (cs : WithRoom (ℕ × Bool)) (pc : ℕ) (ds : WithRoom (ℕ × Bool)) (other : ℕ) (h : Hand) → Commits (par servers cs pc ds other) h
    pars cs pc ds other h =
        let u = next_thread h.work.rest in
        is_done_where (fresh.Threads u (u + 1)) _ _ (then_same behind (capture true cs.items h.thread.slots) _ _ (λ first. then_same behind (capture true ds.items first.1) _ _ (λ second. pars_with pc other u (u + 1) h first.0 second)))

    -- ALL INSTRUCTIONS

    commits : (i : Instr) (s : Spot) (h : Hand) → Commits (commit servers i s) h
    commits (instr.Let o) s h = goes _ _ (lets o h)
    commits (instr.Assign w o) s h = goes _ _ (assigns w w.depth o s h)
    commits (instr.Read w take) s h = goes _ _ (reads_it take s h)
    commits (instr.Borrow w) s h = goes _ _ (borrows w w.depth s h)
    commits (instr.BorrowMut w) s h = goes _ _ (lends w w.depth s h)
    commits (instr.Box o) s h = goes _ _ (boxes_up o h)
    commits (instr.Arith f a b) s h = goes _ _ (calculates f a b h)
    commits (instr.Print o) s h = goes _ _ (prints o h)
    commits instr.Discard s h = goes _ _ (discards s h)
    commits instr.DropSlot s h = goes _ _ (drops_slot s h)
    commits (instr.Spawn cs pc) s h = spawns cs pc h
    commits (instr.Join o) s h = joins o h.thread.gift h
    commits (instr.Mutex o) s h = makes_mutex o h
    commits (instr.Dup w) s h = dups s h.thread.gift h
    commits (instr.Lock w) s h = locks s h.thread.gift h
    commits instr.Unlock s h = goes _ _ (unlocks h)
    commits (instr.Par cs pc ds other) s h = pars cs pc ds other h
    commits instr.ParEnd s h = goes _ _ (par_ends h.thread.phase h)
    commits (instr.End o) s h = ends o h

    -- A WHOLE STEP

    abbrev pub stepped_behind : Stepped → Stepped
    stepped_behind d = record d { hand = hand_behind ms xs d.hand }

    commits_to : (c : Committed) → committed (committed_behind c) ≡ option_map stepped_behind (committed c)
    commits_to (done names h) =
        map_by behind stepped_behind (settle (behind h)) (settle h) (done_step names) (done_step names) (map_same behind (unpin_all h.thread.walk h.work.rest.cache) _ _ (λ cs. refl)) (λ h2. refl)
    commits_to (waits h) = refl
    commits_to refused = refl

    prepared_to : (i : Instr) (p : Prepared) → prepared servers i (prepared_behind ms xs p) ≡ option_map stepped_behind (prepared servers i p)
    prepared_to i (ready h s) = ap committed (commits i s h) ∙ commits_to (commit servers i s h)
    prepared_to i (requested h) = refl
    prepared_to i nothing = refl

    steps : (i : Instr) (h : Hand) → step servers i (behind h) ≡ option_map stepped_behind (step servers i h)
    steps i h = ap (prepared servers i) (prepares ms xs (access_of i h.thread) h) ∙ prepared_to i (prepare (access_of i h.thread) h)

    pub steps_in : (code : List Instr) (h : Hand) → step_in code servers (behind h) ≡ option_map stepped_behind (step_in code servers h)
    steps_in code h = then_same stepped_behind (slice_get code h.thread.pc) _ _ (λ i. steps i h)
