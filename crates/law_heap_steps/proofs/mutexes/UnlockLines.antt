-- An unlock, at the server and on the plain machine: the content goes back into its mutex, where that is in the state afterwards.
use Rattle.std.proofs.Common.{◌≡◌, ℕ, ◌+◌, ◌≤◌, true, false, List, [], ◌∷◌, ◌++◌, Option, Some, None, option_map, refl, sym, ap, ap₂, subst, ◌∙◌, arith}
use Rattle.std.specs.List.{AllByRecursion}
use Rattle.law_heap_steps.specs.Below.fr_base.declared.name.MutexNo.{MutexNo}
use Rattle.law_heap_steps.specs.Below.fr_base.declared.step.Fresh.TheVariants as fresh
use Rattle.law_heap_steps.specs.Below.fr_base.Lists.{last_of}
use Rattle.law_heap_steps.specs.Below.fr_base.declared.instruction.Instr.{Instr}
use Rattle.law_heap_steps.specs.Below.fr_base.declared.instruction.Instr.TheVariants as instr
use Rattle.law_heap_steps.specs.Below.fr_plain.declared.value.Value.{Value as PlainValue}
use Rattle.law_heap_steps.specs.Below.fr_plain.declared.value.Value.TheVariants as plain_v
use Rattle.law_heap_steps.specs.Below.fr_plain.PlainState.{SameState, plain_state}
use Rattle.law_heap_steps.specs.Below.fr_plain.MachineActs.{do_unlock}
use Rattle.law_heap_steps.specs.Below.fr_plain.MachineThreads.{Shared}
use Rattle.law_heap_steps.specs.Below.fr_code.Machine.{CodeWhole, CodeRunning}
use Rattle.law_heap_steps.specs.Below.fr_code.Steps.{Place, over_at, run_instr}
use Rattle.law_heap_steps.specs.Below.heap_partition.Plain.{plain_of}
use Rattle.law_heap_steps.specs.Below.heap_partition.declared.value.Owned.{Owned}
use Rattle.law_heap_steps.specs.Below.heap_partition.declared.value.Owned.TheVariants as owned
use Rattle.law_heap_steps.specs.Below.read_cache.Cache.{Copy}
use Rattle.law_heap_steps.specs.Below.migration.Packing.{unpin_all}
use Rattle.law_heap_steps.specs.Below.thread_state.View.{ThreadState}
use Rattle.law_heap_steps.specs.Below.thread_state.declared.value.Value.{Value}
use Rattle.law_heap_steps.specs.Below.thread_state.declared.value.Value.TheVariants as value
use Rattle.law_heap_steps.specs.Below.server_model.declared.event.Event.{Event}
use Rattle.law_heap_steps.specs.Below.server_model.Servers.{Server, Cluster}
use Rattle.law_heap_steps.specs.Below.server_model.Work.{Hand, Popped, with_slots, with_cache, front_of, pop_slot, taken_as, owned_of, then_some}
use Rattle.law_heap_steps.specs.Below.server_model.Commit.{goes_on, go_on, held_of, send_content}
use Rattle.law_heap_steps.specs.Below.server_model.Events.{Stepped, begin_work, committed, step}
use Rattle.law_heap_steps.specs.Below.coherent_memory.Names.{tot, one, if_so, same_mutex}
use Rattle.law_heap_steps.specs.Below.coherent_memory.Things.{Thing, holds, as_content, gift_things, things_at}
use Rattle.law_heap_steps.specs.Below.coherent_memory.Sight.{Sight}
use Rattle.law_heap_steps.specs.Below.coherent_memory.Naming.{started_at, made_at}
use Rattle.law_heap_steps.specs.Below.coherent_memory.OneHeap.{Node, object_n, mutex_n, task_n, inside, owns, named_in, any_named, is_in_state, if_in, or_else, first_shown, content_value, result_value, share_in, running_at, one_heap, state_of}
use Rattle.law_heap_steps.specs.Below.coherent_memory.Coherent.{IsSound}
use Rattle.law_heap_steps.proofs.Below.coherent_memory.Names.{same_mutexes}
use Rattle.law_heap_steps.specs.Below.law_counts_sums.Laws.{Gives}
use Rattle.law_heap_steps.proofs.Below.law_counts_sums.Bags.{counts_of}
use Rattle.law_heap_steps.proofs.Below.law_counts_sums.GiftsTaken.{gift_fits}
use Rattle.law_heap_steps.proofs.Below.law_heap_still.events.Alike.{Once}
use Rattle.law_heap_steps.proofs.Below.law_heap_still.events.Readied.{copies_ready}
use Rattle.law_heap_steps.proofs.Below.law_heap_still.events.Told.{told, ones}
use Rattle.law_plain_values.proofs.acts.Mutexes.{mutex_cases}
use Rattle.law_heap_steps.specs.turns.Turns.{StepsTo}
use Rattle.law_heap_steps.proofs.turns.Parts.{owned_in}
use Rattle.law_heap_steps.proofs.turns.OneTurn.{of_thread, Calm, after}
use Rattle.law_heap_steps.proofs.turns.Instructions.{shown_last, shown_push, owned_push}
use Rattle.law_heap_steps.proofs.turns.Events.{AtStep, then_same}
use Rattle.law_heap_steps.proofs.mutexes.Beside.{IsLoose, so_one, tot_of}
use Rattle.law_heap_steps.proofs.mutexes.Changed.{lone, given, once_before, state_before}
use Rattle.law_heap_steps.proofs.mutexes.Gifted.{or_false}
use Rattle.law_heap_steps.proofs.mutexes.ThreadTurns.{G, R, before, then_there, quiet, loose, ThreadTurn, Next, is_step}
use Rattle.law_heap_steps.proofs.mutexes.OneMutex as one_mutex
use Rattle.law_heap_steps.proofs.mutexes.OneMutex.{shared_as}
use Rattle.law_heap_steps.proofs.mutexes.OneThread.{GoesOn, past}
use Rattle.law_heap_steps.proofs.mutexes.Change.{Change, thread_on, made_on, objects_on, mutexes_on, after_it}
use Rattle.law_heap_steps.proofs.mutexes.DupLines.{running_to}
use Rattle.law_heap_steps.specs.mutexes.Locks.{marked, IsThere}
use Rattle.law_heap_steps.proofs.mutexes.NewMutex.{rest_and_own, off_all, none_told}
use Rattle.law_heap_steps.proofs.mutexes.Changed as changed
use Rattle.law_heap_steps.proofs.mutexes.Places.{itself_named}
use Rattle.law_heap_steps.proofs.mutexes.PlainMutex.{acts, unlocks as unlock_does, steps_with, set_shows}
use Rattle.std.proofs.lemmas.List.{append_assoc}
use Rattle.law_heap_steps.specs.Below.fr_base.declared.label.Label.TheVariants as label
use Rattle.law_heap_steps.specs.Below.fr_base.declared.label.Plain.{Plain}
use Rattle.law_heap_steps.specs.Below.journal.declared.act.Act.TheVariants as act
use Rattle.law_heap_steps.specs.Below.server_msgs.declared.message.Message.TheVariants as message
use Rattle.law_heap_steps.specs.Below.server_model.Work.{note, label_all}
use Rattle.law_heap_steps.specs.Below.server_model.Events.{stepped}
use Rattle.law_heap_steps.specs.Below.fr_plain.MachineThreads.{mutex_there, with_mutex}
use Rattle.law_heap_steps.specs.Below.coherent_memory.Things.{at_slot, at_temp, in_cell, locks, stands, walk_things, slot_things, temp_things, things_of}
use Rattle.law_heap_steps.specs.Below.coherent_memory.Sight.{sight}
use Rattle.law_heap_steps.specs.Below.coherent_memory.Sharing.{contents, gift_content}
use Rattle.law_heap_steps.proofs.Below.law_counts_sums.Bags.{had_by, rest_things}
use Rattle.law_heap_steps.proofs.Below.law_counts_sums.KnownSound.{on_standing}
use Rattle.law_heap_steps.proofs.Below.law_counts_sums.Trades.{tot-append}
use Rattle.law_heap_steps.proofs.Below.law_counts_sums.Values.{last_split}
use Rattle.law_heap_steps.proofs.Below.law_heap_still.events.Once.{few_homes}
use Rattle.law_heap_steps.proofs.Below.law_heap_still.events.Sites.{shown, Moves, sends}
use Rattle.law_plain_values.proofs.acts.Mutexes.{given_set}
use Rattle.law_heap_steps.specs.turns.Turns.{IsPlainStep}
use Rattle.law_heap_steps.proofs.turns.Events.{Sends}
use Rattle.law_heap_steps.proofs.mutexes.Reach.{NoneUnder}
use Rattle.law_heap_steps.proofs.mutexes.Beside.{giftless, IsBeside, loose_beside, all_so}
use Rattle.law_heap_steps.proofs.mutexes.OneThread.{mutex_given}
use Rattle.law_heap_steps.proofs.mutexes.Change.{before_it, in_afterwards}
use Rattle.law_heap_steps.proofs.mutexes.SharedLines.{nothing_under}
use Rattle.law_heap_steps.proofs.mutexes.Places.{there_too}

-- the marks of a mutex in slots
abbrev mark_of : MutexNo → Thing → ℕ
mark_of m (locks (at_slot t j) w) = one (same_mutex w m)
mark_of m x = 0

-- A MARK IN A SLOT

-- the mark of a lock weighs one
mark_counts : (f : Thing → ℕ) (n t : ℕ) (m : MutexNo) → ((j : ℕ) → f (locks (at_slot t j) m) ≡ 1) → (i : ℕ) (xs ys : List Value) → 1 ≤ tot f (things_at (slot_things n t) i (xs ++ (value.Held m ∷ ys)))
mark_counts f n t m h i [] ys = omega (arith, h i)
mark_counts f n t m h i (x ∷ xs) ys = omega (arith, mark_counts f n t m h (i + 1) xs ys, tot-append f (slot_things n t i x) (things_at (slot_things n t) (i + 1) (xs ++ (value.Held m ∷ ys))))

mark_weighs : (r : Sight) (m : MutexNo) (th : Thing) → on_standing (gift_content r m) th + mark_of m th ≤ contents r m th
mark_weighs r m (stands a p z) = omega arith
mark_weighs r m (locks (at_slot t j) w) = omega arith
mark_weighs r m (locks (at_temp t j) w) = omega arith
mark_weighs r m (locks (in_cell o) w) = omega arith
mark_weighs r m _ = omega arith

tot_both : (f g h : Thing → ℕ) → ((x : Thing) → f x + g x ≤ h x) → (xs : List Thing) → tot f xs + tot g xs ≤ tot h xs
tot_both f g h e [] = omega arith
tot_both f g h e (x ∷ xs) = omega (arith, e x, tot_both f g h e xs)

module _ (k : Cluster) (sound : IsSound k) (e : Event) (s : Server) (t : ℕ) (x : ThreadState) (at : AtStep k e instr.Unlock s t x) where
  abbrev i : Instr
  i = instr.Unlock

  abbrev start : Hand
  start = record { work = begin_work s.rest; thread = x }

  abbrev n : ℕ
  n = s.rest.number

  abbrev G1 : List Thing
  G1 = G k sound e i refl s t x at

  abbrev Others : List Thing
  Others = R k sound e i refl s t x at

  abbrev s1 : Sight
  s1 = before k sound e i refl s t x at

  bare : x.gift ≡ None
  bare = (gift_fits k sound e.server s at.here t x at.at i at.code).0

  abbrev counts_here : Thing
  counts_here = counts_of n s.events s.rest

  alone : {A : Type 0} (f : List Thing → A) → f G1 ≡ f (counts_here ∷ [])
  alone f = ap (λ g. f (gift_things x.number g ++ counts_here ∷ [])) bare

  module _ (m : MutexNo) (v : Owned) (rest : List Value) (split : x.slots ≡ (rest ++ value.Held m ∷ []) ++ value.Own v ∷ []) where
    abbrev counts_then : Thing
    counts_then = counts_of n 0 s.rest

    abbrev G2 : List Thing
    G2 = counts_then ∷ holds (as_content m) v ∷ []

    abbrev s2 : Sight
    s2 = then_there k sound e i refl s t x at (after x (x.pc + 1) rest x.temps) G2

    lone1 : tot (of_thread x.number) Others ≡ 0
    lone1 = lone k sound e s at.here t x at.at at.number

    abbrev loose1 : AllByRecursion IsLoose G1
    loose1 = loose k sound e i refl s t x at

    abbrev calm1 : Calm x.phase
    calm1 = quiet k sound e i refl s t x at

    owned_before : (q : Node) → owned_in q x.slots ≡ owned_in q rest + one (owns q v)
    owned_before q = omega (arith, ap (owned_in q) split, owned_push q (rest ++ value.Held m ∷ []) (value.Own v), owned_push q rest (value.Held m))

    -- NOTHING ELSE IS ITS CONTENT

    mark_there : 1 ≤ tot (mark_of m) (had_by n (giftless x))
    mark_there =
        let ws = things_at (walk_things n) 0 x.walk in
        let ss = things_at (slot_things n x.number) 0 x.slots in
        let ts = things_at (temp_things n x.number) 0 x.temps in
        let had : tot (mark_of m) (had_by n (giftless x)) ≡ tot (mark_of m) ((ws ++ ss) ++ ts) = refl in
        let slots : tot (mark_of m) ss ≡ tot (mark_of m) (things_at (slot_things n x.number) 0 (rest ++ (value.Held m ∷ value.Own v ∷ []))) =
        ap (λ l. tot (mark_of m) (things_at (slot_things n x.number) 0 l)) (split ∙ append_assoc rest (value.Held m ∷ []) (value.Own v ∷ [])) in
        omega (arith, had, slots, mark_counts (mark_of m) n x.number m (λ j. ap one (itself_named m)) 0 rest (value.Own v ∷ []), tot-append (mark_of m) (ws ++ ss) ts, tot-append (mark_of m) ws ss)

    contents_few : tot (contents (sight k) m) (things_of k) ≤ 1
    contents_few = omega (arith, sound.mutexes_and_tasks.one_content m, few_homes k sound m)

    none1 : NoneUnder s1 (λ q. owns q (owned.Mutex m)) Others
    none1 =
        let marks = rest_and_own k sound e s at.here t x at.at at.number (mark_of m) in
        let all = rest_and_own k sound e s at.here t x at.at at.number (contents (sight k) m) in
        let both = tot_both (on_standing (gift_content (sight k) m)) (mark_of m) (contents (sight k) m) (mark_weighs (sight k) m) (things_of k) in
        let own = tot_both (λ th. 0) (mark_of m) (contents (sight k) m) (λ th. let l = mark_weighs (sight k) m th in omega (arith, l)) (had_by n (giftless x)) in
        off_all k sound e s at.here t x at.at at.number m (omega (arith, marks, both, contents_few, mark_there)) (omega (arith, all, own, contents_few, mark_there)) (λ q. owns q (owned.Mutex m)) only
      where
        only : (q : Node) → owns q (owned.Mutex m) ≡ true → q ≡ mutex_n m
        only (object_n u) f = absurd (cc f)
        only (task_n u) f = absurd (cc f)
        only (mutex_n w) f = ap (λ z. mutex_n z) (sym (same_mutexes m w f))

    few : (w : MutexNo) → tot (λ a. told ones (content_value s2 w a)) G2 + tot (λ a. told ones (content_value s1 w a)) Others ≤ 1
    few w =
        mutex_cases (λ c. (0 + (told ones (if_in c (Some (plain_of v))) + 0)) + tot (λ a. told ones (content_value s1 w a)) Others ≤ 1) m w
        (λ f. let none : tot (λ a. told ones (content_value s1 w a)) Others ≡ 0 = subst (λ z. tot (λ a. told ones (content_value s1 z a)) Others ≡ 0) f (none_told s1 m (λ q. owns q (owned.Mutex m)) (itself_named m) Others none1) in omega (arith, none))
        (λ _. omega (arith, (once_before k sound e s at.here t x at.at at.number).contents w, tot_of n x G1 Others (λ a. told ones (content_value s1 w a)) (record { slots = λ p j a. refl; temps = λ p j a. refl; shared = λ l r. refl; lent = λ l r. refl; marks = λ l r. refl; used = λ p r. refl })))

    pub once_then : Once s2
    once_then = one_mutex.once_then k Others G1 G2 n x (x.pc + 1) rest x.temps calm1 loose1 (tt, (tt, tt)) lone1 (once_before k sound e s at.here t x at.at at.number) few (λ r. refl)

    -- WHERE THE MUTEX IS IN THE STATE AFTERWARDS

    module _ (in_then : is_in_state s2 (mutex_n m) ≡ true) where
      change : Change k Others G1 G2 n x (x.pc + 1) rest x.temps m None (Some v) false (λ q. false)
      change = record {
        calm = calm1;
        loose = loose1;
        loose_then = (tt, (tt, tt));
        lone = lone1;
        even = λ q. omega (arith, owned_before q);
        named = λ f q. alone (any_named s1 f q);
        named_then = λ f q. or_false (named_in (owns q v) f (inside (mutex_n m)));
        inside_it = λ z. absurd (cc z);
        inside_then = λ z. in_then;
        new_in = λ z. absurd (cc z);
        extra_in = λ q z. absurd (cc z);
        none = nothing_under s1 Others;
        no_task = λ w. refl;
        no_object = λ w. refl;
        no_other = λ w ne. refl;
        results = λ r. alone (first_shown (result_value s1 r));
        started = λ h c. alone (tot (started_at h c));
        shares = λ w. alone (tot (share_in s1 w));
        shares_then = λ w. (let here : if_so (owns (mutex_n w) v) (one (is_in_state s2 (mutex_n m))) ≡ one (owns (mutex_n w) v) = ap (λ c. if_so (owns (mutex_n w) v) (one c)) in_then ∙ so_one (owns (mutex_n w) v) in omega (arith, here));
        contents = λ w ne. alone (first_shown (content_value s1 w)) ∙ mutex_cases (λ c. None ≡ or_else (if_in c (Some (plain_of v))) None) m w (λ f. absurd (ne (sym f))) (λ _. refl);
      }

      in_before : is_in_state s1 (mutex_n m) ≡ true
      in_before = sym (or_false (is_in_state s1 (mutex_n m))) ∙ sym (in_afterwards change (mutex_n m)) ∙ in_then

      abbrev content : Option Plain
      content = or_else (first_shown (content_value s1 m) G1) (first_shown (content_value s1 m) Others)

      abbrev shares : ℕ
      shares = tot (share_in s1 m) s1.things

      content_is : first_shown (content_value s2 m) G2 ≡ Some (plain_of v)
      content_is = ap (λ c. or_else (if_in c (Some (plain_of v))) None) (itself_named m)

      same_shares : shares + 0 ≡ shares
      same_shares = omega arith

      new_is : (state_of s2).mutex m ≡ shared_as (Some (plain_of v)) shares
      new_is = after_it change in_then ∙ ap₂ shared_as (ap (λ c. or_else c (first_shown (content_value s1 m) Others)) content_is) same_shares

      made1 : (h c : ℕ) → tot (made_at h c) G1 ≡ tot (made_at h c) G2
      made1 h c = alone (tot (made_at h c)) ∙ omega arith

      more : shown_last x.slots ≡ plain_v.Own (plain_of v) ∷ plain_v.Held m ∷ shown_last rest
      more = ap shown_last split ∙ shown_push (rest ++ value.Held m ∷ []) (value.Own v) ∙ ap (λ l. plain_v.Own (plain_of v) ∷ l) (shown_push rest (value.Held m))

      steps : (c : CodeWhole) → SameState (plain_state c) (one_heap k) → StepsTo k.code c x.number fresh.None (state_of s2) (label.Unlock m ∷ [])
      steps c same =
          let shown1 : SameState (plain_state c) (state_of s1) = then_same (plain_state c) (one_heap k) (state_of s1) same (state_before k sound e s at.here t x at.at at.number) in
          let q : CodeRunning = running_to (x.pc + 1) (shown_last x.temps) (shown_last rest) in
          let plug : PlainValue → Place = λ z. record { pc = x.pc + 1; temps = shown_last x.temps } in
          let goes : GoesOn x.number (running_at x) q (state_of s1) (state_of s2) = thread_on change (given k sound e s at.here t x at.at at.number) in
          let old : Shared = record { content = content; shares = shares } in
          let new : Shared = record { content = Some (plain_of v); shares = shares } in
          let there : mutex_there c.mutexes m ≡ Some old = shown1.mutexes m ∙ before_it change in_before in
          steps_with k.code c x.number (running_at x) q (state_of s1) (state_of s2) goes shown1 fresh.None (with_mutex c.mutexes m (Some new)) (label.Unlock m ∷ [])
          (acts k.code (running_at x) do_unlock plug (ap (λ j. over_at j (shown_last x.temps)) at.code) (ap (λ j. run_instr j x.pc (shown_last x.temps)) at.code) goes.way c x.number fresh.None
          ∙ unlock_does k.code c goes.way x.number (running_at x) plug m old (plain_of v) (shown_last rest) more there)
          (made_on change) (objects_on change) (set_shows c.mutexes m (Some new) old (λ w. (state_of s2).mutex w) there new_is (λ w ne. shown1.mutexes w ∙ mutexes_on change w ne))
          (λ w. given_set c.mutexes m (Some new) w ∙ shown1.given w ∙ mutex_given k Others G1 G2 n x (after x (x.pc + 1) rest x.temps) (one_mutex.beside k Others G1 G2 n x (x.pc + 1) rest x.temps calm1 loose1 (tt, (tt, tt)) lone1) (one_mutex.beside2 k Others G1 G2 n x (x.pc + 1) rest x.temps calm1 loose1 (tt, (tt, tt)) lone1) lone1 (one_mutex.locks k Others G1 G2 n x (x.pc + 1) rest x.temps calm1 loose1 (tt, (tt, tt)) lone1) made1 w)

    abbrev sent_hand : Hand
    sent_hand = send_content m v (with_slots rest start)

    module _ (cs : List Copy) where
      abbrev d : Stepped
      d = record { hand = record { work = with_cache cs sent_hand.work; thread = record (go_on sent_hand).thread { passed = 0; walk = []; moved_since_step = false } }; names = Some fresh.None }

      thread_is : d.hand.thread ≡ past x (x.pc + 1) rest x.temps
      thread_is = ap (λ g. (let z : ThreadState = record (after x (x.pc + 1) rest x.temps) { gift = g } in z)) bare

      moves_to : Moves G2 (counts_then ∷ []) s.rest d.hand.work.rest
      moves_to =
          let goes : Moves (holds (as_content m) v ∷ []) [] s.rest sent_hand.work.rest =
          sends (holds (as_content m) v ∷ []) (holds (as_content m) v ∷ []) s.rest (label_all (label.Unlock m ∷ []) (note (act.GiveBack m) start.work)) m.home (message.Unlock m v) (record { number = refl; alike = λ w z. refl }) (λ w z. omega (arith, z)) in
          record {
            number = goes.number;
            alike = λ w z.
                let cache : shown w (rest_things sent_hand.work.rest.number 0 sent_hand.work.rest) ≡ shown w (rest_things sent_hand.work.rest.number 0 d.hand.work.rest) = (copies_ready sent_hand cs []).0.moves.alike w z in
                let at_n : shown w (rest_things n 0 sent_hand.work.rest) ≡ shown w (rest_things n 0 d.hand.work.rest) = subst (λ q. shown w (rest_things q 0 sent_hand.work.rest) ≡ shown w (rest_things q 0 d.hand.work.rest)) goes.number cache in
                omega (arith, goes.alike w z, at_n);
          }

      turn : is_in_state s2 (mutex_n m) ≡ true → ThreadTurn k sound e i refl s t x at d
      turn in_then = record {
        became = after x (x.pc + 1) rest x.temps;
        names = fresh.None;
        thread = thread_is;
        named = refl;
        comes = G2;
        moves = moves_to;
        beside = (tt, (tt, tt));
        unstray = refl;
        once = once_then;
        steps = steps in_then;
      }

      -- the mutex is in the state of the things that were put in front, where it is in the one heap afterwards
      there : Sends k e s (stepped s d) → is_in_state (sight (Next k sound e i refl s t x at d)) (mutex_n m) ≡ true → is_in_state s2 (mutex_n m) ≡ true
      there goes in_it =
          let same : SameState (one_heap (Next k sound e i refl s t x at d)) (state_of s2) =
          changed.state_after k sound e s at.here t x at.at at.number d (after x (x.pc + 1) rest x.temps) thread_is G2 moves_to goes (all_so IsLoose IsBeside loose_beside G1 loose1) (tt, (tt, tt)) refl once_then in
          there_too (is_in_state s2 (mutex_n m)) (is_in_state (sight (Next k sound e i refl s t x at d)) (mutex_n m)) _ _ (sym (same.mutexes m)) in_it

  abbrev Wanted : Stepped → Type 0
  Wanted d = Sends k e s (stepped s d) → IsThere (Next k sound e i refl s t x at d) (marked x) → IsPlainStep k (Next k sound e i refl s t x at d, (stepped s d).1)

  settled : (m : MutexNo) (v : Owned) (rest : List Value) → x.slots ≡ (rest ++ value.Held m ∷ []) ++ value.Own v ∷ [] → marked x ≡ Some m → Gives Wanted (committed (goes_on (Some (send_content m v (with_slots rest start)))))
  settled m v rest split mark = by (unpin_all x.walk (sent_hand m v rest split).work.rest.cache)
    where
      by : (q : Option (List Copy)) → Gives Wanted (option_map (λ h2. record { hand = h2; names = Some fresh.None })
          (option_map (λ cs. record { work = with_cache cs (sent_hand m v rest split).work; thread = record (go_on (sent_hand m v rest split)).thread { passed = 0; walk = []; moved_since_step = false } }) q))
      by None = tt
      by (Some cs) = λ goes in_it. is_step k sound e i refl s t x at (d m v rest split cs) (turn m v rest split cs (there m v rest split cs goes (subst (λ o. IsThere (Next k sound e i refl s t x at (d m v rest split cs)) o) mark in_it))) goes

  pub unlock_line : Gives Wanted (step k.options.servers i start)
  unlock_line = by (last_of x.slots) refl
    where
      under : (v : Owned) → x.slots ≡ front_of x.slots ++ value.Own v ∷ [] → (q : Option Value) → last_of (front_of x.slots) ≡ q
          → Gives Wanted (committed (goes_on (option_map (λ m. send_content m.item v m.hand) (then_some {X = Popped Value} (option_map (λ w. record { item = w; hand = with_slots (front_of (front_of x.slots)) start }) q) (taken_as held_of)))))
      under v split None p = tt
      under v split (Some (value.Held m)) p =
          settled m v (front_of (front_of x.slots)) (split ∙ ap (λ l. l ++ value.Own v ∷ []) (last_split (front_of x.slots) (value.Held m) p)) (ap (λ q. then_some q held_of) p)
      under v split (Some (value.Own w)) p = tt
      under v split (Some value.Gone) p = tt
      under v split (Some (value.SharedSlot j)) p = tt
      under v split (Some (value.MutSlot j)) p = tt
      under v split (Some (value.Shared r)) p = tt
      under v split (Some (value.Mut r)) p = tt

      by : (q : Option Value) → last_of x.slots ≡ q
          → Gives Wanted (committed (goes_on (then_some (then_some {X = Popped Value} (option_map (λ w. record { item = w; hand = with_slots (front_of x.slots) start }) q) (taken_as owned_of)) (λ v. option_map (λ m. send_content m.item v.item m.hand) (then_some (pop_slot v.hand) (taken_as held_of))))))
      by None p = tt
      by (Some (value.Own v)) p = under v (last_split x.slots (value.Own v) p) (last_of (front_of x.slots)) refl
      by (Some (value.Held m)) p = tt
      by (Some value.Gone) p = tt
      by (Some (value.SharedSlot j)) p = tt
      by (Some (value.MutSlot j)) p = tt
      by (Some (value.Shared r)) p = tt
      by (Some (value.Mut r)) p = tt
