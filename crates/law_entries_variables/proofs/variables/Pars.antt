-- Two threads start, and their parent waits for both.
use Rattle.std.proofs.Common.{◌≡◌, ℕ, ◌+◌, ◌*◌, ◌<◌, ◌≤◌, ◌==◌, ◌&&◌, ◌||◌, not, Bool, true, false, if◌then◌else◌, List, [], ◌∷◌, ◌++◌, Option, Some, None, is_none, refl, sym, ap, ap₂, subst, ◌∙◌, arith}
use Rattle.std.specs.Prelude.{◌%◌, ◌^◌, option_map}
use Rattle.law_words_ends.specs.Below.fr_base.Rooms.{WithRoom}
use Rattle.law_words_ends.specs.Below.fr_base.Names.{home_of}
use Rattle.law_words_ends.specs.Below.fr_base.declared.label.Label.{Label}
use Rattle.law_words_ends.specs.Below.fr_base.declared.instruction.Instr.TheVariants as instr
use Rattle.law_words_ends.specs.Below.fr_base.declared.step.Fresh.TheVariants as fresh
use Rattle.law_words_ends.specs.Below.thread_state.View.{ThreadState, new_thread, is_over}
use Rattle.law_words_ends.specs.Below.thread_state.declared.phase.Phase.TheVariants as phase
use Rattle.law_words_ends.specs.Below.thread_state.declared.value.Value.{Value}
use Rattle.law_words_ends.specs.Below.join_home.Tasks.{TaskState, in_pair, can_begin_pair, begin_pair, noted}
use Rattle.law_words_ends.specs.Below.server_msgs.declared.message.Message.{Message}
use Rattle.law_words_ends.specs.Below.server_msgs.declared.message.Message.TheVariants as message
use Rattle.law_words_ends.specs.Below.journal.View.{EntryView}
use Rattle.law_words_ends.specs.Below.journal.declared.act.Act.{Act}
use Rattle.law_words_ends.specs.Below.journal.declared.act.Act.TheVariants as act
use Rattle.law_words_ends.specs.Below.server_model.Servers.{Rest, Server, Cluster, server_at}
use Rattle.law_words_ends.specs.Below.server_model.Work.{Work, Hand, sent_from, working, with_slots, with_tasks, with_phase, then_some, thread_in}
use Rattle.law_words_ends.specs.Below.server_model.Start.{next_thread, server_for, start_thread, capture}
use Rattle.law_words_ends.specs.Below.server_model.Commit.{done_where, go_on, par_with, par}
use Rattle.law_words_ends.specs.Below.server_model.Events.{Stepped, begin_work, committed, stepped}
use Rattle.law_entries_variables.specs.Below.coloured_heap.Heap.{Coloured}
use Rattle.law_entries_variables.specs.Below.coloured_heap.Rules.{starting_server}
use Rattle.law_entries_variables.proofs.Below.coloured_heap.Times.{number_is}
use Rattle.law_entries_variables.proofs.Below.coloured_heap.ShownNames.{number_flip}
use Rattle.law_words_ends.specs.Below.coherent_memory.Names.{tot, one, if_so}
use Rattle.law_words_ends.specs.Below.coherent_memory.Things.{Thing, sent, stands, noted as notes_it, things_of}
use Rattle.law_words_ends.specs.Below.coherent_memory.Sight.{sight}
use Rattle.law_words_ends.specs.Below.coherent_memory.Naming.{started_at}
use Rattle.law_words_ends.specs.Below.coherent_memory.Weights.{is_thread}
use Rattle.law_words_ends.specs.Below.coherent_memory.OneHeap.{is_given_thread}
use Rattle.law_words_ends.specs.Below.coherent_memory.Colours.{StandsColoured, running_of, has_finished}
use Rattle.law_words_ends.specs.Below.coherent_memory.Coherent.{IsSound}
use Rattle.law_words_ends.specs.Below.law_counts_sums.Laws.{Gives, FewEvents}
use Rattle.law_words_ends.proofs.Below.law_counts_sums.Results.{bind_gives}
use Rattle.law_words_ends.proofs.Below.law_counts_sums.Bags.{counts_of}
use Rattle.law_words_ends.proofs.Below.law_counts_sums.GiftsTaken.{gift_fits}
use Rattle.law_entries_variables.proofs.Below.law_heap_still.events.Tests.{numbers}
use Rattle.law_entries_variables.proofs.Below.law_heap_still.events.Told.{at_thread}
use Rattle.law_words_ends.specs.Below.law_words_paths.words.Unmoved.{LeavesWords}
use Rattle.law_words_ends.specs.Below.law_words_values.references.Starts.{a_pair}
use Rattle.law_words_ends.proofs.Below.law_words_values.references.StartEvents.{starts_leave_words}
use Rattle.law_entries_variables.proofs.deliveries.Answers.{Answers, answers_of, Fits, fits}
use Rattle.law_entries_variables.proofs.deliveries.Runs.{runs_act, runs_one}
use Rattle.law_entries_variables.proofs.deliveries.Applied.{server_there}
use Rattle.law_entries_variables.proofs.still.PlainSteps.{lives}
use Rattle.law_entries_variables.proofs.still.Kept.{masked_of}
use Rattle.law_entries_variables.specs.variables.Steps.{StepsLegal, Pairs, pairs}
use Rattle.law_entries_variables.proofs.variables.Turning.{Turning, begins, rethreaded, slots_alike, worked}
use Rattle.law_entries_variables.proofs.variables.Led.{LedWith, Ends, done_entry, done_leads, Steps, settles}
use Rattle.law_entries_variables.proofs.variables.InStep.{by_number, step_legal}
use Rattle.law_entries_variables.proofs.variables.Quiets.{running_here, it_runs}
use Rattle.law_entries_variables.proofs.variables.Captures.{Captures, captures}
use Rattle.law_entries_variables.proofs.variables.NewThreads.{runner, starting, start_allowed, few_started, given_next, given_before, not_given, none_stands, its_home, its_server}
use Rattle.law_entries_variables.proofs.variables.Starts.{turning_as, starts_turned, noted_turns, none_runs, more_runs, Newly, started_agrees}
use Rattle.law_entries_variables.proofs.variables.Spawns.{or_left, or_right, tot_both, both_bare}

-- A MESSAGE LEAVES THE COUNTS

module _ (r : Rest) (to : ℕ) (m : Message) where
  sent_same : (A : Type 0) → (f : Rest → A) → f (record r { inbox = r.inbox ++ m ∷ [] }) ≡ f r → f (record r { outbox = r.outbox ++ record { target = to; message = m } ∷ [] }) ≡ f r → f (sent_from r to m) ≡ f r
  sent_same A f here there = by (to == r.number)
    where
      by : (b : Bool) → f (if b then record r { inbox = r.inbox ++ m ∷ [] } else record r { outbox = r.outbox ++ record { target = to; message = m } ∷ [] }) ≡ f r
      by true = here
      by false = there

-- THE STEP

-- new threads' names are no mutex's
threads_named : (n t a b : ℕ) (acts : List Act) (ls : List Label) (q : Answers) → Ends (done_entry n t (fresh.Threads a b) acts ls) q q
threads_named n t a b acts ls q = record { allowed = λ c h. refl; fits = λ c h. h }

module _ (k : Cluster) (sound : IsSound k) (few : FewEvents k) (number : ℕ) (s : Server) (here : server_at k.servers number ≡ Some s) (c0 : Coloured) (is_coloured : StandsColoured k c0) (y : ThreadState) (at : thread_in s.threads y.number ≡ Some y) (live : is_over y.phase ≡ false) (bare : y.gift ≡ None) where
  abbrev n : ℕ
  n = s.rest.number

  abbrev t : ℕ
  t = y.number

  abbrev start : Hand
  start = record { work = begin_work s.rest; thread = y }

  abbrev a : ℕ
  a = next_thread s.rest

  -- the second one's name, as the entry has it
  abbrev named_b : ℕ
  named_b = next_thread s.rest + 1

  abbrev P : Hand → Type 0
  P = Steps (LeavesWords k) k s y c0 (fresh.Threads a named_b) false

  abbrev Done : Stepped → Type 0
  Done d = LedWith (LeavesWords k) k s c0 (stepped s d)

  counts_few : s.rest.started + 2 < 2 ^ 32
  counts_few = few_started k sound few number s here

  module _ (pc other : ℕ) (first second : List Value × List Value) (can : Captures y.slots first) (can2 : Captures first.1 second) where
    abbrev branch : TaskState
    branch = in_pair t false

    abbrev h1 : Hand
    h1 = working (with_tasks (begin_pair s.rest.tasks t a named_b)) start

    abbrev h2 : Hand
    h2 = with_slots second.1 h1

    abbrev h3 : Hand
    h3 = working (start_thread k.options.servers pc first.0) h2

    abbrev h4 : Hand
    h4 = working (start_thread k.options.servers other second.0) h3

    abbrev ta : ℕ
    ta = server_for k.options.servers s.rest

    abbrev b : ℕ
    b = next_thread h3.work.rest

    abbrev tb : ℕ
    tb = server_for k.options.servers h3.work.rest

    abbrev na : ThreadState
    na = new_thread a pc first.0

    abbrev nb : ThreadState
    nb = new_thread b other second.0

    -- the server with one thread more
    abbrev r1 : Rest
    r1 = record h2.work.rest { started = s.rest.started + 1 }

    abbrev r2 : Rest
    r2 = record s.rest { started = s.rest.started + 1 + 1 }

    abbrev it : Message
    it = message.Start na

    b_is : b ≡ n * 2 ^ 32 + (s.rest.started + 1 + 1)
    b_is = sent_same r1 ta it ℕ next_thread refl refl

    tb_is : tb ≡ (n + (s.rest.started + 1 + 1)) % k.options.servers
    tb_is = sent_same r1 ta it ℕ (server_for k.options.servers) refl refl

    old_counts : counts_of h3.work.rest.number 0 h3.work.rest ≡ counts_of n 0 r1
    old_counts = sent_same r1 ta it Thing (λ r. counts_of r.number 0 r) refl refl

    new_counts : counts_of h3.work.rest.number 0 (record h3.work.rest { started = h3.work.rest.started + 1 }) ≡ counts_of n 0 r2
    new_counts = sent_same r1 ta it Thing (λ r. counts_of r.number 0 (record r { started = r.started + 1 })) refl refl

    fewer : s.rest.started + 1 < 2 ^ 32
    fewer = let l = counts_few in omega (arith, l)

    fewer2 : s.rest.started + 1 + 1 < 2 ^ 32
    fewer2 = let l = counts_few in omega (arith, l)

    nowhere_a : tot (is_thread a) (things_of k) ≡ 0
    nowhere_a = none_stands k sound number s here (s.rest.started + 1) (omega arith) fewer

    nowhere_b : tot (is_thread b) (things_of k) ≡ 0
    nowhere_b = subst (λ i. tot (is_thread i) (things_of k) ≡ 0) (sym b_is) (none_stands k sound number s here (s.rest.started + 1 + 1) (omega arith) fewer2)

    unknown_a : is_given_thread (sight k) a ≡ false
    unknown_a = not_given k sound number s here (s.rest.started + 1) (omega arith) fewer

    unknown_b : is_given_thread (sight k) b ≡ false
    unknown_b = subst (λ i. is_given_thread (sight k) i ≡ false) (sym b_is) (not_given k sound number s here (s.rest.started + 1 + 1) (omega arith) fewer2)

    differ : (a == b) ≡ false
    differ = by (a == b) refl
      where
        by : (d : Bool) → (a == b) ≡ d → d ≡ false
        by false e = refl
        by true e = absurd (let same : a ≡ b = number_is a b e in omega (arith, same, b_is))

    home_b : (home_of b == n) ≡ true
    home_b = subst (λ i. (home_of i == n) ≡ true) (sym b_is) (its_home k sound number s here (s.rest.started + 1 + 1) fewer2)

    server_b : (tb == starting_server k.options b) ≡ true
    server_b = ap₂ (λ i j. i == starting_server k.options j) tb_is b_is ∙ its_server k sound number s here k.options (s.rest.started + 1 + 1) fewer2

    abbrev note_a : Thing
    note_a = notes_it n (record { thread = a; state = branch })

    abbrev note_b : Thing
    note_b = notes_it n (record { thread = named_b; state = branch })

    abbrev more : List Thing
    more = note_a ∷ note_b ∷ sent ta (message.Start na) ∷ stands ta true na ∷ sent tb (message.Start nb) ∷ stands tb true nb ∷ []

    abbrev q0 : Answers
    q0 = answers_of (sight k)

    abbrev qa : Answers
    qa = starting a ta q0

    abbrev qb : Answers
    qb = starting b tb qa

    abbrev new : ℕ → Bool
    new v = (a == v) || (b == v)

    abbrev mine : ℕ → Bool
    mine v = (t == v) || new v

    unrun_a : running_of (sight k) a ≡ None
    unrun_a = none_runs k a nowhere_a

    unrun_b : qa.running b ≡ None
    unrun_b = ap (λ d. if d then Some (runner a ta) else running_of (sight k) b) differ ∙ none_runs k b nowhere_b

    newly : Newly k y more mine qb.started qb.running
    newly = record {
      aside = record { objects = λ o g. refl; drops = λ o. refl; copies = λ i w g. refl; served = λ x. refl; issued = λ h i w. refl; wishes = λ x. refl };
      started = λ i j. refl;
      made = λ i j. refl;
      there = λ m. refl;
      holders = λ m g. refl;
      few = λ x. let e = by_few x (a == x) refl (b == x) refl in omega (arith, e);
      runs_now = λ x g. let d = more_runs (running_of (sight k)) a ta pc first.0 unrun_a x g in let e = more_runs qa.running b tb other second.0 unrun_b x g in omega (arith, d, e);
      threads = λ x e.
          let d = or_right (t == x) (new x) e in
          let none_a : one (a == x) ≡ 0 = ap one (or_left (a == x) (b == x) d) in
          let none_b : one (b == x) ≡ 0 = ap one (or_right (a == x) (b == x) d) in
          omega (arith, none_a, none_b);
      slots = λ h x e.
          let d = or_right (t == x) (new x) e in
          let none_a : at_thread (λ v. h (masked_of v)) x (stands ta true na) ≡ 0 = ap (λ i. if_so i (h (masked_of (record { server = ta; packed = true; thread = na })))) (or_left (a == x) (b == x) d) in
          let none_b : at_thread (λ v. h (masked_of v)) x (stands tb true nb) ≡ 0 = ap (λ i. if_so i (h (masked_of (record { server = tb; packed = true; thread = nb })))) (or_right (a == x) (b == x) d) in
          omega (arith, none_a, none_b);
      gifts = let d = none (mine a) in let e = none (mine b) in omega (arith, d, e);
      bare = both_bare k sound number s here y at bare new (λ x. is_thread a x + is_thread b x) (λ x i p. by_counted (a == x.number) (x.number == a) (b == x.number) (x.number == b) (number_flip a x.number) (number_flip b x.number)) (nobody (things_of k) nowhere_a nowhere_b);
      own = λ x e. or_left (t == x) (new x) e;
      ended = λ x. by_ended x (a == x) refl (b == x) refl;
    }
      where
        none : (d : Bool) → if_so d 0 ≡ 0
        none true = refl
        none false = refl

        nobody : (xs : List Thing) → tot (is_thread a) xs ≡ 0 → tot (is_thread b) xs ≡ 0 → tot (λ x. is_thread a x + is_thread b x) xs ≡ 0
        nobody xs d e = let both = tot_both (is_thread a) (is_thread b) xs in omega (arith, d, e, both)

        by_counted : (d d2 e e2 : Bool) → d ≡ d2 → e ≡ e2 → if_so (d || e) 1 ≤ one d2 + one e2
        by_counted true true e e2 f g = omega arith
        by_counted true false e e2 f g = absurd (cc f)
        by_counted false d2 true true f g = omega arith
        by_counted false d2 true false f g = absurd (cc g)
        by_counted false d2 false e2 f g = omega arith

        by_few : (x : ℕ) (d : Bool) → (a == x) ≡ d → (e : Bool) → (b == x) ≡ e → tot (is_thread x) (things_of k) + (one d + one e) ≤ 1
        by_few x true p true q = absurd (let same : a ≡ b = number_is a x p ∙ sym (number_is b x q) in omega (arith, same, b_is))
        by_few x true p false q = let z : tot (is_thread x) (things_of k) ≡ 0 = ap (λ i. tot (is_thread i) (things_of k)) (sym (number_is a x p)) ∙ nowhere_a in omega (arith, z)
        by_few x false p true q = let z : tot (is_thread x) (things_of k) ≡ 0 = ap (λ i. tot (is_thread i) (things_of k)) (sym (number_is b x q)) ∙ nowhere_b in omega (arith, z)
        by_few x false p false q = let l = sound.names.numbers_differ x in omega (arith, l)

        by_ended : (x : ℕ) (d : Bool) → (a == x) ≡ d → (e : Bool) → (b == x) ≡ e → (is_given_thread (sight k) x && is_none (running_of (sight k) x))
            ≡ ((e || (d || is_given_thread (sight k) x)) && is_none (if e then Some (runner b tb) else (if d then Some (runner a ta) else running_of (sight k) x)))
        by_ended x d p true q = ap (λ i. i && is_none (running_of (sight k) x)) (ap (is_given_thread (sight k)) (sym (number_is b x q)) ∙ unknown_b)
        by_ended x true p false q = ap (λ i. i && is_none (running_of (sight k) x)) (ap (is_given_thread (sight k)) (sym (number_is a x p)) ∙ unknown_a)
        by_ended x false p false q = refl

    abbrev acts : List Act
    acts = act.Start a ta ∷ act.Start b tb ∷ []

    turned : Turning s y (counts_of n 0 s.rest ∷ []) (counts_of n 0 r2 ∷ more) acts h4
    turned =
        let w1 : Work = with_tasks (noted s.rest.tasks a branch) start.work in
        let t0 : Turning s y [] (note_a ∷ []) [] (record start { work = w1 }) = worked s y [] [] [] start (begins s y) w1 [] (note_a ∷ []) [] (noted_turns start.work a branch (λ f i. omega arith)) in
        let t1 : Turning s y [] (note_a ∷ note_b ∷ []) [] h1 = worked s y [] (note_a ∷ []) [] (record start { work = w1 }) t0 h1.work [] (note_b ∷ []) [] (noted_turns w1 named_b branch (λ f i. omega arith)) in
        let t2 : Turning s y [] (note_a ∷ note_b ∷ []) [] h2 = slots_alike s y [] (note_a ∷ note_b ∷ []) [] h1 t1 second.1 (λ f i. can2.left f i t ∙ can.left f i t) in
        let t3 = starts_turned s y [] (note_a ∷ note_b ∷ []) [] h2 k.options.servers pc first.0 can.new t2 in
        let t4 = starts_turned s y (counts_of n 0 s.rest ∷ []) (note_a ∷ note_b ∷ counts_of n 0 r1 ∷ sent ta it ∷ stands ta true na ∷ []) (act.Start a ta ∷ []) h3 k.options.servers other second.0 can2.new t3 in
        turning_as s y (counts_of n 0 s.rest ∷ counts_of h3.work.rest.number 0 h3.work.rest ∷ [])
        (note_a ∷ note_b ∷ counts_of n 0 r1 ∷ sent ta it ∷ stands ta true na ∷ counts_of h3.work.rest.number 0 (record h3.work.rest { started = h3.work.rest.started + 1 }) ∷ sent tb (message.Start nb) ∷ stands tb true nb ∷ [])
        (counts_of n 0 s.rest ∷ []) (counts_of n 0 r2 ∷ more) acts h4 (λ f. let d = ap f old_counts in let e = ap f new_counts in omega (arith, d, e)) t4

    pair_steps : P (with_phase (phase.WaitPar a named_b) (go_on h4))
    pair_steps =
        let h5 : Hand = with_phase (phase.WaitPar a named_b) (go_on h4) in
        let t5 : Turning s y (counts_of n 0 s.rest ∷ []) (counts_of n 0 r2 ∷ more) acts h5 = rethreaded s y (counts_of n 0 s.rest ∷ []) (counts_of n 0 r2 ∷ more) acts h4 turned h5.thread refl refl in record {
          olds = counts_of n 0 s.rest ∷ [];
          news = counts_of n 0 r2 ∷ more;
          acts = acts;
          turned = t5;
          gift = bare;
          leads = λ c z named free on f words.
              let all : Fits q0 c0 = fits (sight k) c0 is_coloured in
              let e : EntryView = done_entry n t (fresh.Threads a named_b) acts h5.work.labels in
              let going_a : has_finished (sight k) a ≡ false = ap (λ i. (i && is_none (running_of (sight k) a)) && not (a == 0)) unknown_a in
              let going_b : has_finished (sight k) b ≡ false = ap (λ i. (i && is_none (running_of (sight k) b)) && not (b == 0)) unknown_b in
              let unknown_then : qa.started b ≡ false = ap₂ (λ i j. i || j) differ unknown_b in
              done_leads k.options n t (fresh.Threads a named_b) acts h5.work.labels c0 q0 qb qb c t5.labels all (server_there k sound number s here).0 (running_here k sound number s here c0 is_coloured y at live) (it_runs k sound number s here c0 is_coloured y at live) (numbers.itself n)
              (runs_act k.options e (act.Start a ta) (act.Start b tb ∷ []) c0 qa qb
              (start_allowed k.options e c0 q0 t a ta all refl (its_home k sound number s here (s.rest.started + 1) fewer) unknown_a going_a (its_server k sound number s here k.options (s.rest.started + 1) fewer))
              (λ d fit. runs_one k.options e (act.Start b tb) d qb (start_allowed k.options e d qa t b tb fit refl home_b unknown_then going_b server_b)))
              (threads_named n t a named_b acts h5.work.labels qb)
              (started_agrees k sound number s here c0 is_coloured y at live bare z named free on c r2 refl more f words mine qb.started qb.running newly
              (λ x.
              ap₂ (λ i j. (i == x) || ((a == x) || j)) b_is (given_before k sound number s here x) ∙ ap (λ j. ((n * 2 ^ 32 + (s.rest.started + 1 + 1)) == x) || j) (given_next n (λ i j. tot (started_at i j) (things_of k)) s.rest.started fewer x)
              ∙ given_next n (λ i j. tot (started_at i j) (things_of k)) (s.rest.started + 1) fewer2 x));
        }

    paired : Gives P (par_with k.options.servers pc other a named_b start first.0 second)
    paired = by (can_begin_pair s.rest.tasks t a named_b)
      where
        by : (d : Bool) → Gives P (option_map (λ (h : Hand). with_phase (phase.WaitPar a named_b) (go_on (working (λ w. start_thread k.options.servers other second.0 (start_thread k.options.servers pc first.0 w)) (with_slots second.1 h))))
            (if d then Some (working (with_tasks (begin_pair s.rest.tasks t a named_b)) start) else None))
        by true = pair_steps
        by false = tt

  -- both are captured for, one after the other
  both_captured : (cs : WithRoom (ℕ × Bool)) (pc : ℕ) (ds : WithRoom (ℕ × Bool)) (other : ℕ) → Gives P (then_some (capture true cs.items y.slots) (λ first. then_some (capture true ds.items first.1) (par_with k.options.servers pc other a named_b start first.0)))
  both_captured cs pc ds other =
      bind_gives (Captures y.slots) P (capture true cs.items y.slots) (λ first. then_some (capture true ds.items first.1) (par_with k.options.servers pc other a named_b start first.0)) (captures true cs.items [] y.slots (λ f i m. refl))
      (λ first can. bind_gives (Captures first.1) P (capture true ds.items first.1) (par_with k.options.servers pc other a named_b start first.0) (captures true ds.items [] first.1 (λ f i m. refl)) (λ second can2. paired pc other first second can can2))

  waiting_led : (o : Option Hand) → Gives P o → Gives (λ (h : Hand). is_over h.thread.phase ≡ false) o → Gives Done (committed (done_where (fresh.Threads a named_b) o))
  waiting_led None g e = tt
  waiting_led (Some h) g e = settles (LeavesWords k) k s y at c0 (fresh.Threads a named_b) false h g e

  -- who waits for a pair isn't over
  waits_on : (cs : WithRoom (ℕ × Bool)) (pc : ℕ) (ds : WithRoom (ℕ × Bool)) (other : ℕ)
      → Gives (λ (h : Hand). is_over h.thread.phase ≡ false) (then_some (capture true cs.items y.slots) (λ first. then_some (capture true ds.items first.1) (par_with k.options.servers pc other a named_b start first.0)))
  waits_on cs pc ds other = one_of (capture true cs.items y.slots)
    where
      begun : (first second : List Value × List Value) (d : Bool) → Gives (λ (h : Hand). is_over h.thread.phase ≡ false)
          (option_map (λ (h : Hand). with_phase (phase.WaitPar a named_b) (go_on (working (λ w. start_thread k.options.servers other second.0 (start_thread k.options.servers pc first.0 w)) (with_slots second.1 h))))
          (if d then Some (working (with_tasks (begin_pair s.rest.tasks t a named_b)) start) else None))
      begun first second true = refl
      begun first second false = tt

      two_of : (first : List Value × List Value) (o : Option (List Value × List Value)) → Gives (λ (h : Hand). is_over h.thread.phase ≡ false) (then_some o (par_with k.options.servers pc other a named_b start first.0))
      two_of first None = tt
      two_of first (Some second) = begun first second (can_begin_pair s.rest.tasks t a named_b)

      one_of : (o : Option (List Value × List Value)) → Gives (λ (h : Hand). is_over h.thread.phase ≡ false) (then_some o (λ first. then_some (capture true ds.items first.1) (par_with k.options.servers pc other a named_b start first.0)))
      one_of None = tt
      one_of (Some first) = two_of first (capture true ds.items first.1)

  -- the step
  pub pairs_led : (cs : WithRoom (ℕ × Bool)) (pc : ℕ) (ds : WithRoom (ℕ × Bool)) (other : ℕ) → Gives Done (committed (par k.options.servers cs pc ds other start))
  pairs_led cs pc ds other =
      waiting_led (then_some (capture true cs.items y.slots) (λ first. then_some (capture true ds.items first.1) (par_with k.options.servers pc other a named_b start first.0))) (both_captured cs pc ds other) (waits_on cs pc ds other)

-- so its entry is legal
pub pairs_legal : StepsLegal Pairs
pairs_legal k number t s y _ coherent few here at code (pairs cs pc ds other) =
    step_legal (LeavesWords k) k number t s y (instr.Par cs pc ds other) coherent.sound few here at code (starts_leave_words k number t s y (instr.Par cs pc ds other) coherent few here at code (a_pair cs pc ds other))
    (λ c0 is_coloured calm. pairs_led k coherent.sound few number s here c0 is_coloured y (by_number s t y at) (lives y.phase calm) (gift_fits k coherent.sound number s here t y at (instr.Par cs pc ds other) code).0 cs pc ds other)
