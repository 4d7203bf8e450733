-- A thread starts.
use Rattle.std.proofs.Common.{◌≡◌, ℕ, ◌+◌, ◌<◌, ◌≤◌, ◌==◌, ◌&&◌, ◌||◌, not, Bool, true, false, if◌then◌else◌, List, [], ◌∷◌, Option, Some, None, is_some, is_none, refl, sym, ap, subst, ◌∙◌, arith}
use Rattle.std.specs.Prelude.{◌^◌, option_map}
use Rattle.law_words_ends.specs.Below.fr_base.Rooms.{WithRoom}
use Rattle.law_words_ends.specs.Below.fr_base.declared.label.Label.{Label}
use Rattle.law_words_ends.specs.Below.fr_base.declared.instruction.Instr.TheVariants as instr
use Rattle.law_words_ends.specs.Below.fr_base.declared.step.Fresh.TheVariants as fresh
use Rattle.law_words_ends.specs.Below.heap_partition.declared.value.Owned.{Owned}
use Rattle.law_words_ends.specs.Below.heap_partition.declared.value.Owned.TheVariants as owned
use Rattle.law_words_ends.specs.Below.thread_state.View.{ThreadState, new_thread, is_over}
use Rattle.law_words_ends.specs.Below.thread_state.declared.value.Value.{Value}
use Rattle.law_words_ends.specs.Below.thread_state.declared.value.Value.TheVariants as value
use Rattle.law_words_ends.specs.Below.join_home.Tasks.{going, can_begin, begin}
use Rattle.law_words_ends.specs.Below.server_msgs.declared.message.Message.TheVariants as message
use Rattle.law_words_ends.specs.Below.journal.View.{EntryView}
use Rattle.law_words_ends.specs.Below.journal.declared.act.Act.{Act}
use Rattle.law_words_ends.specs.Below.journal.declared.act.Act.TheVariants as act
use Rattle.law_words_ends.specs.Below.server_model.Servers.{Rest, Server, Cluster, server_at}
use Rattle.law_words_ends.specs.Below.server_model.Work.{Hand, push_temp, working, with_slots, with_tasks, then_some, thread_in}
use Rattle.law_words_ends.specs.Below.server_model.Start.{next_thread, server_for, start_thread, capture}
use Rattle.law_words_ends.specs.Below.server_model.Commit.{spawn_with}
use Rattle.law_words_ends.specs.Below.server_model.Events.{begin_work}
use Rattle.law_entries_variables.specs.Below.coloured_heap.Heap.{Coloured}
use Rattle.law_entries_variables.proofs.Below.coloured_heap.Times.{number_is}
use Rattle.law_entries_variables.proofs.Below.coloured_heap.ShownNames.{number_flip}
use Rattle.law_words_ends.specs.Below.coherent_memory.Names.{tot, one, if_so}
use Rattle.law_words_ends.specs.Below.coherent_memory.Things.{Thing, sent, stands, noted as notes_it, things_of}
use Rattle.law_words_ends.specs.Below.coherent_memory.Sight.{sight}
use Rattle.law_words_ends.specs.Below.coherent_memory.Naming.{started_at}
use Rattle.law_words_ends.specs.Below.coherent_memory.Weights.{is_thread}
use Rattle.law_words_ends.specs.Below.coherent_memory.OneHeap.{is_given_thread}
use Rattle.law_words_ends.specs.Below.coherent_memory.Colours.{StandsColoured, running_of, has_finished}
use Rattle.law_words_ends.specs.Below.coherent_memory.Coherent.{IsSound}
use Rattle.law_words_ends.specs.Below.law_counts_sums.Laws.{Gives, FewEvents}
use Rattle.law_words_ends.proofs.Below.law_counts_sums.Results.{bind_gives}
use Rattle.law_words_ends.proofs.Below.law_counts_sums.Bags.{counts_of}
use Rattle.law_words_ends.proofs.Below.law_counts_sums.Boxes.{tot_le}
use Rattle.law_words_ends.proofs.Below.law_counts_sums.ThreadThere.{thread_there}
use Rattle.law_words_ends.proofs.Below.law_counts_sums.GiftsTaken.{gift_fits}
use Rattle.law_entries_variables.proofs.Below.law_heap_still.events.Tests.{numbers}
use Rattle.law_entries_variables.proofs.Below.law_heap_still.events.Told.{told, at_thread, thread_told}
use Rattle.law_words_ends.specs.Below.law_words_paths.words.Unmoved.{LeavesWords}
use Rattle.law_words_ends.specs.Below.law_words_values.references.Starts.{a_thread}
use Rattle.law_words_ends.proofs.Below.law_words_values.references.StartEvents.{starts_leave_words}
use Rattle.law_entries_variables.proofs.deliveries.Answers.{Answers, answers_of, Fits, fits}
use Rattle.law_entries_variables.proofs.deliveries.Runs.{runs_one}
use Rattle.law_entries_variables.proofs.deliveries.Applied.{server_there}
use Rattle.law_entries_variables.proofs.still.PlainSteps.{lives}
use Rattle.law_entries_variables.proofs.still.Kept.{masked_of}
use Rattle.law_entries_variables.specs.variables.Steps.{StepsLegal, Spawns, spawns}
use Rattle.law_entries_variables.proofs.variables.Turning.{Turning, begins, rethreaded, slots_alike, worked}
use Rattle.law_entries_variables.proofs.variables.Holders.{gifted}
use Rattle.law_entries_variables.proofs.variables.Led.{Ends, done_entry, done_leads, Steps, goes_on_led}
use Rattle.law_entries_variables.proofs.variables.InStep.{by_number, step_legal}
use Rattle.law_entries_variables.proofs.variables.Quiets.{running_here, it_runs}
use Rattle.law_entries_variables.proofs.variables.Captures.{Captures, captures}
use Rattle.law_entries_variables.proofs.variables.NewThreads.{runner, starting, start_allowed, few_started, given_next, given_before, not_given, none_stands, its_home, its_server}
use Rattle.law_entries_variables.proofs.variables.Starts.{turning_as, starts_turned, noted_turns, none_runs, more_runs, Newly, started_agrees}

-- THREADS THAT CHANGE

-- neither is true
pub or_left : (a b : Bool) → (a || b) ≡ false → a ≡ false
or_left true b e = absurd (cc e)
or_left false b e = refl

-- the same of the second
pub or_right : (a b : Bool) → (a || b) ≡ false → b ≡ false
or_right true b e = absurd (cc e)
or_right false b e = e

-- a sum of two weights
pub tot_both : (f g : Thing → ℕ) → (b : List Thing) → tot (λ x. f x + g x) b ≡ tot f b + tot g b
tot_both f g [] = refl
tot_both f g (x ∷ b) = omega (arith, tot_both f g b)

-- a thread that steps without a gift, and one that isn't there, have none
pub both_bare : (k : Cluster) → IsSound k → (number : ℕ) (s : Server) → server_at k.servers number ≡ Some s → (y : ThreadState) → thread_in s.threads y.number ≡ Some y → y.gift ≡ None → (others : ℕ → Bool) (w : Thing → ℕ)
    → ((x : ThreadState) (r : ℕ) (p : Bool) → if_so (others x.number) 1 ≤ w (stands r p x)) → tot w (things_of k) ≡ 0 → tot (gifted (λ v. (y.number == v) || others v)) (things_of k) ≡ 0
both_bare k sound number s here y at free others w counted none =
    let own : tot (at_thread (λ x. one (is_some x.thread.gift)) y.number) (things_of k) ≡ one (is_some y.gift) =
    thread_told (λ x. one (is_some x.thread.gift)) y.number (things_of k) (sound.names.numbers_differ y.number) ∙ ap (told (λ x. one (is_some x.thread.gift))) (thread_there k sound number s here y.number y at) in
    let bare : one (is_some y.gift) ≡ 0 = ap (λ o. one (is_some o)) free in
    let all = tot_le (gifted (λ v. (y.number == v) || others v)) (λ x. at_thread (λ v. one (is_some v.thread.gift)) y.number x + w x) less (things_of k) in
    omega (arith, own, bare, none, all, tot_both (at_thread (λ v. one (is_some v.thread.gift)) y.number) w (things_of k))
  where
    by : (a b : Bool) (g : Option Owned) (i : ℕ) → if_so b 1 ≤ i → if_so (a || b) (one (is_some g)) ≤ if_so a (one (is_some g)) + i
    by true b g i l = omega arith
    by false true None i l = omega arith
    by false true (Some v) i l = omega (arith, l)
    by false false g i l = omega arith

    less : (x : Thing) → gifted (λ v. (y.number == v) || others v) x ≤ at_thread (λ v. one (is_some v.thread.gift)) y.number x + w x
    less (stands r p x) =
        subst (λ b. if_so (b || others x.number) (one (is_some x.gift)) ≤ if_so (x.number == y.number) (one (is_some x.gift)) + w (stands r p x)) (number_flip x.number y.number) (by (x.number == y.number) (others x.number) x.gift (w (stands r p x)) (counted x r p))
    less _ = omega arith

-- NAMES

-- a new thread's name is no mutex's
thread_named : (n t u : ℕ) (acts : List Act) (ls : List Label) (q : Answers) → Ends (done_entry n t (fresh.Thread u) acts ls) q q
thread_named n t u acts ls q = record { allowed = λ c h. refl; fits = λ c h. h }

-- THE STEP

module _ (k : Cluster) (sound : IsSound k) (few : FewEvents k) (number : ℕ) (s : Server) (here : server_at k.servers number ≡ Some s) (c0 : Coloured) (is_coloured : StandsColoured k c0) (y : ThreadState) (at : thread_in s.threads y.number ≡ Some y) (live : is_over y.phase ≡ false) (bare : y.gift ≡ None) where
  abbrev n : ℕ
  n = s.rest.number

  abbrev t : ℕ
  t = y.number

  abbrev start : Hand
  start = record { work = begin_work s.rest; thread = y }

  abbrev u : ℕ
  u = next_thread s.rest

  abbrev P : Hand → Type 0
  P = Steps (LeavesWords k) k s y c0 (fresh.Thread u) false

  counts_few : s.rest.started + 2 < 2 ^ 32
  counts_few = few_started k sound few number s here

  nowhere : tot (is_thread u) (things_of k) ≡ 0
  nowhere = none_stands k sound number s here (s.rest.started + 1) (omega arith) (let l = counts_few in omega (arith, l))

  unknown : is_given_thread (sight k) u ≡ false
  unknown = not_given k sound number s here (s.rest.started + 1) (omega arith) (let l = counts_few in omega (arith, l))

  unrun : running_of (sight k) u ≡ None
  unrun = none_runs k u nowhere

  abbrev mine : ℕ → Bool
  mine v = (t == v) || (u == v)

  module _ (pc : ℕ) (r : List Value × List Value) where
    abbrev to : ℕ
    to = server_for k.options.servers s.rest

    abbrev nt : ThreadState
    nt = new_thread u pc r.0

    abbrev r2 : Rest
    r2 = record s.rest { started = s.rest.started + 1 }

    abbrev note : Thing
    note = notes_it n (record { thread = u; state = going })

    abbrev more : List Thing
    more = note ∷ sent to (message.Start nt) ∷ stands to true nt ∷ []

    abbrev q1 : Answers
    q1 = starting u to (answers_of (sight k))

    newly : Newly k y more mine q1.started q1.running
    newly = record {
      aside = record { objects = λ o g. refl; drops = λ o. refl; copies = λ i w g. refl; served = λ b. refl; issued = λ h i w. refl; wishes = λ b. refl };
      started = λ i j. refl;
      made = λ i j. refl;
      there = λ m. refl;
      holders = λ m g. refl;
      few = λ x. let e = by_few x (u == x) refl in omega (arith, e);
      runs_now = λ x g. let e = more_runs (running_of (sight k)) u to pc r.0 unrun x g in omega (arith, e);
      threads = λ x e. let d : one (u == x) ≡ 0 = ap one (or_right (t == x) (u == x) e) in omega (arith, d);
      slots = λ h x e.
          let d : at_thread (λ v. h (masked_of v)) x (stands to true nt) ≡ 0 = ap (λ b. if_so b (h (masked_of (record { server = to; packed = true; thread = nt })))) (or_right (t == x) (u == x) e) in omega (arith, d);
      gifts = let e = none (mine u) in omega (arith, e);
      bare = both_bare k sound number s here y at bare (λ v. u == v) (is_thread u) (λ x i p. by_counted (u == x.number) (x.number == u) (number_flip u x.number)) nowhere;
      own = λ x e. or_left (t == x) (u == x) e;
      ended = λ x. by_ended x (u == x) refl;
    }
      where
        none : (b : Bool) → if_so b 0 ≡ 0
        none true = refl
        none false = refl

        by_counted : (a b : Bool) → a ≡ b → if_so a 1 ≤ one b
        by_counted true true e = omega arith
        by_counted true false e = absurd (cc e)
        by_counted false b e = omega arith

        by_few : (x : ℕ) (b : Bool) → (u == x) ≡ b → tot (is_thread x) (things_of k) + one b ≤ 1
        by_few x true e = let z : tot (is_thread x) (things_of k) ≡ 0 = ap (λ i. tot (is_thread i) (things_of k)) (sym (number_is u x e)) ∙ nowhere in omega (arith, z)
        by_few x false e = let l = sound.names.numbers_differ x in omega (arith, l)

        by_ended : (x : ℕ) (b : Bool) → (u == x) ≡ b → (is_given_thread (sight k) x && is_none (running_of (sight k) x)) ≡ ((b || is_given_thread (sight k) x) && is_none (if b then Some (runner u to) else running_of (sight k) x))
        by_ended x true e = ap (λ a. a && is_none (running_of (sight k) x)) (ap (is_given_thread (sight k)) (sym (number_is u x e)) ∙ unknown)
        by_ended x false e = refl

    abbrev acts : List Act
    acts = act.Start u to ∷ []

    module _ (can : Captures y.slots r) where
      abbrev h1 : Hand
      h1 = working (with_tasks (begin s.rest.tasks u)) start

      abbrev h2 : Hand
      h2 = with_slots r.1 h1

      abbrev h3 : Hand
      h3 = working (start_thread k.options.servers pc r.0) h2

      turned : Turning s y (counts_of n 0 s.rest ∷ []) (counts_of n 0 r2 ∷ more) acts h3
      turned =
          let t1 : Turning s y [] (note ∷ []) [] h1 = worked s y [] [] [] start (begins s y) h1.work [] (note ∷ []) [] (noted_turns start.work u going (λ f i. omega arith)) in
          let t2 : Turning s y [] (note ∷ []) [] h2 = slots_alike s y [] (note ∷ []) [] h1 t1 r.1 (λ f i. can.left f i t) in
          turning_as s y (counts_of n 0 s.rest ∷ []) (note ∷ counts_of n 0 r2 ∷ sent to (message.Start nt) ∷ stands to true nt ∷ []) (counts_of n 0 s.rest ∷ []) (counts_of n 0 r2 ∷ more) acts h3 (λ f. omega arith)
          (starts_turned s y [] (note ∷ []) [] h2 k.options.servers pc r.0 can.new t2)

      spawn_steps : P (push_temp (value.Own (owned.Task u)) h3)
      spawn_steps =
          let h4 : Hand = push_temp (value.Own (owned.Task u)) h3 in
          let t4 : Turning s y (counts_of n 0 s.rest ∷ []) (counts_of n 0 r2 ∷ more) acts h4 = rethreaded s y (counts_of n 0 s.rest ∷ []) (counts_of n 0 r2 ∷ more) acts h3 turned h4.thread refl refl in record {
            olds = counts_of n 0 s.rest ∷ [];
            news = counts_of n 0 r2 ∷ more;
            acts = acts;
            turned = t4;
            gift = bare;
            leads = λ c z named free on f words.
                let q0 : Answers = answers_of (sight k) in
                let all : Fits q0 c0 = fits (sight k) c0 is_coloured in
                let e : EntryView = done_entry n t (fresh.Thread u) acts h4.work.labels in
                let fewer : s.rest.started + 1 < 2 ^ 32 = (let l = counts_few in omega (arith, l)) in
                let going_on : has_finished (sight k) u ≡ false = ap (λ a. (a && is_none (running_of (sight k) u)) && not (u == 0)) unknown in
                done_leads k.options n t (fresh.Thread u) acts h4.work.labels c0 q0 q1 q1 c t4.labels all (server_there k sound number s here).0 (running_here k sound number s here c0 is_coloured y at live) (it_runs k sound number s here c0 is_coloured y at live) (numbers.itself n)
                (runs_one k.options e (act.Start u to) c0 q1 (start_allowed k.options e c0 q0 t u to all refl (its_home k sound number s here (s.rest.started + 1) fewer) unknown going_on (its_server k sound number s here k.options (s.rest.started + 1) fewer)))
                (thread_named n t u acts h4.work.labels q1)
                (started_agrees k sound number s here c0 is_coloured y at live bare z named free on c r2 refl more f words mine q1.started q1.running newly
                (λ x. ap (λ b. (u == x) || b) (given_before k sound number s here x) ∙ given_next n (λ i j. tot (started_at i j) (things_of k)) s.rest.started fewer x));
          }

    spawned : Captures y.slots r → Gives P (spawn_with k.options.servers pc u start r)
    spawned can = by (can_begin s.rest.tasks u)
      where
        by : (b : Bool) → Gives P (option_map (λ (h2 : Hand). push_temp (value.Own (owned.Task u)) (working (start_thread k.options.servers pc r.0) (with_slots r.1 h2))) (if b then Some (working (with_tasks (begin s.rest.tasks u)) start) else None))
        by true = spawn_steps can
        by false = tt

  -- the step
  pub spawns_led : (cs : WithRoom (ℕ × Bool)) (pc : ℕ) → Gives P (then_some (capture false cs.items y.slots) (spawn_with k.options.servers pc u start))
  spawns_led cs pc = bind_gives (Captures y.slots) P (capture false cs.items y.slots) (spawn_with k.options.servers pc u start) (captures false cs.items [] y.slots (λ f i m. refl)) (λ r can. spawned pc r can)

-- so its entry is legal
pub spawns_legal : StepsLegal Spawns
spawns_legal k number t s y _ coherent few here at code (spawns cs pc) =
    let own = by_number s t y at in
    step_legal (LeavesWords k) k number t s y (instr.Spawn cs pc) coherent.sound few here at code (starts_leave_words k number t s y (instr.Spawn cs pc) coherent few here at code (a_thread cs pc))
    (λ c0 is_coloured calm.
    goes_on_led (LeavesWords k) k s y own c0 (fresh.Thread (next_thread s.rest)) (then_some (capture false cs.items y.slots) (spawn_with k.options.servers pc (next_thread s.rest) (record { work = begin_work s.rest; thread = y })))
    (spawns_led k coherent.sound few number s here c0 is_coloured y own (lives y.phase calm) (gift_fits k coherent.sound number s here t y at (instr.Spawn cs pc) code).0 cs pc))
