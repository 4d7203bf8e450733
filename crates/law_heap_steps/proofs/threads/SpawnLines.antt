-- A thread that starts, at the server and on the plain machine.
use Rattle.std.proofs.Common.{◌≡◌, ℕ, ◌+◌, ◌<◌, ◌^◌, Bool, true, false, if◌then◌else◌, List, [], ◌∷◌, ◌++◌, length, Option, Some, None, option_map, refl, ap, subst, arith}
use Rattle.law_heap_steps.specs.Below.fr_base.Rooms.{WithRoom}
use Rattle.law_heap_steps.specs.Below.fr_base.declared.label.Label.TheVariants as label
use Rattle.law_heap_steps.specs.Below.fr_base.declared.label.Plain.TheVariants as plain
use Rattle.law_heap_steps.specs.Below.fr_base.declared.step.Fresh.TheVariants as fresh
use Rattle.law_heap_steps.specs.Below.fr_base.declared.instruction.Instr.{Instr}
use Rattle.law_heap_steps.specs.Below.fr_base.declared.instruction.Instr.TheVariants as instr
use Rattle.law_heap_steps.specs.Below.fr_plain.declared.value.Value.{Value as PlainValue}
use Rattle.law_heap_steps.specs.Below.fr_plain.declared.value.Value.TheVariants as plain_v
use Rattle.law_heap_steps.specs.Below.fr_plain.PlainState.{SameState, plain_state}
use Rattle.law_heap_steps.specs.Below.fr_code.Machine.{CodeWhole, CodeRunning}
use Rattle.law_heap_steps.specs.Below.fr_code.Steps.{Place, over_at, run_instr, captured as captures_of}
use Rattle.law_heap_steps.specs.Below.heap_partition.declared.value.Owned.TheVariants as owned
use Rattle.law_heap_steps.specs.Below.join_home.Tasks.{can_begin, begin, going}
use Rattle.law_heap_steps.specs.Below.read_cache.Cache.{Copy}
use Rattle.law_heap_steps.specs.Below.migration.Packing.{unpin_all}
use Rattle.law_heap_steps.specs.Below.thread_state.View.{ThreadState, new_thread}
use Rattle.law_heap_steps.specs.Below.thread_state.declared.value.Value.{Value}
use Rattle.law_heap_steps.specs.Below.thread_state.declared.value.Value.TheVariants as value
use Rattle.law_heap_steps.specs.Below.journal.declared.act.Act.TheVariants as act
use Rattle.law_heap_steps.specs.Below.server_msgs.declared.message.Message.TheVariants as message
use Rattle.law_heap_steps.specs.Below.server_model.declared.event.Event.{Event}
use Rattle.law_heap_steps.specs.Below.server_model.Servers.{Rest, Server, Cluster}
use Rattle.law_heap_steps.specs.Below.server_model.Work.{Hand, Work, note, label_all, working, with_tasks, with_slots, with_cache, push_temp, then_some}
use Rattle.law_heap_steps.specs.Below.server_model.Start.{next_thread, server_for, start_thread, capture_from}
use Rattle.law_heap_steps.specs.Below.server_model.Commit.{done_where, go_on, spawn_with}
use Rattle.law_heap_steps.specs.Below.server_model.Events.{Stepped, stepped, begin_work, committed, step}
use Rattle.law_heap_steps.specs.Below.server_model.Clusters.{hand_over_newer, apply}
use Rattle.law_heap_steps.specs.Below.coherent_memory.Names.{tot}
use Rattle.law_heap_steps.specs.Below.coherent_memory.Things.{Thing, task_things, things_of}
use Rattle.law_heap_steps.specs.Below.coherent_memory.Sight.{Sight}
use Rattle.law_heap_steps.specs.Below.coherent_memory.OneHeap.{Node, running_at, one_heap, state_of}
use Rattle.law_heap_steps.specs.Below.coherent_memory.Coherent.{IsSound}
use Rattle.law_heap_steps.specs.Below.law_counts_sums.Laws.{Gives, FewEvents}
use Rattle.law_heap_steps.proofs.Below.law_counts_sums.Bags.{counts_of, body_things, rest_things, had_by, of_tasks}
use Rattle.law_heap_steps.proofs.Below.law_counts_sums.Each.{names_left}
use Rattle.law_heap_steps.proofs.Below.law_counts_sums.GiftsTaken.{gift_fits}
use Rattle.law_heap_steps.proofs.Below.law_counts_sums.Trades.{tot-append, trade_push}
use Rattle.law_heap_steps.specs.Below.law_heap_still.events.Shows.{ShowAlike, sign_of}
use Rattle.law_heap_steps.proofs.Below.law_heap_still.events.Alike.{same_state}
use Rattle.law_heap_steps.proofs.Below.law_heap_still.events.Counting.{no_stray}
use Rattle.law_heap_steps.proofs.Below.law_heap_still.events.Readied.{copies_ready}
use Rattle.law_heap_steps.proofs.Below.law_heap_still.events.Sites.{shown, Moves, sends}
use Rattle.law_heap_steps.specs.turns.Turns.{StepsTo, IsPlainStep, instr_of, ArePlainSteps}
use Rattle.law_heap_steps.proofs.turns.Parts.{owned_in}
use Rattle.law_heap_steps.proofs.turns.Instructions.{shown_last, shown_push}
use Rattle.law_heap_steps.proofs.turns.Events.{AtStep, Sends, events_are_plain, then_same}
use Rattle.law_heap_steps.proofs.mutexes.Beside.{mine}
use Rattle.law_heap_steps.proofs.mutexes.DupLines.{running_to}
use Rattle.law_heap_steps.proofs.mutexes.Changed as changed
use Rattle.law_heap_steps.specs.threads.Tasks.{starts_thread}
use Rattle.law_heap_steps.proofs.threads.Captured.{Passes, passes}
use Rattle.law_heap_steps.proofs.threads.Spawned as spawned
use Rattle.law_heap_steps.proofs.threads.PlainSpawn.{Starts, spawn_steps}

module _ (k : Cluster) (sound : IsSound k) (few : FewEvents k) (e : Event) (cs : WithRoom (ℕ × Bool)) (body : ℕ) (s : Server) (t : ℕ) (x : ThreadState) (at : AtStep k e (instr.Spawn cs body) s t x) where
  abbrev i : Instr
  i = instr.Spawn cs body

  abbrev start : Hand
  start = record { work = begin_work s.rest; thread = x }

  abbrev n : ℕ
  n = s.rest.number

  abbrev u : ℕ
  u = next_thread s.rest

  abbrev target : ℕ
  target = server_for k.options.servers s.rest

  abbrev Next : Stepped → Cluster
  Next d = record k { servers = hand_over_newer e.server (length s.rest.outbox) (stepped s d).0 k.servers }

  abbrev Wanted : Stepped → Type 0
  Wanted d = Sends k e s (stepped s d) → IsPlainStep k (Next d, (stepped s d).1)

  bare : x.gift ≡ None
  bare = (gift_fits k sound e.server s at.here t x at.at i at.code).0

  left_names : s.rest.started + 2 < 2 ^ 32
  left_names = names_left k sound.names.few_names few e.server s at.here

  module _ (r : List Value × List Value) (g : Passes cs.items [] x.slots r) where
    abbrev vs : List Value
    vs = r.0

    abbrev left : List Value
    left = r.1

    even : (q : Node) → owned_in q x.slots ≡ owned_in q left + owned_in q vs
    even q = omega (arith, g.owned q)

    abbrev temps : List Value
    temps = x.temps ++ value.Own (owned.Task u) ∷ []

    abbrev s2 : Sight
    s2 = spawned.s2 k sound e i refl s t x at bare left_names target body left vs even

    steps : (c : CodeWhole) → SameState (plain_state c) (one_heap k) → StepsTo k.code c x.number (fresh.Thread u) (state_of s2) (label.Start u ∷ [])
    steps c same =
        let a = state_of (spawned.s1 k sound e i refl s t x at bare left_names target body left vs even) in
        let b = state_of s2 in
        let shown_too : SameState (plain_state c) a = then_same (plain_state c) (one_heap k) a same (spawned.state_before k sound e i refl s t x at bare left_names target body left vs even) in
        let plug : PlainValue → Place = λ w. record { pc = x.pc + 1; temps = w ∷ shown_last x.temps } in
        let fresh_one : CodeRunning = record { place = record { pc = body; temps = [] }; slots = shown_last vs } in
        let turn : Starts x.number u (running_at x) (running_to (x.pc + 1) (plain_v.Own (plain.Task u) ∷ shown_last x.temps) (shown_last left)) fresh_one a b =
        subst (λ q. Starts x.number u (running_at x) q fresh_one a b) (ap (λ l. running_to (x.pc + 1) l (shown_last left)) (shown_push x.temps (value.Own (owned.Task u)))) (spawned.starts k sound e i refl s t x at bare left_names target body left vs even) in
        spawn_steps k.code c x.number u (running_at x) plug (captures_of cs.items) (record { pc = body; temps = [] }) (shown_last left) (shown_last vs) a b turn shown_too (ap (λ j. over_at j (shown_last x.temps)) at.code) (ap (λ j. run_instr j x.pc (shown_last x.temps)) at.code) g.passed

    -- the new thread is noted, counted and sent
    abbrev noted_rest : Rest
    noted_rest = record s.rest { tasks = begin s.rest.tasks u }

    abbrev counted : Work
    counted = label_all (label.Start u ∷ []) (note (act.Start u target) (record { rest = record noted_rest { started = s.rest.started + 1 }; acts = []; labels = [] }))

    abbrev made_hand : Hand
    made_hand = push_temp (value.Own (owned.Task u)) (working (start_thread k.options.servers body vs) (with_slots left (working (with_tasks (begin s.rest.tasks u)) start)))

    abbrev E : Thing
    E = spawned.E k sound e i refl s t x at bare left_names target body left vs even

    abbrev G2 : List Thing
    G2 = spawned.G2 k sound e i refl s t x at bare left_names target body left vs even

    abbrev became : ThreadState
    became = spawned.became k sound e i refl s t x at bare left_names target body left vs even

    abbrev y : ThreadState
    y = spawned.y k sound e i refl s t x at bare left_names target body left vs even

    abbrev H : List Thing
    H = had_by target (new_thread u body vs)

    module _ (copies : List Copy) where
      abbrev d : Stepped
      d = record { hand = record { work = with_cache copies made_hand.work; thread = record (go_on made_hand).thread { passed = 0; walk = []; moved_since_step = false } }; names = Some (fresh.Thread u) }

      thread_is : d.hand.thread ≡ y
      thread_is = ap (λ q. (let z : ThreadState = record became { gift = q } in z)) bare

      moves_to : Moves (E ∷ G2) (counts_of n 0 s.rest ∷ []) s.rest d.hand.work.rest
      moves_to =
          let goes : Moves (E ∷ H) [] counted.rest made_hand.work.rest = sends (E ∷ H) (E ∷ H) counted.rest counted target (message.Start (new_thread u body vs)) (record { number = refl; alike = λ w z. refl }) (λ w z. omega (arith, z)) in
          record {
            number = goes.number;
            alike = λ w z.
                let f : Thing → ℕ = λ a. w (sign_of a) in
                let cache : shown w (rest_things made_hand.work.rest.number 0 made_hand.work.rest) ≡ shown w (rest_things made_hand.work.rest.number 0 d.hand.work.rest) = (copies_ready made_hand copies []).0.moves.alike w z in
                let at_n : shown w (rest_things n 0 made_hand.work.rest) ≡ shown w (rest_things n 0 d.hand.work.rest) = subst (λ q. shown w (rest_things q 0 made_hand.work.rest) ≡ shown w (rest_things q 0 d.hand.work.rest)) goes.number cache in
                let tasks = of_tasks n 0 s.rest (begin s.rest.tasks u) (trade_push (task_things n) s.rest.tasks 0 (record { thread = u; state = going })) in
                let before_it : tot f (rest_things n 0 noted_rest) ≡ f (counts_of n 0 s.rest) + tot f (body_things n noted_rest) = refl in
                let after_it : tot f (rest_things n 0 counted.rest) ≡ f (counts_of n 0 (record s.rest { started = s.rest.started + 1 })) + tot f (body_things n noted_rest) = refl in
                omega (arith, goes.alike w z, at_n, tasks.before f, tasks.after f, before_it, after_it, tot-append f H (rest_things n 0 s.rest), tot-append f H (rest_things n 0 counted.rest));
          }

      -- in whatever order they stand
      alike_then : Sends k e s (stepped s d) → ShowAlike (spawned.after_all k sound e i refl s t x at bare left_names target body left vs even) (things_of (Next d))
      alike_then goes w z =
          let f : Thing → ℕ = λ a. w (sign_of a) in
          let Others = changed.R k sound e s at.here t x at.at at.number in
          let whole = changed.alike_then k sound e s at.here t x at.at at.number d became thread_is (E ∷ G2) moves_to goes w z in
          omega (arith, whole, tot-append f (mine n y G2) (E ∷ Others), tot-append f (mine n y (E ∷ G2)) Others)

      is_it : Wanted d
      is_it goes v names who done c same =
          let own : x.number ≡ v = cc in
          let named : fresh.Thread u ≡ names = (let q : Some (fresh.Thread u) ≡ Some names = done in cc) in
          let went = steps c same in
          let all = spawned.after_all k sound e i refl s t x at bare left_names target body left vs even in
          let after_it : SameState (one_heap (Next d)) (state_of s2) =
          same_state k all (things_of (Next d)) (spawned.once_then k sound e i refl s t x at bare left_names target body left vs even) (alike_then goes) (spawned.unstray_then k sound e i refl s t x at bare left_names target body left vs even) (no_stray (Next d)) in
          let at_end : StepsTo k.code c x.number (fresh.Thread u) (one_heap (Next d)) (label.Start u ∷ []) = record {
            after = went.after;
            steps = went.steps;
            same = then_same (plain_state went.after.state) (state_of s2) (one_heap (Next d)) went.same after_it;
            labelled = went.labelled;
          } in
          subst (λ a. StepsTo k.code c a names (one_heap (Next d)) (label.Start u ∷ [])) own (subst (λ f. StepsTo k.code c x.number f (one_heap (Next d)) (label.Start u ∷ [])) named at_end)

    settled : Gives Wanted (committed (done_where (fresh.Thread u) (Some (go_on made_hand))))
    settled = by (unpin_all x.walk made_hand.work.rest.cache)
      where
        by : (q : Option (List Copy)) → Gives Wanted (option_map (λ h2. record { hand = h2; names = Some (fresh.Thread u) })
            (option_map (λ copies. record { work = with_cache copies made_hand.work; thread = record (go_on made_hand).thread { passed = 0; walk = []; moved_since_step = false } }) q))
        by None = tt
        by (Some copies) = is_it copies

    begun_line : Gives Wanted (committed (done_where (fresh.Thread u) (option_map go_on (spawn_with k.options.servers body u start r))))
    begun_line = by (can_begin s.rest.tasks u)
      where
        by : (b : Bool) → Gives Wanted (committed (done_where (fresh.Thread u) (option_map go_on (option_map (λ h2. push_temp (value.Own (owned.Task u)) (working (start_thread k.options.servers body vs) (with_slots left h2))) (if b then Some (working (with_tasks (begin s.rest.tasks u)) start) else None)))))
        by true = settled
        by false = tt

  pub spawn_line : Gives Wanted (step k.options.servers i start)
  spawn_line = by (capture_from false [] cs.items x.slots) (passes false cs.items [] x.slots)
    where
      by : (q : Option (List Value × List Value)) → Gives (Passes cs.items [] x.slots) q → Gives Wanted (committed (done_where (fresh.Thread u) (option_map go_on (then_some q (spawn_with k.options.servers body u start)))))
      by None g = tt
      by (Some r) g = begun_line r g

pub spawns : ArePlainSteps IsSound starts_thread
spawns k e i q it sound few = by i q it
  where
    by : (i : Instr) → instr_of k e ≡ Some i → starts_thread i ≡ true → Gives (IsPlainStep k) (apply k e)
    by (instr.Spawn cs body) q it = events_are_plain k e (instr.Spawn cs body) sound few (λ s t x at. spawn_line k sound few e cs body s t x at) q
    by _ q it = absurd (cc it)
