-- A pair of threads that starts, at the server and on the plain machine.
use Rattle.std.proofs.Common.{◌≡◌, ℕ, ◌+◌, ◌<◌, ◌==◌, Bool, true, false, if◌then◌else◌, List, [], ◌∷◌, ◌++◌, length, Option, Some, None, option_map, refl, sym, ap, subst, ◌∙◌, arith}
use Rattle.std.specs.Prelude.{◌^◌, ◌*◌}
use Rattle.law_heap_steps.specs.Below.fr_base.Rooms.{WithRoom}
use Rattle.law_heap_steps.specs.Below.fr_base.declared.label.Label.TheVariants as label
use Rattle.law_heap_steps.specs.Below.fr_base.declared.step.Fresh.TheVariants as fresh
use Rattle.law_heap_steps.specs.Below.fr_base.declared.instruction.Instr.{Instr}
use Rattle.law_heap_steps.specs.Below.fr_base.declared.instruction.Instr.TheVariants as instr
use Rattle.law_heap_steps.specs.Below.fr_plain.declared.value.Value.{Value as PlainValue}
use Rattle.law_heap_steps.specs.Below.fr_plain.PlainState.{SameState, plain_state}
use Rattle.law_heap_steps.specs.Below.fr_code.Machine.{CodeWhole}
use Rattle.law_heap_steps.specs.Below.fr_code.Steps.{Place, over_at, run_instr, captured as captures_of}
use Rattle.law_heap_steps.specs.Below.join_home.Tasks.{can_begin_pair, begin_pair, noted, in_pair}
use Rattle.law_heap_steps.specs.Below.read_cache.Cache.{Copy}
use Rattle.law_heap_steps.specs.Below.migration.Packing.{unpin_all}
use Rattle.law_heap_steps.specs.Below.thread_state.View.{ThreadState, new_thread}
use Rattle.law_heap_steps.specs.Below.thread_state.declared.phase.Phase.TheVariants as phase
use Rattle.law_heap_steps.specs.Below.thread_state.declared.value.Value.{Value}
use Rattle.law_heap_steps.specs.Below.journal.declared.act.Act.TheVariants as act
use Rattle.law_heap_steps.specs.Below.server_msgs.declared.message.Message.{Message}
use Rattle.law_heap_steps.specs.Below.server_msgs.declared.message.Message.TheVariants as message
use Rattle.law_heap_steps.specs.Below.server_model.declared.event.Event.{Event}
use Rattle.law_heap_steps.specs.Below.server_model.Servers.{Rest, Server, Cluster}
use Rattle.law_heap_steps.specs.Below.server_model.Work.{Hand, Work, note, label_all, working, with_tasks, with_phase, with_slots, with_cache, send, sent_from, then_some}
use Rattle.law_heap_steps.specs.Below.server_model.Start.{next_thread, server_for, start_thread, capture_from}
use Rattle.law_heap_steps.specs.Below.server_model.Commit.{done_where, go_on, par_with}
use Rattle.law_heap_steps.specs.Below.server_model.Events.{Stepped, stepped, begin_work, committed, step}
use Rattle.law_heap_steps.specs.Below.server_model.Clusters.{hand_over_newer, apply}
use Rattle.law_heap_steps.specs.Below.coherent_memory.Names.{tot}
use Rattle.law_heap_steps.specs.Below.coherent_memory.Things.{Thing, stands, task_things, things_of}
use Rattle.law_heap_steps.specs.Below.coherent_memory.Sight.{Sight}
use Rattle.law_heap_steps.specs.Below.coherent_memory.OneHeap.{Node, running_at, one_heap, state_of}
use Rattle.law_heap_steps.specs.Below.coherent_memory.Coherent.{IsSound}
use Rattle.law_heap_steps.specs.Below.law_counts_sums.Laws.{Gives, FewEvents}
use Rattle.law_heap_steps.proofs.Below.law_counts_sums.Bags.{counts_of, body_things, rest_things, had_by, of_tasks}
use Rattle.law_heap_steps.proofs.Below.law_counts_sums.Each.{names_left}
use Rattle.law_heap_steps.proofs.Below.law_counts_sums.GiftsTaken.{gift_fits}
use Rattle.law_heap_steps.proofs.Below.law_counts_sums.Trades.{tot-append, trade_push}
use Rattle.law_heap_steps.specs.Below.law_heap_still.events.Shows.{ShowAlike, sign_of}
use Rattle.law_heap_steps.proofs.Below.law_heap_still.events.Alike.{same_state}
use Rattle.law_heap_steps.proofs.Below.law_heap_still.events.Counting.{no_stray}
use Rattle.law_heap_steps.proofs.Below.law_heap_still.events.Readied.{copies_ready}
use Rattle.law_heap_steps.proofs.Below.law_heap_still.events.Sites.{shown, Moves, sends}
use Rattle.law_heap_steps.specs.turns.Turns.{StepsTo, IsPlainStep, instr_of, ArePlainSteps}
use Rattle.law_heap_steps.proofs.turns.Parts.{owned_in}
use Rattle.law_heap_steps.proofs.turns.Instructions.{shown_last}
use Rattle.law_heap_steps.proofs.turns.Events.{AtStep, Sends, events_are_plain, then_same}
use Rattle.law_heap_steps.proofs.mutexes.Beside.{mine}
use Rattle.law_heap_steps.proofs.mutexes.Changed as changed
use Rattle.law_heap_steps.specs.threads.Tasks.{starts_pair}
use Rattle.law_heap_steps.proofs.threads.Captured.{Passes, passes}
use Rattle.law_heap_steps.proofs.threads.Paired as paired
use Rattle.law_heap_steps.proofs.threads.PlainPar.{par_steps}

-- A MESSAGE CHANGES NO COUNT

next_stays : (r : Rest) (target : ℕ) (m : Message) → next_thread (sent_from r target m) ≡ next_thread r
next_stays r target m = by (target == r.number)
  where
    by : (b : Bool) → next_thread (if b then record r { inbox = r.inbox ++ m ∷ [] } else record r { outbox = r.outbox ++ record { target = target; message = m } ∷ [] }) ≡ next_thread r
    by true = refl
    by false = refl

counts_stay : (n : ℕ) (r : Rest) (target : ℕ) (m : Message) → counts_of n 0 (sent_from r target m) ≡ counts_of n 0 r
counts_stay n r target m = by (target == r.number)
  where
    by : (b : Bool) → counts_of n 0 (if b then record r { inbox = r.inbox ++ m ∷ [] } else record r { outbox = r.outbox ++ record { target = target; message = m } ∷ [] }) ≡ counts_of n 0 r
    by true = refl
    by false = refl

abbrev more : Rest → Rest
more z = record z { started = z.started + 1 }

counts_more : (n : ℕ) (r : Rest) (target : ℕ) (m : Message) → counts_of n 0 (record (sent_from r target m) { started = (sent_from r target m).started + 1 }) ≡ counts_of n 0 (record r { started = r.started + 1 })
counts_more n r target m = by (target == r.number)
  where
    by : (b : Bool) → counts_of n 0 (more (if b then record r { inbox = r.inbox ++ m ∷ [] } else record r { outbox = r.outbox ++ record { target = target; message = m } ∷ [] })) ≡ counts_of n 0 (more r)
    by true = refl
    by false = refl

module _ (k : Cluster) (sound : IsSound k) (few : FewEvents k) (e : Event) (cs : WithRoom (ℕ × Bool)) (body : ℕ) (ds : WithRoom (ℕ × Bool)) (body2 : ℕ) (s : Server) (t : ℕ) (x : ThreadState) (at : AtStep k e (instr.Par cs body ds body2) s t x) where
  abbrev i : Instr
  i = instr.Par cs body ds body2

  abbrev start : Hand
  start = record { work = begin_work s.rest; thread = x }

  abbrev n : ℕ
  n = s.rest.number

  abbrev u1 : ℕ
  u1 = next_thread s.rest

  abbrev u2 : ℕ
  u2 = n * 2 ^ 32 + (s.rest.started + 1 + 1)

  abbrev target : ℕ
  target = server_for k.options.servers s.rest

  abbrev Next : Stepped → Cluster
  Next d = record k { servers = hand_over_newer e.server (length s.rest.outbox) (stepped s d).0 k.servers }

  abbrev Wanted : Stepped → Type 0
  Wanted d = Sends k e s (stepped s d) → IsPlainStep k (Next d, (stepped s d).1)

  bare : x.gift ≡ None
  bare = (gift_fits k sound e.server s at.here t x at.at i at.code).0

  left_names : s.rest.started + 2 < 2 ^ 32
  left_names = names_left k sound.names.few_names few e.server s at.here

  module _ (r : List Value × List Value) (g : Passes cs.items [] x.slots r) (r2 : List Value × List Value) (g2 : Passes ds.items [] r.1 r2) where
    abbrev vs : List Value
    vs = r.0

    abbrev us : List Value
    us = r2.0

    abbrev left : List Value
    left = r2.1

    even : (q : Node) → owned_in q x.slots ≡ owned_in q left + owned_in q vs + owned_in q us
    even q = omega (arith, g.owned q, g2.owned q)

    -- both are noted, the first one is counted and sent, and then the second one
    abbrev noted_rest : Rest
    noted_rest = record s.rest { tasks = begin_pair s.rest.tasks x.number u1 u2 }

    abbrev m1 : Message
    m1 = message.Start (new_thread u1 body vs)

    abbrev counted : Work
    counted = label_all (label.Start u1 ∷ []) (note (act.Start u1 target) (record { rest = record noted_rest { started = s.rest.started + 1 }; acts = []; labels = [] }))

    abbrev sent1 : Work
    sent1 = send target m1 counted

    abbrev v2 : ℕ
    v2 = next_thread sent1.rest

    abbrev target2 : ℕ
    target2 = server_for k.options.servers sent1.rest

    abbrev counted2 : Work
    counted2 = label_all (label.Start v2 ∷ []) (note (act.Start v2 target2) (record sent1 { rest = record sent1.rest { started = sent1.rest.started + 1 } }))

    abbrev made_hand : Hand
    made_hand =
        with_phase (phase.WaitPar u1 u2)
        (go_on (working (λ w. start_thread k.options.servers body2 us (start_thread k.options.servers body vs w)) (with_slots left (working (with_tasks (begin_pair s.rest.tasks x.number u1 u2)) start))))

    -- the second one has the next number
    same2 : v2 ≡ u2
    same2 = next_stays counted.rest target m1

    abbrev s2 : Sight
    s2 = paired.s2 k sound e i refl s t x at bare left_names target target2 body body2 left vs us even

    steps : (c : CodeWhole) → SameState (plain_state c) (one_heap k) → StepsTo k.code c x.number (fresh.Threads u1 u2) (state_of s2) (label.Start u1 ∷ label.Start u2 ∷ [])
    steps c same =
        let a = state_of (paired.s1 k sound e i refl s t x at bare left_names target target2 body body2 left vs us even) in
        let b = state_of s2 in
        let shown_too : SameState (plain_state c) a = then_same (plain_state c) (one_heap k) a same (paired.state_before k sound e i refl s t x at bare left_names target target2 body body2 left vs us even) in
        let plug : PlainValue → Place = λ w. record { pc = x.pc + 1; temps = shown_last x.temps } in
        par_steps k.code c x.number u1 u2 (running_at x) plug (captures_of cs.items) (record { pc = body; temps = [] }) (captures_of ds.items) (record { pc = body2; temps = [] }) (shown_last r.1) (shown_last left) (shown_last vs) (shown_last us) a b
        (paired.starts k sound e i refl s t x at bare left_names target target2 body body2 left vs us even) shown_too (ap (λ j. over_at j (shown_last x.temps)) at.code) (ap (λ j. run_instr j x.pc (shown_last x.temps)) at.code) g.passed g2.passed

    abbrev E1 : Thing
    E1 = paired.E1 k sound e i refl s t x at bare left_names target target2 body body2 left vs us even

    abbrev E2 : Thing
    E2 = paired.E2 k sound e i refl s t x at bare left_names target target2 body body2 left vs us even

    abbrev G2 : List Thing
    G2 = paired.G2 k sound e i refl s t x at bare left_names target target2 body body2 left vs us even

    abbrev became : ThreadState
    became = paired.became k sound e i refl s t x at bare left_names target target2 body body2 left vs us even

    abbrev y : ThreadState
    y = paired.y k sound e i refl s t x at bare left_names target target2 body body2 left vs us even

    abbrev Had1 : List Thing
    Had1 = had_by target (new_thread u1 body vs)

    abbrev Had2 : List Thing
    Had2 = had_by target2 (new_thread u2 body2 us)

    module _ (copies : List Copy) where
      abbrev d : Stepped
      d = record { hand = record { work = with_cache copies made_hand.work; thread = record made_hand.thread { passed = 0; walk = []; moved_since_step = false } }; names = Some (fresh.Threads u1 u2) }

      thread_is : d.hand.thread ≡ y
      thread_is = ap (λ q. (let z : ThreadState = record became { gift = q } in z)) bare

      moves_to : Moves (E2 ∷ E1 ∷ G2) (counts_of n 0 s.rest ∷ []) s.rest d.hand.work.rest
      moves_to =
          let goes1 : Moves (E1 ∷ Had1) [] counted.rest sent1.rest = sends (E1 ∷ Had1) (E1 ∷ Had1) counted.rest counted target m1 (record { number = refl; alike = λ w z. refl }) (λ w z. omega (arith, z)) in
          let goes2 : Moves (E2 ∷ Had2) [] counted2.rest made_hand.work.rest =
          subst (λ v. Moves (stands target2 true (new_thread v body2 us) ∷ had_by target2 (new_thread v body2 us)) [] counted2.rest made_hand.work.rest) same2
          (sends (stands target2 true (new_thread v2 body2 us) ∷ had_by target2 (new_thread v2 body2 us)) (stands target2 true (new_thread v2 body2 us) ∷ had_by target2 (new_thread v2 body2 us)) counted2.rest counted2 target2 (message.Start (new_thread v2 body2 us)) (record { number = refl; alike = λ w z. refl }) (λ w z. omega (arith, z))) in
          record {
            number = goes2.number ∙ goes1.number;
            alike = λ w z.
                let f : Thing → ℕ = λ a. w (sign_of a) in
                let all_number : made_hand.work.rest.number ≡ n = goes2.number ∙ goes1.number in
                let cache : shown w (rest_things made_hand.work.rest.number 0 made_hand.work.rest) ≡ shown w (rest_things made_hand.work.rest.number 0 d.hand.work.rest) = (copies_ready made_hand copies []).0.moves.alike w z in
                let at_n : shown w (rest_things n 0 made_hand.work.rest) ≡ shown w (rest_things n 0 d.hand.work.rest) = subst (λ q. shown w (rest_things q 0 made_hand.work.rest) ≡ shown w (rest_things q 0 d.hand.work.rest)) all_number cache in
                let second : shown w ((E2 ∷ Had2) ++ rest_things n 0 counted2.rest) ≡ shown w (rest_things n 0 made_hand.work.rest) = subst (λ q. shown w ((E2 ∷ Had2) ++ rest_things q 0 counted2.rest) ≡ shown w (rest_things q 0 made_hand.work.rest)) goes1.number (goes2.alike w z) in
                let first : shown w ((E1 ∷ Had1) ++ rest_things n 0 counted.rest) ≡ shown w (rest_things n 0 sent1.rest) = goes1.alike w z in
                let tasks1 = of_tasks n 0 s.rest (noted s.rest.tasks u1 (in_pair x.number false)) (trade_push (task_things n) s.rest.tasks 0 (record { thread = u1; state = in_pair x.number false })) in
                let mid : Rest = record s.rest { tasks = noted s.rest.tasks u1 (in_pair x.number false) } in
                let tasks2 = of_tasks n 0 mid (noted mid.tasks u2 (in_pair x.number false)) (trade_push (task_things n) mid.tasks 0 (record { thread = u2; state = in_pair x.number false })) in
                let before_it : tot f (rest_things n 0 noted_rest) ≡ f (counts_of n 0 s.rest) + tot f (body_things n noted_rest) = refl in
                let after_it : tot f (rest_things n 0 counted.rest) ≡ f (counts_of n 0 (record s.rest { started = s.rest.started + 1 })) + tot f (body_things n noted_rest) = refl in
                let sent_it : tot f (rest_things n 0 sent1.rest) ≡ f (counts_of n 0 sent1.rest) + tot f (body_things n sent1.rest) = refl in
                let counted_it : tot f (rest_things n 0 counted2.rest) ≡ f (counts_of n 0 counted2.rest) + tot f (body_things n sent1.rest) = refl in
                let same_counts : f (counts_of n 0 sent1.rest) ≡ f (counts_of n 0 (record s.rest { started = s.rest.started + 1 })) = ap f (counts_stay n counted.rest target m1) in
                let more_counts : f (counts_of n 0 counted2.rest) ≡ f (counts_of n 0 (record s.rest { started = s.rest.started + 1 + 1 })) = ap f (counts_more n counted.rest target m1) in
                omega (
                  arith,
                  first,
                  second,
                  at_n,
                  tasks1.before f,
                  tasks1.after f,
                  tasks2.before f,
                  tasks2.after f,
                  before_it,
                  after_it,
                  sent_it,
                  counted_it,
                  same_counts,
                  more_counts,
                  tot-append f Had1 Had2,
                  tot-append f (Had1 ++ Had2) (rest_things n 0 s.rest),
                  tot-append f Had1 (rest_things n 0 counted.rest),
                  tot-append f Had2 (rest_things n 0 counted2.rest),
                );
          }

      alike_then : Sends k e s (stepped s d) → ShowAlike (paired.after_all k sound e i refl s t x at bare left_names target target2 body body2 left vs us even) (things_of (Next d))
      alike_then goes w z =
          let f : Thing → ℕ = λ a. w (sign_of a) in
          let Others = changed.R k sound e s at.here t x at.at at.number in
          let whole = changed.alike_then k sound e s at.here t x at.at at.number d became thread_is (E2 ∷ E1 ∷ G2) moves_to goes w z in
          omega (arith, whole, tot-append f (mine n y G2) (E2 ∷ E1 ∷ Others), tot-append f (mine n y (E2 ∷ E1 ∷ G2)) Others)

      is_it : Wanted d
      is_it goes v names who done c same =
          let own : x.number ≡ v = cc in
          let named : fresh.Threads u1 u2 ≡ names = (let q : Some (fresh.Threads u1 u2) ≡ Some names = done in cc) in
          let went = steps c same in
          let all = paired.after_all k sound e i refl s t x at bare left_names target target2 body body2 left vs us even in
          let after_it : SameState (one_heap (Next d)) (state_of s2) =
          same_state k all (things_of (Next d)) (paired.once_then k sound e i refl s t x at bare left_names target target2 body body2 left vs us even) (alike_then goes) (paired.unstray_then k sound e i refl s t x at bare left_names target target2 body body2 left vs us even) (no_stray (Next d)) in
          let at_end : StepsTo k.code c x.number (fresh.Threads u1 u2) (one_heap (Next d)) (label.Start u1 ∷ label.Start u2 ∷ []) = record {
            after = went.after;
            steps = went.steps;
            same = then_same (plain_state went.after.state) (state_of s2) (one_heap (Next d)) went.same after_it;
            labelled = went.labelled;
          } in
          let relabelled : StepsTo k.code c x.number (fresh.Threads u1 u2) (one_heap (Next d)) d.hand.work.labels = subst (λ a. StepsTo k.code c x.number (fresh.Threads u1 u2) (one_heap (Next d)) (label.Start u1 ∷ label.Start a ∷ [])) (sym same2) at_end in
          subst (λ a. StepsTo k.code c a names (one_heap (Next d)) d.hand.work.labels) own (subst (λ f. StepsTo k.code c x.number f (one_heap (Next d)) d.hand.work.labels) named relabelled)

    settled : Gives Wanted (committed (done_where (fresh.Threads u1 u2) (Some made_hand)))
    settled = by (unpin_all x.walk made_hand.work.rest.cache)
      where
        by : (q : Option (List Copy)) → Gives Wanted (option_map (λ h2. record { hand = h2; names = Some (fresh.Threads u1 u2) })
            (option_map (λ copies. record { work = with_cache copies made_hand.work; thread = record made_hand.thread { passed = 0; walk = []; moved_since_step = false } }) q))
        by None = tt
        by (Some copies) = is_it copies

    begun_line : Gives Wanted (committed (done_where (fresh.Threads u1 u2) (par_with k.options.servers body body2 u1 u2 start vs r2)))
    begun_line = by (can_begin_pair s.rest.tasks x.number u1 u2)
      where
        by : (b : Bool) → Gives Wanted (committed (done_where (fresh.Threads u1 u2) (option_map (λ h2. with_phase (phase.WaitPar u1 u2) (go_on (working (λ w. start_thread k.options.servers body2 us (start_thread k.options.servers body vs w)) (with_slots left h2)))) (if b then Some (working (with_tasks (begin_pair s.rest.tasks x.number u1 u2)) start) else None))))
        by true = settled
        by false = tt

  next_is : u1 + 1 ≡ u2
  next_is = omega arith

  with_second : (r : List Value × List Value) → Passes cs.items [] x.slots r → Gives Wanted (committed (done_where (fresh.Threads u1 u2) (then_some (capture_from true [] ds.items r.1) (par_with k.options.servers body body2 u1 u2 start r.0))))
  with_second r g = by (capture_from true [] ds.items r.1) (passes true ds.items [] r.1)
    where
      by : (q : Option (List Value × List Value)) → Gives (Passes ds.items [] r.1) q → Gives Wanted (committed (done_where (fresh.Threads u1 u2) (then_some q (par_with k.options.servers body body2 u1 u2 start r.0))))
      by None h = tt
      by (Some r2) h = begun_line r g r2 h

  pub par_line : Gives Wanted (step k.options.servers i start)
  par_line = by (capture_from true [] cs.items x.slots) (passes true cs.items [] x.slots)
    where
      by : (q : Option (List Value × List Value)) → Gives (Passes cs.items [] x.slots) q
          → Gives Wanted (committed (done_where (fresh.Threads u1 (u1 + 1)) (then_some q (λ first. then_some (capture_from true [] ds.items first.1) (par_with k.options.servers body body2 u1 (u1 + 1) start first.0)))))
      by None g = tt
      by (Some r) g = subst (λ b. Gives Wanted (committed (done_where (fresh.Threads u1 b) (then_some (capture_from true [] ds.items r.1) (par_with k.options.servers body body2 u1 b start r.0))))) (sym next_is) (with_second r g)

pub pars : ArePlainSteps IsSound starts_pair
pars k e i q it sound few = by i q it
  where
    by : (i : Instr) → instr_of k e ≡ Some i → starts_pair i ≡ true → Gives (IsPlainStep k) (apply k e)
    by (instr.Par cs body ds body2) q it = events_are_plain k e (instr.Par cs body ds body2) sound few (λ s t x at. par_line k sound few e cs body ds body2 s t x at) q
    by _ q it = absurd (cc it)
