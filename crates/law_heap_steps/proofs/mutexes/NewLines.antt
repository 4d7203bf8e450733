-- A new mutex, at the server and on the plain machine: the value on top goes into it, and a value of it comes in its place.
use Rattle.std.proofs.Common.{◌≡◌, ◌≢◌, ℕ, zero, suc, ◌+◌, ◌≤◌, ◌<◌, ◌==◌, ◌&&◌, nat_le, not, Bool, true, false, if◌then◌else◌, List, [], ◌∷◌, ◌++◌, Option, Some, None, is_some, option_map, refl, sym, ap, ap₂, subst, ◌∙◌, arith}
use Rattle.std.specs.List.{AllByRecursion}
use Rattle.std.proofs.lemmas.Bool.Decides.{nat_tests}
use Rattle.law_heap_steps.proofs.Below.fr_typing.PlaceLemmas.{eq_cases}
use Rattle.law_heap_steps.specs.Below.fr_base.declared.name.MutexNo.{MutexNo}
use Rattle.law_heap_steps.specs.Below.fr_base.declared.label.Plain.TheVariants as plain
use Rattle.law_heap_steps.specs.Below.fr_base.declared.step.Fresh.{Fresh}
use Rattle.law_heap_steps.specs.Below.fr_base.declared.step.Fresh.TheVariants as fresh
use Rattle.law_heap_steps.specs.Below.fr_base.declared.instruction.Operand.{Operand}
use Rattle.law_heap_steps.specs.Below.fr_base.declared.instruction.Instr.{Instr}
use Rattle.law_heap_steps.specs.Below.fr_base.declared.instruction.Instr.TheVariants as instr
use Rattle.law_heap_steps.specs.Below.fr_plain.declared.value.Value.{Value as PlainValue}
use Rattle.law_heap_steps.specs.Below.fr_plain.declared.value.Value.TheVariants as plain_v
use Rattle.law_heap_steps.specs.Below.fr_plain.PlainState.{SameState, plain_state}
use Rattle.law_heap_steps.specs.Below.fr_plain.MachineActs.{do_mutex}
use Rattle.law_heap_steps.specs.Below.fr_plain.MachineThreads.{Mutex as PlainMutex, Shared, mutex_at}
use Rattle.law_heap_steps.specs.Below.fr_code.Machine.{CodeWhole, CodeRunning}
use Rattle.law_heap_steps.specs.Below.fr_code.Steps.{Place, over_at, run_instr, loud}
use Rattle.law_heap_steps.specs.Below.heap_partition.Plain.{plain_of}
use Rattle.law_heap_steps.specs.Below.heap_partition.declared.value.Owned.{Owned}
use Rattle.law_heap_steps.specs.Below.heap_partition.declared.value.Owned.TheVariants as owned
use Rattle.law_heap_steps.specs.Below.mutex_home.Mutexes.{Mutex, Mutexes, make, can_make, next_mutex}
use Rattle.law_heap_steps.specs.Below.read_cache.Cache.{Copy}
use Rattle.law_heap_steps.specs.Below.migration.Packing.{unpin_all}
use Rattle.law_heap_steps.specs.Below.thread_state.View.{ThreadState}
use Rattle.law_heap_steps.specs.Below.thread_state.declared.value.Value.{Value}
use Rattle.law_heap_steps.specs.Below.thread_state.declared.value.Value.TheVariants as value
use Rattle.law_heap_steps.specs.Below.server_model.declared.event.Event.{Event}
use Rattle.law_heap_steps.specs.Below.server_model.Servers.{Server, Cluster}
use Rattle.law_heap_steps.specs.Below.server_model.Work.{Hand, Popped, working, with_mutexes, with_temps, with_cache, push_temp, pop, pop_owned, taken_as, owned_of, then_some}
use Rattle.law_heap_steps.specs.Below.server_model.Commit.{done_where, go_on, mutex_made}
use Rattle.law_heap_steps.specs.Below.server_model.Events.{Stepped, begin_work, committed, step}
use Rattle.law_heap_steps.specs.Below.coherent_memory.Names.{tot, one, some, if_so, same_mutex}
use Rattle.law_heap_steps.specs.Below.coherent_memory.Things.{Thing, holds, as_content, gift_things, things_at, mutex_things}
use Rattle.law_heap_steps.specs.Below.coherent_memory.Sight.{Sight}
use Rattle.law_heap_steps.specs.Below.coherent_memory.Naming.{started_at, made_at}
use Rattle.law_heap_steps.specs.Below.coherent_memory.OneHeap.{Node, object_n, mutex_n, task_n, inside, owns, named_in, any_named, is_in_state, if_in, or_else, first_shown, content_value, result_value, share_in, is_given_mutex, running_at, one_heap, state_of}
use Rattle.law_heap_steps.specs.Below.coherent_memory.Coherent.{IsSound}
use Rattle.law_heap_steps.proofs.Below.coherent_memory.Names.{same_mutexes}
use Rattle.law_heap_steps.specs.Below.law_counts_sums.Laws.{Gives}
use Rattle.law_heap_steps.proofs.Below.law_counts_sums.Trades.{Trade, trade_push}
use Rattle.law_heap_steps.proofs.Below.law_counts_sums.Bags.{counts_of, of_mutexes}
use Rattle.law_heap_steps.proofs.Below.law_counts_sums.GiftsTaken.{gift_fits}
use Rattle.law_heap_steps.proofs.Below.law_counts_sums.Results.{bind_gives}
use Rattle.law_heap_steps.specs.Below.law_heap_still.events.Shows.{sign_of}
use Rattle.law_heap_steps.proofs.Below.law_heap_still.events.Alike.{Once}
use Rattle.law_heap_steps.proofs.Below.law_heap_still.events.Readied.{copies_ready}
use Rattle.law_heap_steps.proofs.Below.law_heap_still.events.Told.{told, ones}
use Rattle.law_plain_values.proofs.acts.Mutexes.{mutex_cases}
use Rattle.law_heap_steps.specs.turns.Turns.{StepsTo}
use Rattle.law_heap_steps.proofs.turns.Parts.{Own, owned_in}
use Rattle.law_heap_steps.proofs.turns.OneTurn.{of_thread, Calm, after}
use Rattle.law_heap_steps.proofs.turns.Instructions.{shown_last, shown_push, owned_push, Pops, PopsTo, itself, popped}
use Rattle.law_heap_steps.proofs.turns.Events.{AtStep, then_same}
use Rattle.law_heap_steps.proofs.mutexes.Reach.{or_right}
use Rattle.law_heap_steps.proofs.mutexes.Beside.{IsLoose, so_one, tot_of}
use Rattle.law_heap_steps.proofs.mutexes.Changed.{lone, given, once_before, state_before}
use Rattle.law_heap_steps.proofs.mutexes.Gifted.{or_false}
use Rattle.law_heap_steps.proofs.mutexes.ThreadTurns.{G, R, before, then_there, quiet, loose, ThreadTurn}
use Rattle.law_heap_steps.proofs.mutexes.OneMutex as one_mutex
use Rattle.law_heap_steps.proofs.mutexes.OneMutex.{shared_as}
use Rattle.law_heap_steps.proofs.mutexes.OneThread.{GoesOn, past}
use Rattle.law_heap_steps.proofs.mutexes.Change.{Change, thread_on, made_on, objects_on, mutexes_on, after_it, once_on}
use Rattle.law_heap_steps.proofs.mutexes.DupLines.{running_to}
use Rattle.law_heap_steps.proofs.mutexes.NewMutex.{home, not_given, no_shares, none_under, none_told}
use Rattle.law_heap_steps.proofs.mutexes.Places.{itself_named}
use Rattle.law_heap_steps.proofs.mutexes.PlainMutex.{acts, makes, steps_with, more_shows, more_given}

-- an owned value is popped
owned_taken : (o : Operand) (h : Hand) (p : Popped Value) → PopsTo o h itself p → Gives (PopsTo o h value.Own) (taken_as owned_of p)
owned_taken o h p u = by p.item refl
  where
    by : (v : Value) → p.item ≡ v → Gives (PopsTo o h value.Own) (option_map (λ x. record { item = x; hand = p.hand }) (owned_of v))
    by (value.Own w) e = record { rest = u.rest; hand = u.hand; pops = subst (λ v. Pops o h.thread.temps v u.rest) e u.pops }
    by value.Gone e = tt
    by (value.SharedSlot i) e = tt
    by (value.MutSlot i) e = tt
    by (value.Shared r) e = tt
    by (value.Mut r) e = tt
    by (value.Held m) e = tt

pub popped_owned : (o : Operand) (h : Hand) → Gives (PopsTo o h value.Own) (pop_owned o h)
popped_owned o h = bind_gives (PopsTo o h itself) (PopsTo o h value.Own) (pop o h) (taken_as owned_of) (popped o h) (owned_taken o h)

-- how far the counts of a server reach
pub le_itself : (c : ℕ) → nat_le c c ≡ true
le_itself c = by (nat_le c c) refl
  where
    by : (q : Bool) → nat_le c c ≡ q → nat_le c c ≡ true
    by true e = e
    by false e = absurd (grind (arith, nat_tests, e))

pub le_next : (c j : ℕ) → (c ≡ j + 1 → ⊥) → nat_le c j ≡ nat_le c (j + 1)
le_next c j ne = by (nat_le c j) refl (nat_le c (j + 1)) refl
  where
    by : (p : Bool) → nat_le c j ≡ p → (q : Bool) → nat_le c (j + 1) ≡ q → nat_le c j ≡ nat_le c (j + 1)
    by true e true f = e ∙ sym f
    by false e false f = e ∙ sym f
    by true e false f = absurd (grind (arith, nat_tests, e, f))
    by false e true f = let g : j < c = grind (arith, nat_tests, e) in let l : c ≤ j + 1 = grind (arith, nat_tests, f) in absurd (ne (omega (arith, g, l)))

not_zero : (j : ℕ) → (j + 1 == 0) ≡ false
not_zero j = eq_cases (λ q. q ≡ false) (j + 1) 0 (λ f. absurd (omega (arith, f))) (λ _. refl)

abbrev named_as : ℕ → ℕ → MutexNo
named_as h c = record { home = h; count = c }

none_given : (o : Option Shared) (xs : List PlainMutex) (m : MutexNo) → is_some (mutex_at xs m) ≡ false → mutex_at xs m ≡ None
none_given o xs m e = by (mutex_at xs m) e
  where
    by : (q : Option PlainMutex) → is_some q ≡ false → q ≡ None
    by None z = refl
    by (Some x) z = absurd (cc z)

module _ (k : Cluster) (sound : IsSound k) (e : Event) (o : Operand) (s : Server) (t : ℕ) (x : ThreadState) (at : AtStep k e (instr.Mutex o) s t x) where
  abbrev i : Instr
  i = instr.Mutex o

  abbrev start : Hand
  start = record { work = begin_work s.rest; thread = x }

  abbrev n : ℕ
  n = s.rest.number

  abbrev m : MutexNo
  m = next_mutex s.rest.mutexes

  abbrev G1 : List Thing
  G1 = G k sound e i refl s t x at

  abbrev Others : List Thing
  Others = R k sound e i refl s t x at

  abbrev s1 : Sight
  s1 = before k sound e i refl s t x at

  bare : x.gift ≡ None
  bare = (gift_fits k sound e.server s at.here t x at.at i at.code).0

  abbrev counts_here : Thing
  counts_here = counts_of n s.events s.rest

  abbrev Wanted : Stepped → Type 0
  Wanted d = (names : Fresh) → d.names ≡ Some names → ThreadTurn k sound e i refl s t x at d

  abbrev extra : Node → Bool
  extra q = owns q (owned.Mutex m)

  only : (q : Node) → extra q ≡ true → q ≡ mutex_n m
  only (object_n u) f = absurd (cc f)
  only (task_n u) f = absurd (cc f)
  only (mutex_n w) f = ap (λ v. mutex_n v) (sym (same_mutexes m w f))

  module _ (v : Owned) (rest : List Value) (u : Pops o x.temps (value.Own v) rest) where
    abbrev temps : List Value
    temps = rest ++ value.Own (owned.Mutex m) ∷ []

    abbrev made : Mutexes
    made = make s.rest.mutexes v

    abbrev counts_then : Thing
    counts_then = counts_of n 0 (record s.rest { mutexes = made })

    abbrev G2 : List Thing
    G2 = counts_then ∷ holds (as_content m) v ∷ []

    abbrev s2 : Sight
    s2 = then_there k sound e i refl s t x at (after x (x.pc + 1) x.slots temps) G2

    lone1 : tot (of_thread x.number) Others ≡ 0
    lone1 = lone k sound e s at.here t x at.at at.number

    abbrev loose1 : AllByRecursion IsLoose G1
    loose1 = loose k sound e i refl s t x at

    abbrev calm1 : Calm x.phase
    calm1 = quiet k sound e i refl s t x at

    owned_then : (q : Node) → owned_in q temps ≡ owned_in q rest + one (owns q (owned.Mutex m))
    owned_then q = owned_push q rest (value.Own (owned.Mutex m))

    has_new : (q : Node) → 1 ≤ one (owns q (owned.Mutex m)) → is_in_state s2 q ≡ true
    has_new q l = one_mutex.has2 k Others G1 G2 n x (x.pc + 1) x.slots temps calm1 loose1 (tt, (tt, tt)) lone1 q (omega (arith, l, owned_then q))

    in_then : is_in_state s2 (mutex_n m) ≡ true
    in_then = has_new (mutex_n m) (omega (arith, ap one (itself_named m)))

    -- its gift is none, so only the counts stand beside the thread
    alone : {A : Type 0} (f : List Thing → A) → f G1 ≡ f (counts_here ∷ [])
    alone f = ap (λ g. f (gift_things x.number g ++ counts_here ∷ [])) bare

    change : Change k Others G1 G2 n x (x.pc + 1) x.slots temps m None (Some v) true extra
    change = record {
      calm = calm1;
      loose = loose1;
      loose_then = (tt, (tt, tt));
      lone = lone1;
      even = λ q. omega (arith, u.owned q, owned_then q);
      named = λ f q. alone (any_named s1 f q);
      named_then = λ f q. or_false (named_in (owns q v) f (inside (mutex_n m)));
      inside_it = λ z. absurd (cc z);
      inside_then = λ z. in_then;
      new_in = λ z. or_right (is_in_state s1 (mutex_n m)) (extra (mutex_n m)) (itself_named m);
      extra_in = λ q f. has_new q (omega (arith, ap one f));
      none = none_under k sound e s at.here t x at.at at.number extra only;
      no_task = λ w. refl;
      no_object = λ w. refl;
      no_other = λ w ne. mutex_cases (λ c. c ≡ false) m w (λ f. absurd (ne (sym f))) (λ _. refl);
      results = λ r. alone (first_shown (result_value s1 r));
      started = λ h c. alone (tot (started_at h c));
      shares = λ w. alone (tot (share_in s1 w));
      shares_then = λ w. (let here : if_so (owns (mutex_n w) v) (one (is_in_state s2 (mutex_n m))) ≡ one (owns (mutex_n w) v) = ap (λ c. if_so (owns (mutex_n w) v) (one c)) in_then ∙ so_one (owns (mutex_n w) v) in omega (arith, here));
      contents = λ w ne. alone (first_shown (content_value s1 w)) ∙ mutex_cases (λ c. None ≡ or_else (if_in c (Some (plain_of v))) None) m w (λ f. absurd (ne (sym f))) (λ _. refl);
    }

    few : (w : MutexNo) → tot (λ a. told ones (content_value s2 w a)) G2 + tot (λ a. told ones (content_value s1 w a)) Others ≤ 1
    few w =
        mutex_cases (λ c. (0 + (told ones (if_in c (Some (plain_of v))) + 0)) + tot (λ a. told ones (content_value s1 w a)) Others ≤ 1) m w
        (λ f. let none : tot (λ a. told ones (content_value s1 w a)) Others ≡ 0 = subst (λ z. tot (λ a. told ones (content_value s1 z a)) Others ≡ 0) f (none_told s1 m extra (itself_named m) Others change.none) in omega (arith, none))
        (λ _. omega (arith, (once_before k sound e s at.here t x at.at at.number).contents w, tot_of n x G1 Others (λ a. told ones (content_value s1 w a)) (record { slots = λ p j a. refl; temps = λ p j a. refl; shared = λ l r. refl; lent = λ l r. refl; marks = λ l r. refl; used = λ p r. refl })))

    once_then : Once s2
    once_then = once_on change (once_before k sound e s at.here t x at.at at.number) few (λ r. refl)

    content_is : first_shown (content_value s2 m) G2 ≡ Some (plain_of v)
    content_is = ap (λ c. or_else (if_in c (Some (plain_of v))) None) (itself_named m)

    new_is : (state_of s2).mutex m ≡ shared_as (Some (plain_of v)) 1
    new_is =
        after_it change in_then ∙ ap₂ shared_as (ap (λ c. or_else c (first_shown (content_value s1 m) Others)) content_is) (let one_share : one (same_mutex m m) ≡ 1 = ap one (itself_named m) in omega (arith, one_share, no_shares k sound e s at.here t x at.at at.number))

    -- ITS NAME IS GIVEN

    flat : (h c : ℕ) → Own (λ a. made_at h c a ≡ 0)
    flat h c = record { slots = λ p j a. refl; temps = λ p j a. refl; shared = λ l r. refl; lent = λ l r. refl; marks = λ l r. refl; used = λ p r. refl }

    given_then : is_given_mutex s2 m ≡ true
    given_then =
        let c = m.count in
        let itself : one ((n == n) && nat_le c c) ≡ 1 = ap₂ (λ p q. one (p && q)) (eq_cases (λ q. q ≡ true) n n (λ _. refl) (λ off. absurd (off refl))) (le_itself c) in
        let here : made_at m.home c counts_then ≡ 1 = ap (λ h. one ((n == h) && nat_le c c)) (home k sound e s at.here t x at.at at.number) ∙ itself in
        let there : 1 ≤ tot (made_at m.home c) s2.things = (let all = tot_of n (past x (x.pc + 1) x.slots temps) G2 Others (made_at m.home c) (flat m.home c) in omega (arith, all, here)) in
        ap₂ (λ p q. not p && q) (not_zero s.rest.mutexes.made) (some_there (tot (made_at m.home c) s2.things) there)
      where
        some_there : (j : ℕ) → 1 ≤ j → some j ≡ true
        some_there zero l = absurd (omega (arith, l))
        some_there (suc j) l = refl

    given_off : (w : MutexNo) → w ≢ m → is_given_mutex s1 w ≡ is_given_mutex s2 w
    given_off w ne =
        let c = w.count in
        let same : made_at w.home c counts_here ≡ made_at w.home c counts_then =
        eq_cases (λ q. one (q && nat_le c s.rest.mutexes.made) ≡ one (q && nat_le c (s.rest.mutexes.made + 1))) n w.home
        (λ f. ap one (le_next c s.rest.mutexes.made (λ g. ne (ap₂ named_as (sym f ∙ sym (home k sound e s at.here t x at.at at.number)) g)))) (λ _. refl) in
        let all1 = tot_of n x G1 Others (made_at w.home c) (flat w.home c) in
        let all2 = tot_of n (past x (x.pc + 1) x.slots temps) G2 Others (made_at w.home c) (flat w.home c) in
        let one_here : tot (made_at w.home c) G1 ≡ tot (made_at w.home c) (counts_here ∷ []) = alone (tot (made_at w.home c)) in
        let sums : tot (made_at w.home c) s1.things ≡ tot (made_at w.home c) s2.things = omega (arith, all1, all2, one_here, same) in
        ap (λ j. not (c == 0) && some j) sums

    -- THE STEP

    steps : (c : CodeWhole) → SameState (plain_state c) (one_heap k) → StepsTo k.code c x.number (fresh.Mutex m) (state_of s2) []
    steps c same =
        let shown1 : SameState (plain_state c) (state_of s1) = then_same (plain_state c) (one_heap k) (state_of s1) same (state_before k sound e s at.here t x at.at at.number) in
        let q : CodeRunning = running_to (x.pc + 1) (plain_v.Own (plain.Mutex m) ∷ shown_last rest) (shown_last x.slots) in
        let plug : PlainValue → Place = λ z. record { pc = x.pc + 1; temps = z ∷ shown_last rest } in
        let goes : GoesOn x.number (running_at x) q (state_of s1) (state_of s2) =
        subst (λ z. GoesOn x.number (running_at x) z (state_of s1) (state_of s2)) (ap (λ l. running_to (x.pc + 1) l (shown_last x.slots)) (shown_push rest (value.Own (owned.Mutex m)))) (thread_on change (given k sound e s at.here t x at.at at.number)) in
        let off : is_some (mutex_at c.mutexes m) ≡ false = shown1.given m ∙ not_given k sound e s at.here t x at.at at.number in
        let none : mutex_at c.mutexes m ≡ None = none_given None c.mutexes m off in
        let new : Option Shared = Some (record { content = Some (plain_of v); shares = 1 }) in
        steps_with k.code c x.number (running_at x) q (state_of s1) (state_of s2) goes shown1 (fresh.Mutex m) (c.mutexes ++ record { number = m; there = new } ∷ []) []
        (acts k.code (running_at x) (do_mutex (plain_v.Own (plain_of v))) plug (ap (λ j. over_at j (shown_last x.temps)) at.code)
        (ap (λ j. run_instr j x.pc (shown_last x.temps)) at.code ∙ u.taken (λ z us. loud (x.pc + 1) us (do_mutex z))) goes.way c x.number (fresh.Mutex m) ∙ makes k.code c goes.way x.number (running_at x) plug m (plain_of v) off)
        (made_on change) (objects_on change) (more_shows c.mutexes m new (λ w. (state_of s2).mutex w) none new_is (λ w ne. shown1.mutexes w ∙ mutexes_on change w ne))
        (more_given c.mutexes m new (λ w. is_given_mutex s2 w) none given_then (λ w ne. shown1.given w ∙ given_off w ne))

    abbrev made_hand : Hand
    made_hand = push_temp (value.Own (owned.Mutex m)) (working (with_mutexes made) (with_temps rest start))

    settled : (h : Hand) → h ≡ made_hand → Gives Wanted (committed (done_where (fresh.Mutex m) (Some (go_on h))))
    settled h same = subst (λ z. Gives Wanted (committed (done_where (fresh.Mutex m) (Some (go_on z))))) (sym same) (by (unpin_all x.walk s.rest.cache))
      where
        by : (q : Option (List Copy)) → Gives Wanted (option_map (λ h2. record { hand = h2; names = Some (fresh.Mutex m) })
            (option_map (λ cs. record { work = with_cache cs made_hand.work; thread = record (go_on made_hand).thread { passed = 0; walk = []; moved_since_step = false } }) q))
        by None = tt
        by (Some cs) = λ names named. record {
          became = after x (x.pc + 1) x.slots temps;
          names = fresh.Mutex m;
          thread = ap (λ g. (let z : ThreadState = record (after x (x.pc + 1) x.slots temps) { gift = g } in z)) bare;
          named = refl;
          comes = G2;
          moves = record {
            number = refl;
            alike = λ w z.
                let f : Thing → ℕ = λ a. w (sign_of a) in
                let new : Mutex = record { number = m; content = Some v; shares = 1; queue = [] } in
                let push : Trade (things_at (mutex_things n) 0 s.rest.mutexes.there) [] (mutex_things n 0 new) (things_at (mutex_things n) 0 made.there) = trade_push (mutex_things n) s.rest.mutexes.there 0 new in
                let trade = of_mutexes n 0 s.rest made push in
                let cache = (copies_ready made_hand cs []).0.moves.alike w z in
                omega (arith, z, trade.before f, trade.after f, cache);
          };
          beside = (tt, (tt, tt));
          unstray = refl;
          once = once_then;
          steps = steps;
        }

  pub new_line : Gives Wanted (step k.options.servers i start)
  new_line = by (pop_owned o start) (popped_owned o start)
    where
      by : (q : Option (Popped Owned)) → Gives (PopsTo o start value.Own) q → Gives Wanted (committed (done_where (fresh.Mutex m) (option_map go_on (then_some q (λ p. mutex_made p.item p.hand)))))
      by None g = tt
      by (Some p) g = subst (λ h. Gives Wanted (committed (done_where (fresh.Mutex m) (option_map go_on (mutex_made p.item h))))) (sym g.hand) (of (can_make s.rest.mutexes))
        where
          of : (c : Bool) → Gives Wanted (committed (done_where (fresh.Mutex m) (option_map go_on (if c then Some (made_hand p.item g.rest g.pops) else None))))
          of true = settled p.item g.rest g.pops (made_hand p.item g.rest g.pops) refl
          of false = tt
