-- The end of a pair, at the server and on the plain machine.
use Rattle.std.proofs.Common.{◌≡◌, ◌⊎◌, inl, inr, ℕ, zero, suc, ◌+◌, ◌≤◌, ◌==◌, true, false, List, [], ◌∷◌, length, Option, Some, None, option_map, refl, ap, ◌∙◌, subst, arith}
use Rattle.law_heap_steps.proofs.Below.fr_typing.PlaceLemmas.{eq_cases}
use Rattle.law_heap_steps.specs.Below.fr_base.declared.step.Fresh.TheVariants as fresh
use Rattle.law_heap_steps.specs.Below.fr_base.declared.instruction.Instr.{Instr}
use Rattle.law_heap_steps.specs.Below.fr_base.declared.instruction.Instr.TheVariants as instr
use Rattle.law_heap_steps.specs.Below.fr_plain.declared.value.Value.{Value as PlainValue}
use Rattle.law_heap_steps.specs.Below.fr_plain.MachineThreads.{Pair, pair_of as plain_pair}
use Rattle.law_heap_steps.specs.Below.fr_plain.PlainState.{SameState, plain_state}
use Rattle.law_heap_steps.specs.Below.fr_code.Machine.{CodeWhole}
use Rattle.law_heap_steps.specs.Below.fr_code.Steps.{Place, over_at, run_instr}
use Rattle.law_heap_steps.specs.Below.read_cache.Cache.{Copy}
use Rattle.law_heap_steps.specs.Below.migration.Packing.{unpin_all}
use Rattle.law_heap_steps.specs.Below.thread_state.View.{ThreadState}
use Rattle.law_heap_steps.specs.Below.thread_state.declared.phase.Phase.{Phase}
use Rattle.law_heap_steps.specs.Below.thread_state.declared.phase.Phase.TheVariants as phase
use Rattle.law_heap_steps.specs.Below.server_model.declared.event.Event.{Event}
use Rattle.law_heap_steps.specs.Below.server_model.Servers.{Server, Cluster}
use Rattle.law_heap_steps.specs.Below.server_model.Work.{Hand, with_cache}
use Rattle.law_heap_steps.specs.Below.server_model.Commit.{goes_on, go_on, par_end}
use Rattle.law_heap_steps.specs.Below.server_model.Events.{Stepped, stepped, begin_work, committed, step}
use Rattle.law_heap_steps.specs.Below.server_model.Clusters.{hand_over_newer, apply}
use Rattle.law_heap_steps.specs.Below.coherent_memory.Names.{one, some}
use Rattle.law_heap_steps.specs.Below.coherent_memory.OneHeap.{running_at, pair_of, two_in, one_heap, state_of}
use Rattle.law_heap_steps.specs.Below.coherent_memory.Coherent.{IsSound}
use Rattle.law_heap_steps.specs.Below.law_counts_sums.Laws.{Gives}
use Rattle.law_heap_steps.proofs.Below.law_counts_sums.Bags.{counts_of}
use Rattle.law_heap_steps.proofs.Below.law_heap_still.events.Readied.{copies_ready}
use Rattle.law_heap_steps.proofs.Below.law_heap_still.events.Sites.{Moves}
use Rattle.law_heap_steps.specs.turns.Turns.{StepsTo, IsPlainStep, instr_of, ArePlainSteps}
use Rattle.law_heap_steps.proofs.turns.OneTurn.{after}
use Rattle.law_heap_steps.proofs.turns.Instructions.{shown_last}
use Rattle.law_heap_steps.proofs.turns.Events.{AtStep, Sends, events_are_plain, then_same}
use Rattle.law_heap_steps.proofs.mutexes.Beside.{itself}
use Rattle.law_heap_steps.proofs.mutexes.OneThread.{past}
use Rattle.law_heap_steps.proofs.mutexes.Changed as changed
use Rattle.law_heap_steps.specs.threads.Tasks.{ends_pair}
use Rattle.law_heap_steps.proofs.threads.PairEnds.{G, R, s1, s2, bare, is_its, pair_taken, once_then}
use Rattle.law_heap_steps.proofs.threads.Taken.{beside}
use Rattle.law_heap_steps.proofs.threads.PlainPairs.{pair_is, by_pair, pair_steps}

same_self : (n : ℕ) → one (n == n) ≡ 1
same_self n = eq_cases (λ q. one q ≡ 1) n n (λ _. refl) (λ ne. absurd (ne refl))

positive : (i : ℕ) → 1 ≤ i → some i ≡ true
positive zero l = absurd (omega (arith, l))
positive (suc i) l = refl

module _ (k : Cluster) (sound : IsSound k) (e : Event) (s : Server) (t : ℕ) (x : ThreadState) (at : AtStep k e instr.ParEnd s t x) where
  abbrev start : Hand
  start = record { work = begin_work s.rest; thread = x }

  abbrev n : ℕ
  n = s.rest.number

  abbrev Next : Stepped → Cluster
  Next d = record k { servers = hand_over_newer e.server (length s.rest.outbox) (stepped s d).0 k.servers }

  abbrev Wanted : Stepped → Type 0
  Wanted d = Sends k e s (stepped s d) → IsPlainStep k (Next d, (stepped s d).1)

  module _ (p q : ℕ) (got : x.phase ≡ phase.GotPar p q) where
    -- on the plain machine
    steps : (c : CodeWhole) → SameState (plain_state c) (one_heap k) → StepsTo k.code c x.number fresh.None (state_of (s2 k sound e s t x at p q got)) []
    steps c same =
        let a = state_of (s1 k sound e s t x at p q got) in
        let b = state_of (s2 k sound e s t x at p q got) in
        let shown : SameState (plain_state c) a = then_same (plain_state c) (one_heap k) a same (changed.state_before k sound e s at.here t x at.at at.number) in
        let plug : PlainValue → Place = λ v. record { pc = x.pc + 1; temps = shown_last x.temps } in
        let now = ap (λ j. over_at j (shown_last x.temps)) at.code in
        let move = ap (λ j. run_instr j x.pc (shown_last x.temps)) at.code in
        let turn = pair_taken k sound e s t x at p q got in
        let in_pair : a.pair x.number ≡ Some (p, q) = ap pair_of (itself n x (G k sound e s t x at p q got) (R k sound e s t x at p q got) (beside k sound e instr.ParEnd s t x at (x.pc + 1) x.slots x.temps)) ∙ ap two_in got in
        by_pair p q (plain_pair c.pairs x.number) (pair_is k.code c x.number (is_its k sound e s t x at p q got) (running_at x) plug a b turn shown now move p q in_pair) (StepsTo k.code c x.number fresh.None b []) (λ P there f g.
        pair_steps k.code c x.number (is_its k sound e s t x at p q got) (running_at x) plug a b turn shown now move P there (ap (λ u. some (one (p == u) + one (q == u))) f ∙ first_its) (ap (λ u. some (one (p == u) + one (q == u))) g ∙ second_its) (λ u m. only P f g u m))
      where
        first_its : some (one (p == p) + one (q == p)) ≡ true
        first_its = by (one (p == p)) (one (q == p)) (same_self p)
          where
            by : (i j : ℕ) → i ≡ 1 → some (i + j) ≡ true
            by i j f = positive (i + j) (omega (arith, f))

        second_its : some (one (p == q) + one (q == q)) ≡ true
        second_its = by (one (p == q)) (one (q == q)) (same_self q)
          where
            by : (i j : ℕ) → j ≡ 1 → some (i + j) ≡ true
            by i j f = positive (i + j) (omega (arith, f))

        only : (P : Pair) → P.first ≡ p → P.second ≡ q → (u : ℕ) → some (one (p == u) + one (q == u)) ≡ true → (P.first ≡ u) ⊎ (P.second ≡ u)
        only P f g u m =
            eq_cases (λ b. some (one b + one (q == u)) ≡ true → (P.first ≡ u) ⊎ (P.second ≡ u)) p u (λ h _. inl (f ∙ h))
            (λ _ m2. eq_cases (λ b. some (0 + one b) ≡ true → (P.first ≡ u) ⊎ (P.second ≡ u)) q u (λ h _. inr (g ∙ h)) (λ _ m3. absurd (cc m3)) m2) m

    settled : Gives Wanted (committed (goes_on (Some start)))
    settled = by (unpin_all x.walk s.rest.cache)
      where
        by : (o : Option (List Copy)) → Gives Wanted (option_map (λ h2. record { hand = h2; names = Some fresh.None })
            (option_map (λ cs. record { work = with_cache cs start.work; thread = record (go_on start).thread { passed = 0; walk = []; moved_since_step = false } }) o))
        by None = tt
        by (Some cs) = λ sends u names who done c same.
            let d : Stepped = record { hand = record { work = with_cache cs start.work; thread = record (go_on start).thread { passed = 0; walk = []; moved_since_step = false } }; names = Some fresh.None } in
            let thread : d.hand.thread ≡ past x (x.pc + 1) x.slots x.temps = ap (λ g. (let z : ThreadState = record (after x (x.pc + 1) x.slots x.temps) { gift = g } in z)) (bare k sound e s t x at p q got) in
            let cache = (copies_ready start cs []).0.moves in
            let moves : Moves (counts_of n 0 s.rest ∷ []) (counts_of n 0 s.rest ∷ []) s.rest d.hand.work.rest = record { number = refl; alike = λ w z. (let same_rest = cache.alike w z in omega (arith, same_rest)) } in
            let after_it : SameState (one_heap (Next d)) (state_of (s2 k sound e s t x at p q got)) =
            changed.state_after k sound e s at.here t x at.at at.number d (after x (x.pc + 1) x.slots x.temps) thread (counts_of n 0 s.rest ∷ []) moves sends (beside k sound e instr.ParEnd s t x at (x.pc + 1) x.slots x.temps) (tt, tt) refl (once_then k sound e s t x at p q got) in
            let own : x.number ≡ u = cc in
            let named : fresh.None ≡ names = (let r : Some fresh.None ≡ Some names = done in cc) in
            let went = steps c same in
            let at_end : StepsTo k.code c x.number fresh.None (one_heap (Next d)) [] = record {
              after = went.after;
              steps = went.steps;
              same = then_same (plain_state went.after.state) (state_of (s2 k sound e s t x at p q got)) (one_heap (Next d)) went.same after_it;
              labelled = went.labelled;
            } in
            subst (λ v. StepsTo k.code c v names (one_heap (Next d)) []) own (subst (λ f. StepsTo k.code c x.number f (one_heap (Next d)) []) named at_end)

  pub pair_line : Gives Wanted (step k.options.servers instr.ParEnd start)
  pair_line = by x.phase refl
    where
      by : (f : Phase) → x.phase ≡ f → Gives Wanted (committed (goes_on (par_end f start)))
      by (phase.GotPar p q) got = settled p q got
      by _ got = tt

pub pair_ends : ArePlainSteps IsSound ends_pair
pair_ends k e i q it sound few = by i q it
  where
    by : (i : Instr) → instr_of k e ≡ Some i → ends_pair i ≡ true → Gives (IsPlainStep k) (apply k e)
    by instr.ParEnd q it = events_are_plain k e instr.ParEnd sound few (λ s t x at. pair_line k sound e s t x at) q
    by _ q it = absurd (cc it)
