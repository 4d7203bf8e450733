-- A step of one thread, from what it leaves of its server to the event: it is that plain step on the cluster's one heap.
use Rattle.std.proofs.Common.{◌≡◌, ℕ, ◌+◌, false, List, [], ◌∷◌, ◌++◌, length, Option, Some, None, option_map, refl, sym, ap, ◌∙◌, subst, arith}
use Rattle.std.specs.List.{AllByRecursion}
use Rattle.law_heap_steps.specs.Below.fr_base.declared.step.Fresh.{Fresh}
use Rattle.law_heap_steps.specs.Below.fr_base.declared.step.Fresh.TheVariants as fresh
use Rattle.law_heap_steps.specs.Below.fr_base.declared.instruction.Instr.{Instr}
use Rattle.law_heap_steps.specs.Below.fr_plain.PlainState.{SameState, plain_state}
use Rattle.law_heap_steps.specs.Below.fr_code.Machine.{CodeWhole}
use Rattle.law_heap_steps.specs.Below.heap_partition.declared.value.Owned.{Owned}
use Rattle.law_heap_steps.specs.Below.read_cache.Cache.{Copy}
use Rattle.law_heap_steps.specs.Below.migration.Packing.{unpin_all}
use Rattle.law_heap_steps.specs.Below.thread_state.View.{ThreadState}
use Rattle.law_heap_steps.specs.Below.thread_state.declared.phase.Phase.TheVariants as phase
use Rattle.law_heap_steps.specs.Below.thread_state.declared.value.Value.{Value}
use Rattle.law_heap_steps.specs.Below.server_model.declared.event.Event.{Event}
use Rattle.law_heap_steps.specs.Below.server_model.Servers.{Server, Cluster}
use Rattle.law_heap_steps.specs.Below.server_model.Work.{Hand, with_cache}
use Rattle.law_heap_steps.specs.Below.server_model.Commit.{goes_on, go_on}
use Rattle.law_heap_steps.specs.Below.server_model.Events.{Stepped, stepped, begin_work, committed, step}
use Rattle.law_heap_steps.specs.Below.server_model.Clusters.{hand_over_newer, apply}
use Rattle.law_heap_steps.specs.Below.coherent_memory.Names.{tot}
use Rattle.law_heap_steps.specs.Below.coherent_memory.Things.{Thing, gift_things}
use Rattle.law_heap_steps.specs.Below.coherent_memory.Sight.{Sight, with_things}
use Rattle.law_heap_steps.specs.Below.coherent_memory.Requests.{is_par_end}
use Rattle.law_heap_steps.specs.Below.coherent_memory.OneHeap.{one_heap, state_of}
use Rattle.law_heap_steps.specs.Below.coherent_memory.Coherent.{IsSound}
use Rattle.law_heap_steps.specs.Below.law_counts_sums.Laws.{Gives, FewEvents}
use Rattle.law_heap_steps.proofs.Below.law_counts_sums.Trades.{tot-append}
use Rattle.law_heap_steps.proofs.Below.law_counts_sums.Bags.{counts_of, rest_things}
use Rattle.law_heap_steps.proofs.Below.law_counts_sums.Results.{weaker}
use Rattle.law_heap_steps.proofs.Below.law_heap_still.events.Alike.{Once}
use Rattle.law_heap_steps.proofs.Below.law_heap_still.events.Counting.{stray}
use Rattle.law_heap_steps.specs.Below.law_heap_still.events.Shows.{sign_of}
use Rattle.law_heap_steps.proofs.Below.law_heap_still.events.Sites.{shown, Moves}
use Rattle.law_heap_steps.proofs.Below.law_heap_still.events.Readied.{Readied, copies_ready}
use Rattle.law_heap_steps.specs.turns.Turns.{StepsTo, IsPlainStep, instr_of}
use Rattle.law_heap_steps.proofs.turns.OneTurn.{Calm, after}
use Rattle.law_heap_steps.proofs.turns.Events.{AtStep, Sends, calm, events_are_plain, then_same}
use Rattle.law_heap_steps.proofs.mutexes.Beside.{giftless, IsBeside, IsLoose, loose_beside, all_so, all_of}
use Rattle.law_heap_steps.proofs.mutexes.OneThread.{next}
use Rattle.law_heap_steps.proofs.mutexes.Changed as changed

-- a gift and another thing
pub gift_loose : (t : ℕ) (c : Thing) → IsLoose c → (g : Option Owned) → AllByRecursion IsLoose (gift_things t g ++ c ∷ [])
gift_loose t c h None = (h, tt)
gift_loose t c h (Some v) = (tt, (h, tt))

module _ (k : Cluster) (sound : IsSound k) (e : Event) (i : Instr) (single : is_par_end (Some i) ≡ false) (s : Server) (t : ℕ) (x : ThreadState) (at : AtStep k e i s t x) where
  abbrev pub R : List Thing
  R = changed.R k sound e s at.here t x at.at at.number

  abbrev pub G : List Thing
  G = changed.G k sound e s at.here t x at.at at.number

  -- the things before, and afterwards with these in the place of its gift and the counts
  abbrev pub before : Sight
  before = with_things k (all_of s.rest.number x G R)

  abbrev pub then_there : ThreadState → List Thing → Sight
  then_there became G2 = with_things k (all_of s.rest.number (next x became) G2 R)

  pub quiet : Calm x.phase
  quiet = calm k e sound i s at.here t x at.at at.number at.on at.code single

  pub loose : AllByRecursion IsLoose G
  loose = gift_loose x.number (counts_of s.rest.number s.events s.rest) tt x.gift

  -- what the thread became, what comes in the place of its gift and the counts, and that the plain machine does the same
  pub record ThreadTurn (d : Stepped) : Type 0 where
    pub became : ThreadState
    pub names : Fresh
    pub thread : d.hand.thread ≡ next x became
    pub named : d.names ≡ Some names
    pub comes : List Thing
    pub moves : Moves comes (counts_of s.rest.number 0 s.rest ∷ []) s.rest d.hand.work.rest
    pub beside : AllByRecursion IsBeside comes
    pub unstray : tot (stray (then_there became comes)) comes ≡ 0
    pub once : Once (then_there became comes)
    pub steps : (c : CodeWhole) → SameState (plain_state c) (one_heap k) → StepsTo k.code c x.number names (state_of (then_there became comes)) d.hand.work.labels

  abbrev pub Next : Stepped → Cluster
  Next d = record k { servers = hand_over_newer e.server (length s.rest.outbox) (stepped s d).0 k.servers }

  pub is_step : (d : Stepped) → ThreadTurn d → Sends k e s (stepped s d) → IsPlainStep k (Next d, (stepped s d).1)
  is_step d turn sends u names who done c same =
      let own : x.number ≡ u = sym (ap (λ (v : ThreadState). v.number) turn.thread) ∙ (let r : d.hand.thread.number ≡ u = cc in r) in
      let named : turn.names ≡ names = (let r : Some turn.names ≡ Some names = sym turn.named ∙ done in cc) in
      let steps : StepsTo k.code c x.number turn.names (state_of (then_there turn.became turn.comes)) d.hand.work.labels = turn.steps c same in
      let after : SameState (one_heap (Next d)) (state_of (then_there turn.became turn.comes)) =
      changed.state_after k sound e s at.here t x at.at at.number d turn.became turn.thread turn.comes turn.moves sends (all_so IsLoose IsBeside loose_beside G loose) turn.beside turn.unstray turn.once in
      let at_end : StepsTo k.code c x.number turn.names (one_heap (Next d)) d.hand.work.labels = record {
        after = steps.after;
        steps = steps.steps;
        same = then_same (plain_state steps.after.state) (state_of (then_there turn.became turn.comes)) (one_heap (Next d)) steps.same after;
        labelled = steps.labelled;
      } in
      subst (λ v. StepsTo k.code c v names (one_heap (Next d)) d.hand.work.labels) own (subst (λ f. StepsTo k.code c x.number f (one_heap (Next d)) d.hand.work.labels) named at_end)

-- where each step of the instruction that is done is such a turn, each event that does it is that plain step
pub turn_steps : (k : Cluster) (sound : IsSound k) (e : Event) (i : Instr) (single : is_par_end (Some i) ≡ false) → FewEvents k
    → ((s : Server) (t : ℕ) (x : ThreadState) (at : AtStep k e i s t x) → Gives (λ (d : Stepped). (names : Fresh) → d.names ≡ Some names → ThreadTurn k sound e i single s t x at d) (step k.options.servers i (record { work = begin_work s.rest; thread = x })))
    → instr_of k e ≡ Some i → Gives (IsPlainStep k) (apply k e)
turn_steps k sound e i single few line =
    events_are_plain k e i sound few (λ s t x at.
    weaker (λ (d : Stepped). (names : Fresh) → d.names ≡ Some names → ThreadTurn k sound e i single s t x at d)
    (λ (d : Stepped). Sends k e s (stepped s d) → IsPlainStep k (record k { servers = hand_over_newer e.server (length s.rest.outbox) (stepped s d).0 k.servers }, (stepped s d).1)) (step k.options.servers i (record { work = begin_work s.rest; thread = x }))
    (line s t x at) (λ d turn sends u names who done. is_step k sound e i single s t x at d (turn names done) sends u names who done))

-- THE TURN BEFORE IT IS SETTLED

module _ (k : Cluster) (sound : IsSound k) (e : Event) (i : Instr) (single : is_par_end (Some i) ≡ false) (s : Server) (t : ℕ) (x : ThreadState) (at : AtStep k e i s t x) where
  abbrev pub start : Hand
  start = record { work = begin_work s.rest; thread = x }

  abbrev pub counts_then : Thing
  counts_then = counts_of s.rest.number 0 s.rest

  -- from a hand that is ready these things come to the server, and the thread goes on to the next instruction without its gift
  pub record Soon (comes : List Thing) (h : Hand) : Type 0 where
    pub ready_hand : Hand
    pub ready : Readied start ready_hand
    pub moves : Moves comes [] ready_hand.work.rest h.work.rest
    pub slots : List Value
    pub temps : List Value
    pub thread : h.thread ≡ giftless (record ready_hand.thread { slots = slots; temps = temps })
    pub loose_too : AllByRecursion IsLoose comes
    pub unstray : tot (stray (then_there k sound e i single s t x at (after x (x.pc + 1) slots temps) (counts_then ∷ comes))) comes ≡ 0
    pub once : Once (then_there k sound e i single s t x at (after x (x.pc + 1) slots temps) (counts_then ∷ comes))
    pub steps : (c : CodeWhole) → SameState (plain_state c) (one_heap k) → StepsTo k.code c x.number fresh.None (state_of (then_there k sound e i single s t x at (after x (x.pc + 1) slots temps) (counts_then ∷ comes))) h.work.labels

  pub settles : (comes : List Thing) (o : Option Hand) → Gives (Soon comes) o → Gives (λ (d : Stepped). (names : Fresh) → d.names ≡ Some names → ThreadTurn k sound e i single s t x at d) (committed (goes_on o))
  settles comes None g = tt
  settles comes (Some h) g = by (unpin_all h.thread.walk h.work.rest.cache)
    where
      by : (o : Option (List Copy)) → Gives (λ (d : Stepped). (names : Fresh) → d.names ≡ Some names → ThreadTurn k sound e i single s t x at d) (option_map (λ h2. record { hand = h2; names = Some fresh.None })
          (option_map (λ cs. record { work = with_cache cs h.work; thread = record (go_on h).thread { passed = 0; walk = []; moved_since_step = false } }) o))
      by None = tt
      by (Some cs) = λ names named. record {
        became = after x (x.pc + 1) g.slots g.temps;
        names = fresh.None;
        thread = ap (λ (y : ThreadState). record y { pc = y.pc + 1; phase = phase.Ready; passed = 0; walk = []; moved_since_step = false }) g.thread
            ∙ ap (λ (y : ThreadState). record y { pc = y.pc + 1; phase = phase.Ready; passed = 0; walk = []; moved_since_step = false; slots = g.slots; temps = g.temps; gift = None }) g.ready.thread;
        named = refl;
        comes = counts_then ∷ comes;
        moves = record {
          number = g.moves.number ∙ g.ready.moves.number;
          alike = λ w z.
              let cache : Moves [] [] h.work.rest (record h.work.rest { cache = cs }) = (copies_ready h cs []).0.moves in
              let n = s.rest.number in
              let m2 : g.ready_hand.work.rest.number ≡ n = g.ready.moves.number in
              let m3 : h.work.rest.number ≡ n = g.moves.number ∙ m2 in
              let first = g.ready.moves.alike w z in
              let second : shown w (comes ++ rest_things n 0 g.ready_hand.work.rest) ≡ shown w (rest_things n 0 h.work.rest) = subst (λ q. shown w (comes ++ rest_things q 0 g.ready_hand.work.rest) ≡ shown w (rest_things q 0 h.work.rest)) m2 (g.moves.alike w z) in
              let third : shown w (rest_things n 0 h.work.rest) ≡ shown w (rest_things n 0 (record h.work.rest { cache = cs })) = subst (λ q. shown w (rest_things q 0 h.work.rest) ≡ shown w (rest_things q 0 (record h.work.rest { cache = cs }))) m3 (cache.alike w z) in
              let f : Thing → ℕ = λ v. w (sign_of v) in
              omega (arith, first, second, third, tot-append f comes (rest_things n 0 s.rest), tot-append f comes (rest_things n 0 g.ready_hand.work.rest));
        };
        beside = (tt, all_so IsLoose IsBeside loose_beside comes g.loose_too);
        unstray = omega (arith, g.unstray);
        once = g.once;
        steps = g.steps;
      }
