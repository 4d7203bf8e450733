-- A thread that waits for a home, or has a gift, stands at the instruction that asked, for what was at its place before the event, or is its operand.
use Rattle.std.proofs.Common.{◌≡◌, ℕ, ◌+◌, is_some, true, false, List, [], ◌∷◌, Option, Some, None, option_map, refl, sym, ap, subst, ◌∙◌, arith}
use Rattle.std.specs.Prelude.{slice_get}
use Rattle.std.proofs.lemmas.Bool.{eq-eqb}
use Rattle.law_results_reads.specs.Below.fr_base.declared.place.Lval.{Lval}
use Rattle.law_results_reads.specs.Below.fr_base.declared.name.MutexNo.{MutexNo}
use Rattle.law_results_reads.specs.Below.fr_base.declared.instruction.Instr.{Instr}
use Rattle.law_results_reads.specs.Below.fr_base.declared.instruction.Instr.TheVariants as instr
use Rattle.law_results_reads.specs.Below.fr_base.declared.instruction.Operand.{Operand}
use Rattle.law_results_reads.specs.Below.fr_base.declared.instruction.Operand.TheVariants as operand
use Rattle.law_results_reads.specs.Below.heap_partition.declared.value.Owned.{Owned}
use Rattle.law_results_reads.specs.Below.heap_partition.declared.value.Owned.TheVariants as owned
use Rattle.law_results_reads.specs.Below.thread_state.View.{ThreadState}
use Rattle.law_results_reads.specs.Below.thread_state.declared.phase.Phase.{Phase}
use Rattle.law_results_reads.specs.Below.thread_state.declared.phase.Phase.TheVariants as phase
use Rattle.law_results_reads.specs.Below.thread_state.declared.value.Value.{Value}
use Rattle.law_results_reads.specs.Below.thread_state.declared.value.Value.TheVariants as value
use Rattle.law_results_reads.specs.Below.server_model.declared.event.Event.{Event}
use Rattle.law_results_reads.specs.Below.server_model.Servers.{Server, Cluster, server_at}
use Rattle.law_results_reads.specs.Below.server_model.Work.{Hand, Popped, thread_in, last_of, pop, task_of, then_some}
use Rattle.law_results_reads.specs.Below.server_model.Commit.{ask_join, waiting, join}
use Rattle.law_results_reads.specs.Below.server_model.Events.{Stepped, can_step, has_phase, begin_work, committed, step}
use Rattle.law_results_reads.specs.Below.coherent_memory.Names.{tot, other}
use Rattle.law_results_reads.specs.Below.coherent_memory.Things.{things_of}
use Rattle.law_results_reads.specs.Below.coherent_memory.Follow.{Standing, Ground, threads_in, value_at}
use Rattle.law_results_reads.specs.Below.coherent_memory.Sight.{sight}
use Rattle.law_results_reads.specs.Below.coherent_memory.Paths.{joined_thread}
use Rattle.law_results_reads.specs.Below.coherent_memory.Requests.{mutex_of, is_mutex, is_task, is_value_of, is_got, early_gift, stands_wrong, gift_there, locked_mutex, dupped_mutex}
use Rattle.law_results_reads.specs.Below.coherent_memory.Coherent.{IsSound}
use Rattle.law_results_reads.specs.Below.coherent_types.ClusterTypes.{IsCoherent}
use Rattle.law_results_reads.specs.Below.law_counts_sums.Laws.{Gives, FewEvents}
use Rattle.law_results_reads.proofs.Below.law_counts_sums.Results.{weaker, both_give}
use Rattle.law_results_reads.proofs.Below.law_counts_sums.GiftsTaken.{ready_ungot, gift_fits}
use Rattle.law_counts_things.proofs.things.Goes.{Goes, IsGotten, on, waits_pair, is_over, asks_cell, asks_home, gets_cell, gets_gift, goes_pair, AsksHome, IsAsking, HasCell, Shares, thread_goes}
use Rattle.law_counts_things.proofs.things.Threads.{Ways}
use Rattle.law_counts_things.proofs.things.Handed.{Stood, InParcel, threads_go, known}
use Rattle.law_results_reads.specs.Below.migration.Packing.{packed}
use Rattle.law_results_reads.proofs.Below.law_counts_sums.QuietSteps.{GiftFits}
use Rattle.law_results_reads.proofs.Known.{Steps}
use Rattle.law_counts_asking.specs.Standing.{locked, dupped, phase_off, gift_at, gift_off, off, StandBy, EachEventAsksForWhatIsThere}
use Rattle.law_counts_asking.proofs.GiftsGot.{Bare, bare_of, left_none, steps_bare}
use Rattle.law_counts_asking.proofs.Branches.{same_number}
use Rattle.law_counts_asking.proofs.AskSteps.{same_mutex_itself}
use Rattle.law_counts_asking.proofs.AskedThere.{AsksLock, AsksDup, lock_asks, dup_asks}

-- BEFORE THE EVENT

-- a phase that stands right
phase_right : (k : Cluster) (x : Standing) (p : Phase) → stands_wrong (sight k) x p ≡ 0 → phase_off (sight k).ground (slice_get k.code x.thread.pc) x.thread p ≡ 0
phase_right k x (phase.WaitLock m) z = by (slice_get k.code x.thread.pc) z
  where
    by : (j : Option Instr) → other (is_mutex m (locked_mutex (sight k) x j)) ≡ 0 → other (is_mutex m (locked (sight k).ground x.thread.number j)) ≡ 0
    by (Some (instr.Lock w)) y = y
    by j y = absurd (cc y)
phase_right k x (phase.WaitDup m) z = by (slice_get k.code x.thread.pc) z
  where
    by : (j : Option Instr) → other (is_mutex m (dupped_mutex (sight k) x j)) ≡ 0 → other (is_mutex m (dupped (sight k).ground x.thread.number j)) ≡ 0
    by (Some (instr.Dup w)) y = y
    by j y = absurd (cc y)
phase_right k x (phase.WaitJoin u) z = z
phase_right k x p z = refl

-- a gift that fits
gift_right : (k : Cluster) (x : Standing) (g : Option Owned) → gift_there (sight k) x g ≡ 0 → gift_off (sight k).ground (slice_get k.code x.thread.pc) x.thread g ≡ 0
gift_right k x None z = refl
gift_right k x (Some v) z = by (slice_get k.code x.thread.pc) z
  where
    by : (j : Option Instr) → Rattle.law_results_reads.specs.Below.coherent_memory.Requests.gift_fits (sight k) x v j ≡ 0 → gift_at (sight k).ground j x.thread v ≡ 0
    by (Some (instr.Lock w)) y = y
    by (Some (instr.Dup w)) y = y
    by (Some (instr.Join o)) y = y
    by j y = absurd (cc y)

-- of each thread, by two things that are right of it
two_none : (f g h : Standing → ℕ) → ((x : Standing) → f x ≡ 0 → g x ≡ 0 → h x ≡ 0) → (xs : List Standing) → tot f xs ≡ 0 → tot g xs ≡ 0 → tot h xs ≡ 0
two_none f g h go [] a b = refl
two_none f g h go (x ∷ xs) a b = omega (arith, go x (omega (arith, a)) (omega (arith, b)), two_none f g h go xs (omega (arith, a)) (omega (arith, b)))

-- in a sound cluster all stand so
off_before : (k : Cluster) → IsSound k → StandBy k k
off_before k sound =
    two_none (λ x. stands_wrong (sight k) x x.thread.phase) (λ x. gift_there (sight k) x x.thread.gift) (off k)
    (λ x a b. omega (arith, phase_right k x x.thread.phase a, gift_right k x x.thread.gift b)) (threads_in (things_of k)) sound.requests.phases_stand
    sound.requests.gifts_fit

-- A THREAD AFTERWARDS

module _ (G : Ground) (code : List Instr) where
  -- what it weighs
  abbrev Off : ThreadState → ℕ
  Off t = phase_off G (slice_get code t.pc) t t.phase + gift_off G (slice_get code t.pc) t t.gift

  -- a thread in that phase, without a gift
  off_by : (t : ThreadState) (p : Phase) → t.phase ≡ p → t.gift ≡ None → phase_off G (slice_get code t.pc) t p ≡ 0 → Off t ≡ 0
  off_by t p e g z =
      let phase_is : phase_off G (slice_get code t.pc) t t.phase ≡ phase_off G (slice_get code t.pc) t p = ap (phase_off G (slice_get code t.pc) t) e in
      let gift_is : gift_off G (slice_get code t.pc) t t.gift ≡ 0 = ap (gift_off G (slice_get code t.pc) t) g in
      omega (arith, phase_is, gift_is, z)

  -- who has got a cell waits for no home
  cell_off : (i : Option Instr) (t : ThreadState) (p : Phase) → HasCell p → phase_off G i t p ≡ 0
  cell_off i t phase.Got h = refl
  cell_off i t (phase.Taken w) h = refl
  cell_off i t p h = absurd h

  -- instructions that are the same where both are there
  some_same : {a b : Instr} → Some a ≡ Some b → a ≡ b
  some_same e = cc

  -- what it asks for, of a home, is right
  abbrev Told : Instr → ThreadState → Type 0
  Told i y2 = (m : Phase) → y2.phase ≡ m → AsksHome i m → phase_off G (Some i) y2 m ≡ 0

  -- who waits for a home can't step
  asking_stops : (p : Phase) → IsAsking p → can_step p ≡ false
  asking_stops (phase.WaitLock m) a = refl
  asking_stops (phase.WaitDup m) a = refl
  asking_stops (phase.WaitJoin u) a = refl
  asking_stops p a = absurd a

  -- a step of a thread without a gift
  step_off : (y y2 : ThreadState) (i : Instr) → slice_get code y.pc ≡ Some i → Told i y2 → y.gift ≡ None → can_step y.phase ≡ true → Goes code y y2 → Off y2 ≡ 0
  step_off y y2 i at f e calm (on j at2 o pc q passed walk g same) = off_by y2 phase.Ready q (left_none y.gift y2.gift e g) refl
  step_off y y2 i at f e calm (waits_pair cs pc ds to a b at2 m q passed walk g same) = off_by y2 (phase.WaitPar a b) q (left_none y.gift y2.gift e g) refl
  step_off y y2 i at f e calm (is_over o at2 pc q passed walk slots temps g same) = off_by y2 phase.Over q (left_none y.gift y2.gift e g) refl
  step_off y y2 i at f e calm (asks_cell j w at2 h pc q g same) = off_by y2 (phase.WaitCell w) q (left_none y.gift y2.gift e g) refl
  step_off y y2 i at f e calm (asks_home j m at2 a pc q g passed walk same) =
      off_by y2 m q g (subst (λ n. phase_off G (slice_get code n) y2 m ≡ 0) (sym pc) (subst (λ o. phase_off G o y2 m ≡ 0) (sym at) (f m q (subst (λ k. AsksHome k m) (some_same (sym at2 ∙ at)) a))))
  step_off y y2 i at f e calm (gets_cell w was q pc g same) = off_by y2 y2.phase refl (g ∙ e) (cell_off (slice_get code y2.pc) y2 y2.phase q)
  step_off y y2 i at f e calm (gets_gift was q pc passed walk temps shares same) = absurd (cc (sym calm ∙ asking_stops y.phase was))
  step_off y y2 i at f e calm (goes_pair a b was q pc g passed walk same) = off_by y2 (phase.GotPar a b) q (g ∙ e) refl

  -- where that mutex is there some mutex is
  is_there : (m : MutexNo) (o : Option MutexNo) → other (is_mutex m o) ≡ 0 → other (is_some o) ≡ 0
  is_there m None q = absurd (cc q)
  is_there m (Some n) q = refl

  -- a value of the mutex is its share
  is_share : (m : MutexNo) (o : Option MutexNo) → other (is_mutex m o) ≡ 0 → other (is_value_of (owned.Mutex m) o) ≡ 0
  is_share m None q = absurd (cc q)
  is_share m (Some n) q = q

  -- what a home gives is the gift of who asked there
  given_off : (i : Option Instr) (y y2 : ThreadState) (p : Phase) (g : Option Owned) → IsAsking p → y2.temps ≡ y.temps → y2.number ≡ y.number → Shares p g → phase_off G i y p ≡ 0 → gift_off G i y2 g ≡ 0
  given_off i y y2 p None a e n f z = refl
  given_off i y y2 (phase.WaitLock m) (Some v) a e n f z = by i z
    where
      by : (j : Option Instr) → other (is_mutex m (locked G y.number j)) ≡ 0 → gift_at G j y2 v ≡ 0
      by (Some (instr.Lock w)) q = ap (λ u. other (is_some (locked G u (Some (instr.Lock w))))) n ∙ is_there m (locked G y.number (Some (instr.Lock w))) q
      by j q = absurd (cc q)
  given_off i y y2 (phase.WaitDup m) (Some v) a e n f z = by i z
    where
      its : v ≡ owned.Mutex m
      its = cc

      by : (j : Option Instr) → other (is_mutex m (dupped G y.number j)) ≡ 0 → gift_at G j y2 v ≡ 0
      by (Some (instr.Dup w)) q =
          ap (λ u. other (is_value_of v (dupped G u (Some (instr.Dup w))))) n ∙ ap (λ u. other (is_value_of u (dupped G y.number (Some (instr.Dup w))))) its ∙ is_share m (dupped G y.number (Some (instr.Dup w))) q
      by j q = absurd (cc q)
  given_off i y y2 (phase.WaitJoin u) (Some v) a e n f z = by i z
    where
      there : (o : Option ℕ) → other (is_task u o) ≡ 0 → other (is_some o) ≡ 0
      there None q = absurd (cc q)
      there (Some w) q = refl

      by : (j : Option Instr) → other (is_task u (joined_thread j y)) ≡ 0 → gift_at G j y2 v ≡ 0
      by (Some (instr.Join o)) q = ap (λ ts. other (is_some (Rattle.law_results_reads.specs.Below.coherent_memory.Paths.task_in (Rattle.law_results_reads.specs.Below.coherent_memory.Paths.popped o ts)))) e ∙ there (joined_thread (Some (instr.Join o)) y) q
      by j q = absurd (cc q)
  given_off i y y2 p (Some v) a e n f z = absurd a

  -- a thread that gets something
  gotten_off : (y y2 : ThreadState) → (is_got y.phase ≡ false → y.gift ≡ None) → Off y ≡ 0 → (g : Goes code y y2) → IsGotten g → Off y2 ≡ 0
  gotten_off y y2 bare z (gets_cell w was q pc g same) got = off_by y2 y2.phase refl (g ∙ bare (ap is_got was)) (cell_off (slice_get code y2.pc) y2 y2.phase q)
  gotten_off y y2 bare z (gets_gift was q pc passed walk temps shares same) got =
      let phase_is : phase_off G (slice_get code y2.pc) y2 y2.phase ≡ 0 = ap (phase_off G (slice_get code y2.pc) y2) q in
      let stood : phase_off G (slice_get code y.pc) y y.phase ≡ 0 = omega (arith, z) in
      let gift_is : gift_off G (slice_get code y2.pc) y2 y2.gift ≡ 0 = subst (λ n. gift_off G (slice_get code n) y2 y2.gift ≡ 0) (sym pc) (given_off (slice_get code y.pc) y y2 y.phase y2.gift was temps same.number shares stood) in
      omega (arith, phase_is, gift_is)
  gotten_off y y2 bare z (goes_pair a b was q pc g passed walk same) got = off_by y2 (phase.GotPar a b) q (g ∙ bare (ap is_got was)) refl
  gotten_off y y2 bare z g got = absurd got

  -- a join asks for the thread that is its operand
  join_off : (servers : ℕ) (o : Operand) (h : Hand) → slice_get code h.thread.pc ≡ Some (instr.Join o) → h.thread.gift ≡ None → Gives (λ (d : Stepped). Off d.hand.thread ≡ 0) (step servers (instr.Join o) h)
  join_off servers o h at e = subst (λ g. Gives (λ (d : Stepped). Off d.hand.thread ≡ 0) (committed (join o g h))) (sym e) (by o at)
    where
      by_task : (v : Value) → slice_get code h.thread.pc ≡ Some (instr.Join operand.Pop) → last_of h.thread.temps ≡ Some v → Gives (λ (d : Stepped). Off d.hand.thread ≡ 0) (committed (waiting (option_map (ask_join h) (task_of v))))
      by_task (value.Own (owned.Task u)) at q =
          let t : ThreadState = record h.thread { phase = phase.WaitJoin u } in
          let joined : phase_off G (slice_get code h.thread.pc) t (phase.WaitJoin u) ≡ 0 =
          ap (λ i. other (is_task u (joined_thread i t))) at ∙ ap (λ v. other (is_task u (Rattle.law_results_reads.specs.Below.coherent_memory.Paths.task_in v))) q ∙ ap other (eq-eqb u u refl) in
          off_by t (phase.WaitJoin u) refl e joined
      by_task value.Gone at q = tt
      by_task (value.Own owned.Nothing) at q = tt
      by_task (value.Own owned.Unit) at q = tt
      by_task (value.Own (owned.Int m)) at q = tt
      by_task (value.Own (owned.Box p)) at q = tt
      by_task (value.Own (owned.Mutex m)) at q = tt
      by_task (value.SharedSlot j) at q = tt
      by_task (value.MutSlot j) at q = tt
      by_task (value.Shared r) at q = tt
      by_task (value.Mut r) at q = tt
      by_task (value.Held m) at q = tt

      by_top : (v : Option Value) → slice_get code h.thread.pc ≡ Some (instr.Join operand.Pop) → last_of h.thread.temps ≡ v
          → Gives (λ (d : Stepped). Off d.hand.thread ≡ 0) (committed (waiting (option_map (ask_join h) (then_some (option_map (λ w. record { item = w; hand = Rattle.law_results_reads.specs.Below.server_model.Work.with_temps (Rattle.law_results_reads.specs.Below.server_model.Work.front_of h.thread.temps) h }) v) (λ (p : Popped Value). task_of p.item)))))
      by_top None at q = tt
      by_top (Some v) at q = by_task v at q

      by : (o : Operand) → slice_get code h.thread.pc ≡ Some (instr.Join o) → Gives (λ (d : Stepped). Off d.hand.thread ≡ 0) (committed (join o None h))
      by (operand.Const m) at = tt
      by operand.Unit at = tt
      by operand.Pop at = by_top (last_of h.thread.temps) at refl

-- THE EVENT

module _ (k : Cluster) (e : Event) (coherent : IsCoherent k) (few : FewEvents k) (s : Server) (here : server_at k.servers e.server ≡ Some s) where
  abbrev sound : IsSound k
  sound = coherent.sound

  abbrev h0 : ThreadState → Hand
  h0 y = record { work = begin_work s.rest; thread = y }

  -- who hasn't got anything has no gift
  bare_there : (t : ℕ) (y : ThreadState) → thread_in s.threads t ≡ Some y → is_got y.phase ≡ false → y.gift ≡ None
  bare_there t y there f = bare_of y.gift y.phase (known k sound e.server s here t y there early_gift sound.requests.gifts_got) f

  abbrev Right : Stepped → Type 0
  Right d = Off (sight k).ground k.code d.hand.thread ≡ 0

  -- a thread after its step
  step_right : (t : ℕ) (y : ThreadState) (i : Instr) → has_phase can_step (thread_in s.threads t) ≡ true → thread_in s.threads t ≡ Some y → slice_get k.code y.pc ≡ Some i → Gives Right (step k.options.servers i (h0 y))
  step_right t y i steps there code = by y.gift refl
    where
      -- where what it asks for is right
      told : (j : Instr) → slice_get k.code y.pc ≡ Some j → y.gift ≡ None → (P : Stepped → Type 0) → Gives P (step k.options.servers j (h0 y)) → ((d : Stepped) → P d → d.hand.thread.number ≡ y.number → Told (sight k).ground k.code j d.hand.thread) → Gives Right (step k.options.servers j (h0 y))
      told j at g P p f =
          both_give (λ (d : Stepped). Goes k.code y d.hand.thread) P Right (step k.options.servers j (h0 y)) (thread_goes k.code k.options.servers j y at s.rest (h0 y) refl) p
          (λ d x q. step_off (sight k).ground k.code y d.hand.thread j at (f d q (same_number k.code y d.hand.thread x)) g (subst (λ o. has_phase can_step o ≡ true) there steps) x)

      quiet : (j : Instr) → slice_get k.code y.pc ≡ Some j → y.gift ≡ None → ((m : Phase) → AsksHome j m → ⊥) → Gives Right (step k.options.servers j (h0 y))
      quiet j at g none =
          weaker (λ (d : Stepped). Goes k.code y d.hand.thread) Right (step k.options.servers j (h0 y)) (thread_goes k.code k.options.servers j y at s.rest (h0 y) refl)
          (λ d x. step_off (sight k).ground k.code y d.hand.thread j at (λ m q a. absurd (none m a)) g (subst (λ o. has_phase can_step o ≡ true) there steps) x)

      lock_told : (w : Lval) (d : Stepped) → AsksLock (sight k).ground y.number w d → d.hand.thread.number ≡ y.number → Told (sight k).ground k.code (instr.Lock w) d.hand.thread
      lock_told w d asks n (phase.WaitLock m) q a =
          ap (λ u. other (is_mutex m (mutex_of (value_at (sight k).ground u w)))) n ∙ ap (λ o. other (is_mutex m o)) (asks m q) ∙ ap other (same_mutex_itself m)
      lock_told w d asks n p q a = absurd a

      dup_told : (w : Lval) (d : Stepped) → AsksDup (sight k).ground y.number w d → d.hand.thread.number ≡ y.number → Told (sight k).ground k.code (instr.Dup w) d.hand.thread
      dup_told w d asks n (phase.WaitDup m) q a =
          ap (λ u. other (is_mutex m (mutex_of (value_at (sight k).ground u w)))) n ∙ ap (λ o. other (is_mutex m o)) (asks m q) ∙ ap other (same_mutex_itself m)
      dup_told w d asks n p q a = absurd a

      bare : (j : Instr) → i ≡ j → y.gift ≡ None → Gives Right (step k.options.servers j (h0 y))
      bare (instr.Join o) q g = join_off (sight k).ground k.code k.options.servers o (h0 y) (code ∙ ap Some q) g
      bare (instr.Lock w) q g =
          let z : Steps k e.server t s y (instr.Lock w) = record { coherent = coherent; few = few; here = here; on = steps; at = there; code = code ∙ ap Some q } in
          told (instr.Lock w) (code ∙ ap Some q) g (AsksLock (sight k).ground y.number w) (lock_asks k e.server t s y w z g) (lock_told w)
      bare (instr.Dup w) q g =
          let z : Steps k e.server t s y (instr.Dup w) = record { coherent = coherent; few = few; here = here; on = steps; at = there; code = code ∙ ap Some q } in
          told (instr.Dup w) (code ∙ ap Some q) g (AsksDup (sight k).ground y.number w) (dup_asks k e.server t s y w z g) (dup_told w)
      bare j q g = quiet j (code ∙ ap Some q) g (λ m a. a)

      by : (g : Option Owned) → y.gift ≡ g → Gives Right (step k.options.servers i (h0 y))
      by None q = bare i refl q
      by (Some v) q =
          let fits = (gift_fits k sound e.server s here t y there i code).0 in
          let z : Steps k e.server t s y i = record { coherent = coherent; few = few; here = here; on = steps; at = there; code = code } in
          weaker Bare Right (step k.options.servers i (h0 y)) (steps_bare k e.server t s y i v z q (subst (GiftFits i) q fits)) (λ d g. off_by (sight k).ground k.code d.hand.thread phase.Ready g.1 g.0 refl)

  -- whatever a thread does
  right_ways : Ways k.code k.options.servers s e.what (Stood (off k) s.rest.number) (InParcel (off k))
  right_ways = record {
    steps = λ t y i is steps there p code. step_right t y i steps there code;
    goes = λ t y y2 there p g got. gotten_off (sight k).ground k.code y y2 (bare_there t y there) p g got;
    arrives = λ t q. q;
    starts = λ t n y i u pc vs there p at d. refl;
    leaves = λ t n y there p r. left n y (bare_there t y there (ready_ungot y.phase r)) r;
  }
    where
      left : (n : ℕ) (y : ThreadState) → y.gift ≡ None → Rattle.law_results_reads.specs.Below.server_model.Events.is_ready y.phase ≡ true → InParcel (off k) n (packed (record y { moved_since_step = true }))
      left n y g r = off_by (sight k).ground k.code (packed (record y { moved_since_step = true })) phase.Ready (ready_is y.phase r) g refl
        where
          ready_is : (p : Phase) → Rattle.law_results_reads.specs.Below.server_model.Events.is_ready p ≡ true → p ≡ phase.Ready
          ready_is phase.Ready f = refl
          ready_is p f = absurd (cc f)

-- after whatever event
pub asked_there : EachEventAsksForWhatIsThere
asked_there k e coherent few = threads_go (off k) k e coherent.sound few (off_before k coherent.sound) (right_ways k e coherent few)
