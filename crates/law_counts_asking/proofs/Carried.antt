-- What will answer a thread carries what its phase names, after each event of a sound cluster.
use Rattle.std.proofs.Common.{◌≡◌, ℕ, ◌+◌, ◌*◌, ◌≤◌, ◌==◌, ◌&&◌, Bool, true, false, if◌then◌else◌, List, [], ◌∷◌, Option, Some, None, option_map, refl, sym, ap, subst, ◌∙◌, arith}
use Rattle.std.specs.Prelude.{slice_get}
use Rattle.std.proofs.lemmas.Bool.{eq-eqb}
use Rattle.law_results_reads.proofs.Below.fr_typing.PlaceLemmas.{eq_cases}
use Rattle.law_results_reads.specs.Below.fr_base.declared.instruction.Instr.{Instr}
use Rattle.law_results_reads.specs.Below.fr_base.declared.name.MutexNo.{MutexNo}
use Rattle.law_results_reads.specs.Below.join_home.Tasks.{TaskState, asked}
use Rattle.law_results_reads.specs.Below.migration.Packing.{packed, unpin_all, used_words}
use Rattle.law_results_reads.specs.Below.read_cache.Cache.{Copy, can_evict}
use Rattle.law_results_reads.specs.Below.thread_state.View.{ThreadState}
use Rattle.law_results_reads.specs.Below.thread_state.declared.phase.Phase.{Phase}
use Rattle.law_results_reads.specs.Below.thread_state.declared.phase.Phase.TheVariants as phase
use Rattle.law_results_reads.specs.Below.server_msgs.declared.message.Message.{Message}
use Rattle.law_results_reads.specs.Below.server_msgs.declared.message.Message.TheVariants as message
use Rattle.law_results_reads.specs.Below.journal.View.{EntryView}
use Rattle.law_results_reads.specs.Below.server_model.declared.event.Event.{Event}
use Rattle.law_results_reads.specs.Below.server_model.declared.event.What.{What}
use Rattle.law_results_reads.specs.Below.server_model.declared.event.What.TheVariants.{Step, Deliver, Evict, Migrate}
use Rattle.law_results_reads.specs.Below.server_model.Servers.{Server, Cluster, server_at}
use Rattle.law_results_reads.specs.Below.server_model.Work.{Work, Hand, thread_in, then_some, without_thread, beside_threads}
use Rattle.law_results_reads.specs.Below.server_model.Moving.{migrate, depart}
use Rattle.law_results_reads.specs.Below.server_model.Events.{Stepped, can_step, has_phase, enabled, begin_work, begin_at, left_by, received, deliver_message, evict_copy, step, step_in, stepped, does}
use Rattle.law_results_reads.specs.Below.server_model.Clusters.{done_at, act_at, apply}
use Rattle.law_results_reads.specs.Below.coherent_memory.Names.{tot, one, other, if_so}
use Rattle.law_results_reads.specs.Below.coherent_memory.Things.{Thing, sent, queued, noted, stands, server_things, servers_things, things_of}
use Rattle.law_results_reads.specs.Below.coherent_memory.Follow.{Standing, threads_in, thread_at}
use Rattle.law_results_reads.specs.Below.coherent_memory.Sight.{sight}
use Rattle.law_results_reads.specs.Below.coherent_memory.Weights.{is_thread}
use Rattle.law_results_reads.specs.Below.coherent_memory.Requests.{waits, halves_to, halves_needed, is_cell, is_lock, is_dup, is_join, in_phase, phase_fits, message_carries, note_carries, carries}
use Rattle.law_results_reads.specs.Below.coherent_memory.Coherent.{IsSound, Holds, carry_what_is_asked}
use Rattle.law_results_reads.specs.Below.law_counts_sums.Laws.{Gives, FewEvents, NumbersDiffer, OneAnswer}
use Rattle.law_results_reads.proofs.Below.law_counts_sums.Results.{then_gives, over_gives, test_gives, both_give, weaker}
use Rattle.law_results_reads.proofs.Below.law_counts_sums.Known.{all_at}
use Rattle.law_results_reads.proofs.Below.law_counts_sums.Bags.{thread_number}
use Rattle.law_results_reads.proofs.Below.law_counts_sums.ThreadThere.{thread_there}
use Rattle.law_results_reads.proofs.Below.law_counts_sums.StandsHere.{found_none}
use Rattle.law_results_reads.proofs.Below.law_counts_sums.Events.{others_of, tot-server}
use Rattle.law_results_reads.proofs.Below.law_counts_sums.Applied.{handed_on, handed_part}
use Rattle.law_results_reads.proofs.Below.law_counts_sums.Sending.{each_event_sends}
use Rattle.law_results_reads.proofs.Below.law_counts_sums.TurnEvents.{asking_applied}
use Rattle.law_counts_things.specs.things.Laws.{EachEventKeeps}
use Rattle.law_counts_things.proofs.things.Goes.{Goes, IsGotten, gets_cell, gets_gift, goes_pair, HasCell, thread_goes}
use Rattle.law_counts_things.proofs.things.Threads.{Ways, remove_all}
use Rattle.law_counts_things.proofs.things.Handed.{Stood, InParcel, threads_go}
use Rattle.law_counts_asking.proofs.Asking.{Phases, passes, unfit, message_unfit, note_unfit, thing_unfit, MessageFits, RestFits, sent_fits, turned, thing_still}
use Rattle.law_counts_asking.proofs.AskSteps.{same_mutex_itself, step_asks}
use Rattle.law_counts_asking.proofs.AskDeliveries.{SiteFits, message_asks}
use Rattle.law_counts_asking.proofs.AskServers.{rest_from, rest_to}
use Rattle.law_counts_asking.proofs.PairsOver.{total_le, all_nothing}
use Rattle.law_counts_asking.proofs.Branches.{same_number, found_number}

-- WHAT IS KNOWN OF PHASES

abbrev phase_in : Option Standing → Option Phase
phase_in None = None
phase_in (Some x) = Some x.thread.phase

-- the phase that each thread of a cluster has
abbrev pub phases : Cluster → Phases
phases k t = phase_in (thread_at (threads_in (things_of k)) t)

abbrev waits_pair_there : Phase → Bool
waits_pair_there (phase.WaitPar a b) = true
waits_pair_there p = false

-- where a phase waits, it is as known
abbrev pub agree : Phase → Option Phase → Bool
agree (phase.WaitCell w) o = passes (is_cell w) o
agree (phase.WaitLock m) o = passes (is_lock m) o
agree (phase.WaitDup m) o = passes (is_dup m) o
agree (phase.WaitJoin u) o = passes (is_join u) o
agree (phase.WaitPar a b) o = passes waits_pair_there o
agree p o = true

-- a phase agrees with itself
self_agrees : (p : Phase) → agree p (Some p) ≡ true
self_agrees (phase.WaitCell w) = eq-eqb w w refl
self_agrees (phase.WaitLock m) = same_mutex_itself m
self_agrees (phase.WaitDup m) = same_mutex_itself m
self_agrees (phase.WaitJoin u) = eq-eqb u u refl
self_agrees (phase.WaitPar a b) = refl
self_agrees phase.Ready = refl
self_agrees phase.Got = refl
self_agrees (phase.GotPar a b) = refl
self_agrees (phase.Taken w) = refl
self_agrees phase.Over = refl

-- who agrees with a phase that doesn't wait agrees with any
calm_agrees : (p now : Phase) (o : Option Phase) → can_step now ≡ true → agree p (Some now) ≡ true → agree p o ≡ true
calm_agrees (phase.WaitCell w) (phase.WaitCell v) o e h = absurd (cc e)
calm_agrees (phase.WaitCell w) now o e h = absurd (cc h)
calm_agrees (phase.WaitLock m) (phase.WaitLock n) o e h = absurd (cc e)
calm_agrees (phase.WaitLock m) now o e h = absurd (cc h)
calm_agrees (phase.WaitDup m) (phase.WaitDup n) o e h = absurd (cc e)
calm_agrees (phase.WaitDup m) now o e h = absurd (cc h)
calm_agrees (phase.WaitJoin u) (phase.WaitJoin t) o e h = absurd (cc e)
calm_agrees (phase.WaitJoin u) now o e h = absurd (cc h)
calm_agrees (phase.WaitPar a b) (phase.WaitPar c d) o e h = absurd (cc e)
calm_agrees (phase.WaitPar a b) now o e h = absurd (cc h)
calm_agrees p now o e h = refl

-- a test that tells of who waits and agrees
abbrev Tells : (Phase → Bool) → Type 0
Tells f = (p q : Phase) → f p ≡ true → waits q ≡ true → agree q (Some p) ≡ true → f q ≡ true

-- the test for a cell is the same for phases that agree
cell_tells : (w : ℕ) → Tells (is_cell w)
cell_tells w (phase.WaitCell v) (phase.WaitCell u) e c h =
    let a = Rattle.law_results_reads.proofs.Below.coherent_memory.Names.same_number v w e in
    let b = Rattle.law_results_reads.proofs.Below.coherent_memory.Names.same_number v u h in
    eq-eqb u w (sym b ∙ a)
cell_tells w (phase.WaitCell v) (phase.WaitLock m) e c h = absurd (cc h)
cell_tells w (phase.WaitCell v) (phase.WaitDup m) e c h = absurd (cc h)
cell_tells w (phase.WaitCell v) (phase.WaitJoin u) e c h = absurd (cc h)
cell_tells w (phase.WaitCell v) (phase.WaitPar a b) e c h = absurd (cc h)
cell_tells w (phase.WaitCell v) q e c h = absurd (cc c)
cell_tells w p q e c h = absurd (cc e)

-- so is that for a lock
lock_tells : (m : MutexNo) → Tells (is_lock m)
lock_tells m (phase.WaitLock n) (phase.WaitLock o) e c h =
    let a = Rattle.law_results_reads.proofs.Below.coherent_memory.Names.same_mutexes m n e in
    let b = Rattle.law_results_reads.proofs.Below.coherent_memory.Names.same_mutexes o n h in
    subst (λ x. Rattle.law_results_reads.specs.Below.coherent_memory.Names.same_mutex m x ≡ true) (a ∙ sym b) (same_mutex_itself m)
lock_tells m (phase.WaitLock n) (phase.WaitCell w) e c h = absurd (cc h)
lock_tells m (phase.WaitLock n) (phase.WaitDup o) e c h = absurd (cc h)
lock_tells m (phase.WaitLock n) (phase.WaitJoin u) e c h = absurd (cc h)
lock_tells m (phase.WaitLock n) (phase.WaitPar a b) e c h = absurd (cc h)
lock_tells m (phase.WaitLock n) q e c h = absurd (cc c)
lock_tells m p q e c h = absurd (cc e)

-- that for a share
dup_tells : (m : MutexNo) → Tells (is_dup m)
dup_tells m (phase.WaitDup n) (phase.WaitDup o) e c h =
    let a = Rattle.law_results_reads.proofs.Below.coherent_memory.Names.same_mutexes m n e in
    let b = Rattle.law_results_reads.proofs.Below.coherent_memory.Names.same_mutexes o n h in
    subst (λ x. Rattle.law_results_reads.specs.Below.coherent_memory.Names.same_mutex m x ≡ true) (a ∙ sym b) (same_mutex_itself m)
dup_tells m (phase.WaitDup n) (phase.WaitCell w) e c h = absurd (cc h)
dup_tells m (phase.WaitDup n) (phase.WaitLock o) e c h = absurd (cc h)
dup_tells m (phase.WaitDup n) (phase.WaitJoin u) e c h = absurd (cc h)
dup_tells m (phase.WaitDup n) (phase.WaitPar a b) e c h = absurd (cc h)
dup_tells m (phase.WaitDup n) q e c h = absurd (cc c)
dup_tells m p q e c h = absurd (cc e)

-- that for a result
join_tells : (t : ℕ) → Tells (is_join t)
join_tells t (phase.WaitJoin u) (phase.WaitJoin v) e c h =
    let a = Rattle.law_results_reads.proofs.Below.coherent_memory.Names.same_number t u e in
    let b = Rattle.law_results_reads.proofs.Below.coherent_memory.Names.same_number v u h in
    eq-eqb t v (a ∙ sym b)
join_tells t (phase.WaitJoin u) (phase.WaitCell w) e c h = absurd (cc h)
join_tells t (phase.WaitJoin u) (phase.WaitLock m) e c h = absurd (cc h)
join_tells t (phase.WaitJoin u) (phase.WaitDup m) e c h = absurd (cc h)
join_tells t (phase.WaitJoin u) (phase.WaitPar a b) e c h = absurd (cc h)
join_tells t (phase.WaitJoin u) q e c h = absurd (cc c)
join_tells t p q e c h = absurd (cc e)

-- THREADS BY THEIR PHASES

-- the threads of a number in such a phase
abbrev as_phase : (Phase → Bool) → ℕ → Thing → ℕ
as_phase f t (stands r p x) = one (x.number == t && f x.phase)
as_phase f t x = 0

module _ (f : Phase → Bool) (t : ℕ) where
  -- both are no more than the first
  one_of : (b c : Bool) → one (b && c) ≤ one b
  one_of true true = omega arith
  one_of true false = omega arith
  one_of false c = omega arith

  -- a thread in a phase is a thread
  is_one : (x : Thing) → as_phase f t x ≤ is_thread t x
  is_one (stands r p x) = one_of (x.number == t) (f x.phase)
  is_one _ = omega arith

  -- where one such stands it is the one that is found
  found_phase : (b : List Thing) → tot (is_thread t) b ≤ 1 → 1 ≤ tot (as_phase f t) b → passes f (phase_in (thread_at (threads_in b) t)) ≡ true
  found_phase [] few l = absurd (omega (arith, l))
  found_phase (stands r p x ∷ b) few l =
      eq_cases (λ c. one c + tot (is_thread t) b ≤ 1 → 1 ≤ one (c && f x.phase) + tot (as_phase f t) b → passes f (phase_in (if c then Some (record { server = r; packed = p; thread = x }) else thread_at (threads_in b) t)) ≡ true) x.number t
      (λ e g h. at_first (f x.phase) (omega (arith, g, h, total_le (as_phase f t) (is_thread t) is_one b))) (λ ne g h. found_phase b (omega (arith, g)) (omega (arith, h))) few l
    where
      at_first : (c : Bool) → 1 ≤ one c → c ≡ true
      at_first true h = refl
      at_first false h = absurd (omega (arith, h))
  found_phase (_ ∷ b) few l = found_phase b (omega (arith, few)) (omega (arith, l))

-- the test of a thread that is found
same_test : (f : Phase → Bool) (o : Option Standing) → passes f (phase_in o) ≡ in_phase f o
same_test f None = refl
same_test f (Some x) = refl

-- BEFORE THE EVENT

module _ (k : Cluster) where
  abbrev K : List Thing
  K = things_of k

  -- before the event the test of a thread is that of the cluster
  test_before : (t : ℕ) (f : Phase → Bool) → unfit (phases k) t f ≡ phase_fits (sight k) t f
  test_before t f = ap other (same_test f (thread_at (threads_in K) t))

  -- so a message fits as it carries what was asked
  message_before : (m : Message) → message_unfit (phases k) m ≡ message_carries (sight k) m
  message_before (message.Fetch w o r t) = test_before t (is_cell w)
  message_before (message.Fetched w c t) = test_before t (is_cell w)
  message_before (message.Move w o r t) = test_before t (is_cell w)
  message_before (message.Moved w c t) = test_before t (is_cell w)
  message_before (message.Lock m r t) = test_before t (is_lock m)
  message_before (message.Granted m v t) = test_before t (is_lock m)
  message_before (message.Dup m r t) = test_before t (is_dup m)
  message_before (message.Dupped m t) = test_before t (is_dup m)
  message_before (message.Join u r t) = test_before t (is_join u)
  message_before (message.Joined u v t) = test_before t (is_join u)
  message_before (message.Drop w o) = refl
  message_before (message.Unlock m v) = refl
  message_before (message.Release x) = refl
  message_before (message.Start t) = refl
  message_before (message.Finished u v) = refl
  message_before (message.Migrate t) = refl

  -- so does a note
  note_before : (u : ℕ) (z : TaskState) → note_unfit (phases k) u z ≡ note_carries (sight k) u z
  note_before u (asked r t) = test_before t (is_join u)
  note_before u _ = refl

  -- and whatever stands
  thing_before : (x : Thing) → thing_unfit (phases k) x ≡ carries (sight k) x
  thing_before (sent r m) = message_before m
  thing_before (queued m r t) = test_before t (is_lock m)
  thing_before (noted r x) = note_before x.thread x.state
  thing_before _ = refl

  -- in a sound cluster all fits
  fit_before : IsSound k → tot (thing_unfit (phases k)) K ≡ 0
  fit_before sound = let carried : tot (carries (sight k)) K ≡ 0 = sound.requests.carry_what_is_asked in omega (arith, carried, total_le (thing_unfit (phases k)) (carries (sight k)) (λ x. omega (arith, thing_before x)) K)

  -- each thread has its phase
  phase_before : IsSound k → (s : ℕ) (p : Bool) (x : ThreadState) → ((g : Thing → ℕ) → g (stands s p x) ≤ tot g K) → (q : Phase) → x.phase ≡ q → agree q (phases k x.number) ≡ true
  phase_before sound s p x has q e = by q e
    where
      stands_so : (f : Phase → Bool) → f x.phase ≡ true → passes f (phases k x.number) ≡ true
      stands_so f h =
          let mine : as_phase f x.number (stands s p x) ≡ 1 = ap (λ b. one (b && f x.phase)) (eq-eqb x.number x.number refl) ∙ ap one h in
          found_phase f x.number K (sound.names.numbers_differ x.number) (omega (arith, mine, has (as_phase f x.number)))

      by : (q : Phase) → x.phase ≡ q → agree q (phases k x.number) ≡ true
      by (phase.WaitCell w) e = stands_so (is_cell w) (ap (is_cell w) e ∙ eq-eqb w w refl)
      by (phase.WaitLock m) e = stands_so (is_lock m) (ap (is_lock m) e ∙ same_mutex_itself m)
      by (phase.WaitDup m) e = stands_so (is_dup m) (ap (is_dup m) e ∙ same_mutex_itself m)
      by (phase.WaitJoin u) e = stands_so (is_join u) (ap (is_join u) e ∙ eq-eqb u u refl)
      by (phase.WaitPar a b) e = stands_so waits_pair_there (ap waits_pair_there e)
      by phase.Ready e = refl
      by phase.Got e = refl
      by (phase.GotPar a b) e = refl
      by (phase.Taken w) e = refl
      by phase.Over e = refl

-- WHAT A STEP MAKES KNOWN

abbrev result_phase : Option Stepped → Phase
result_phase None = phase.Ready
result_phase (Some d) = d.hand.thread.phase

abbrev at_instr : Cluster → Server → ThreadState → Option Instr → Phases
at_instr k s y None = phases k
at_instr k s y (Some i) = turned (phases k) y.number (result_phase (step k.options.servers i (record { work = begin_work s.rest; thread = y })))

abbrev at_stepped : Cluster → Server → Option ThreadState → Phases
at_stepped k s None = phases k
at_stepped k s (Some y) = at_instr k s y (slice_get k.code y.pc)

-- what is known after an event of that server
abbrev known_by : Cluster → Server → What → Phases
known_by k s (Step t) = at_stepped k s (thread_in s.threads t)
known_by k s e = phases k

abbrev known_if : Bool → Cluster → Server → What → Phases
known_if true k s e = known_by k s e
known_if false k s e = phases k

abbrev known_at : Cluster → What → Option Server → Phases
known_at k e None = phases k
known_at k e (Some s) = known_if (enabled k.options s e) k s e

abbrev known_after : Cluster → Event → Phases
known_after k e = known_at k e.what (server_at k.servers e.server)

-- what is told of the phase of a step is told of the phase that is known
has_result : (P : Phase → Hand → Type 0) (o : Option Stepped) → Gives (λ (d : Stepped). P d.hand.thread.phase d.hand) o → Gives (λ (d : Stepped). P (result_phase o) d.hand) o
has_result P None g = tt
has_result P (Some d) g = g

-- the phase that is known of a step is that of its thread
result_is : (o : Option Stepped) → Gives (λ (d : Stepped). d.hand.thread.phase ≡ result_phase o) o
result_is None = tt
result_is (Some d) = refl

module _ (k : Cluster) (sound : IsSound k) (n : ℕ) (s : Server) (here : server_at k.servers n ≡ Some s) where
  -- the thread that steps has its phase, in which it can
  has_phase_there : (t : ℕ) (y : ThreadState) → thread_in s.threads t ≡ Some y → phases k y.number ≡ Some y.phase
  has_phase_there t y there = ap phase_in (subst (λ u. thread_at (threads_in (things_of k)) u ≡ Some (record { server = s.rest.number; packed = false; thread = y })) (sym (thread_number s.threads t y there)) (thread_there k sound n s here t y there))

  -- who steps could step
  steps_there : (t : ℕ) (y : ThreadState) → thread_in s.threads t ≡ Some y → has_phase can_step (thread_in s.threads t) ≡ true → can_step y.phase ≡ true
  steps_there t y there steps = subst (λ o. has_phase can_step o ≡ true) there steps

  -- what was known is known, but of who steps
  known_still : (e : What) → enabled k.options s e ≡ true → (P : Phases → Type 0)
      → ((y : ThreadState) (p : Phase) → phases k y.number ≡ Some y.phase → can_step y.phase ≡ true → P (turned (phases k) y.number p)) → P (phases k) → P (known_by k s e)
  known_still (Step t) steps P turn stay = by (thread_in s.threads t) refl
    where
      by : (o : Option ThreadState) → thread_in s.threads t ≡ o → P (at_stepped k s o)
      by None e = stay
      by (Some y) e = at (slice_get k.code y.pc)
        where
          at : (i : Option Instr) → P (at_instr k s y i)
          at None = stay
          at (Some i) = turn y _ (has_phase_there t y e) (steps_there t y e steps)
  known_still (Deliver i) on_it P turn stay = stay
  known_still (Evict w) on_it P turn stay = stay
  known_still (Migrate t target) on_it P turn stay = stay

  -- what fits by the phases before fits by those that are known
  thing_known : (e : What) → enabled k.options s e ≡ true → (x : Thing) → thing_unfit (phases k) x ≡ 0 → thing_unfit (known_by k s e) x ≡ 0
  thing_known e on_it x z = known_still e on_it (λ a. thing_unfit a x ≡ 0) (λ y p has calm. thing_still (phases k) y.number y.phase has calm p x z) z

  -- the same of a list
  all_known : (e : What) → enabled k.options s e ≡ true → (b : List Thing) → tot (thing_unfit (phases k)) b ≡ 0 → tot (thing_unfit (known_by k s e)) b ≡ 0
  all_known e on_it [] z = refl
  all_known e on_it (x ∷ b) z = omega (arith, thing_known e on_it x (omega (arith, z)), all_known e on_it b (omega (arith, z)))

  -- a phase that agrees still does where a thread that could step has another one
  agree_turned : (q : Phase) (u : ℕ) (a : Phases) (m : ℕ) (now p : Phase) → a m ≡ Some now → can_step now ≡ true → agree q (a u) ≡ true → agree q (turned a m p u) ≡ true
  agree_turned q u a m now p has calm z = eq_cases (λ b. agree q (if b then Some p else a u) ≡ true) u m (λ e. calm_agrees q now (Some p) calm (subst (λ o. agree q o ≡ true) (ap a e ∙ has) z)) (λ ne. z)

  -- the same of what is known of an event
  agree_known : (e : What) → enabled k.options s e ≡ true → (q : Phase) (u : ℕ) → agree q (phases k u) ≡ true → agree q (known_by k s e u) ≡ true
  agree_known e on_it q u z = known_still e on_it (λ a. agree q (a u) ≡ true) (λ y p has calm. agree_turned q u (phases k) y.number y.phase p has calm z) z

  -- WHAT ASKS AND ANSWERS

  abbrev Then : Phases → Server × EntryView → Type 0
  Then a r = RestFits a r.0.rest

  -- a step
  stepping : RestFits (phases k) s.rest → (t : ℕ) → has_phase can_step (thread_in s.threads t) ≡ true → Gives (Then (known_by k s (Step t))) (does k.code k.options s (Step t))
  stepping fits t steps = by (thread_in s.threads t) refl
    where
      at : (y : ThreadState) → thread_in s.threads t ≡ Some y → (i : Option Instr) → slice_get k.code y.pc ≡ i
          → Gives (Then (at_instr k s y i)) (option_map (stepped s) (then_some i (λ x. step k.options.servers x (record { work = begin_work s.rest; thread = y }))))
      at y q None e = tt
      at y q (Some i) e =
          let h : Hand = record { work = begin_work s.rest; thread = y } in
          over_gives (λ (d : Stepped). RestFits (turned (phases k) y.number (result_phase (step k.options.servers i h))) d.hand.work.rest) (Then (at_instr k s y (Some i))) (step k.options.servers i h) (stepped s)
          (has_result (λ p h2. RestFits (turned (phases k) y.number p) h2.work.rest) (step k.options.servers i h)
          (step_asks (phases k) y y.phase (has_phase_there t y q) (steps_there t y q steps) k.options.servers i h refl fits)) (λ d g. g)

      by : (o : Option ThreadState) → thread_in s.threads t ≡ o → Gives (Then (at_stepped k s o)) (option_map (stepped s) (then_some (option_map (λ y. record { work = begin_work s.rest; thread = y }) o) (step_in k.code k.options.servers)))
      by None q = tt
      by (Some y) q = at y q (slice_get k.code y.pc) refl

  -- a delivery
  delivering : RestFits (phases k) s.rest → (i : ℕ) → Gives (Then (phases k)) (does k.code k.options s (Deliver i))
  delivering fits i = by (slice_get s.rest.inbox i) refl
    where
      by : (m : Option Message) → slice_get s.rest.inbox i ≡ m → Gives (Then (phases k)) (option_map (left_by s.events None None) (then_some m (λ x. deliver_message k.code x (received i s))))
      by None q = tt
      by (Some m) q =
          over_gives (SiteFits (phases k)) (Then (phases k)) (deliver_message k.code m (received i s)) (left_by s.events None None)
          (message_asks (phases k) k.code m (received i s) (all_at (MessageFits (phases k)) s.rest.inbox i m fits.waiting q)
          (record { queues = fits.queues; notes = fits.notes; waiting = remove_all (MessageFits (phases k)) s.rest.inbox i fits.waiting; leaving = fits.leaving })) (λ x u. u)

  -- an eviction
  evicting : RestFits (phases k) s.rest → (w : ℕ) → Gives (Then (phases k)) (does k.code k.options s (Evict w))
  evicting fits w =
      over_gives (SiteFits (phases k)) (Then (phases k)) (beside_threads (evict_copy w) (begin_at s)) (left_by s.events None None)
      (over_gives (λ (x : Work). RestFits (phases k) x.rest) (SiteFits (phases k)) (evict_copy w (begin_work s.rest)) _ (test_gives (λ (x : Work). RestFits (phases k) x.rest) (can_evict s.rest.cache w) _ (λ q. record { queues = fits.queues; notes = fits.notes; waiting = fits.waiting; leaving = fits.leaving })) (λ x u. u)) (λ x u. u)

  -- a migration
  leaving : RestFits (phases k) s.rest → (t target : ℕ) → Gives (Then (phases k)) (does k.code k.options s (Migrate t target))
  leaving fits t target =
      over_gives (SiteFits (phases k)) (Then (phases k)) (migrate t target (begin_at s)) (left_by s.events (Some t) None)
      (then_gives (SiteFits (phases k)) (thread_in s.threads t) _ (λ y q. by y (unpin_all (used_words y) s.rest.cache))) (λ x u. u)
    where
      by : (y : ThreadState) (l : Option (List Copy))
          → Gives (SiteFits (phases k)) (option_map (λ p. record { work = depart target (begin_work s.rest) p; threads = without_thread s.threads t }) (option_map (λ left. (packed (record y { moved_since_step = true }), left)) l))
      by y None = tt
      by y (Some cs) = sent_fits (phases k) target (message.Migrate (packed (record y { moved_since_step = true }))) (record s.rest { cache = cs }) refl (record { queues = fits.queues; notes = fits.notes; waiting = fits.waiting; leaving = fits.leaving })

  -- whatever a server does
  asks_on : RestFits (phases k) s.rest → (e : What) → enabled k.options s e ≡ true → Gives (Then (known_by k s e)) (does k.code k.options s e)
  asks_on fits (Step t) on_it = stepping fits t on_it
  asks_on fits (Deliver i) on_it = delivering fits i
  asks_on fits (Evict w) on_it = evicting fits w
  asks_on fits (Migrate t target) on_it = leaving fits t target

-- THE CLUSTER

module _ (k : Cluster) (e : Event) (sound : IsSound k) (few : FewEvents k) where
  abbrev known : Phases
  known = known_after k e

  abbrev AllFit : Cluster → Type 0
  AllFit c = tot (thing_unfit known) (things_of c) ≡ 0

  -- all fits in the cluster whose messages aren't handed over
  fit_acted : Gives (λ (d : Cluster × EntryView). AllFit d.0) (act_at k e)
  fit_acted =
      then_gives (λ (d : Cluster × EntryView). AllFit d.0) (server_at k.servers e.server) _ (λ s here.
      let a = known_by k s e.what in
      let all = fit_before k sound in
      let old = thing_unfit (phases k) in
      let before : tot old (server_things s) ≡ 0 = omega (arith, all, (tot-server old k.servers e.server s s here).0) in
      over_gives (λ (r : Server × EntryView). RestFits a r.0.rest × (enabled k.options s e.what ≡ true)) (λ (d : Cluster × EntryView). AllFit d.0) (done_at k e.what s) _
      (test_gives (λ (r : Server × EntryView). RestFits a r.0.rest × (enabled k.options s e.what ≡ true)) (enabled k.options s e.what) _ (λ on_it.
      weaker (λ (r : Server × EntryView). RestFits a r.0.rest) (λ (r : Server × EntryView). RestFits a r.0.rest × (enabled k.options s e.what ≡ true)) _ (asks_on k sound e.server s here (rest_from (phases k) s before) e.what on_it) (λ r g. (g, on_it))))
      (λ r g.
      let others : tot old (servers_things (others_of k.servers e.server)) ≡ 0 = omega (arith, all, (tot-server old k.servers e.server s s here).0) in
      let rest = all_known k sound e.server s here e.what g.1 (servers_things (others_of k.servers e.server)) others in
      let is : known ≡ a = ap (known_at k e.what) here ∙ ap (λ b. known_if b k s e.what) g.1 in
      subst (λ p. tot (thing_unfit p) (servers_things (Rattle.law_results_reads.specs.Below.server_model.Clusters.with_server k.servers e.server r.0)) ≡ 0) (sym is)
      (omega (arith, rest, rest_to a r.0 g.0, (tot-server (thing_unfit a) k.servers e.server s r.0 here).1))))

  -- and once they are
  fit_after : Gives (λ (d : Cluster × EntryView). AllFit d.0) (apply k e)
  fit_after = handed_on AllFit (λ c a b same z. omega (arith, z, same (thing_unfit known))) k e (each_event_sends k e sound few) fit_acted

  -- WHO WAITS

  abbrev off : Standing → ℕ
  off x = other (agree x.thread.phase (known x.thread.number))

  -- a phase before agrees with what is known
  agree_after : (q : Phase) (u : ℕ) → agree q (phases k u) ≡ true → agree q (known u) ≡ true
  agree_after q u z = by (server_at k.servers e.server) refl
    where
      by : (o : Option Server) → server_at k.servers e.server ≡ o → agree q (known_at k e.what o u) ≡ true
      by None here = z
      by (Some s) here = at (enabled k.options s e.what) refl
        where
          at : (b : Bool) → enabled k.options s e.what ≡ b → agree q (known_if b k s e.what u) ≡ true
          at true on_it = agree_known k sound e.server s here e.what on_it q u z
          at false on_it = z

  -- phases agree with those before
  off_before : tot off (threads_in (things_of k)) ≡ 0
  off_before = all_nothing off (things_of k) (things_of k) (λ g. omega arith) (λ s p x has. ap other (agree_after x.phase x.number (phase_before k sound s p x has x.phase refl)))

  -- who has got a cell waits for nothing
  cell_agrees : (p : Phase) (o : Option Phase) → HasCell p → other (agree p o) ≡ 0
  cell_agrees phase.Got o h = refl
  cell_agrees (phase.Taken w) o h = refl
  cell_agrees p o h = absurd h

  -- nor does who has got something
  got_agrees : (y y2 : ThreadState) (o : Option Phase) (g : Goes k.code y y2) → IsGotten g → other (agree y2.phase o) ≡ 0
  got_agrees y y2 o (gets_cell w was q pc g same) got = cell_agrees y2.phase o q
  got_agrees y y2 o (gets_gift was q pc passed walk temps shares same) got = ap (λ p. other (agree p o)) q
  got_agrees y y2 o (goes_pair a b was q pc g passed walk same) got = ap (λ p. other (agree p o)) q
  got_agrees y y2 o g got = absurd got

  module _ (s : Server) (here : server_at k.servers e.server ≡ Some s) where
    step_agrees : (t : ℕ) (y : ThreadState) (i : Instr) → e.what ≡ Step t → has_phase can_step (thread_in s.threads t) ≡ true → thread_in s.threads t ≡ Some y → slice_get k.code y.pc ≡ Some i
        → Gives (λ (d : Stepped). other (agree d.hand.thread.phase (known d.hand.thread.number)) ≡ 0) (step k.options.servers i (record { work = begin_work s.rest; thread = y }))
    step_agrees t y i is steps there code =
        both_give (λ (d : Stepped). Goes k.code y d.hand.thread) (λ (d : Stepped). d.hand.thread.phase ≡ r) (λ (d : Stepped). other (agree d.hand.thread.phase (known d.hand.thread.number)) ≡ 0) (step k.options.servers i h)
        (thread_goes k.code k.options.servers i y code s.rest h refl) (result_is (step k.options.servers i h))
        (λ d g q.
        let p = d.hand.thread.phase in
        ap (λ (a : Phases). other (agree p (a d.hand.thread.number))) known_is ∙ ap (λ n. other (agree p (turned (phases k) y.number r n))) (same_number k.code y d.hand.thread g)
        ∙ ap (λ b. other (agree p (if b then Some r else phases k y.number))) (eq-eqb y.number y.number refl) ∙ ap (λ x. other (agree p (Some x))) (sym q) ∙ ap other (self_agrees p))
      where
        h : Hand
        h = record { work = begin_work s.rest; thread = y }

        r : Phase
        r = result_phase (step k.options.servers i (record { work = begin_work s.rest; thread = y }))

        known_is : known_after k e ≡ turned (phases k) y.number (result_phase (step k.options.servers i (record { work = begin_work s.rest; thread = y })))
        known_is =
            let on_it : enabled k.options s e.what ≡ true = subst (λ w. enabled k.options s w ≡ true) (sym is) steps in
            ap (known_at k e.what) here ∙ ap (λ b. known_if b k s e.what) on_it ∙ ap (known_by k s) is ∙ ap (at_stepped k s) there ∙ ap (at_instr k s y) code

    ways : Ways k.code k.options.servers s e.what (Stood off s.rest.number) (InParcel off)
    ways = record {
      steps = λ t y i is steps there p code. step_agrees t y i is steps there code;
      goes = λ t y y2 there p g got. got_agrees y y2 (known y2.number) g got;
      arrives = λ t q. q;
      starts = λ t n y i u pc vs there p at d. refl;
      leaves = λ t n y there p r. p;
    }

  -- afterwards each thread agrees with what is known
  off_after : Gives (λ (d : Cluster × EntryView). tot off (threads_in (things_of d.0)) ≡ 0) (apply k e)
  off_after = threads_go off k e sound few off_before ways

-- AFTERWARDS

-- what isn't wrong is so
truly : (b : Bool) → other b ≡ 0 → b ≡ true
truly true z = refl
truly false z = absurd (cc z)

-- what a thread needs in answers it needs as one that waits
needs_as : (t : ℕ) (x : Thing) → halves_needed t x ≤ 2 * as_phase waits t x
needs_as t (stands s p x) = by (x.number == t && waits x.phase)
  where
    by : (b : Bool) → if_so b 2 ≤ 2 * one b
    by true = omega arith
    by false = omega arith
needs_as t _ = omega arith

-- the same of a list
all_needs : (t : ℕ) (b : List Thing) → tot (halves_needed t) b ≤ 2 * tot (as_phase waits t) b
all_needs t [] = omega arith
all_needs t (x ∷ b) = omega (arith, needs_as t x, all_needs t b)

module _ (a : Phases) (c : Cluster) (fits : tot (thing_unfit a) (things_of c) ≡ 0) (agrees : tot (λ (x : Standing). other (agree x.thread.phase (a x.thread.number))) (threads_in (things_of c)) ≡ 0) (answered : OneAnswer c) (differ : NumbersDiffer c) where
  abbrev C : List Thing
  C = things_of c

  -- a thread that an answer goes to waits for it
  test_after : (f : Phase → Bool) → Tells f → (t : ℕ) → 2 ≤ tot (halves_to t) C → unfit a t f ≡ 0 → phase_fits (sight c) t f ≡ 0
  test_after f tells t l z = by (thread_at (threads_in C) t) refl waiting
    where
      waiting : passes waits (phase_in (thread_at (threads_in C) t)) ≡ true
      waiting = found_phase waits t C (differ t) (omega (arith, l, answered t, all_needs t C))

      by : (o : Option Standing) → thread_at (threads_in C) t ≡ o → passes waits (phase_in o) ≡ true → other (in_phase f o) ≡ 0
      by None e w = absurd (cc w)
      by (Some x) e w =
          let none = found_none (λ x. other (agree x.thread.phase (a x.thread.number))) t (threads_in C) x agrees e in
          let agreed : agree x.thread.phase (a t) ≡ true = subst (λ n. agree x.thread.phase (a n) ≡ true) (found_number t (threads_in C) x e) (truly (agree x.thread.phase (a x.thread.number)) none) in
          ap other (told (a t) (truly (passes f (a t)) z) agreed)
        where
          told : (o : Option Phase) → passes f o ≡ true → agree x.thread.phase o ≡ true → f x.thread.phase ≡ true
          told None q h = absurd (cc q)
          told (Some p) q h = tells p x.thread.phase q w h

  -- a whole answer to a thread counts two
  whole : (t : ℕ) → if_so (t == t) 2 ≡ 2
  whole t = ap (λ b. if_so b 2) (eq-eqb t t refl)

  -- so a message carries what was asked
  message_after : (r : ℕ) (m : Message) → ((g : Thing → ℕ) → g (sent r m) ≤ tot g C) → message_unfit a m ≡ 0 → message_carries (sight c) m ≡ 0
  message_after r (message.Fetch w o s t) has z = test_after (is_cell w) (cell_tells w) t (omega (arith, whole t, has (halves_to t))) z
  message_after r (message.Fetched w d t) has z = test_after (is_cell w) (cell_tells w) t (omega (arith, whole t, has (halves_to t))) z
  message_after r (message.Move w o s t) has z = test_after (is_cell w) (cell_tells w) t (omega (arith, whole t, has (halves_to t))) z
  message_after r (message.Moved w d t) has z = test_after (is_cell w) (cell_tells w) t (omega (arith, whole t, has (halves_to t))) z
  message_after r (message.Lock m s t) has z = test_after (is_lock m) (lock_tells m) t (omega (arith, whole t, has (halves_to t))) z
  message_after r (message.Granted m v t) has z = test_after (is_lock m) (lock_tells m) t (omega (arith, whole t, has (halves_to t))) z
  message_after r (message.Dup m s t) has z = test_after (is_dup m) (dup_tells m) t (omega (arith, whole t, has (halves_to t))) z
  message_after r (message.Dupped m t) has z = test_after (is_dup m) (dup_tells m) t (omega (arith, whole t, has (halves_to t))) z
  message_after r (message.Join u s t) has z = test_after (is_join u) (join_tells u) t (omega (arith, whole t, has (halves_to t))) z
  message_after r (message.Joined u v t) has z = test_after (is_join u) (join_tells u) t (omega (arith, whole t, has (halves_to t))) z
  message_after r (message.Drop w o) has z = refl
  message_after r (message.Unlock m v) has z = refl
  message_after r (message.Release x) has z = refl
  message_after r (message.Start t) has z = refl
  message_after r (message.Finished u v) has z = refl
  message_after r (message.Migrate t) has z = refl

  -- so does a note
  note_after : (u : ℕ) (q : TaskState) → ((t : ℕ) → Rattle.law_results_reads.specs.Below.coherent_memory.Requests.halves t (Rattle.law_results_reads.specs.Below.coherent_memory.Requests.noted_answer q) ≤ tot (halves_to t) C) → note_unfit a u q ≡ 0 → note_carries (sight c) u q ≡ 0
  note_after u (asked r t) has z = test_after (is_join u) (join_tells u) t (omega (arith, whole t, has t)) z
  note_after u _ has z = refl

  -- and whatever stands
  thing_after : (x : Thing) → ((g : Thing → ℕ) → g x ≤ tot g C) → thing_unfit a x ≡ 0 → carries (sight c) x ≡ 0
  thing_after (sent r m) has z = message_after r m has z
  thing_after (queued m r t) has z = test_after (is_lock m) (lock_tells m) t (omega (arith, whole t, has (halves_to t))) z
  thing_after (noted r x) has z = note_after x.thread x.state (λ t. has (halves_to t)) z
  thing_after x has z = refl

  -- and all of a list
  all_after : (b : List Thing) → ((g : Thing → ℕ) → tot g b ≤ tot g C) → tot (thing_unfit a) b ≡ 0 → tot (carries (sight c)) b ≡ 0
  all_after [] among z = refl
  all_after (x ∷ b) among z = omega (arith, thing_after x (λ g. omega (arith, among g)) (omega (arith, z)), all_after b (λ g. omega (arith, among g)) (omega (arith, z)))

  -- in the cluster afterwards
  carried : Holds c carry_what_is_asked
  carried = all_after C (λ g. omega arith) fits

-- after whatever event
pub carried_kept : EachEventKeeps carry_what_is_asked
carried_kept k e sound few =
    both_give (λ (d : Cluster × EntryView). AllFit k e sound few d.0 × Agreed d.0) (λ (d : Cluster × EntryView). OneAnswer d.0 × NumbersDiffer d.0) (λ (d : Cluster × EntryView). Holds d.0 carry_what_is_asked) (apply k e)
    (both_give (λ (d : Cluster × EntryView). AllFit k e sound few d.0) (λ (d : Cluster × EntryView). Agreed d.0) (λ (d : Cluster × EntryView). AllFit k e sound few d.0 × Agreed d.0) (apply k e) (fit_after k e sound few) (off_after k e sound few) (λ d a b. (a, b)))
    (both_give (λ (d : Cluster × EntryView). OneAnswer d.0) (λ (d : Cluster × EntryView). NumbersDiffer d.0) (λ (d : Cluster × EntryView). OneAnswer d.0 × NumbersDiffer d.0) (apply k e) (asking_applied OneAnswer (λ c g. g.one_answer) k e sound few)
    (handed_part NumbersDiffer (λ c sums. sums.numbers_differ) k e sound few (each_event_sends k e sound few)) (λ d a b. (a, b)))
    (λ d u w. carried (known_after k e) d.0 u.0 u.1 w.0 w.1)
  where
    Agreed : Cluster → Type 0
    Agreed c = tot (λ (x : Standing). other (agree x.thread.phase (known_after k e x.thread.number))) (threads_in (things_of c)) ≡ 0
