-- Who waits at a lock in a cluster where all wait: the content is out.
use Rattle.std.proofs.Common.{◌≡◌, inl, inr, ℕ, ◌+◌, ◌≤◌, ◌==◌, ◌&&◌, not, is_some, Bool, true, false, if◌then◌else◌, List, [], ◌∷◌, ◌++◌, length, Option, Some, None, IsSome, refl, sym, ap, ap₂, subst, ◌∙◌, arith}
use Rattle.std.specs.Prelude.{slice_get}
use Rattle.std.proofs.Math.Path.{fun_ext}
use Rattle.std.proofs.lemmas.Bool.Decides.{nat_tests}
use Rattle.law_runs_whole.proofs.Below.fr_typing.PlaceLemmas.{eq_cases}
use Rattle.law_runs_whole.specs.Below.fr_base.declared.label.Label.{Label}
use Rattle.law_runs_whole.specs.Below.fr_base.declared.name.MutexNo.{MutexNo}
use Rattle.law_runs_whole.specs.Below.fr_base.declared.place.Lval.{Lval}
use Rattle.law_runs_whole.specs.Below.fr_base.declared.instruction.Instr.{Instr}
use Rattle.law_runs_whole.specs.Below.fr_base.declared.instruction.Instr.TheVariants as instr
use Rattle.law_runs_whole.specs.Below.fr_base.declared.step.Fresh.TheVariants as fresh
use Rattle.law_runs_whole.specs.Below.fr_base.declared.step.Wait.TheVariants as wait
use Rattle.law_runs_whole.specs.Below.fr_plain.declared.value.Value.{Value as PlainValue}
use Rattle.law_runs_whole.specs.Below.fr_plain.Machine.{lock_waits, content_waits, mutex_behind, takes_name, refused_names, at_mutex, where_there, locked, step, step_of}
use Rattle.law_runs_whole.specs.Below.fr_plain.MachineActs.{do_lock, do_end, do_finish, do_leave}
use Rattle.law_runs_whole.specs.Below.fr_plain.MachineThreads.{Shared, over, ended, alive, owing, loose, going, on_value, alone, next, life_move, thread_at, mutex_there}
use Rattle.law_runs_whole.specs.Below.fr_plain.MachineThreads as machine
use Rattle.law_runs_whole.specs.Below.fr_plain.PlainState.{SameState, plain_state}
use Rattle.law_runs_whole.specs.Below.fr_code.Machine.{CodeThread, CodeWhole, CodeState}
use Rattle.law_runs_whole.specs.Below.fr_code.Steps.{Place, code_move, code_moves, over_at, run_instr}
use Rattle.law_runs_whole.specs.Below.fr_code.TableStates.{CodeStateTypes}
use Rattle.law_runs_coherent.specs.Below.law_plain_threads.steps.Steps.{IsNotStuck, has_ended, waits, steps}
use Rattle.law_runs_coherent.proofs.Below.law_plain_threads.steps.CodeSteps.{never_stuck}
use Rattle.law_runs_whole.specs.Below.heap_partition.Plain.{plain_of}
use Rattle.law_runs_whole.specs.Below.heap_partition.declared.value.Owned.TheVariants as owned
use Rattle.law_runs_whole.specs.Below.mutex_home.Mutexes.{Mutex, mutex_in}
use Rattle.law_runs_whole.specs.Below.thread_state.View.{ThreadState, is_over}
use Rattle.law_runs_whole.specs.Below.thread_state.declared.phase.Phase.{Phase}
use Rattle.law_runs_whole.specs.Below.thread_state.declared.phase.Phase.TheVariants as phase
use Rattle.law_runs_whole.specs.Below.thread_state.declared.value.Value.{Value}
use Rattle.law_runs_whole.specs.Below.thread_state.declared.value.Value.TheVariants as value
use Rattle.law_runs_whole.specs.Below.join_home.Tasks.{Task, TaskState, let_go, kept, asked, in_pair}
use Rattle.law_runs_whole.specs.Below.join_home.Tasks as tasks
use Rattle.law_runs_whole.specs.Below.server_model.Servers.{Server, Cluster, server_at}
use Rattle.law_runs_whole.specs.Below.drive_model.Ending.{is_none, no_message, all_threads, all_in, is_stopped}
use Rattle.law_runs_whole.specs.Below.coherent_memory.Names.{tot, one, other, some, if_so, same_mutex, Among}
use Rattle.law_runs_whole.specs.Below.coherent_memory.Things.{Thing, Location, as_gift, as_content, holds, sent, stands, at_home, queued, noted, things_at, thread_things, standing_things, waiting_things, leaving_things, server_things, servers_things, things_of}
use Rattle.law_runs_whole.specs.Below.coherent_memory.Follow.{Standing, Ground, threads_in, locate, value_in, value_behind}
use Rattle.law_runs_whole.specs.Below.coherent_memory.Follow as cluster
use Rattle.law_runs_whole.specs.Below.coherent_memory.Sight.{Sight, sight}
use Rattle.law_runs_whole.specs.Below.coherent_memory.Walking.{instr_of}
use Rattle.law_runs_whole.specs.Below.coherent_memory.Naming.{named_mutexes, uncounted_mutex, threads, uncounted_thread}
use Rattle.law_runs_whole.specs.Below.coherent_memory.Requests as requests
use Rattle.law_runs_whole.specs.Below.coherent_memory.Requests.{halves, halves_to, halves_needed, noted_answer, is_lock, is_join, is_par, is_got, early_gift, in_phase, phase_fits, note_carries, carries, mutex_of, locked_mutex, is_mutex, stands_wrong, Branch, half_noted, pair_notes, pair_places}
use Rattle.law_runs_whole.specs.Below.coherent_memory.Sharing.{queued_inside}
use Rattle.law_runs_whole.specs.Below.coherent_memory.OneHeap.{or_else, one_heap, mutex_n, is_in_state, if_in, first_shown, content_value, share_in, is_gift_of, if_there, running_at}
use Rattle.law_runs_whole.proofs.Below.coherent_memory.Names.{and_left, and_right, same_mutexes}
use Rattle.law_runs_whole.proofs.Below.coherent_memory.Sums.{tot-append}
use Rattle.law_runs_coherent.specs.Below.coherent_types.ClusterTypes.{IsCoherent}
use Rattle.law_runs_coherent.specs.Below.law_heap_steps.Below.law_words_paths.paths.HeapStore.{GoesOn}
use Rattle.law_runs_coherent.proofs.Below.law_heap_steps.Below.law_words_paths.paths.Contained.{among_thread}
use Rattle.law_runs_coherent.proofs.Below.law_heap_steps.Below.law_words_paths.paths.Forms.{none_of}
use Rattle.law_runs_whole.proofs.Below.law_counts_sums.Askers.{mutex_there as home_there}
use Rattle.law_runs_whole.proofs.Below.law_counts_sums.MutexResults.{weighed, Weight, mutex_weighs}
use Rattle.law_runs_whole.proofs.Below.law_counts_sums.Unseen.{Unseen, Unnoted, thread_alone, seen_of}
use Rattle.law_runs_coherent.proofs.Below.law_heap_steps.turns.OneTurn.{Going, as_main, as_owing, as_loose, life_as}
use Rattle.law_runs_coherent.proofs.Below.law_heap_steps.turns.PlainTurn.{thread_as, goes_as}
use Rattle.law_runs_coherent.proofs.Below.law_heap_steps.turns.ReadWalk.{passed_loads, loads_of}
use Rattle.law_runs_coherent.proofs.Below.law_heap_steps.turns.PlainReads.{mutex_shown}
use Rattle.law_runs_coherent.proofs.Below.law_heap_steps.turns.Instructions.{shown_last}
use Rattle.law_runs_coherent.proofs.Below.law_heap_steps.mutexes.PlainMutex.{acts, move_as}
use Rattle.law_runs_whole.proofs.ends.Weighing.{weighs, some_weighs, truly, in_such, not_both}
use Rattle.law_runs_whole.proofs.ends.Servers.{other_so}
use Rattle.law_runs_whole.proofs.ends.Going.{sends, servers_silent, parents_wait, if_weighs, one_weighs}
use Rattle.law_runs_whole.specs.waits.Waits.{wait_in, plain_wait}
use Rattle.law_runs_whole.proofs.waits.Plain.{way, there, waits_as}
use Rattle.law_runs_whole.specs.waits.Locks.{LocksWait}
use Rattle.law_runs_whole.proofs.waits.Contents.{servers_fewer, content_held, waits_for_it, contents_of, queues_of}

same_is : (n : ℕ) → (n == n) ≡ true
same_is n = grind (arith, nat_tests)

both : (a b : Bool) → a ≡ true → b ≡ true → a && b ≡ true
both true true q w = refl
both true false q w = w
both false b q w = absurd (cc q)

one_is : (c : Bool) → c ≡ true → one c ≡ 1
one_is true q = refl
one_is false q = absurd (cc q)

one_none : (c : Bool) → one c ≡ 0 → c ≡ false
one_none true e = absurd (cc e)
one_none false e = refl

some_of : {X : Type 0} (o : Option X) → IsSome o → (x : X) × (o ≡ Some x)
some_of None h = absurd (cc h)
some_of (Some x) h = (x, refl)

at_number : (ss : List Server) (n : ℕ) (s : Server) → server_at ss n ≡ Some s → s.rest.number ≡ n
at_number [] n s h = absurd (cc h)
at_number (y ∷ ss) n s h = eq_cases (λ b. (if b then Some y else server_at ss n) ≡ Some s → s.rest.number ≡ n) y.rest.number n (λ e g. let same : y ≡ s = cc in subst (λ (z : Server). z.rest.number ≡ n) same e) (λ ne g. at_number ss n s g) h

pub thread_weighs : (f : Thing → ℕ) (x : Standing) (b : List Thing) → Among x (threads_in b) → f (stands x.server x.packed x.thread) ≤ tot f b
thread_weighs f x [] h = absurd h
thread_weighs f x (stands r p y ∷ b) (inl e) = subst (λ (z : Standing). f (stands z.server z.packed z.thread) ≤ f (stands r p y) + tot f b) e (omega arith)
thread_weighs f x (stands r p y ∷ b) (inr h) = omega (arith, thread_weighs f x b h)
thread_weighs f x (_ ∷ b) h = omega (arith, thread_weighs f x b h)

-- states that show the same are the same
same_states : (a b : CodeState) → SameState a b → a ≡ b
same_states a b h =
    ap₂ (λ f g. (let s : CodeState = record a { thread = f; made = g } in s)) (fun_ext h.threads) (fun_ext h.made)
    ∙ ap₂ (λ f g. (let s : CodeState = record b { pair = f; object = g; mutex = a.mutex; is_given = a.is_given } in s)) (fun_ext h.pairs) (fun_ext h.objects)
    ∙ ap₂ (λ f g. (let s : CodeState = record b { mutex = f; is_given = g } in s)) (fun_ext h.mutexes) (fun_ext h.given)

-- THREADS THAT ARE STOPPED

abbrev pub unstopped : Thing → ℕ
unstopped (stands r p y) = other (is_stopped y.phase)
unstopped x = 0

unseen : (n : ℕ) → Unseen unstopped n
unseen n = record { held = λ p v. refl; shared = λ l r. refl; borrowed = λ l r. refl; locked = λ l m. refl; live = λ a c. refl; free = λ a m. refl; old = λ a. refl; copy = λ s c. refl; used = λ s w. refl }

unnoted : Unnoted unstopped
unnoted = record { mutex = λ s m. refl; queue = λ m s t. refl; note = λ s t. refl }

no_item : {X : Type 0} (xs : List X) → is_none xs ≡ true → xs ≡ []
no_item [] e = refl
no_item (y ∷ ys) e = absurd (cc e)

other_none : (c : Bool) → c ≡ true → other c ≡ 0
other_none true e = refl
other_none false e = absurd (cc e)

standing_stopped : (n i : ℕ) (ts : List ThreadState) → all_threads is_stopped ts ≡ true → tot unstopped (things_at (standing_things n) i ts) ≡ 0
standing_stopped n i [] e = refl
standing_stopped n i (y ∷ ts) e =
    omega (
      arith,
      thread_alone unstopped n (unseen n) n false y,
      other_none (is_stopped y.phase) (and_left (is_stopped y.phase) (all_threads is_stopped ts) e),
      standing_stopped n (i + 1) ts (and_right (is_stopped y.phase) (all_threads is_stopped ts) e),
      tot-append unstopped (thread_things n false y) (things_at (standing_things n) (i + 1) ts),
    )

pub servers_stopped : (ss : List Server) → no_message ss ≡ true → all_in is_stopped ss ≡ true → tot unstopped (servers_things ss) ≡ 0
servers_stopped [] q e = refl
servers_stopped (s ∷ ss) q e =
    let n = s.rest.number in
    let first : is_none s.rest.inbox && is_none s.rest.outbox ≡ true = and_left (is_none s.rest.inbox && is_none s.rest.outbox) (no_message ss) q in
    let i = no_item s.rest.inbox (and_left (is_none s.rest.inbox) (is_none s.rest.outbox) first) in
    let o = no_item s.rest.outbox (and_right (is_none s.rest.inbox) (is_none s.rest.outbox) first) in
    let inbox : tot unstopped (things_at (waiting_things n) 0 s.rest.inbox) ≡ 0 = subst (λ ms. tot unstopped (things_at (waiting_things n) 0 ms) ≡ 0) (sym i) refl in
    let outbox : tot unstopped (things_at leaving_things 0 s.rest.outbox) ≡ 0 = subst (λ ms. tot unstopped (things_at leaving_things 0 ms) ≡ 0) (sym o) refl in
    omega (
      arith,
      seen_of unstopped n (unseen n) unnoted s refl,
      inbox,
      outbox,
      standing_stopped n 0 s.threads (and_left (all_threads is_stopped s.threads) (all_in is_stopped ss) e),
      servers_stopped ss (and_right (is_none s.rest.inbox && is_none s.rest.outbox) (no_message ss) q) (and_right (all_threads is_stopped s.threads) (all_in is_stopped ss) e),
      tot-append unstopped (server_things s) (servers_things ss),
    )

stopped_ungot : (p : Phase) → is_stopped p ≡ true → is_got p ≡ false
stopped_ungot phase.Got e = absurd (cc e)
stopped_ungot p e = refl

ungifted : (g r : Bool) → one (g && not r) ≡ 0 → r ≡ false → g ≡ false
ungifted true true e q = absurd (cc q)
ungifted true false e q = absurd (cc e)
ungifted false r e q = refl

-- LOCKS

abbrev at_lock : Phase → Bool
at_lock (phase.WaitLock m) = true
at_lock p = false

no_par : (p : Phase) → at_lock p ≡ true → is_par p ≡ true → ⊥
no_par (phase.WaitPar a b) e q = absurd (cc e)
no_par (phase.GotPar a b) e q = absurd (cc e)
no_par p e q = absurd (cc q)

module _ (k : Cluster) (co : IsCoherent k) (quiet : no_message k.servers ≡ true) (stopped : all_in is_stopped k.servers ≡ true) where
  abbrev b : List Thing
  b = things_of k

  abbrev s : Sight
  s = sight k

  none_breaks : (f : Thing → ℕ) (x : Thing) → tot f b ≡ 0 → Among x b → f x ≡ 0
  none_breaks f x z h = omega (arith, weighs f x b h, z)

  -- nobody has a gift
  no_gift : (o : Option Standing) (t : ℕ) (m : MutexNo) → cluster.thread_at s.ground.threads t ≡ o → is_gift_of s m o ≡ false
  no_gift None t m e = refl
  no_gift (Some y) t m e =
      let h = (among_thread s.ground.threads t y e).0 in
      let so : other (is_stopped y.thread.phase) ≡ 0 = omega (arith, thread_weighs unstopped y b h, servers_stopped k.servers quiet stopped) in
      let none : is_some y.thread.gift ≡ false = ungifted (is_some y.thread.gift) (is_got y.thread.phase) (none_of early_gift y s.ground.threads co.sound.requests.gifts_got h) (stopped_ungot y.thread.phase (other_so (is_stopped y.thread.phase) so)) in
      ap (λ c. some (if_so c (one (is_mutex m (locked_mutex s y (instr_of s y)))))) none

  -- a mutex of which no content is held shows none
  shown_none : (m : MutexNo) (xs : List Thing) → tot (content_held m) xs ≡ 0 → first_shown (content_value s m) xs ≡ None
  shown_none m [] z = refl
  shown_none m (holds (as_content n) v ∷ xs) z =
      let other_one : same_mutex n m ≡ false = one_none (same_mutex n m) (omega (arith, z)) in
      ap (λ c. or_else (if_in c (Some (plain_of v))) (first_shown (content_value s m) xs)) other_one ∙ shown_none m xs (omega (arith, z))
  shown_none m (holds (as_gift t) v ∷ xs) z =
      ap (λ c. or_else (if_in c (Some (plain_of v))) (first_shown (content_value s m) xs)) (no_gift (cluster.thread_at s.ground.threads t) t m refl) ∙ shown_none m xs (omega (arith, z))
  shown_none m (holds _ v ∷ xs) z = shown_none m xs (omega (arith, z))
  shown_none m (_ ∷ xs) z = shown_none m xs (omega (arith, z))

  -- a mutex for which somebody waits has its content out
  content_out : (m : MutexNo) → 1 ≤ tot (waits_for_it m) b → tot (content_held m) b ≡ 0
  content_out m l = by home
    where
      counted : uncounted_mutex s m ≡ 0
      counted =
          let w = some_weighs (waits_for_it m) b l in
          let all : tot (threads (uncounted_thread s)) b + tot (named_mutexes (uncounted_mutex s)) b ≡ 0 = co.sound.names.names_counted in
          at w.item w.weight (none_breaks (named_mutexes (uncounted_mutex s)) w.item (omega (arith, all)) w.there)
        where
          at : (w : Thing) → 1 ≤ waits_for_it m w → named_mutexes (uncounted_mutex s) w ≡ 0 → uncounted_mutex s m ≡ 0
          at (queued n r t) l z = subst (λ q. uncounted_mutex s q ≡ 0) (same_mutexes n m (truly (same_mutex n m) l)) (omega (arith, z))
          at _ l z = absurd (omega (arith, l))

      home : (y : Server) × (server_at k.servers m.home ≡ Some y)
      home = some_of (server_at k.servers m.home) (home_there k co.sound m.home m.count (other_so _ counted))

      by : (y : Server) × (server_at k.servers m.home ≡ Some y) → tot (content_held m) b ≡ 0
      by p =
          let n = p.0.rest.number in
          let number : m.home ≡ n = sym (at_number k.servers m.home p.0 p.1) in
          let here = mutex_in p.0.rest.mutexes.there m in
          let queue : 1 ≤ Weight m n (λ x. length x.queue) here = omega (arith, l, servers_fewer (waits_for_it m) (weighed m n (λ x. length x.queue)) (queues_of m n) k.servers quiet, mutex_weighs k co.sound m.home p.0 p.1 m (λ x. length x.queue) number) in
          let inside : Weight m n (λ x. if_so (is_some x.content) (length x.queue)) here ≡ 0 = omega (arith, mutex_weighs k co.sound m.home p.0 p.1 m (λ x. if_so (is_some x.content) (length x.queue)) number, within n b, none_inside) in
          let held = servers_fewer (content_held m) (weighed m n (λ x. one (is_some x.content))) (contents_of m n) k.servers quiet in
          omega (arith, held, mutex_weighs k co.sound m.home p.0 p.1 m (λ x. one (is_some x.content)) number, out n here queue inside)
        where
          none_inside : tot queued_inside b ≡ 0
          none_inside = co.sound.mutexes_and_tasks.queue_while_out

          within_one : (n : ℕ) (x : Thing) → weighed m n (λ x. if_so (is_some x.content) (length x.queue)) x ≤ queued_inside x
          within_one n (at_home r x) = so (same_mutex x.number m) (if_so (is_some x.content) (length x.queue))
            where
              so : (c : Bool) (q : ℕ) → if_so c q ≤ q
              so true q = omega arith
              so false q = omega arith
          within_one n _ = omega arith

          within : (n : ℕ) (xs : List Thing) → tot (weighed m n (λ x. if_so (is_some x.content) (length x.queue))) xs ≤ tot queued_inside xs
          within n [] = omega arith
          within n (x ∷ xs) = omega (arith, within_one n x, within n xs)

          out : (n : ℕ) (o : Option Mutex) → 1 ≤ Weight m n (λ x. length x.queue) o → Weight m n (λ x. if_so (is_some x.content) (length x.queue)) o ≡ 0 → Weight m n (λ x. one (is_some x.content)) o ≡ 0
          out n None q i = refl
          out n (Some x) q i = so (is_some x.content) q i
            where
              so : (c : Bool) → 1 ≤ length x.queue → if_so c (length x.queue) ≡ 0 → one c ≡ 0
              so true q i = absurd (omega (arith, q, i))
              so false q i = refl

  module _ (c : CodeWhole) (same : SameState (plain_state c) (one_heap k)) (x : Standing) (among : Among x s.ground.threads) (found : cluster.thread_at s.ground.threads x.thread.number ≡ Some x) (m : MutexNo) (locking : x.thread.phase ≡ phase.WaitLock m) where
    abbrev t : ℕ
    t = x.thread.number

    abbrev pc : ℕ
    pc = x.thread.pc

    abbrev temps : List PlainValue
    temps = shown_last x.thread.temps

    goes : GoesOn k x
    goes = record { among = among; going = ap is_over locking }

    -- it is in the queue of the mutex

    one_such : 1 ≤ tot (in_such at_lock t) b
    one_such = let such : in_such at_lock t (stands x.server x.packed x.thread) ≡ 1 = one_is ((t == t) && at_lock x.thread.phase) (both (t == t) (at_lock x.thread.phase) (same_is t) (ap at_lock locking)) in omega (arith, thread_weighs (in_such at_lock t) x b among, such)

    needed : 2 ≤ tot (halves_needed t) b
    needed =
        let mine : halves_needed t (stands x.server x.packed x.thread) ≡ 2 = ap (λ d. if_so d 2) (both (t == t) (requests.waits x.thread.phase) (same_is t) (ap requests.waits locking)) in
        omega (arith, thread_weighs (halves_needed t) x b among, mine)

    in_its_phase : (f : Phase → Bool) (v : ℕ) → v ≡ t → phase_fits s v f ≡ 0 → f (phase.WaitLock m) ≡ true
    in_its_phase f v e z =
        let fits : in_phase f (cluster.thread_at s.ground.threads t) ≡ true = subst (λ n. in_phase f (cluster.thread_at s.ground.threads n) ≡ true) e (other_so (in_phase f (cluster.thread_at s.ground.threads v)) z) in
        sym (ap f locking) ∙ sym (ap (in_phase f) found) ∙ fits

    by_note : (r : ℕ) (y : Task) (q : TaskState) → y.state ≡ q → Among (noted r y) b → 1 ≤ halves t (noted_answer q) → note_carries s y.thread q ≡ 0 → ⊥
    by_note r y (asked q v) e h l z = absurd (cc (in_its_phase (is_join y.thread) v (if_weighs t v 2 l) z))
    by_note r y (in_pair p o) e h l z =
        let d : Branch = record { server = r; parent = p; thread = y.thread } in
        let state : half_noted y.state p ≡ true = subst (λ s. half_noted s p ≡ true) (sym e) (same_is p) in
        let note : pair_notes d (noted r y) ≡ 1 = one_is ((r == r && y.thread == y.thread) && half_noted y.state p) (both (r == r && y.thread == y.thread) (half_noted y.state p) (both (r == r) (y.thread == y.thread) (same_is r) (same_is y.thread)) state) in
        let places : 1 ≤ tot (pair_places d) b = omega (arith, weighs (pair_notes d) (noted r y) b h, note, co.sound.requests.pairs_noted d) in
        let parent : 1 ≤ tot (in_such is_par p) b = omega (arith, places, parents_wait d b) in
        not_both t at_lock is_par no_par b (co.sound.names.numbers_differ t) one_such (subst (λ n. 1 ≤ tot (in_such is_par n) b) (one_weighs t p l) parent)
    by_note r y tasks.going e h l z = absurd (omega (arith, l))
    by_note r y let_go e h l z = absurd (omega (arith, l))
    by_note r y (kept v) e h l z = absurd (omega (arith, l))

    by_answer : (w : Thing) → Among w b → 1 ≤ halves_to t w → 1 ≤ tot (waits_for_it m) b
    by_answer (sent r q) h l = absurd (omega (arith, none_breaks sends (sent r q) (servers_silent k.servers quiet) h))
    by_answer (queued n r v) h l =
        let it : waits_for_it m (queued n r v) ≡ 1 = one_is (same_mutex n m) (in_its_phase (is_lock n) v (if_weighs t v 2 l) (none_breaks (carries s) (queued n r v) co.sound.requests.carry_what_is_asked h)) in
        omega (arith, weighs (waits_for_it m) (queued n r v) b h, it)
    by_answer (noted r y) h l = absurd (by_note r y y.state refl h l (none_breaks (carries s) (noted r y) co.sound.requests.carry_what_is_asked h))
    by_answer _ h l = absurd (omega (arith, l))

    content_none : first_shown (content_value s m) b ≡ None
    content_none =
        let w = some_weighs (halves_to t) b (omega (arith, needed, co.sound.requests.one_answer t)) in
        shown_none m b (content_out m (by_answer w.item w.there w.weight))

    -- ON THE PLAIN MACHINE

    abbrev its_shares : ℕ
    its_shares = tot (share_in s m) b

    mutex_is : mutex_there c.mutexes m ≡ if_there (is_in_state s (mutex_n m)) (record { content = None; shares = its_shares })
    mutex_is = same.mutexes m ∙ ap (λ o. if_there (is_in_state s (mutex_n m)) (record { content = o; shares = its_shares })) content_none

    place_of : is_mutex m (locked_mutex s x (slice_get k.code pc)) ≡ true
    place_of =
        let none = none_of (λ y. stands_wrong s y y.thread.phase) x s.ground.threads co.sound.requests.phases_stand among in
        other_so (is_mutex m (locked_mutex s x (slice_get k.code pc))) (sym (ap (stands_wrong s x) locking) ∙ none)

    module _ (w : Lval) (code : slice_get k.code pc ≡ Some (instr.Lock w)) (ls : List Label) (behind : mutex_behind (machine.state_of c (thread_as (way k co c same x goes) t (running_at x.thread))) w ≡ Some (m, ls)) where
      abbrev y : CodeThread
      y = thread_as (way k co c same x goes) t (running_at x.thread)

      abbrev plug : PlainValue → Place
      plug v = record { pc = pc + 1; temps = temps }

      now : over_at (slice_get k.code pc) temps ≡ going
      now = ap (λ j. over_at j temps) code

      moves : code_move k.code pc temps ≡ Some (record { act = do_lock w; plug = plug })
      moves = ap (λ j. run_instr j pc temps) code

      waits_so : plain_wait k.code c t ≡ content_waits (mutex_there c.mutexes m) m
      waits_so = waits_as k co c same x goes (do_lock w) plug now moves ∙ ap (lock_waits c) behind

      steps_so : (q : Bool) → mutex_there c.mutexes m ≡ if_there q (record { content = None; shares = its_shares }) → step (code_moves k.code) c t fresh.None ≡ None
      steps_so q e =
          let mv = move_as (way k co c same x goes) (do_lock w) plug in
          ap (step_of (code_moves k.code) c fresh.None) (there k co c same x goes) ∙ acts k.code (running_at x.thread) (do_lock w) plug now moves (way k co c same x goes) c t fresh.None
          ∙ ap (λ z. at_mutex (code_moves k.code) c z (locked (code_moves k.code) c y mv)) behind ∙ ap (λ z. where_there (code_moves k.code) z (locked (code_moves k.code) c y mv m ls)) e ∙ by q
        where
          by : (q : Bool) → where_there (code_moves k.code) (if_there q (record { content = None; shares = its_shares })) (locked (code_moves k.code) c y (move_as (way k co c same x goes) (do_lock w) plug) m ls) ≡ None
          by true = refl
          by false = refl

      nameless : refused_names c (takes_name (life_move (code_moves k.code) y.life)) fresh.None ≡ None
      nameless = by (way k co c same x goes)
        where
          by : (g : Going) → refused_names c (takes_name (life_move (code_moves k.code) (life_as g (running_at x.thread).place))) fresh.None ≡ None
          by as_main = ap (λ z. refused_names c (takes_name z) fresh.None) (ap₂ (λ n z. on_value n (λ v. alone (λ u. over) (do_end v)) (next alive z)) now moves)
          by as_owing = ap (λ z. refused_names c (takes_name z) fresh.None) (ap₂ (λ n z. on_value n (λ v. alone ended (do_finish v)) (next owing z)) now moves)
          by as_loose = ap (λ z. refused_names c (takes_name z) fresh.None) (ap₂ (λ n z. on_value n (λ v. alone (λ u. over) (do_leave v)) (next loose z)) now moves)

      typed : CodeStateTypes co.types.table co.types.typing (plain_state c)
      typed = subst (CodeStateTypes co.types.table co.types.typing) (sym (same_states (plain_state c) (one_heap k) same)) co.types.state

      stuck_not : IsNotStuck (code_moves k.code) c t y
      stuck_not = never_stuck k.code co.types.table co.types.is_table co.types.typing c typed t y (there k co c same x goes)

      lock_waits_so : plain_wait k.code c t ≡ Some (wait.Lock m)
      lock_waits_so = by (is_in_state s (mutex_n m)) mutex_is
        where
          outside : mutex_there c.mutexes m ≡ None → step (code_moves k.code) c t fresh.None ≡ None → IsNotStuck (code_moves k.code) c t y → ⊥
          outside e n (has_ended o) = absurd (cc (sym (goes_as (way k co c same x goes) (running_at x.thread).place) ∙ o))
          outside e n (waits v q) = let z : None ≡ Some v = sym (ap (λ o. content_waits o m) e) ∙ sym waits_so ∙ ap (wait_in k.code c) (there k co c same x goes) ∙ q in absurd (cc z)
          outside e n (steps f) = let z : IsSome (step (code_moves k.code) c t fresh.None) = f fresh.None nameless in absurd (cc (subst IsSome n z))

          by : (q : Bool) → mutex_there c.mutexes m ≡ if_there q (record { content = None; shares = its_shares }) → plain_wait k.code c t ≡ Some (wait.Lock m)
          by true e = waits_so ∙ ap (λ o. content_waits o m) e
          by false e = absurd (outside e (steps_so false e) stuck_not)

    locked_so : plain_wait k.code c t ≡ Some (wait.Lock m)
    locked_so = by (slice_get k.code pc) refl place_of
      where
        mutex_value_is : (o : Option Value) → is_mutex m (mutex_of o) ≡ true → o ≡ Some (value.Own (owned.Mutex m))
        mutex_value_is (Some (value.Own (owned.Mutex n))) e = ap (λ q. Some (value.Own (owned.Mutex q))) (sym (same_mutexes m n e))
        mutex_value_is o e = absurd (cc e)

        at_place : (w : Lval) → slice_get k.code pc ≡ Some (instr.Lock w) → (o : Option Location) → locate s.ground t w.slot w.depth ≡ o → is_mutex m (mutex_of (value_behind s.ground o)) ≡ true → plain_wait k.code c t ≡ Some (wait.Lock m)
        at_place w q None e f = absurd (cc f)
        at_place w q (Some l) e f = lock_waits_so w q (passed_loads s.ground t w.slot w.depth ++ loads_of s.ground l) (mutex_shown k co x goes c same w l m e (mutex_value_is (value_in s.ground l) f))

        by : (j : Option Instr) → slice_get k.code pc ≡ j → is_mutex m (locked_mutex s x j) ≡ true → plain_wait k.code c t ≡ Some (wait.Lock m)
        by (Some (instr.Lock w)) q e = at_place w q (locate s.ground t w.slot w.depth) refl e
        by j q e = absurd (cc e)

pub locks_wait : LocksWait
locks_wait k co quiet stopped c same t m x at locking =
    let h = among_thread (sight k).ground.threads t x at in
    subst (λ n. plain_wait k.code c n ≡ Some (wait.Lock m)) h.1 (locked_so k co quiet stopped c same x h.0 (subst (λ n. cluster.thread_at (sight k).ground.threads n ≡ Some x) (sym h.1) at) m locking)
