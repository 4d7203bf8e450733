-- The list of what a quiet cluster's threads wait for: under each number what the thread of that number waits for.
use Rattle.std.proofs.Common.{◌≡◌, ℕ, ◌+◌, ◌≤◌, ◌==◌, ◌&&◌, ◌||◌, nat_lt, is_some, Bool, true, false, if◌then◌else◌, List, [], ◌∷◌, ◌++◌, Option, Some, None, refl, sym, ap, subst, ◌∙◌, arith, append_assoc, append-nil}
use Rattle.std.specs.Prelude.{⊤}
use Rattle.law_runs_whole.proofs.Below.fr_typing.PlaceLemmas.{eq_cases}
use Rattle.law_runs_whole.specs.Below.fr_base.declared.step.Wait.{Wait}
use Rattle.law_runs_whole.specs.Below.thread_state.View.{ThreadState, is_over}
use Rattle.law_runs_whole.specs.Below.thread_state.declared.phase.Phase.{Phase}
use Rattle.law_runs_whole.specs.Below.server_model.Servers.{Server, Cluster}
use Rattle.law_runs_whole.specs.Below.server_model.Questions.{wait_of, add_wait, waits_among}
use Rattle.law_runs_whole.specs.Below.drive_model.Ending.{is_none, no_message, all_threads, all_in, is_stopped, waits_in, waits}
use Rattle.law_runs_whole.specs.Below.coherent_memory.Names.{tot, one}
use Rattle.law_runs_whole.specs.Below.coherent_memory.Things.{Thing, stands, things_at, partition_things, copy_things, mutex_things, task_things, gift_things, walk_things, slot_things, temp_things, thread_things, standing_things, waiting_things, leaving_things, server_things, servers_things, things_of}
use Rattle.law_runs_whole.specs.Below.coherent_memory.Weights.{is_thread}
use Rattle.law_runs_whole.specs.Below.coherent_memory.Follow.{Standing, threads_in, thread_at}
use Rattle.law_runs_whole.specs.Below.coherent_memory.Coherent.{IsSound}
use Rattle.law_runs_whole.proofs.Below.coherent_memory.Names.{and_left, and_right}
use Rattle.law_runs_whole.proofs.Below.coherent_memory.Sums.{tot-append, server_parts}
use Rattle.law_runs_whole.proofs.Below.law_counts_sums.Unseen.{Unseen, Unnoted, thread_alone, seen_of}
use Rattle.law_runs_whole.specs.waits.Locks.{standing_wait, cluster_wait}
use Rattle.law_runs_whole.proofs.waits.Rising.{under, Rises, added_rises, added_under, same_rising}

-- EACH THREAD ONCE

-- nobody has the number of an earlier one
abbrev IsOnce : List Standing → Type 0
IsOnce [] = ⊤
IsOnce (x ∷ xs) = (thread_at xs x.thread.number ≡ None) × IsOnce xs

none_there : (t : ℕ) (b : List Thing) → tot (is_thread t) b ≡ 0 → thread_at (threads_in b) t ≡ None
none_there t [] z = refl
none_there t (stands s p y ∷ b) z =
    eq_cases (λ q. one q + tot (is_thread t) b ≡ 0 → (if q then Some (record { server = s; packed = p; thread = y }) else thread_at (threads_in b) t) ≡ None) y.number t (λ e f. absurd (omega (arith, f))) (λ ne f. none_there t b (omega (arith, f))) z
none_there t (_ ∷ b) z = none_there t b (omega (arith, z))

each_once : (b : List Thing) → ((t : ℕ) → tot (is_thread t) b ≤ 1) → IsOnce (threads_in b)
each_once [] h = tt
each_once (stands s p y ∷ b) h = (
  none_there y.number b (eq_cases (λ q. one q + tot (is_thread y.number) b ≤ 1 → tot (is_thread y.number) b ≡ 0) y.number y.number (λ e f. omega (arith, f)) (λ ne f. absurd (ne refl)) (h y.number)),
  each_once b (λ t. omega (arith, h t)),
)
each_once (_ ∷ b) h = each_once b (λ t. omega (arith, h t))

past : (xs ys : List Standing) → IsOnce (xs ++ ys) → IsOnce ys
past [] ys h = h
past (x ∷ xs) ys h = past xs ys h.1

-- A SERVER'S THREADS

abbrev any_thread : Thing → ℕ
any_thread (stands r p y) = 1
any_thread x = 0

unseen : (n : ℕ) → Unseen any_thread n
unseen n = record { held = λ p v. refl; shared = λ l r. refl; borrowed = λ l r. refl; locked = λ l m. refl; live = λ a c. refl; free = λ a m. refl; old = λ a. refl; copy = λ s c. refl; used = λ s w. refl }

unnoted : Unnoted any_thread
unnoted = record { mutex = λ s m. refl; queue = λ m s t. refl; note = λ s t. refl }

-- what has no thread is passed over
passed : (xs b : List Thing) → tot any_thread xs ≡ 0 → threads_in (xs ++ b) ≡ threads_in b
passed [] b z = refl
passed (stands s p y ∷ xs) b z = absurd (omega (arith, z))
passed (_ ∷ xs) b z = passed xs b (omega (arith, z))

abbrev at_server : ℕ → List ThreadState → List Standing
at_server n [] = []
at_server n (y ∷ ys) = record { server = n; packed = false; thread = y } ∷ at_server n ys

alone : (n : ℕ) (y : ThreadState) (b : List Thing) → threads_in (thread_things n false y ++ b) ≡ record { server = n; packed = false; thread = y } ∷ threads_in b
alone n y b =
    ap (λ (l : List Standing). record { server = n; packed = false; thread = y } ∷ l)
    (passed (gift_things y.number y.gift ++ things_at (walk_things n) 0 y.walk ++ things_at (slot_things n y.number) 0 y.slots ++ things_at (temp_things n y.number) 0 y.temps) b
    (omega (arith, thread_alone any_thread n (unseen n) n false y)))

own_threads : (n i : ℕ) (ys : List ThreadState) (b : List Thing) → threads_in (things_at (standing_things n) i ys ++ b) ≡ at_server n ys ++ threads_in b
own_threads n i [] b = refl
own_threads n i (y ∷ ys) b =
    ap threads_in (append_assoc (thread_things n false y) (things_at (standing_things n) (i + 1) ys) b) ∙ alone n y (things_at (standing_things n) (i + 1) ys ++ b)
    ∙ ap (λ (l : List Standing). record { server = n; packed = false; thread = y } ∷ l) (own_threads n (i + 1) ys b)

no_item : {X : Type 0} (xs : List X) → is_none xs ≡ true → xs ≡ []
no_item [] e = refl
no_item (y ∷ ys) e = absurd (cc e)

-- what stands before the threads has none, and no message stands behind them
between : (f s i o b : List Thing) → tot any_thread f ≡ 0 → i ≡ [] → o ≡ [] → threads_in (f ++ s ++ i ++ o ++ b) ≡ threads_in (s ++ b)
between f s i o b z d e =
    ap (λ m. threads_in (f ++ s ++ m ++ o ++ b)) d ∙ ap (λ m. threads_in (f ++ s ++ [] ++ m ++ b)) e ∙ ap (λ m. threads_in (m ++ [] ++ b)) (append-nil (f ++ s)) ∙ ap (λ m. threads_in (m ++ b)) (append-nil (f ++ s))
    ∙ ap threads_in (append_assoc f s b) ∙ passed f (s ++ b) z

server_threads : (s : Server) (b : List Thing) → is_none s.rest.inbox ≡ true → is_none s.rest.outbox ≡ true → threads_in (server_things s ++ b) ≡ at_server s.rest.number s.threads ++ threads_in b
server_threads s b i o =
    let n = s.rest.number in
    let p = partition_things n s.rest.partition in
    let c = things_at (copy_things n) 0 s.rest.cache in
    let m = things_at (mutex_things n) 0 s.rest.mutexes.there in
    let t = things_at (task_things n) 0 s.rest.tasks in
    let none : tot any_thread (p ++ c ++ m ++ t) ≡ 0 =
    omega (arith, seen_of any_thread n (unseen n) unnoted s refl, server_parts any_thread s, tot-append any_thread (p ++ c ++ m) t, tot-append any_thread (p ++ c) m, tot-append any_thread p c) in
    between (p ++ c ++ m ++ t) (things_at (standing_things n) 0 s.threads) (things_at (waiting_things n) 0 s.rest.inbox) (things_at leaving_things 0 s.rest.outbox) b none
    (ap (things_at (waiting_things n) 0) (no_item s.rest.inbox i)) (ap (things_at leaving_things 0) (no_item s.rest.outbox o))
    ∙ own_threads n 0 s.threads b

-- PHASES

-- the phase of each thread passes the test
abbrev Pass : (Phase → Bool) → List Standing → Type 0
Pass f xs = (t : ℕ) (x : Standing) → thread_at xs t ≡ Some x → f x.thread.phase ≡ true

pass_more : (f : Phase → Bool) (y : Standing) (xs : List Standing) → f y.thread.phase ≡ true → Pass f xs → Pass f (y ∷ xs)
pass_more f y xs e h t x g = by (y.thread.number == t) g
  where
    by : (b : Bool) → (if b then Some y else thread_at xs t) ≡ Some x → f x.thread.phase ≡ true
    by true g = let same : y ≡ x = cc in ap (λ (z : Standing). f z.thread.phase) (sym same) ∙ e
    by false g = h t x g

server_passes : (f : Phase → Bool) (n : ℕ) (ys : List ThreadState) (xs : List Standing) → all_threads f ys ≡ true → Pass f xs → Pass f (at_server n ys ++ xs)
server_passes f n [] xs e h = h
server_passes f n (y ∷ ys) xs e h =
    pass_more f (record { server = n; packed = false; thread = y }) (at_server n ys ++ xs) (and_left (f y.phase) (all_threads f ys) e) (server_passes f n ys xs (and_right (f y.phase) (all_threads f ys) e) h)

-- in a quiet cluster whose threads pass the test
pub servers_pass : (f : Phase → Bool) (ss : List Server) → no_message ss ≡ true → all_in f ss ≡ true → Pass f (threads_in (servers_things ss))
servers_pass f [] quiet e = λ t x g. absurd (cc g)
servers_pass f (s ∷ ss) quiet e =
    let both : is_none s.rest.inbox && is_none s.rest.outbox ≡ true = and_left (is_none s.rest.inbox && is_none s.rest.outbox) (no_message ss) quiet in
    let here = server_threads s (servers_things ss) (and_left (is_none s.rest.inbox) (is_none s.rest.outbox) both) (and_right (is_none s.rest.inbox) (is_none s.rest.outbox) both) in
    subst (Pass f) (sym here)
    (server_passes f s.rest.number s.threads (threads_in (servers_things ss)) (and_left (all_threads f s.threads) (all_in f ss) e) (servers_pass f ss (and_right (is_none s.rest.inbox && is_none s.rest.outbox) (no_message ss) quiet) (and_right (all_threads f s.threads) (all_in f ss) e)))

-- THE LIST

-- it rises, and has under each number what the thread of that number waits for
record Lists (ws : List (ℕ × Wait)) (xs : List Standing) : Type 0 where
  rises : Rises 0 ws
  found : (t : ℕ) → under ws t ≡ standing_wait (thread_at xs t)

picked : (b : Bool) (x : Standing) (o : Option Standing) → (if b then wait_of x.thread.phase else standing_wait o) ≡ standing_wait (if b then Some x else o)
picked true x o = refl
picked false x o = refl

one_more : (ws : List (ℕ × Wait)) (x : Standing) (xs : List Standing) → Lists ws xs → thread_at xs x.thread.number ≡ None → Lists (add_wait x.thread.number (wait_of x.thread.phase) ws) (x ∷ xs)
one_more ws x xs h once =
    let free : under ws x.thread.number ≡ None = h.found x.thread.number ∙ ap standing_wait once in
    record {
      rises = added_rises x.thread.number (wait_of x.thread.phase) ws h.rises free;
      found = λ t.
          added_under x.thread.number (wait_of x.thread.phase) ws free t ∙ ap (λ o. if x.thread.number == t then wait_of x.thread.phase else o) (h.found t)
          ∙ picked (x.thread.number == t) x (thread_at xs t);
    }

server_lists : (n : ℕ) (ys : List ThreadState) (ws : List (ℕ × Wait)) (xs : List Standing) → Lists ws xs → IsOnce (at_server n ys ++ xs) → Lists (waits_among ys ws) (at_server n ys ++ xs)
server_lists n [] ws xs h once = h
server_lists n (y ∷ ys) ws xs h once = one_more (waits_among ys ws) (record { server = n; packed = false; thread = y }) (at_server n ys ++ xs) (server_lists n ys ws xs h once.1) once.0

servers_list : (ss : List Server) → no_message ss ≡ true → IsOnce (threads_in (servers_things ss)) → Lists (waits_in ss) (threads_in (servers_things ss))
servers_list [] quiet once = record { rises = tt; found = λ t. refl }
servers_list (s ∷ ss) quiet once =
    let both : is_none s.rest.inbox && is_none s.rest.outbox ≡ true = and_left (is_none s.rest.inbox && is_none s.rest.outbox) (no_message ss) quiet in
    let here = server_threads s (servers_things ss) (and_left (is_none s.rest.inbox) (is_none s.rest.outbox) both) (and_right (is_none s.rest.inbox) (is_none s.rest.outbox) both) in
    let all : IsOnce (at_server s.rest.number s.threads ++ threads_in (servers_things ss)) = subst IsOnce here once in
    subst (Lists (waits_in (s ∷ ss))) (sym here)
    (server_lists s.rest.number s.threads (waits_in ss) (threads_in (servers_things ss)) (servers_list ss (and_right (is_none s.rest.inbox && is_none s.rest.outbox) (no_message ss) quiet) (past (at_server s.rest.number s.threads) (threads_in (servers_things ss)) all)) all)

module _ (k : Cluster) (sound : IsSound k) (quiet : no_message k.servers ≡ true) where
  listed : Lists (waits k) (threads_in (things_of k))
  listed = servers_list k.servers quiet (each_once (things_of k) sound.names.numbers_differ)

  pub cluster_rises : Rises 0 (waits k)
  cluster_rises = listed.rises

  pub cluster_under : (t : ℕ) → under (waits k) t ≡ cluster_wait k t
  cluster_under t = listed.found t

-- WHERE NOBODY WAITS

added_none : (t : ℕ) (o : Option Wait) (ws : List (ℕ × Wait)) → add_wait t o ws ≡ [] → (o ≡ None) × (ws ≡ [])
added_none t None ws e = (refl, e)
added_none t (Some w) [] e = absurd (cc e)
added_none t (Some w) (x ∷ ws) e = by (nat_lt t x.0) e
  where
    by : (b : Bool) → (if b then (t, w) ∷ x ∷ ws else x ∷ add_wait t (Some w) ws) ≡ [] → (Some w ≡ None) × ((x ∷ ws) ≡ [])
    by true g = absurd (cc g)
    by false g = absurd (cc g)

stopped_over : (p : Phase) → wait_of p ≡ None → is_stopped p ≡ true → is_over p ≡ true
stopped_over p e h = by (is_over p) refl h
  where
    by : (b : Bool) → is_over p ≡ b → (b || is_some (wait_of p)) ≡ true → is_over p ≡ true
    by true q g = q
    by false q g = absurd (cc (sym (ap is_some e) ∙ g))

-- threads that are stopped, of which none waits, are over
threads_over : (ys : List ThreadState) (ws : List (ℕ × Wait)) → waits_among ys ws ≡ [] → all_threads is_stopped ys ≡ true → (all_threads is_over ys ≡ true) × (ws ≡ [])
threads_over [] ws e h = (refl, e)
threads_over (y ∷ ys) ws e h =
    let first = added_none y.number (wait_of y.phase) (waits_among ys ws) e in
    let rest = threads_over ys ws first.1 (and_right (is_stopped y.phase) (all_threads is_stopped ys) h) in
    (ap (λ b. b && all_threads is_over ys) (stopped_over y.phase first.0 (and_left (is_stopped y.phase) (all_threads is_stopped ys) h)) ∙ rest.0, rest.1)

servers_over : (ss : List Server) → waits_in ss ≡ [] → all_in is_stopped ss ≡ true → all_in is_over ss ≡ true
servers_over [] e h = refl
servers_over (s ∷ ss) e h =
    let here = threads_over s.threads (waits_in ss) e (and_left (all_threads is_stopped s.threads) (all_in is_stopped ss) h) in
    ap (λ b. b && all_in is_over ss) here.0 ∙ servers_over ss here.1 (and_right (all_threads is_stopped s.threads) (all_in is_stopped ss) h)

-- a quiet cluster whose threads are stopped, of which none waits, is over
pub cluster_over : (k : Cluster) → IsSound k → no_message k.servers ≡ true → all_in is_stopped k.servers ≡ true → ((t : ℕ) → cluster_wait k t ≡ None) → all_in is_over k.servers ≡ true
cluster_over k sound quiet stopped none = servers_over k.servers (same_rising 0 (waits k) [] (cluster_rises k sound quiet) tt (λ t. cluster_under k sound quiet t ∙ none t)) stopped
