-- In a sound cluster the deliveries of a `lock`, of an `unlock` and of the `release` of a mutex have results: the mutex is there, without its content where that
-- comes back, and with a share where one was dropped.
use Rattle.std.proofs.Common.{◌≡◌, ℕ, zero, suc, ◌+◌, ◌≤◌, ◌<◌, ◌==◌, ◌&&◌, nat_lt, Bool, true, false, if◌then◌else◌, List, [], ◌∷◌, Option, Some, None, IsSome, refl, sym, ap, subst, ◌∙◌, arith}
use Rattle.std.specs.Prelude.{slice_get}
use Rattle.std.proofs.lemmas.Bool.{eqb-true}
use Rattle.std.proofs.lemmas.Bool.Decides.{nat_tests}
use Rattle.coherent_memory.proofs.Below.fr_typing.PlaceLemmas.{eq_cases}
use Rattle.coherent_memory.specs.Below.fr_base.Names.{same_mutex}
use Rattle.coherent_memory.specs.Below.fr_base.declared.name.MutexNo.{MutexNo}
use Rattle.coherent_memory.specs.Below.fr_base.declared.release.Released.TheVariants as released
use Rattle.coherent_memory.specs.Below.heap_partition.declared.value.Owned.{Owned}
use Rattle.coherent_memory.specs.Below.mutex_home.Mutexes.{Mutex, Mutexes, mutex_in, asked_in, back_out, back_in, less_in}
use Rattle.coherent_memory.specs.Below.join_home.Tasks.{Task}
use Rattle.coherent_memory.specs.Below.thread_state.View.{ThreadState}
use Rattle.coherent_memory.specs.Below.server_msgs.declared.message.Message.{Message}
use Rattle.coherent_memory.specs.Below.server_msgs.declared.message.Message.TheVariants as message
use Rattle.coherent_memory.specs.Below.server_model.Servers.{Server, Cluster, server_at}
use Rattle.coherent_memory.specs.Names.{tot, one, other, some, if_so}
use Rattle.coherent_memory.specs.Things.{Thing, sent, at_home, things_at, content_things, queue_things, mutex_things, task_things, standing_things, thread_things, waiting_things, leaving_things, message_things, server_things, things_of}
use Rattle.coherent_memory.specs.Sight.{sight}
use Rattle.coherent_memory.specs.Weights.{is_home_of, shares_of, shares_at_home}
use Rattle.coherent_memory.specs.Sharing.{elsewhere, contents, there_at, mutexes}
use Rattle.coherent_memory.specs.Requests.{misrouted}
use Rattle.coherent_memory.specs.Naming.{rising, rising_from, numbers_of, servers_wrong, pinned_parcel}
use Rattle.coherent_memory.specs.Walking.{sum_threads}
use Rattle.coherent_memory.specs.Coherent.{IsSound}
use Rattle.coherent_memory.proofs.Names.{and_right, same_mutexes}
use Rattle.coherent_memory.proofs.Sums.{tot-append, server_parts}
use Rattle.law_counts_sums.specs.Laws.{MutexesHaveResults}
use Rattle.law_counts_sums.proofs.Trades.{tot-front, tot-remove}
use Rattle.law_counts_sums.proofs.Events.{tot-server}
use Rattle.law_counts_sums.proofs.Unseen.{Unseen, none_at, thread_alone, content_none, result_none, partition_none, copies_none}
use Rattle.law_counts_sums.proofs.MutexLists.{found_number, mutex_goes}
use Rattle.law_counts_sums.proofs.Askers.{other_none}
use Rattle.law_counts_sums.proofs.Elsewhere.{here_alone}
use Rattle.law_counts_sums.proofs.HaveResults.{some_map, arrives}
use Rattle.law_counts_sums.proofs.NotesFound.{below}

pub mutex_self : (m : MutexNo) → same_mutex m m ≡ true
mutex_self m = eq_cases (λ b. b && (m.count == m.count) ≡ true) m.home m.home (λ e. eq_cases (λ b. true && b ≡ true) m.count m.count (λ d. refl) (λ ne. absurd (ne refl))) (λ ne. absurd (ne refl))

if_false : (b : Bool) (m : ℕ) → b ≡ false → if_so b m ≡ 0
if_false true m e = absurd (cc e)
if_false false m e = refl

if_true : (b : Bool) (m : ℕ) → b ≡ true → if_so b m ≡ m
if_true true m e = refl
if_true false m e = absurd (cc e)

-- a weight of the mutexes of that number, and the same at server n
module _ (m : MutexNo) (n : ℕ) (h : Mutex → ℕ) where
  abbrev pub weighed : Thing → ℕ
  weighed (at_home r x) = if_so (same_mutex x.number m) (h x)
  weighed x = 0

  abbrev pub here : Thing → ℕ
  here (at_home r x) = if_so (r == n) (if_so (same_mutex x.number m) (h x))
  here x = 0

  unseen : (r : ℕ) → Unseen here r
  unseen r = record { held = λ p v. refl; shared = λ l q. refl; borrowed = λ l q. refl; locked = λ l x. refl; live = λ a c. refl; free = λ a x. refl; old = λ a. refl; copy = λ s c. refl; used = λ s w. refl }

  -- OF A SERVER THE MUTEXES

  thread_none : (r : ℕ) (p : Bool) (x : ThreadState) → tot here (thread_things r p x) ≡ 0
  thread_none r p x = thread_alone here r (unseen r) r p x

  message_none : (r : ℕ) (x : Message) → tot here (message_things r x) ≡ 0
  message_none r (message.Start x) = omega (arith, thread_none r true x)
  message_none r (message.Migrate x) = omega (arith, thread_none r true x)
  message_none r _ = refl

  task_none : (r i : ℕ) (x : Task) → tot here (task_things r i x) ≡ 0
  task_none r i x = omega (arith, result_none here r (unseen r) x.thread x.state)

  queue_none : (x : MutexNo) (i : ℕ) (q : List (ℕ × ℕ)) → tot here (things_at (queue_things x) i q) ≡ 0
  queue_none x i [] = refl
  queue_none x i (a ∷ q) = omega (arith, queue_none x (i + 1) q)

  mutex_seen : (r i : ℕ) (x : Mutex) → tot here (mutex_things r i x) ≡ if_so (r == n) (if_so (same_mutex x.number m) (h x))
  mutex_seen r i x = omega (arith, content_none here r (unseen r) x, queue_none x.number 0 x.queue, tot-append here (content_things x.number x.content) (things_at (queue_things x.number) 0 x.queue))

  mutexes_alone : (s : Server) → tot here (server_things s) ≡ tot here (things_at (mutex_things s.rest.number) 0 s.rest.mutexes.there)
  mutexes_alone s =
      let r = s.rest.number in
      omega (
        arith,
        server_parts here s,
        partition_none here r (unseen r) s.rest.partition,
        copies_none here r (unseen r) r s.rest.cache,
        none_at here r (unseen r) (task_things r) (task_none r) 0 s.rest.tasks,
        none_at here r (unseen r) (standing_things r) (λ i x. thread_none r false x) 0 s.threads,
        none_at here r (unseen r) (waiting_things r) (λ i x. message_none r x) 0 s.rest.inbox,
        none_at here r (unseen r) leaving_things (λ i x. message_none x.target x.message) 0 s.rest.outbox,
      )

  pub no_server : (s : Server) → (s.rest.number == n) ≡ false → tot here (server_things s) ≡ 0
  no_server s e =
      let r = s.rest.number in
      omega (arith, mutexes_alone s, none_at here r (unseen r) (mutex_things r) (λ i x. omega (arith, mutex_seen r i x, if_false (r == n) (if_so (same_mutex x.number m) (h x)) e)) 0 s.rest.mutexes.there)

  -- AT HOME

  at_its_home : m.home ≡ n → (x : Thing) → elsewhere x ≡ 0 → weighed x ≡ here x
  at_its_home home (at_home r x) z = by (same_mutex x.number m) refl
    where
      there : (b : Bool) → (x.number.home == r) ≡ b → other b ≡ 0 → x.number.home ≡ r
      there true e z = eqb-true x.number.home r e
      there false e z = absurd (cc z)

      by : (b : Bool) → same_mutex x.number m ≡ b → if_so b (h x) ≡ if_so (r == n) (if_so b (h x))
      by true e =
          let same : x.number.home ≡ m.home = ap (λ (k : MutexNo). k.home) (same_mutexes x.number m e) in
          let r_is : r ≡ n = sym (there (x.number.home == r) refl z) ∙ same ∙ home in
          eq_cases (λ c. h x ≡ if_so c (h x)) r n (λ d. refl) (λ ne. absurd (ne r_is))
      by false e = eq_cases (λ c. 0 ≡ if_so c 0) r n (λ d. refl) (λ ne. refl)
  at_its_home home _ z = refl

  pub all_at_home : m.home ≡ n → (b : List Thing) → tot elsewhere b ≡ 0 → tot weighed b ≡ tot here b
  all_at_home home [] z = refl
  all_at_home home (x ∷ b) z = omega (arith, at_its_home home x (omega (arith, z)), all_at_home home b (omega (arith, z)))

  -- IN A LIST BY RISING NUMBER

  front : (r : ℕ) (x : Mutex) (xs : List Mutex) → tot here (things_at (mutex_things r) 0 (x ∷ xs)) ≡ if_so (r == n) (if_so (same_mutex x.number m) (h x)) + tot here (things_at (mutex_things r) 0 xs)
  front r x xs = omega (arith, tot-front (mutex_things r 0) here 0 x xs, mutex_seen r 0 x)

  inner_none : (b c : Bool) (v : ℕ) → c ≡ false → if_so b (if_so c v) ≡ 0
  inner_none true true v e = absurd (cc e)
  inner_none true false v e = refl
  inner_none false c v e = refl

  other_number : (x : Mutex) → m.count < x.number.count → same_mutex x.number m ≡ false
  other_number x l = by (same_mutex x.number m) refl
    where
      by : (b : Bool) → same_mutex x.number m ≡ b → b ≡ false
      by true e = let same : x.number.count ≡ m.count = ap (λ (k : MutexNo). k.count) (same_mutexes x.number m e) in absurd (omega (arith, same, l))
      by false e = refl

  none_later : (r c : ℕ) (xs : List Mutex) → m.count ≤ c → rising_from c (numbers_of (λ x. x.number.count) xs) ≡ 0 → tot here (things_at (mutex_things r) 0 xs) ≡ 0
  none_later r c [] l z = refl
  none_later r c (x ∷ xs) l z =
      let first : c < x.number.count = below c x.number.count (omega (arith, z)) in
      omega (arith, front r x xs, inner_none (r == n) (same_mutex x.number m) (h x) (other_number x (omega (arith, first, l))), none_later r x.number.count xs (omega (arith, l, first)) (omega (arith, z)))

  -- what the found one weighs
  abbrev pub Weight : Option Mutex → ℕ
  Weight None = 0
  Weight (Some x) = h x

  step : (r : ℕ) (x : Mutex) (xs : List Mutex) → r ≡ n → rising_from x.number.count (numbers_of (λ y. y.number.count) xs) ≡ 0 → tot here (things_at (mutex_things r) 0 xs) ≡ Weight (mutex_in xs m)
      → tot here (things_at (mutex_things r) 0 (x ∷ xs)) ≡ Weight (mutex_in (x ∷ xs) m)
  step r x xs same z go = by (same_mutex x.number m) refl
    where
      self : (w : ℕ) → if_so (r == n) w ≡ w
      self w = eq_cases (λ b. if_so b w ≡ w) r n (λ e. refl) (λ ne. absurd (ne same))

      by : (b : Bool) → same_mutex x.number m ≡ b → tot here (things_at (mutex_things r) 0 (x ∷ xs)) ≡ Weight (if b then Some x else mutex_in xs m)
      by true e =
          let count : x.number.count ≡ m.count = ap (λ (k : MutexNo). k.count) (same_mutexes x.number m e) in
          omega (arith, front r x xs, self (if_so (same_mutex x.number m) (h x)), if_true (same_mutex x.number m) (h x) e, none_later r x.number.count xs (omega (arith, count)) z)
      by false e = omega (arith, front r x xs, inner_none (r == n) (same_mutex x.number m) (h x) e, go)

  found_in : (r : ℕ) (x : Mutex) (xs : List Mutex) → r ≡ n → rising_from x.number.count (numbers_of (λ y. y.number.count) xs) ≡ 0 → tot here (things_at (mutex_things r) 0 (x ∷ xs)) ≡ Weight (mutex_in (x ∷ xs) m)
  found_in r x [] same z = step r x [] same z refl
  found_in r x (y ∷ ys) same z = step r x (y ∷ ys) same z (found_in r y ys same (omega (arith, z)))

  found : (r : ℕ) (xs : List Mutex) → r ≡ n → rising (numbers_of (λ y. y.number.count) xs) ≡ 0 → tot here (things_at (mutex_things r) 0 xs) ≡ Weight (mutex_in xs m)
  found r [] same z = refl
  found r (x ∷ xs) same z = found_in r x xs same z

-- the mutexes of a server stand by rising number
mutexes_rise : (q : Rattle.coherent_memory.specs.Sight.Sight) (i n : ℕ) (ss : List Server) (s : Server) → servers_wrong q i ss ≡ 0 → server_at ss n ≡ Some s → rising (numbers_of (λ x. x.number.count) s.rest.mutexes.there) ≡ 0
mutexes_rise q i n [] s z h = absurd (cc h)
mutexes_rise q i n (x ∷ ss) s z h =
    eq_cases (λ b. (if b then Some x else server_at ss n) ≡ Some s → rising (numbers_of (λ y. y.number.count) s.rest.mutexes.there) ≡ 0) x.rest.number n
    (λ e d. let same : x ≡ s = cc in subst (λ (y : Server). rising (numbers_of (λ w. w.number.count) y.rest.mutexes.there) ≡ 0) same (omega (arith, z)))
    (λ ne d. mutexes_rise q (i + 1) n ss s (omega (arith, z)) d) h

-- IN A SOUND CLUSTER

module _ (k : Cluster) (sound : IsSound k) (number : ℕ) (s : Server) (at : server_at k.servers number ≡ Some s) where
  abbrev n : ℕ
  n = s.rest.number

  -- a mutex of this home weighs everywhere what the one that is found here does
  pub mutex_weighs : (m : MutexNo) (h : Mutex → ℕ) → m.home ≡ n → tot (weighed m n h) (things_of k) ≡ Weight m n h (mutex_in s.rest.mutexes.there m)
  mutex_weighs m h home =
      let away : tot elsewhere (things_of k) ≡ 0 = sound.mutexes_and_tasks.at_their_home in
      let parts : servers_wrong (sight k) 0 k.servers + sum_threads (sight k) pinned_parcel ≡ 0 = sound.parts.parts_are_typed in
      omega (arith, all_at_home m n h home (things_of k) away, here_alone k sound number s at (here m n h) (no_server m n h), mutexes_alone m n h s, found m n h n s.rest.mutexes.there refl (mutexes_rise (sight k) 0 number k.servers s (omega (arith, parts)) at))

  module _ (i : ℕ) (x : Message) (q : slice_get s.rest.inbox i ≡ Some x) where
    pub has : (g : Thing → ℕ) → tot g (message_things n x) ≤ tot g (things_of k)
    has g = omega (arith, (tot-server g k.servers number s s at).0, server_parts g s, tot-remove (λ y. message_things n y) g 0 s.rest.inbox i x q)

    pub home : (m : MutexNo) → misrouted (sight k) (sent n x) ≡ other (nat_lt n k.options.servers && (m.home == n)) → m.home ≡ n
    home m e =
        let all : tot (misrouted (sight k)) (things_of k) ≡ 0 = sound.requests.go_right in
        let mine : misrouted (sight k) (sent n x) ≡ 0 = omega (arith, all, has (misrouted (sight k))) in
        eqb-true m.home n (and_right (nat_lt n k.options.servers) (m.home == n) (other_none _ (omega (arith, e, mine))))

  -- A CONTENT IS ASKED FOR

  there_once : (r : ℕ) (m : MutexNo) (b : List Thing) → tot (there_at r m) b ≤ tot (weighed m n (λ x. 1)) b
  there_once r m [] = omega arith
  there_once r m (x ∷ b) = omega (arith, by x, there_once r m b)
    where
      at_most : (c d : Bool) → one (c && d) ≤ if_so d 1
      at_most true true = omega arith
      at_most true false = omega arith
      at_most false true = omega arith
      at_most false false = omega arith

      by : (x : Thing) → there_at r m x ≤ weighed m n (λ y. 1) x
      by (at_home p y) = at_most (p == r) (same_mutex y.number m)
      by _ = omega arith

  asked_some : (ms : Mutexes) (a t : ℕ) (m : MutexNo) (o : Option Mutex) → 1 ≤ Weight m n (λ y. 1) o → IsSome (asked_in ms a t o)
  asked_some ms a t m None l = absurd (omega (arith, l))
  asked_some ms a t m (Some y) l = refl

  some_more : (c : ℕ) → some c ≡ true → 1 ≤ c
  some_more c e = by c e
    where
      by : (c : ℕ) → some c ≡ true → 1 ≤ c
      by zero e = absurd (cc e)
      by (suc c) e = omega arith

  locked_some : (i : ℕ) (m : MutexNo) (a t : ℕ) → slice_get s.rest.inbox i ≡ Some (message.Lock m a t) → IsSome (asked_in s.rest.mutexes a t (mutex_in s.rest.mutexes.there m))
  locked_some i m a t q =
      let x = message.Lock m a t in
      let g = mutexes (λ y. other (some (tot (there_at y.home y) (things_of k)))) in
      let all : tot g (things_of k) ≡ 0 = sound.mutexes_and_tasks.named_are_there in
      let mine : other (some (tot (there_at m.home m) (things_of k))) ≡ 0 = omega (arith, all, has i x q g) in
      asked_some s.rest.mutexes a t m (mutex_in s.rest.mutexes.there m)
      (omega (arith, some_more (tot (there_at m.home m) (things_of k)) (other_none _ mine), there_once m.home m (things_of k), mutex_weighs m (λ y. 1) (home i x q m refl)))

  -- A SHARE LESS

  pub same_shares : (m : MutexNo) (b : List Thing) → tot (shares_at_home m) b ≡ tot (weighed m n (λ x. x.shares)) b
  same_shares m [] = refl
  same_shares m (x ∷ b) = omega (arith, by x, same_shares m b)
    where
      by : (x : Thing) → shares_at_home m x ≡ weighed m n (λ y. y.shares) x
      by (at_home r y) = refl
      by _ = refl

  pub some_share : (o : Option Mutex) (m : MutexNo) → 1 ≤ Weight m n (λ x. x.shares) o → (y : Mutex) × (o ≡ Some y) × (nat_lt 0 y.shares ≡ true)
  some_share None m l = absurd (omega (arith, l))
  some_share (Some y) m l = (y, refl, grind (arith, nat_tests, l))

  less_some : (ms : Mutexes) (o : Option Mutex) (y : Mutex) → o ≡ Some y → nat_lt 0 y.shares ≡ true → IsSome (less_in ms o)
  less_some ms o y e l = subst (λ z. IsSome (less_in ms z)) (sym e) (some_if (nat_lt 0 y.shares) l)
    where
      some_if : (b : Bool) → b ≡ true → IsSome (if b then Some (Rattle.coherent_memory.specs.Below.mutex_home.Mutexes.less_of ms y) else None)
      some_if true e = refl
      some_if false e = absurd (cc e)

  released_some : (i : ℕ) (m : MutexNo) → slice_get s.rest.inbox i ≡ Some (message.Release (released.Mutex m)) → IsSome (less_in s.rest.mutexes (mutex_in s.rest.mutexes.there m))
  released_some i m q =
      let x = message.Release (released.Mutex m) in
      let share : shares_of m (sent n x) ≡ 1 = ap one (mutex_self m) in
      let l = has i x q (shares_of m) in
      let it = some_share (mutex_in s.rest.mutexes.there m) m (omega (arith, l, share, sound.mutexes_and_tasks.shares_counted m, same_shares m (things_of k), mutex_weighs m (λ y. y.shares) (home i x q m refl))) in
      less_some s.rest.mutexes (mutex_in s.rest.mutexes.there m) it.0 it.1 it.2

  -- A CONTENT COMES BACK

  same_homes : (m : MutexNo) (b : List Thing) → tot (is_home_of m) b ≡ tot (weighed m n (λ x. 1)) b
  same_homes m [] = refl
  same_homes m (x ∷ b) = omega (arith, by x, same_homes m b)
    where
      as_one : (b : Bool) → one b ≡ if_so b 1
      as_one true = refl
      as_one false = refl

      by : (x : Thing) → is_home_of m x ≡ weighed m n (λ y. 1) x
      by (at_home r y) = as_one (same_mutex y.number m)
      by _ = refl

  unlocked_some : (i : ℕ) (m : MutexNo) (v : Owned) → slice_get s.rest.inbox i ≡ Some (message.Unlock m v) → IsSome (back_in s.rest.mutexes v (mutex_in s.rest.mutexes.there m))
  unlocked_some i m v q = by (mutex_in s.rest.mutexes.there m) refl
    where
      x : Message
      x = message.Unlock m v

      f : Thing → ℕ
      f = contents (sight k) m

      carried : tot (contents (sight k) m) (message_things n (message.Unlock m v)) ≡ 1
      carried = let w : one (same_mutex m m) ≡ 1 = ap one (mutex_self m) in omega (arith, w)

      homes : tot (contents (sight k) m) (things_of k) ≡ Weight m n (λ y. 1) (mutex_in s.rest.mutexes.there m)
      homes = omega (arith, sound.mutexes_and_tasks.one_content m, same_homes m (things_of k), mutex_weighs m (λ y. 1) (home i (message.Unlock m v) q m refl))

      content : (y : Mutex) → mutex_in s.rest.mutexes.there m ≡ Some y → (c : Option Owned) → y.content ≡ c → IsSome (back_out s.rest.mutexes v y c)
      content y e None h = refl
      content y e (Some u) h =
          let g = contents (sight k) m in
          let few : tot g (things_of k) ≡ 1 = homes ∙ ap (Weight m n (λ z. 1)) e in
          let number_is : y.number ≡ m = found_number s.rest.mutexes.there m y e in
          let inside : tot g (content_things y.number y.content) ≡ tot g (content_things m (Some u)) = ap (λ c. tot g (content_things y.number c)) h ∙ ap (λ a. tot g (content_things a (Some u))) number_is in
          let weighs : one (same_mutex m m) ≡ 1 = ap one (mutex_self m) in
          let t = mutex_goes n s.rest.mutexes.there m y e in
          absurd (omega (
            arith,
            few,
            (tot-server g k.servers number s s at).0,
            server_parts g s,
            tot-remove (λ z. message_things n z) g 0 s.rest.inbox i (message.Unlock m v) q,
            carried,
            t.before g,
            tot-append g (content_things y.number y.content) (things_at (queue_things y.number) 0 y.queue),
            inside,
            weighs,
          ))

      by : (o : Option Mutex) → mutex_in s.rest.mutexes.there m ≡ o → IsSome (back_in s.rest.mutexes v o)
      by None e =
          let none : tot (contents (sight k) m) (things_of k) ≡ 0 = homes ∙ ap (Weight m n (λ z. 1)) e in
          absurd (omega (arith, none, has i (message.Unlock m v) q (contents (sight k) m), carried))
      by (Some y) e = content y e y.content refl

pub mutexes_have_results : MutexesHaveResults
mutexes_have_results = record {
  locks = λ k number i s m a t sound here on q. arrives k number i s (message.Lock m a t) here on q (some_map _ _ (some_map _ _ (locked_some k sound number s here i m a t q)));
  unlocks = λ k number i s m v sound here on q. arrives k number i s (message.Unlock m v) here on q (some_map _ _ (some_map _ _ (unlocked_some k sound number s here i m v q)));
  releases = λ k number i s m sound here on q. arrives k number i s (message.Release (released.Mutex m)) here on q (some_map _ _ (some_map _ _ (released_some k sound number s here i m q)));
}
