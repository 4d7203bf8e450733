-- A mutex has one home: mutexes are at the servers that their numbers name, and stand there by rising number.
use Rattle.std.proofs.Common.{◌≡◌, ℕ, ◌+◌, ◌≤◌, ◌<◌, ◌==◌, Bool, true, false, List, [], ◌∷◌, refl, ap, arith}
use Rattle.std.proofs.lemmas.Bool.Decides.{nat_tests}
use Rattle.law_heap_still.specs.Below.fr_base.Names.{same_mutex}
use Rattle.law_heap_still.specs.Below.fr_base.declared.name.MutexNo.{MutexNo}
use Rattle.law_heap_still.specs.Below.mutex_home.Mutexes.{Mutex}
use Rattle.law_heap_still.specs.Below.join_home.Tasks.{Task}
use Rattle.law_heap_still.specs.Below.thread_state.View.{ThreadState}
use Rattle.law_heap_still.specs.Below.server_msgs.declared.message.Message.{Message}
use Rattle.law_heap_still.specs.Below.server_msgs.declared.message.Message.TheVariants as message
use Rattle.law_heap_still.specs.Below.server_model.Servers.{Server, Cluster}
use Rattle.law_heap_still.specs.Below.coherent_memory.Names.{tot, one, other, if_so}
use Rattle.law_heap_still.specs.Below.coherent_memory.Things.{Thing, at_home, things_at, content_things, queue_things, mutex_things, task_things, standing_things, thread_things, waiting_things, leaving_things, message_things, server_things, servers_things, things_of}
use Rattle.law_heap_still.specs.Below.coherent_memory.Sight.{Sight, sight}
use Rattle.law_heap_still.specs.Below.coherent_memory.Weights.{is_home_of}
use Rattle.law_heap_still.specs.Below.coherent_memory.Sharing.{elsewhere}
use Rattle.law_heap_still.specs.Below.coherent_memory.Naming.{rising, rising_from, numbers_of, servers_wrong, pinned_parcel}
use Rattle.law_heap_still.specs.Below.coherent_memory.Walking.{sum_threads}
use Rattle.law_heap_still.proofs.Below.coherent_memory.Names.{same_mutexes}
use Rattle.law_heap_still.proofs.Below.coherent_memory.Sums.{tot-append, server_parts}
use Rattle.law_heap_still.proofs.Below.law_counts_sums.Trades.{tot-front}
use Rattle.law_heap_still.proofs.Below.law_counts_sums.Unseen.{Unseen, none_at, thread_alone, content_none, result_none, partition_none, copies_none}
use Rattle.law_heap_still.proofs.Below.law_counts_sums.MutexResults.{weighed, here, all_at_home, no_server}
use Rattle.law_heap_still.proofs.Below.law_counts_sums.NotesFound.{below}
use Rattle.law_heap_still.proofs.events.Told.{at_most, ones}
use Rattle.law_types_still.specs.fits.Fits.{StandsOnce}

module _ (m : MutexNo) where
  -- those of that number at its home
  abbrev its : Thing → ℕ
  its = here m m.home ones

  unseen : (r : ℕ) → Unseen its r
  unseen r = record { held = λ p v. refl; shared = λ l q. refl; borrowed = λ l q. refl; locked = λ l x. refl; live = λ a c. refl; free = λ a x. refl; old = λ a. refl; copy = λ s c. refl; used = λ s w. refl }

  -- OF A SERVER

  thread_none : (r : ℕ) (p : Bool) (x : ThreadState) → tot its (thread_things r p x) ≡ 0
  thread_none r p x = thread_alone its r (unseen r) r p x

  message_none : (r : ℕ) (x : Message) → tot its (message_things r x) ≡ 0
  message_none r (message.Start x) = omega (arith, thread_none r true x)
  message_none r (message.Migrate x) = omega (arith, thread_none r true x)
  message_none r _ = refl

  task_none : (r i : ℕ) (x : Task) → tot its (task_things r i x) ≡ 0
  task_none r i x = omega (arith, result_none its r (unseen r) x.thread x.state)

  queue_none : (x : MutexNo) (i : ℕ) (q : List (ℕ × ℕ)) → tot its (things_at (queue_things x) i q) ≡ 0
  queue_none x i [] = refl
  queue_none x i (a ∷ q) = omega (arith, queue_none x (i + 1) q)

  mutex_seen : (r i : ℕ) (x : Mutex) → tot its (mutex_things r i x) ≡ if_so (r == m.home) (if_so (same_mutex x.number m) 1)
  mutex_seen r i x = omega (arith, content_none its r (unseen r) x, queue_none x.number 0 x.queue, tot-append its (content_things x.number x.content) (things_at (queue_things x.number) 0 x.queue))

  mutexes_alone : (s : Server) → tot its (server_things s) ≡ tot its (things_at (mutex_things s.rest.number) 0 s.rest.mutexes.there)
  mutexes_alone s =
      let r = s.rest.number in
      omega (
        arith,
        server_parts its s,
        partition_none its r (unseen r) s.rest.partition,
        copies_none its r (unseen r) r s.rest.cache,
        none_at its r (unseen r) (task_things r) (task_none r) 0 s.rest.tasks,
        none_at its r (unseen r) (standing_things r) (λ i x. thread_none r false x) 0 s.threads,
        none_at its r (unseen r) (waiting_things r) (λ i x. message_none r x) 0 s.rest.inbox,
        none_at its r (unseen r) leaving_things (λ i x. message_none x.target x.message) 0 s.rest.outbox,
      )

  -- BY RISING NUMBER

  abbrev count_of : Mutex → ℕ
  count_of x = x.number.count

  front : (r : ℕ) (x : Mutex) (xs : List Mutex) → tot its (things_at (mutex_things r) 0 (x ∷ xs)) ≡ if_so (r == m.home) (if_so (same_mutex x.number m) 1) + tot its (things_at (mutex_things r) 0 xs)
  front r x xs = omega (arith, tot-front (mutex_things r 0) its 0 x xs, mutex_seen r 0 x)

  inner_none : (b c : Bool) → c ≡ false → if_so b (if_so c 1) ≡ 0
  inner_none true true e = absurd (cc e)
  inner_none true false e = refl
  inner_none false c e = refl

  inner_one : (b c : Bool) → if_so b (if_so c 1) ≤ 1
  inner_one true true = omega arith
  inner_one true false = omega arith
  inner_one false c = omega arith

  other_number : (x : Mutex) → m.count < x.number.count → same_mutex x.number m ≡ false
  other_number x l = by (same_mutex x.number m) refl
    where
      by : (b : Bool) → same_mutex x.number m ≡ b → b ≡ false
      by true e = let same : x.number.count ≡ m.count = ap (λ (k : MutexNo). k.count) (same_mutexes x.number m e) in absurd (omega (arith, same, l))
      by false e = refl

  none_later : (r c : ℕ) (xs : List Mutex) → m.count ≤ c → rising_from c (numbers_of count_of xs) ≡ 0 → tot its (things_at (mutex_things r) 0 xs) ≡ 0
  none_later r c [] l z = refl
  none_later r c (x ∷ xs) l z =
      let first : c < x.number.count = below c x.number.count (omega (arith, z)) in
      omega (arith, front r x xs, inner_none (r == m.home) (same_mutex x.number m) (other_number x (omega (arith, first, l))), none_later r x.number.count xs (omega (arith, l, first)) (omega (arith, z)))

  once_from : (r : ℕ) (x : Mutex) (xs : List Mutex) → (rising (numbers_of count_of xs) ≡ 0 → tot its (things_at (mutex_things r) 0 xs) ≤ 1) → rising (numbers_of count_of xs) ≡ 0 → rising_from x.number.count (numbers_of count_of xs) ≡ 0 → tot its (things_at (mutex_things r) 0 (x ∷ xs)) ≤ 1
  once_from r x xs go rest z = by (same_mutex x.number m) refl
    where
      by : (b : Bool) → same_mutex x.number m ≡ b → tot its (things_at (mutex_things r) 0 (x ∷ xs)) ≤ 1
      by true e =
          let count : x.number.count ≡ m.count = ap (λ (k : MutexNo). k.count) (same_mutexes x.number m e) in
          omega (arith, front r x xs, inner_one (r == m.home) (same_mutex x.number m), none_later r x.number.count xs (omega (arith, count)) z)
      by false e = omega (arith, front r x xs, inner_none (r == m.home) (same_mutex x.number m) e, go rest)

  rise_from : (c : ℕ) (ns : List ℕ) → rising_from c ns ≡ 0 → rising ns ≡ 0
  rise_from c [] z = refl
  rise_from c (n ∷ ns) z = omega (arith, z)

  one_in : (r : ℕ) (xs : List Mutex) → rising (numbers_of count_of xs) ≡ 0 → tot its (things_at (mutex_things r) 0 xs) ≤ 1
  one_in r [] z = omega arith
  one_in r (x ∷ xs) z = once_from r x xs (one_in r xs) (rise_from x.number.count (numbers_of count_of xs) z) z

  -- OF ALL SERVERS

  is_true : (b : Bool) → other b ≡ 0 → b ≡ true
  is_true true e = refl
  is_true false e = absurd (cc e)

  in_servers : (q : Sight) (i : ℕ) (ss : List Server) → servers_wrong q i ss ≡ 0 → (tot its (servers_things ss) ≤ 1) × (m.home < i → tot its (servers_things ss) ≡ 0)
  in_servers q i [] z = (omega arith, λ l. refl)
  in_servers q i (s ∷ ss) z = by (s.rest.number == m.home) refl (is_true (s.rest.number == i) (omega (arith, z))) (in_servers q (i + 1) ss (omega (arith, z)))
    where
      by : (b : Bool) → (s.rest.number == m.home) ≡ b → (s.rest.number == i) ≡ true → (tot its (servers_things ss) ≤ 1) × (m.home < i + 1 → tot its (servers_things ss) ≡ 0) → (tot its (servers_things (s ∷ ss)) ≤ 1) × (m.home < i → tot its (servers_things (s ∷ ss)) ≡ 0)
      by true e h go =
          let mine : s.rest.number ≡ m.home = grind (arith, nat_tests, e) in
          let there : s.rest.number ≡ i = grind (arith, nat_tests, h) in
          let few = one_in s.rest.number s.rest.mutexes.there (omega (arith, z)) in
          let later = go.1 (omega (arith, mine, there)) in
          (omega (arith, few, mutexes_alone s, later, tot-append its (server_things s) (servers_things ss)), λ l. absurd (omega (arith, l, mine, there)))
      by false e h go =
          let none = no_server m m.home ones s e in
          (omega (arith, none, go.0, tot-append its (server_things s) (servers_things ss)), λ l. (let later = go.1 (omega (arith, l)) in omega (arith, none, later, tot-append its (server_things s) (servers_things ss))))

  as_weighed : (x : Thing) → is_home_of m x ≤ weighed m m.home ones x
  as_weighed (at_home r y) = by (same_mutex y.number m)
    where
      by : (q : Bool) → one q ≤ if_so q 1
      by true = omega arith
      by false = omega arith
  as_weighed _ = omega arith

-- it is noted once
pub few_homes : (k : Cluster) → StandsOnce k → (m : MutexNo) → tot (is_home_of m) (things_of k) ≤ 1
few_homes k c m =
    let away : tot elsewhere (things_of k) ≡ 0 = c.at_their_home in
    let parts : servers_wrong (sight k) 0 k.servers + sum_threads (sight k) pinned_parcel ≡ 0 = c.parts_are_typed in
    omega (arith, at_most (is_home_of m) (weighed m m.home ones) (as_weighed m) (things_of k), all_at_home m m.home ones refl (things_of k) away, (in_servers m (sight k) 0 k.servers (omega (arith, parts))).0)
