-- What is retired at a server, as a sum over a cluster: nothing elsewhere has an address of it.
use Rattle.std.proofs.Common.{◌≡◌, ◌≤◌, ℕ, ◌+◌, ◌==◌, ◌&&◌, Bool, true, false, nat_lt, List, [], ◌∷◌, length, Some, refl, ap, arith}
use Rattle.std.proofs.lemmas.Bool.{eq-eqb}
use Rattle.law_counts_limits.proofs.Below.fr_typing.PlaceLemmas.{eq_cases}
use Rattle.law_counts_limits.specs.Below.mutex_home.Mutexes.{Mutex}
use Rattle.law_counts_limits.specs.Below.server_msgs.declared.message.Message.{Message}
use Rattle.law_counts_limits.specs.Below.server_msgs.declared.message.Message.TheVariants as message
use Rattle.law_counts_limits.specs.Below.server_model.Servers.{Server, server_at}
use Rattle.law_counts_limits.specs.Below.coherent_memory.Names.{tot, one}
use Rattle.law_counts_limits.specs.Below.coherent_memory.Things.{Thing, counts, things_at, content_things, queue_things, mutex_things, task_things, standing_things, waiting_things, leaving_things, message_things, partition_things, server_things, servers_things}
use Rattle.law_counts_limits.specs.Below.coherent_memory.Weights.{states, below}
use Rattle.law_counts_limits.specs.Below.coherent_memory.Naming.{is_retired}
use Rattle.law_counts_limits.proofs.Below.coherent_memory.Sums.{tot-append, server_parts}
use Rattle.law_counts_limits.specs.Below.law_counts_sums.Sums.{is_server}
use Rattle.law_counts_limits.proofs.Below.law_counts_sums.Boxes.{tot_le}
use Rattle.law_counts_limits.proofs.Below.law_counts_sums.Unseen.{Unseen, none_at, thread_alone, content_none, result_none, partition_none, copies_none}
use Rattle.law_counts_limits.proofs.Below.law_counts_sums.Events.{others_of, tot-server}
use Rattle.law_counts_limits.proofs.Below.law_counts_things.names.Counts.{Plain, counts_alone}

-- the next number is another one
later_none : (m : ℕ) → one (m + 1 == m) ≡ 0
later_none m = eq_cases (λ b. one b ≡ 0) (m + 1) m (λ e. absurd (omega (arith, e))) (λ ne. refl)

-- of another server's things it sees none
unseen : (m n : ℕ) → one (n == m) ≡ 0 → Unseen (is_retired m) n
unseen m n z = record { held = λ p v. refl; shared = λ l r. refl; borrowed = λ l r. refl; locked = λ l x. refl; live = λ a c. refl; free = λ a x. refl; old = λ a. z; copy = λ s c. refl; used = λ s x. refl }

module _ (m : ℕ) where
  abbrev f : Thing → ℕ
  f = is_retired m

  abbrev j : ℕ
  j = m + 1

  u : Unseen f j
  u = unseen m j (later_none m)

  -- messages, mutexes, tasks and threads have nothing retired
  message_none : (n : ℕ) (x : Message) → tot f (message_things n x) ≡ 0
  message_none n (message.Start t) = omega (arith, thread_alone f j u n true t)
  message_none n (message.Migrate t) = omega (arith, thread_alone f j u n true t)
  message_none n _ = refl

  mutex_none : (n i : ℕ) (x : Mutex) → tot f (mutex_things n i x) ≡ 0
  mutex_none n i x = omega (arith, content_none f j u x, none_at f j u (queue_things x.number) (λ q y. refl) 0 x.queue, tot-append f (content_things x.number x.content) (things_at (queue_things x.number) 0 x.queue))

  -- of a server its partition's
  pub retired_part : (s : Server) → tot f (server_things s) ≡ tot f (partition_things s.rest.number s.rest.partition)
  retired_part s =
      let n = s.rest.number in
      omega (
        arith,
        server_parts f s,
        copies_none f j u n s.rest.cache,
        none_at f j u (mutex_things n) (mutex_none n) 0 s.rest.mutexes.there,
        none_at f j u (task_things n) (λ i x. omega (arith, result_none f j u x.thread x.state)) 0 s.rest.tasks,
        none_at f j u (standing_things n) (λ i x. omega (arith, thread_alone f j u n false x)) 0 s.threads,
        none_at f j u (waiting_things n) (λ i x. message_none n x) 0 s.rest.inbox,
        none_at f j u leaving_things (λ i x. message_none x.target x.message) 0 s.rest.outbox,
      )

  -- of another server nothing
  pub retired_none : (s : Server) → one (s.rest.number == m) ≡ 0 → tot f (server_things s) ≡ 0
  retired_none s z = omega (arith, retired_part s, partition_none f s.rest.number (unseen m s.rest.number z) s.rest.partition)

  server_plain : (x : Thing) → Plain x → is_server m x ≡ 0
  server_plain (counts r next old started made events) p = absurd p
  server_plain x p = refl

  -- of other servers nothing
  pub retired_others : (ss : List Server) → tot (is_server m) (servers_things ss) ≡ 0 → tot f (servers_things ss) ≡ 0
  retired_others [] z = refl
  retired_others (s ∷ ss) z =
      let both = tot-append (is_server m) (server_things s) (servers_things ss) in
      let first : one (s.rest.number == m) ≡ 0 = omega (arith, z, both, counts_alone (is_server m) server_plain s) in
      omega (arith, tot-append f (server_things s) (servers_things ss), retired_none s first, retired_others ss (omega (arith, z, both)))

self_one : (n : ℕ) → one (n == n) ≡ 1
self_one n = ap one (eq-eqb n n refl)

-- an address below the next one of a server is of that server
below_server : (s a : ℕ) (x : Thing) → below (s, a) x ≤ is_server s x
below_server s a (counts r next n t m e) = by (r == s) (nat_lt a next)
  where
    by : (p q : Bool) → one (p && q) ≤ one p
    by true true = omega arith
    by true false = omega arith
    by false q = omega arith
below_server s a _ = omega arith

below_plain : (s a : ℕ) (x : Thing) → Plain x → below (s, a) x ≡ 0
below_plain s a (counts r next old started made events) p = absurd p
below_plain s a x p = refl

second_most : (a b : Bool) → one (a && b) ≤ one b
second_most true true = omega arith
second_most true false = omega arith
second_most false b = omega arith

module _ (ss : List Server) (number : ℕ) (s : Server) (here : server_at ss number ≡ Some s) (differ : tot (is_server s.rest.number) (servers_things ss) ≤ 1) where
  abbrev n : ℕ
  n = s.rest.number

  abbrev others : List Thing
  others = servers_things (others_of ss number)

  -- no other server has its number
  pub alone : tot (is_server n) others ≡ 0
  alone =
      let own : one (n == n) ≡ 1 = self_one n in
      omega (arith, differ, own, (tot-server (is_server n) ss number s s here).0, counts_alone (is_server n) (server_plain n) s)

  -- what is retired of it anywhere stands in its partition
  pub retired_own : tot (is_retired n) (servers_things ss) ≡ tot (is_retired n) (partition_things n s.rest.partition)
  retired_own = omega (arith, (tot-server (is_retired n) ss number s s here).0, retired_part n s, retired_others n (others_of ss number) alone)

  -- each address has one state in it at most, and none from the next one on
  pub states_own : ((a : ℕ) → tot (states (n, a)) (servers_things ss) ≤ tot (below (n, a)) (servers_things ss)) → (a : ℕ) → tot (states (n, a)) (partition_things n s.rest.partition) ≤ one (nat_lt a (length s.rest.partition.cells))
  states_own most a =
      let g = states (n, a) in
      let b = below (n, a) in
      omega (
        arith,
        most a,
        (tot-server g ss number s s here).0,
        server_parts g s,
        (tot-server b ss number s s here).0,
        counts_alone b (below_plain n a) s,
        second_most (n == n) (nat_lt a (length s.rest.partition.cells)),
        tot_le b (is_server n) (below_server n a) others,
        alone,
      )
