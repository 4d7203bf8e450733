-- In a sound cluster a thread that stands at a server is the one that is found under its number.
use Rattle.std.proofs.Common.{◌≡◌, ◌≤◌, ℕ, ◌+◌, false, if◌then◌else◌, List, [], ◌∷◌, ◌++◌, Some, refl, sym, ap, subst, ◌∙◌, arith}
use Rattle.std.proofs.lemmas.Bool.{eq-eqb}
use Rattle.coherent_memory.proofs.Below.fr_typing.PlaceLemmas.{eq_cases}
use Rattle.coherent_memory.specs.Below.thread_state.View.{ThreadState}
use Rattle.coherent_memory.specs.Below.server_model.Servers.{Server, Cluster, server_at}
use Rattle.coherent_memory.specs.Below.server_model.Work.{thread_in}
use Rattle.coherent_memory.specs.Names.{tot, one}
use Rattle.coherent_memory.specs.Things.{Thing, stands, things_at, partition_things, copy_things, mutex_things, task_things, standing_things, waiting_things, leaving_things, server_things, servers_things, things_of}
use Rattle.coherent_memory.specs.Follow.{Standing, threads_in, thread_at}
use Rattle.coherent_memory.specs.Weights.{is_thread}
use Rattle.coherent_memory.specs.Coherent.{IsSound}
use Rattle.coherent_memory.proofs.Sums.{tot-append}
use Rattle.law_counts_sums.proofs.Bags.{had_by, all_standing, tot-without, thread_number}
use Rattle.law_counts_sums.proofs.Unseen.{Unseen, thread_alone}
use Rattle.law_counts_sums.proofs.Events.{tot-server}

module _ (t : ℕ) where
  abbrev f : Thing → ℕ
  f = is_thread t

  unseen : (n : ℕ) → Unseen f n
  unseen n = record { held = λ p v. refl; shared = λ l r. refl; borrowed = λ l r. refl; locked = λ l m. refl; live = λ a c. refl; free = λ a m. refl; old = λ a. refl; copy = λ s c. refl; used = λ s w. refl }

  -- the first of these things that is one, or of those behind them
  found_first : (xs ys : List Thing) (x : Standing) → thread_at (threads_in xs) t ≡ Some x → thread_at (threads_in (xs ++ ys)) t ≡ Some x
  found_first [] ys x e = absurd (cc e)
  found_first (stands r p y ∷ xs) ys x e =
      eq_cases
      (λ b. (if b then Some (record { server = r; packed = p; thread = y }) else thread_at (threads_in xs) t) ≡ Some x → (if b then Some (record { server = r; packed = p; thread = y }) else thread_at (threads_in (xs ++ ys)) t) ≡ Some x)
      y.number t (λ q d. d) (λ ne d. found_first xs ys x d) e
  found_first (_ ∷ xs) ys x e = found_first xs ys x e

  skipped : (xs ys : List Thing) → tot f xs ≡ 0 → thread_at (threads_in (xs ++ ys)) t ≡ thread_at (threads_in ys) t
  skipped [] ys z = refl
  skipped (stands r p y ∷ xs) ys z =
      eq_cases (λ b. one b + tot f xs ≡ 0 → (if b then Some (record { server = r; packed = p; thread = y }) else thread_at (threads_in (xs ++ ys)) t) ≡ thread_at (threads_in ys) t) y.number t
      (λ q d. absurd (omega (arith, d))) (λ ne d. skipped xs ys (omega (arith, d))) z
  skipped (_ ∷ xs) ys z = skipped xs ys (omega (arith, z))

  abbrev at_server : ℕ → ThreadState → Standing
  at_server n y = record { server = n; packed = false; thread = y }

  had_none : (n : ℕ) (x : ThreadState) → tot f (had_by n x) ≡ 0
  had_none n x = omega (arith, thread_alone f n (unseen n) n false x)

  standing : (n i : ℕ) (ts : List ThreadState) (y : ThreadState) → thread_in ts t ≡ Some y → thread_at (threads_in (things_at (standing_things n) i ts)) t ≡ Some (at_server n y)
  standing n i [] y e = absurd (cc e)
  standing n i (x ∷ ts) y e =
      eq_cases
      (λ b. (if b then Some x else thread_in ts t) ≡ Some y → (if b then Some (at_server n x) else thread_at (threads_in (had_by n x ++ things_at (standing_things n) (i + 1) ts)) t) ≡ Some (at_server n y)) x.number t
      (λ q d. let same : x ≡ y = cc in ap (λ z. Some (at_server n z)) same) (λ ne d. skipped (had_by n x) (things_at (standing_things n) (i + 1) ts) (had_none n x) ∙ standing n (i + 1) ts y d) e

  some_there : (n : ℕ) (ts : List ThreadState) (y : ThreadState) → thread_in ts t ≡ Some y → 1 ≤ tot f (all_standing n ts)
  some_there n ts y e =
      let mine : f (stands n false y) ≡ 1 = ap one (eq-eqb y.number t (thread_number ts t y e)) in
      omega (arith, tot-without n f ts t y e, thread_alone f n (unseen n) n false y, mine)

  in_server : (s : Server) (y : ThreadState) → thread_in s.threads t ≡ Some y → tot f (server_things s) ≤ 1 → (thread_at (threads_in (server_things s)) t ≡ Some (at_server s.rest.number y)) × (1 ≤ tot f (server_things s))
  in_server s y e few =
      let n = s.rest.number in
      let a = partition_things n s.rest.partition ++ things_at (copy_things n) 0 s.rest.cache ++ things_at (mutex_things n) 0 s.rest.mutexes.there ++ things_at (task_things n) 0 s.rest.tasks in
      let b = things_at (standing_things n) 0 s.threads in
      let i = things_at (waiting_things n) 0 s.rest.inbox in
      let o = things_at leaving_things 0 s.rest.outbox in
      let there = some_there n s.threads y e in
      let none : tot f a ≡ 0 = omega (arith, few, there, tot-append f a b, tot-append f (a ++ b) i, tot-append f ((a ++ b) ++ i) o) in
      let me = at_server n y in (
        found_first ((a ++ b) ++ i) o me (found_first (a ++ b) i me (skipped a b none ∙ standing n 0 s.threads y e)),
        omega (arith, there, tot-append f a b, tot-append f (a ++ b) i, tot-append f ((a ++ b) ++ i) o),
      )

  in_servers : (ss : List Server) (number : ℕ) (s : Server) (y : ThreadState) → server_at ss number ≡ Some s → thread_in s.threads t ≡ Some y → tot f (servers_things ss) ≤ 1 → thread_at (threads_in (servers_things ss)) t ≡ Some (at_server s.rest.number y)
  in_servers [] number s y h e few = absurd (cc h)
  in_servers (x ∷ ss) number s y h e few =
      let both = tot-append f (server_things x) (servers_things ss) in
      eq_cases (λ b. (if b then Some x else server_at ss number) ≡ Some s → thread_at (threads_in (server_things x ++ servers_things ss)) t ≡ Some (at_server s.rest.number y)) x.rest.number number
      (λ q d.
      let same : s ≡ x = cc in
      let here : thread_in x.threads t ≡ Some y = subst (λ (z : Server). thread_in z.threads t ≡ Some y) same e in
      let found = (in_server x y here (omega (arith, few, both))).0 in
      subst (λ (z : Server). thread_at (threads_in (server_things x ++ servers_things ss)) t ≡ Some (at_server z.rest.number y)) (sym same) (found_first (server_things x) (servers_things ss) (at_server x.rest.number y) found))
      (λ ne d.
      let split = (tot-server f ss number s s d).0 in
      let less : tot f (server_things s) ≤ 1 = omega (arith, few, both, split) in
      let there = (in_server s y e less).1 in
      skipped (server_things x) (servers_things ss) (omega (arith, few, both, split, there)) ∙ in_servers ss number s y d e (omega (arith, few, both))) h

pub thread_there : (k : Cluster) → IsSound k → (number : ℕ) (s : Server) → server_at k.servers number ≡ Some s → (t : ℕ) (y : ThreadState) → thread_in s.threads t ≡ Some y
    → thread_at (threads_in (things_of k)) t ≡ Some (record { server = s.rest.number; packed = false; thread = y })
thread_there k sound number s here t y e = in_servers t k.servers number s y here e (sound.names.numbers_differ t)
