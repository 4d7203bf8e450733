-- The name of a thread that starts is new at its home: each thread that is noted is among those that its home has started.
use Rattle.std.proofs.Common.{◌≡◌, ℕ, ◌+◌, ◌*◌, ◌^◌, ◌<◌, ◌≤◌, ◌==◌, ◌&&◌, nat_le, Bool, true, false, not, if◌then◌else◌, List, [], ◌∷◌, Some, is_some, refl, sym, ap, subst, arith}
use Rattle.std.proofs.lemmas.Bool.Decides.{nat_tests}
use Rattle.law_results_events.proofs.Below.fr_typing.PlaceLemmas.{eq_cases}
use Rattle.law_results_events.specs.Below.join_home.Tasks.{Task, task_in, can_begin}
use Rattle.law_results_events.specs.Below.server_model.Servers.{Server, Cluster, server_at}
use Rattle.law_results_events.specs.Below.coherent_memory.Names.{tot, one, other, some}
use Rattle.law_results_events.specs.Below.coherent_memory.Things.{Thing, counts, things_at, partition_things, copy_things, mutex_things, result_things, task_things, standing_things, waiting_things, leaving_things, servers_things, things_of}
use Rattle.law_results_events.specs.Below.coherent_memory.Sight.{sight}
use Rattle.law_results_events.specs.Below.coherent_memory.Naming.{threads, started_at, uncounted_thread, count_of}
use Rattle.law_results_events.specs.Below.coherent_memory.Requests.{home_of}
use Rattle.law_results_events.specs.Below.coherent_memory.Coherent.{IsSound}
use Rattle.law_results_events.proofs.Below.coherent_memory.Sums.{tot-append, server_parts}
use Rattle.law_results_events.specs.Below.law_counts_sums.Sums.{Sums, is_server}
use Rattle.law_results_events.proofs.Below.law_counts_sums.Boxes.{tot_le}
use Rattle.law_results_events.proofs.Below.law_counts_sums.Events.{others_of, tot-server}
use Rattle.law_results_events.proofs.Below.law_counts_sums.Sound.{sound_has_sums}

-- WHAT A SERVER HAS NOT STARTED

one_first : (a b : Bool) → one (a && b) ≤ one a
one_first true true = omega arith
one_first true false = omega arith
one_first false b = omega arith

at_its_server : (n c : ℕ) (x : Thing) → started_at n c x ≤ is_server n x
at_its_server n c (counts r next old started made events) = one_first (r == n) (nat_le c started)
at_its_server n c _ = omega arith

too_many : (a : Bool) (c m : ℕ) → m < c → one (a && nat_le c m) ≡ 0
too_many false c m l = refl
too_many true c m l = by (nat_le c m) refl
  where
    by : (b : Bool) → nat_le c m ≡ b → one b ≡ 0
    by true e = absurd (grind (arith, nat_tests, e, l))
    by false e = refl

same_self : (n : ℕ) → one (n == n) ≡ 1
same_self n = eq_cases (λ q. one q ≡ 1) n n (λ e. refl) (λ ne. absurd (ne refl))

home_is : (n c : ℕ) → c < 2 ^ 32 → home_of (n * 2 ^ 32 + c) ≡ n
home_is n c l = omega (arith, l)

count_is : (n c : ℕ) → c < 2 ^ 32 → count_of (n * 2 ^ 32 + c) ≡ c
count_is n c l = omega (arith, l)

-- a thread that weighs something isn't noted where all names weigh nothing
not_noted : (w : ℕ → ℕ) (u : ℕ) → w u ≡ 1 → (r i : ℕ) (xs : List Task) → tot (threads w) (things_at (task_things r) i xs) ≡ 0 → can_begin xs u ≡ true
not_noted w u weighs r i [] z = refl
not_noted w u weighs r i (x ∷ xs) z =
    let parts = tot-append (threads w) (result_things x.thread x.state) (things_at (task_things r) (i + 1) xs) in
    eq_cases (λ b. not (is_some (if b then Some x else task_in xs u)) ≡ true) x.thread u
    (λ e. absurd (omega (arith, z, weighs, ap w e)))
    (λ ne. not_noted w u weighs r (i + 1) xs (omega (arith, z, parts)))

module _ (k : Cluster) (n : ℕ) (s : Server) (h : server_at k.servers n ≡ Some s) (sound : IsSound k) where
  abbrev number : ℕ
  number = s.rest.number

  unstarted : (c : ℕ) → s.rest.started < c → tot (started_at number c) (things_of k) ≡ 0
  unstarted c l =
      let g : Sums (things_of k) = sound_has_sums k sound in
      let others = servers_things (others_of k.servers n) in
      omega (
        arith,
        g.servers_differ number,
        (tot-server (is_server number) k.servers n s s h).0,
        (tot-server (started_at number c) k.servers n s s h).0,
        server_parts (is_server number) s,
        server_parts (started_at number c) s,
        same_self number,
        too_many (number == number) c s.rest.started l,
        less others,
        less (partition_things number s.rest.partition),
        less (things_at (copy_things number) 0 s.rest.cache),
        less (things_at (mutex_things number) 0 s.rest.mutexes.there),
        less (things_at (task_things number) 0 s.rest.tasks),
        less (things_at (standing_things number) 0 s.threads),
        less (things_at (waiting_things number) 0 s.rest.inbox),
        less (things_at leaving_things 0 s.rest.outbox),
      )
    where
      less : (b : List Thing) → tot (started_at number c) b ≤ tot (is_server number) b
      less b = tot_le (started_at number c) (is_server number) (at_its_server number c) b

  uncounted : (c : ℕ) → s.rest.started < c → c < 2 ^ 32 → uncounted_thread (sight k) (number * 2 ^ 32 + c) ≡ 1
  uncounted c l m =
      let u = number * 2 ^ 32 + c in
      let at_home : tot (started_at (home_of u) c) (things_of k) ≡ 0 = subst (λ i. tot (started_at i c) (things_of k) ≡ 0) (sym (home_is number c m)) (unstarted c l) in
      let at_count : tot (started_at (home_of u) (count_of u)) (things_of k) ≡ 0 = subst (λ i. tot (started_at (home_of u) i) (things_of k) ≡ 0) (sym (count_is number c m)) at_home in
      ap (λ i. other (some i)) at_count

  pub name_new : (c : ℕ) → s.rest.started < c → c < 2 ^ 32 → can_begin s.rest.tasks (number * 2 ^ 32 + c) ≡ true
  name_new c l m =
      let w = uncounted_thread (sight k) in
      let all : tot (threads w) (things_of k) ≡ 0 = omega (arith, sound.names.names_counted) in
      let here : tot (threads w) (things_at (task_things number) 0 s.rest.tasks) ≡ 0 = omega (arith, all, (tot-server (threads w) k.servers n s s h).0, server_parts (threads w) s) in
      not_noted w (number * 2 ^ 32 + c) (uncounted c l m) number 0 s.rest.tasks here
