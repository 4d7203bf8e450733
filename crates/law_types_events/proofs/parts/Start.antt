-- In a sound cluster the parts of each server are of their types, and no name that a server has noted or made is beyond its counts.
use Rattle.std.proofs.Common.{◌≡◌, ◌≤◌, ℕ, zero, suc, ◌+◌, ◌*◌, ◌^◌, ◌==◌, ◌&&◌, nat_le, Bool, true, false, List, [], ◌∷◌, Some, refl, sym, subst, ◌∙◌, arith}
use Rattle.std.specs.List.{AllByRecursion}
use Rattle.std.proofs.lemmas.Bool.Decides.{nat_tests}
use Rattle.law_counts_limits.specs.Below.mutex_home.Mutexes.{Mutex}
use Rattle.law_counts_limits.specs.Below.join_home.Tasks.{Task}
use Rattle.law_counts_limits.specs.Below.server_model.Servers.{Server, Cluster, server_at}
use Rattle.law_counts_limits.specs.Below.coherent_memory.Names.{tot, one, other, some}
use Rattle.law_counts_limits.specs.Below.coherent_memory.Things.{Thing, counts, mutex_things, task_things, servers_things, things_of}
use Rattle.law_counts_limits.specs.Below.coherent_memory.Sight.{sight}
use Rattle.law_counts_limits.specs.Below.coherent_memory.Sharing.{elsewhere, noted_away}
use Rattle.law_counts_limits.specs.Below.coherent_memory.Requests.{home_of}
use Rattle.law_counts_limits.specs.Below.coherent_memory.Walking.{sum_threads}
use Rattle.law_counts_limits.specs.Below.coherent_memory.Naming.{threads, named_mutexes, started_at, made_at, uncounted_thread, uncounted_mutex, free_colours, is_retired, servers_wrong, pinned_parcel}
use Rattle.law_counts_limits.specs.Below.coherent_memory.Naming as naming
use Rattle.law_counts_limits.specs.Below.coherent_memory.Coherent.{IsSound}
use Rattle.law_counts_limits.proofs.Below.coherent_memory.Sums.{server_parts}
use Rattle.law_counts_limits.specs.Below.law_counts_sums.Sums.{is_server}
use Rattle.law_counts_limits.proofs.Below.law_counts_sums.Boxes.{tot_le}
use Rattle.law_counts_limits.proofs.Below.law_counts_sums.Sound.{sound_has_sums}
use Rattle.law_counts_limits.proofs.Below.law_counts_sums.Events.{others_of, tot-server}
use Rattle.law_counts_limits.proofs.Below.law_counts_things.things.Handed.{all_none}
use Rattle.law_counts_limits.proofs.Below.law_counts_things.names.Counts.{counts_alone}
use Rattle.law_counts_limits.proofs.Below.law_counts_things.names.Named.{started_plain, made_plain}
use Rattle.law_types_events.proofs.parts.Rising.{Low}
use Rattle.law_types_events.proofs.parts.Places.{Coloured}
use Rattle.law_types_events.proofs.parts.Cached.{once_from}
use Rattle.law_types_events.proofs.parts.Lists.{count_of, name_of}
use Rattle.law_types_events.proofs.parts.Typed.{Typed}
use Rattle.law_types_events.proofs.parts.Seen.{alone, retired_own, states_own}
use Rattle.law_types_events.proofs.parts.Servers.{same_number, ServerTyped, AllTyped, all_from, found_typed}

-- no free address has the colour 0
coloured_all : (xs : List (ℕ × ℕ)) → tot free_colours xs ≡ 0 → AllByRecursion Coloured xs
coloured_all [] z = tt
coloured_all (x ∷ xs) z = (by (x.1 == 0) refl (omega (arith, z)), coloured_all xs (omega (arith, z)))
  where
    by : (b : Bool) → (x.1 == 0) ≡ b → one b ≡ 0 → b ≡ false
    by true e y = absurd (cc y)
    by false e y = refl

-- two weights in one
both_weigh : (f g : Thing → ℕ) (b : List Thing) → tot (λ x. f x + g x) b ≡ tot f b + tot g b
both_weigh f g [] = refl
both_weigh f g (x ∷ b) = omega (arith, both_weigh f g b)

-- some weight is at least one
counted_once : (n : ℕ) → other (some n) ≡ 0 → 1 ≤ n
counted_once zero z = absurd (cc z)
counted_once (suc n) z = omega arith

-- both is at most the first
second_less : (a b : Bool) → one (a && b) ≤ one a
second_less true true = omega arith
second_less true false = omega arith
second_less false b = omega arith

-- what a server has started or made is counted by its own counts alone
starts_its_server : (n c : ℕ) (x : Thing) → started_at n c x ≤ is_server n x
starts_its_server n c (counts r next old started made events) = second_less (r == n) (nat_le c started)
starts_its_server n c x = omega arith

makes_its_server : (n c : ℕ) (x : Thing) → made_at n c x ≤ is_server n x
makes_its_server n c (counts r next old started made events) = second_less (r == n) (nat_le c made)
makes_its_server n c x = omega arith

-- a count that is reached is at most that
reached : (a : Bool) (c m : ℕ) → 1 ≤ one (a && nat_le c m) → c ≤ m
reached a c m l = by a (nat_le c m) refl l
  where
    by : (a b : Bool) → nat_le c m ≡ b → 1 ≤ one (a && b) → c ≤ m
    by true true e l = grind (arith, nat_tests, e)
    by true false e l = absurd (omega (arith, l))
    by false b e l = absurd (omega (arith, l))

module _ (k : Cluster) (sound : IsSound k) (number : ℕ) (s : Server) (here : server_at k.servers number ≡ Some s) where
  abbrev n : ℕ
  n = s.rest.number

  abbrev b : List Thing
  b = things_of k

  -- no two servers have its number
  pub differ : tot (is_server n) b ≤ 1
  differ = let sums = sound_has_sums k sound in sums.servers_differ n

  -- all servers, as the sentence has it
  pub servers_typed : AllTyped k.options.colours (λ m. tot (is_retired m) b) k.options.servers 0 k.servers
  servers_typed =
      let parts : servers_wrong (sight k) 0 k.servers + sum_threads (sight k) pinned_parcel ≡ 0 = sound.parts.parts_are_typed in
      all_from (sight k) 0 k.servers (omega (arith, parts))

  -- the server has that number
  pub server_number : n ≡ number
  server_number = let g = found_typed k.options.colours (λ m. tot (is_retired m) b) k.options.servers 0 number k.servers s servers_typed here in g.numbered

  -- what the sentence says of it
  pub typed_here : ServerTyped k.options.colours (tot (is_retired n) b) n s
  typed_here =
      subst (λ m. ServerTyped k.options.colours (tot (is_retired m) b) m s) (sym server_number) (found_typed k.options.colours (λ m. tot (is_retired m) b) k.options.servers 0 number k.servers s servers_typed here)

  abbrev others : List Thing
  others = servers_things (others_of k.servers number)

  -- a count that is reached anywhere for its number is reached by it
  started_here : (c : ℕ) → 1 ≤ tot (started_at n c) b → c ≤ s.rest.started
  started_here c l =
      reached (n == n) c s.rest.started
      (omega (arith, l, (tot-server (started_at n c) k.servers number s s here).0, counts_alone (started_at n c) (started_plain n c) s, tot_le (started_at n c) (is_server n) (starts_its_server n c) others, alone k.servers number s here differ))

  made_here : (c : ℕ) → 1 ≤ tot (made_at n c) b → c ≤ s.rest.mutexes.made
  made_here c l =
      reached (n == n) c s.rest.mutexes.made
      (omega (arith, l, (tot-server (made_at n c) k.servers number s s here).0, counts_alone (made_at n c) (made_plain n c) s, tot_le (made_at n c) (is_server n) (makes_its_server n c) others, alone k.servers number s here differ))

  -- each name is counted
  named : tot (threads (uncounted_thread (sight k))) b + tot (named_mutexes (uncounted_mutex (sight k))) b ≡ 0
  named = sound.names.names_counted

  -- its mutexes
  abbrev mutex_weight : Thing → ℕ
  mutex_weight x = named_mutexes (uncounted_mutex (sight k)) x + elsewhere x

  -- a mutex of the server was made there, so its count is reached
  mutex_low : (i : ℕ) (m : Mutex) → tot mutex_weight (mutex_things n i m) ≡ 0 → m.number.count ≤ s.rest.mutexes.made
  mutex_low i m z =
      let uncounted : uncounted_mutex (sight k) m.number ≡ 0 = omega (arith, z) in
      let home : m.number.home ≡ n = same_number m.number.home n (omega (arith, z)) in
      let there : 1 ≤ tot (made_at m.number.home m.number.count) b = counted_once (tot (made_at m.number.home m.number.count) b) uncounted in
      made_here m.number.count (subst (λ h. 1 ≤ tot (made_at h m.number.count) b) home there)

  mutexes_low : Low count_of s.rest.mutexes.made s.rest.mutexes.there
  mutexes_low =
      let homes : tot elsewhere b ≡ 0 = sound.mutexes_and_tasks.at_their_home in
      let all : tot mutex_weight b ≡ 0 = omega (arith, both_weigh (named_mutexes (uncounted_mutex (sight k))) elsewhere b, homes, named) in
      all_none mutex_weight (mutex_things n) (λ (m : Mutex). m.number.count ≤ s.rest.mutexes.made) mutex_low 0 s.rest.mutexes.there
      (omega (arith, all, (tot-server mutex_weight k.servers number s s here).0, server_parts mutex_weight s))

  -- its tasks
  abbrev task_weight : Thing → ℕ
  task_weight x = threads (uncounted_thread (sight k)) x + noted_away x

  -- a thread that is noted was started there, so its count is reached
  task_low : (i : ℕ) (t : Task) → tot task_weight (task_things n i t) ≡ 0 → t.thread ≤ n * 2 ^ 32 + (s.rest.started + 0)
  task_low i t z =
      let uncounted : uncounted_thread (sight k) t.thread ≡ 0 = omega (arith, z) in
      let home : home_of t.thread ≡ n = same_number (home_of t.thread) n (omega (arith, z)) in
      let there : 1 ≤ tot (started_at (home_of t.thread) (naming.count_of t.thread)) b = counted_once (tot (started_at (home_of t.thread) (naming.count_of t.thread)) b) uncounted in
      let low : naming.count_of t.thread ≤ s.rest.started = started_here (naming.count_of t.thread) (subst (λ h. 1 ≤ tot (started_at h (naming.count_of t.thread)) b) home there) in
      omega (arith, home, low)

  tasks_low : Low name_of (n * 2 ^ 32 + (s.rest.started + 0)) s.rest.tasks
  tasks_low =
      let homes : tot noted_away b ≡ 0 = sound.mutexes_and_tasks.noted_at_home in
      let all : tot task_weight b ≡ 0 = omega (arith, both_weigh (threads (uncounted_thread (sight k))) noted_away b, homes, named) in
      all_none task_weight (task_things n) (λ (t : Task). t.thread ≤ n * 2 ^ 32 + (s.rest.started + 0)) task_low 0 s.rest.tasks
      (omega (arith, all, (tot-server task_weight k.servers number s s here).0, server_parts task_weight s))

  -- all its parts
  pub starts_typed : Typed n k.options.colours 0 s.rest
  starts_typed =
      let g = typed_here in
      let sums = sound_has_sums k sound in record {
        numbered = refl;
        part = record {
          own = g.own;
          limited = g.limited;
          exact = record {
            placed = states_own k.servers number s here differ (λ a. sums.one_state (n, a));
            counted = sym (retired_own k.servers number s here differ) ∙ g.counted;
            coloured = coloured_all s.rest.partition.free g.coloured;
          };
        };
        cached = once_from s.rest.cache g.cached;
        homed = g.homed;
        mutexes_rise = g.mutexes_rise;
        mutexes_low = mutexes_low;
        tasks_rise = g.tasks_rise;
        tasks_low = tasks_low;
      }
