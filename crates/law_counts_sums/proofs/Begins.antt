-- The start has the sums.
use Rattle.std.proofs.Common.{◌≡◌, ℕ, zero, suc, ◌+◌, ◌<◌, ◌≤◌, ◌==◌, Bool, true, false, refl, ap, arith, ◌&&◌}
use Rattle.std.proofs.lemmas.Bool.Decides.{nat_tests}
use Rattle.coherent_memory.specs.Below.fr_base.declared.settings.Options.{Options}
use Rattle.coherent_memory.specs.Below.server_model.Servers.{with_main, empty_servers, start_of}
use Rattle.coherent_memory.specs.Names.{tot, one}
use Rattle.coherent_memory.specs.Things.{Thing, counts, servers_things}
use Rattle.coherent_memory.specs.Weights.{cells, owners, states, uses_of, users_of, shares_of, shares_at_home, tasks_of, is_thread}
use Rattle.law_counts_sums.specs.Sums.{Sums, is_server}
use Rattle.coherent_memory.specs.Requests.{halves_to, halves_needed, pair_notes, pair_places}
use Rattle.coherent_memory.specs.Sharing.{going_notes, goes_on, noted_away, owed, results, has_ended}
use Rattle.coherent_memory.specs.Sight.{Sight, sight}
use Rattle.law_counts_sums.specs.Laws.{NotedAtHome, NotedGoOn, OneAnswer, OneResult, PairsNoted, StartHas, StartHasSums, TaskValuesOwed}
use Rattle.law_counts_sums.proofs.Fair.{if_none, needs_none}

-- servers without a thread have nothing but their counts
nothing : (f : Thing → ℕ) (o : Options) (s n : ℕ) → ((s : ℕ) → f (counts s 0 0 0 0 0) ≡ 0) → tot f (servers_things (empty_servers o s n)) ≡ 0
nothing f o s zero z = refl
nothing f o s (suc n) z = omega (arith, z s, nothing f o (s + 1) n z)

at_most_one : (b : Bool) → one b ≤ 1
at_most_one true = omega arith
at_most_one false = omega arith

each_once : (r : ℕ) (o : Options) (s n : ℕ) → (tot (is_server r) (servers_things (empty_servers o s n)) ≤ 1) × (r < s → tot (is_server r) (servers_things (empty_servers o s n)) ≡ 0)
each_once r o s zero = (omega arith, λ l. refl)
each_once r o s (suc n) = by (s == r) refl (each_once r o (s + 1) n)
  where
    by : (b : Bool) → (s == r) ≡ b → (tot (is_server r) (servers_things (empty_servers o (s + 1) n)) ≤ 1) × (r < s + 1 → tot (is_server r) (servers_things (empty_servers o (s + 1) n)) ≡ 0)
        → (tot (is_server r) (servers_things (empty_servers o s (suc n))) ≤ 1) × (r < s → tot (is_server r) (servers_things (empty_servers o s (suc n))) ≡ 0)
    by true e go =
        let same : s ≡ r = grind (arith, nat_tests, e) in
        let n1 : one (s == r) ≡ 1 = ap one e in
        let rest = go.1 (omega arith) in
        (omega (arith, n1, rest), λ l. absurd (omega arith))
    by false e go =
        let n0 : one (s == r) ≡ 0 = ap one e in
        (omega (arith, n0, go.0), λ l. let rest = go.1 (omega arith) in omega (arith, n0, rest))

pub start_has_sums : StartHasSums
start_has_sums code o l = by o.servers l
  where
    by : (n : ℕ) → 1 ≤ n → Sums (servers_things (with_main (empty_servers o 0 n)))
    by zero l = absurd (omega arith)
    by (suc n) l = record {
      home_of_each = λ p. omega (arith, nothing (cells p) o 1 n (λ s. refl));
      owner_of_each = λ p. omega (arith, nothing (owners p) o 1 n (λ s. refl), nothing (cells p) o 1 n (λ s. refl));
      one_state = λ at. omega (arith, nothing (states at) o 1 n (λ r. refl));
      users_counted = λ at. omega (arith, nothing (uses_of at) o 1 n (λ r. refl), nothing (users_of at) o 1 n (λ r. refl));
      shares_counted = λ m. omega (arith, nothing (shares_of m) o 1 n (λ r. refl), nothing (shares_at_home m) o 1 n (λ r. refl));
      one_task_value = λ t. omega (arith, nothing (tasks_of t) o 1 n (λ r. refl));
      numbers_differ = λ t. omega (arith, nothing (is_thread t) o 1 n (λ r. refl), at_most_one (0 == t));
      servers_differ = λ r. omega (arith, (each_once r o 0 (suc n)).0);
    }

-- main waits for nothing, is in no pair, and is noted nowhere
none_so : (b : Bool) → one (b && false) ≡ 0
none_so true = refl
none_so false = refl

pub start_answers : StartHas OneAnswer
start_answers code o l t = by o.servers l
  where
    by : (n : ℕ) → 1 ≤ n → tot (halves_to t) (servers_things (with_main (empty_servers o 0 n))) ≡ tot (halves_needed t) (servers_things (with_main (empty_servers o 0 n)))
    by zero l = absurd (omega arith)
    by (suc n) l = omega (arith, nothing (halves_to t) o 1 n (λ r. refl), nothing (halves_needed t) o 1 n (λ r. refl), needs_none (0 == t) false refl)

pub start_pairs : StartHas PairsNoted
start_pairs code o l x = by o.servers l
  where
    by : (n : ℕ) → 1 ≤ n → tot (pair_notes x) (servers_things (with_main (empty_servers o 0 n))) ≡ tot (pair_places x) (servers_things (with_main (empty_servers o 0 n)))
    by zero l = absurd (omega arith)
    by (suc n) l = omega (arith, nothing (pair_notes x) o 1 n (λ r. refl), nothing (pair_places x) o 1 n (λ r. refl), if_none (0 == x.server && 0 == x.parent) 0 refl)

pub start_going : StartHas NotedGoOn
start_going code o l t = by o.servers l
  where
    by : (n : ℕ) → 1 ≤ n → tot (going_notes t) (servers_things (with_main (empty_servers o 0 n))) ≡ tot (goes_on t) (servers_things (with_main (empty_servers o 0 n)))
    by zero l = absurd (omega arith)
    by (suc n) l = omega (arith, nothing (going_notes t) o 1 n (λ r. refl), nothing (goes_on t) o 1 n (λ r. refl), none_so (0 == t))

pub start_homes : StartHas NotedAtHome
start_homes code o l = by o.servers l
  where
    by : (n : ℕ) → 1 ≤ n → tot noted_away (servers_things (with_main (empty_servers o 0 n))) ≡ 0
    by zero l = absurd (omega arith)
    by (suc n) l = omega (arith, nothing noted_away o 1 n (λ r. refl))

pub start_results : StartHas OneResult
start_results code o l t = by o.servers l
  where
    q : Sight
    q = sight (start_of code o)

    by : (n : ℕ) → 1 ≤ n → tot (results q t) (servers_things (with_main (empty_servers o 0 n))) ≤ tot (has_ended t) (servers_things (with_main (empty_servers o 0 n)))
    by zero l = absurd (omega arith)
    by (suc n) l = omega (arith, nothing (results q t) o 1 n (λ r. refl), nothing (has_ended t) o 1 n (λ r. refl))

pub start_owed : StartHas TaskValuesOwed
start_owed code o l t = by o.servers l
  where
    q : Sight
    q = sight (start_of code o)

    by : (n : ℕ) → 1 ≤ n → tot (tasks_of t) (servers_things (with_main (empty_servers o 0 n))) ≡ tot (owed q t) (servers_things (with_main (empty_servers o 0 n)))
    by zero l = absurd (omega arith)
    by (suc n) l = omega (arith, nothing (tasks_of t) o 1 n (λ r. refl), nothing (owed q t) o 1 n (λ r. refl))
