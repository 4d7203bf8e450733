-- A server, or a thread at a server, that fails a test.
use Rattle.std.proofs.Common.{◌≡◌, ℕ, ◌+◌, ◌≤◌, ◌==◌, ◌&&◌, Bool, true, false, if◌then◌else◌, List, [], ◌∷◌, Some, refl, arith}
use Rattle.std.proofs.lemmas.Bool.Decides.{nat_tests}
use Rattle.law_runs_coherent.proofs.Below.fr_typing.PlaceLemmas.{eq_cases}
use Rattle.law_runs_coherent.specs.Below.thread_state.View.{ThreadState}
use Rattle.law_runs_coherent.specs.Below.thread_state.declared.phase.Phase.{Phase}
use Rattle.law_runs_coherent.specs.Below.server_model.Servers.{Server, Cluster, server_at}
use Rattle.drive_model.specs.Ending.{all_threads}
use Rattle.law_runs_coherent.specs.Below.coherent_memory.Names.{tot, other}
use Rattle.law_runs_coherent.specs.Below.coherent_memory.Things.{Thing, things_at, standing_things, thread_things, server_things, servers_things}
use Rattle.law_runs_coherent.specs.Below.coherent_memory.Sight.{Sight, sight}
use Rattle.law_runs_coherent.specs.Below.coherent_memory.Walking.{sum_threads}
use Rattle.law_runs_coherent.specs.Below.coherent_memory.Naming.{servers_wrong, pinned_parcel}
use Rattle.law_runs_coherent.specs.Below.coherent_memory.Coherent.{IsSound}
use Rattle.law_runs_coherent.proofs.Below.coherent_memory.Sums.{tot-append}

-- each weight is at most that of the whole
abbrev pub IsPart : List Thing → List Thing → Type 0
IsPart xs b = (f : Thing → ℕ) → tot f xs ≤ tot f b

-- each server passes the test
abbrev pub every : (Server → Bool) → List Server → Bool
every f [] = true
every f (s ∷ ss) = f s && every f ss

-- one that doesn't, and is found by its number
pub record Failing (f : Server → Bool) (m : ℕ) (ss : List Server) : Type 0 where
  pub server : Server
  pub there : server_at ss server.rest.number ≡ Some server
  pub part : IsPart (server_things server) (servers_things ss)
  pub from : m ≤ server.rest.number
  pub fails : f server ≡ false

pub other_so : (b : Bool) → other b ≡ 0 → b ≡ true
other_so true q = refl
other_so false q = absurd (cc q)

-- where the first test is passed, the second one fails
pub second_fails : (a b : Bool) → a ≡ true → a && b ≡ false → b ≡ false
second_fails true b e q = q
second_fails false b e q = absurd (cc e)

module _ (q : Sight) (f : Server → Bool) where
  failing_from : (m : ℕ) (ss : List Server) → servers_wrong q m ss ≡ 0 → every f ss ≡ false → Failing f m ss
  failing_from m [] z e = absurd (cc e)
  failing_from m (x ∷ ss) z e =
      let number : x.rest.number ≡ m = grind (arith, nat_tests, other_so (x.rest.number == m) (omega (arith, z))) in
      by (f x) refl number (failing_from (m + 1) ss)
    where
      a : (h : Thing → ℕ) → tot h (servers_things (x ∷ ss)) ≡ tot h (server_things x) + tot h (servers_things ss)
      a h = tot-append h (server_things x) (servers_things ss)

      later : Failing f (m + 1) ss → x.rest.number ≡ m → Failing f m (x ∷ ss)
      later r number = record {
        server = r.server;
        there = eq_cases (λ b. (if b then Some x else server_at ss r.server.rest.number) ≡ Some r.server) x.rest.number r.server.rest.number (λ same. absurd (omega (arith, same, number, r.from))) (λ ne. r.there);
        part = λ h. omega (arith, a h, r.part h);
        from = omega (arith, r.from);
        fails = r.fails;
      }

      by : (b : Bool) → f x ≡ b → x.rest.number ≡ m → (servers_wrong q (m + 1) ss ≡ 0 → every f ss ≡ false → Failing f (m + 1) ss) → Failing f m (x ∷ ss)
      by false g number go = record {
        server = x;
        there = eq_cases (λ b. (if b then Some x else server_at ss x.rest.number) ≡ Some x) x.rest.number x.rest.number (λ same. refl) (λ ne. absurd (ne refl));
        part = λ h. omega (arith, a h);
        from = omega (arith, number);
        fails = g;
      }
      by true g number go = later (go (omega (arith, z)) (second_fails (f x) (every f ss) g e)) number

-- in a sound cluster one that fails a test is found
pub failing : (k : Cluster) → IsSound k → (f : Server → Bool) → every f k.servers ≡ false → Failing f 0 k.servers
failing k sound f e =
    let parts : servers_wrong (sight k) 0 k.servers + sum_threads (sight k) pinned_parcel ≡ 0 = sound.parts.parts_are_typed in
    failing_from (sight k) f 0 k.servers (omega (arith, parts)) e

-- a thread that fails a test of phases
pub record FailingThread (f : Phase → Bool) (n : ℕ) (b : List Thing) : Type 0 where
  pub thread : ThreadState
  pub part : IsPart (thread_things n false thread) b
  pub fails : f thread.phase ≡ false

pub failing_thread : (f : Phase → Bool) (n i : ℕ) (ts : List ThreadState) → all_threads f ts ≡ false → FailingThread f n (things_at (standing_things n) i ts)
failing_thread f n i [] e = absurd (cc e)
failing_thread f n i (x ∷ ts) e = by (f x.phase) refl (failing_thread f n (i + 1) ts)
  where
    a : (h : Thing → ℕ) → tot h (things_at (standing_things n) i (x ∷ ts)) ≡ tot h (thread_things n false x) + tot h (things_at (standing_things n) (i + 1) ts)
    a h = tot-append h (thread_things n false x) (things_at (standing_things n) (i + 1) ts)

    later : FailingThread f n (things_at (standing_things n) (i + 1) ts) → FailingThread f n (things_at (standing_things n) i (x ∷ ts))
    later r = record { thread = r.thread; part = λ h. omega (arith, a h, r.part h); fails = r.fails }

    by : (b : Bool) → f x.phase ≡ b → (all_threads f ts ≡ false → FailingThread f n (things_at (standing_things n) (i + 1) ts)) → FailingThread f n (things_at (standing_things n) i (x ∷ ts))
    by false g go = record { thread = x; part = λ h. omega (arith, a h); fails = g }
    by true g go = later (go (second_fails (f x.phase) (all_threads f ts) g e))
