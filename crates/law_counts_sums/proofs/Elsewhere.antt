-- A weight that sees nothing of servers with another number weighs in a sound cluster what it does at its server.
use Rattle.std.proofs.Common.{◌≡◌, ℕ, ◌==◌, Bool, true, false, List, [], ◌∷◌, Some, refl, arith}
use Rattle.coherent_memory.proofs.Below.fr_typing.PlaceLemmas.{eq_cases}
use Rattle.coherent_memory.specs.Below.server_model.Servers.{Server, Cluster, server_at}
use Rattle.coherent_memory.specs.Names.{tot, one}
use Rattle.coherent_memory.specs.Things.{Thing, server_things, servers_things, things_of}
use Rattle.coherent_memory.specs.Coherent.{IsSound}
use Rattle.coherent_memory.proofs.Sums.{tot-append}
use Rattle.law_counts_sums.specs.Sums.{is_server}
use Rattle.law_counts_sums.proofs.Events.{others_of, tot-server}
use Rattle.law_counts_sums.proofs.Sound.{server_once, sound_has_sums}

not_there : (b : Bool) → one b ≡ 0 → b ≡ false
not_there true e = absurd (cc e)
not_there false e = refl

module _ (f : Thing → ℕ) (n : ℕ) (elsewhere : (s : Server) → (s.rest.number == n) ≡ false → tot f (server_things s) ≡ 0) where
  others_none : (ss : List Server) → tot (is_server n) (servers_things ss) ≡ 0 → tot f (servers_things ss) ≡ 0
  others_none [] e = refl
  others_none (s ∷ ss) e =
      let a = tot-append (is_server n) (server_things s) (servers_things ss) in
      let first : one (s.rest.number == n) ≡ 0 = omega (arith, e, a, server_once n s) in
      omega (arith, elsewhere s (not_there (s.rest.number == n) first), others_none ss (omega (arith, e, a)), tot-append f (server_things s) (servers_things ss))

pub here_alone : (k : Cluster) → IsSound k → (number : ℕ) (s : Server) → server_at k.servers number ≡ Some s → (f : Thing → ℕ) → ((x : Server) → (x.rest.number == s.rest.number) ≡ false → tot f (server_things x) ≡ 0)
    → tot f (things_of k) ≡ tot f (server_things s)
here_alone k sound number s at f elsewhere =
    let n = s.rest.number in
    let sums = sound_has_sums k sound in
    let counts = tot-server (is_server n) k.servers number s s at in
    let mine : one (n == n) ≡ 1 = eq_cases (λ b. one b ≡ 1) n n (λ e. refl) (λ ne. absurd (ne refl)) in
    omega (arith, (tot-server f k.servers number s s at).0, others_none f n elsewhere (others_of k.servers number) (omega (arith, sums.servers_differ n, counts.0, server_once n s, mine)))
