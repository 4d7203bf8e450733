-- The start: main alone stands somewhere, beside the counts of servers.
use Rattle.std.proofs.Common.{◌≡◌, ℕ, zero, suc, ◌+◌, ◌≤◌, false, List, refl, arith}
use Rattle.server_model.specs.Below.fr_base.declared.instruction.Instr.{Instr}
use Rattle.server_model.specs.Below.fr_base.declared.settings.Options.{Options}
use Rattle.server_model.specs.Servers.{start_of, main_thread, with_main, empty_servers}
use Rattle.coherent_memory.specs.Names.{tot}
use Rattle.coherent_memory.specs.Things.{Thing, counts, stands, servers_things, things_of}
use Rattle.coherent_memory.specs.Weights.{cells, owners, uses_of, users_of}
use Rattle.coherent_memory.specs.Laws.{StartLaw}

-- a weight that no count of a server has
abbrev SeesNoCount : (Thing → ℕ) → Type 0
SeesNoCount f = (s n r t m e : ℕ) → f (counts s n r t m e) ≡ 0

nothing : (f : Thing → ℕ) (o : Options) (s n : ℕ) → SeesNoCount f → tot f (servers_things (empty_servers o s n)) ≡ 0
nothing f o s zero z = refl
nothing f o s (suc n) z = omega (arith, z s 0 0 0 0 0, nothing f o (s + 1) n z)

-- main alone counts
pub main_alone : (f : Thing → ℕ) (code : List Instr) (o : Options) → 1 ≤ o.servers → SeesNoCount f → tot f (things_of (start_of code o)) ≡ f (stands 0 false main_thread)
main_alone f code o l z = by o.servers l
  where
    by : (n : ℕ) → 1 ≤ n → tot f (servers_things (with_main (empty_servers o 0 n))) ≡ f (stands 0 false main_thread)
    by zero l = absurd (omega arith)
    by (suc n) l = omega (arith, z 0 0 0 0 0 0, nothing f o 1 n z)

pub start_law : StartLaw
start_law code o l =
    let by : (f : Thing → ℕ) → SeesNoCount f → f (stands 0 false main_thread) ≡ 0 → tot f (things_of (start_of code o)) ≡ 0 = λ f z e. omega (arith, main_alone f code o l z, e) in
    record {
      one_home = record { home_of_each = λ p. omega (arith, by (cells p) (λ s n r t m e. refl) refl) };
      one_owner = record { owner_of_each = λ p. omega (arith, by (owners p) (λ s n r t m e. refl) refl, by (cells p) (λ s n r t m e. refl) refl) };
      copies = record { copies_agree = by _ (λ s n r t m e. refl) refl; served_are_clean = by _ (λ s n r t m e. refl) refl };
      users = record { users_counted = λ p. omega (arith, by (uses_of p) (λ s n r t m e. refl) refl, by (users_of p) (λ s n r t m e. refl) refl) };
    }
