-- What stands in a server's partition stands in its cluster.
use Rattle.std.proofs.Common.{◌≡◌, inr, ℕ, if◌then◌else◌, List, [], ◌∷◌, Some, sym, subst}
use Rattle.law_counts_things.proofs.Below.fr_typing.PlaceLemmas.{eq_cases}
use Rattle.law_counts_things.specs.Below.server_model.Servers.{Server, server_at}
use Rattle.law_counts_things.specs.Below.server_model.Clusters.{with_server}
use Rattle.law_counts_things.specs.Below.coherent_memory.Names.{Among}
use Rattle.law_counts_things.specs.Below.coherent_memory.Things.{Thing, partition_things, server_things, servers_things}
use Rattle.law_counts_things.proofs.Below.law_words_paths.paths.Origins.{among_first, among_second}

pub of_partition : (y : Thing) (s : Server) → Among y (partition_things s.rest.number s.rest.partition) → Among y (server_things s)
of_partition y s h = inr (among_first y _ _ (among_first y _ _ (among_first y _ _ (among_first y _ _ (among_first y _ _ (among_first y _ _ h))))))

pub of_server : (y : Thing) (n : ℕ) (ss : List Server) (s : Server) → server_at ss n ≡ Some s → Among y (server_things s) → Among y (servers_things ss)
of_server y n [] s e h = absurd (cc e)
of_server y n (x ∷ ss) s e h =
    eq_cases (λ b. (if b then Some x else server_at ss n) ≡ Some s → Among y (servers_things (x ∷ ss))) x.rest.number n
    (λ same d. let is : x ≡ s = cc in among_first y (server_things x) (servers_things ss) (subst (λ z. Among y (server_things z)) (sym is) h)) (λ ne d. among_second y (server_things x) (servers_things ss) (of_server y n ss s d h)) e

-- also where another state of that server stands
pub of_placed : (y : Thing) (n : ℕ) (ss : List Server) (s x : Server) → server_at ss n ≡ Some s → Among y (server_things x) → Among y (servers_things (with_server ss n x))
of_placed y n [] s x e h = absurd (cc e)
of_placed y n (z ∷ ss) s x e h =
    eq_cases (λ b. (if b then Some z else server_at ss n) ≡ Some s → Among y (servers_things (if b then x ∷ ss else z ∷ with_server ss n x))) z.rest.number n
    (λ same d. among_first y (server_things x) (servers_things ss) h) (λ ne d. among_second y (server_things z) (servers_things (with_server ss n x)) (of_placed y n ss s x d h)) e
