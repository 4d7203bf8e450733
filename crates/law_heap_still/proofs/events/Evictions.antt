-- A copy that goes shows nothing.
use Rattle.std.proofs.Common.{◌≡◌, ℕ, ◌==◌, Bool, true, false, if◌then◌else◌, [], Option, Some, None, is_some, refl, sym, ap, ◌∙◌, arith}
use Rattle.law_counts_sums.specs.Below.read_cache.Cache.{Copy, copy_of, users, is_cached, can_evict, without_copy}
use Rattle.law_counts_sums.specs.Below.journal.declared.act.Act.TheVariants as act
use Rattle.law_counts_sums.specs.Below.server_model.declared.event.What.TheVariants.{Evict}
use Rattle.law_counts_sums.specs.Below.server_model.Servers.{Server, Cluster}
use Rattle.law_counts_sums.specs.Below.server_model.Work.{Work, note, with_cache, beside_threads}
use Rattle.law_counts_sums.specs.Below.server_model.Events.{begin_at, left_by, evict_copy, does}
use Rattle.law_counts_sums.proofs.Below.coherent_memory.Names.{and_left}
use Rattle.law_counts_sums.specs.Laws.{Gives}
use Rattle.law_counts_sums.proofs.Results.{over_gives}
use Rattle.law_counts_sums.proofs.Bags.{of_cache}
use Rattle.law_counts_sums.proofs.Copies.{copy_goes}
use Rattle.law_heap_still.proofs.events.Sites.{trade_alike, begins, ends, Still, Moves, beside_still, ServerStill}

evicted : (c : ℕ) (x : Work) → Gives (λ (w : Work). Moves [] [] x.rest w.rest) (evict_copy c x)
evicted c x = by (can_evict x.rest.cache c) refl (copy_of x.rest.cache c) refl
  where
    by : (b : Bool) → can_evict x.rest.cache c ≡ b → (o : Option Copy) → copy_of x.rest.cache c ≡ o
        → Gives (λ (w : Work). Moves [] [] x.rest w.rest) (if b then Some (note (act.Evict c) (with_cache (if b then without_copy x.rest.cache c else x.rest.cache) x)) else None)
    by false a o q = tt
    by true a None q = let z : is_cached x.rest.cache c ≡ false = ap is_some q in absurd (cc (sym z ∙ and_left (is_cached x.rest.cache c) (users x.rest.cache c == 0) a))
    by true a (Some d) q = record { number = refl; alike = trade_alike _ _ _ _ (of_cache x.rest.number 0 x.rest (without_copy x.rest.cache c) (copy_goes x.rest.number x.rest.cache c d q)) (λ w z. omega (arith, z)) }

pub evictions : (k : Cluster) (s : Server) (c : ℕ) → Gives (ServerStill k s) (does k.code k.options s (Evict c))
evictions k s c =
    over_gives (Still [] (begin_at s)) (ServerStill k s) (beside_threads (evict_copy c) (begin_at s)) (left_by s.events None None) (beside_still [] (evict_copy c) (begin_at s) (evicted c (begin_at s).work))
    (λ x e w z c. begins s w z ∙ e w z ∙ ends s.events None None x w z)
