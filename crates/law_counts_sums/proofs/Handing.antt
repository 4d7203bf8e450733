-- Handing over what an event appended changes no sum.
use Rattle.std.proofs.Common.{◌≡◌, ℕ, zero, suc, ◌+◌, List, [], ◌∷◌, ◌++◌, take, drop, refl, sym, ap, ◌∙◌, arith}
use Rattle.coherent_memory.specs.Below.server_model.Servers.{Sent}
use Rattle.coherent_memory.specs.Below.server_model.Clusters.{with_server, with_outbox}
use Rattle.coherent_memory.proofs.Sums.{server_parts, all_sent, all_sent-append, accepted_all}
use Rattle.law_counts_sums.specs.Laws.{HandOverNewerLaw}
use Rattle.law_counts_sums.proofs.Events.{tot-server}

halves : (n : ℕ) (xs : List Sent) → take n xs ++ drop n xs ≡ xs
halves zero xs = refl
halves (suc n) [] = refl
halves (suc n) (x ∷ xs) = ap (λ l. x ∷ l) (halves n xs)

pub hand_over_newer_law : HandOverNewerLaw
hand_over_newer_law f n older s new ss h g =
    let outbox = new.rest.outbox in
    let kept = with_outbox (take older outbox) new in
    let all : all_sent f outbox ≡ all_sent f (take older outbox) + all_sent f (drop older outbox) = ap (all_sent f) (sym (halves older outbox)) ∙ all_sent-append f (take older outbox) (drop older outbox) in
    omega (arith, accepted_all f (with_server ss n kept) (drop older outbox) g, (tot-server f ss n s kept h).1, (tot-server f ss n s new h).1, server_parts f kept, server_parts f new, all)
