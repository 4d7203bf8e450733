-- An event and its messages handed over leave the sums, where the messages go to servers that are there.
use Rattle.std.proofs.Common.{◌≡◌, ℕ, if◌then◌else◌, List, [], ◌∷◌, length, take, drop, Option, Some, None, IsSome, refl, sym}
use Rattle.std.specs.Prelude.{option_map}
use Rattle.coherent_memory.proofs.Below.fr_typing.PlaceLemmas.{eq_cases}
use Rattle.coherent_memory.specs.Below.journal.View.{EntryView}
use Rattle.coherent_memory.specs.Below.server_model.declared.event.Event.{Event}
use Rattle.coherent_memory.specs.Below.server_model.Servers.{Sent, Server, Cluster, server_at}
use Rattle.coherent_memory.specs.Below.server_model.Work.{then_some}
use Rattle.coherent_memory.specs.Below.server_model.Clusters.{with_server, with_outbox, hand_over_newer, done_at, act_at, apply}
use Rattle.coherent_memory.specs.Things.{servers_things, things_of}
use Rattle.coherent_memory.specs.Coherent.{IsSound}
use Rattle.law_counts_sums.specs.Sums.{Sums}
use Rattle.law_counts_sums.specs.Laws.{Gives, GoTo, FewEvents, SendsToServers}
use Rattle.law_counts_sums.proofs.Trades.{Same}
use Rattle.law_counts_sums.proofs.Rules.{Kept}
use Rattle.law_counts_sums.proofs.RulesKeep.{sums_kept}
use Rattle.law_counts_sums.proofs.Results.{weaker}
use Rattle.law_counts_sums.proofs.Handing.{hand_over_newer_law}
use Rattle.law_counts_sums.proofs.Each.{each_event_leaves}

-- a server with another outbox is there as it was
there_with : (ss : List Server) (n : ℕ) (new : Server) (xs : List Sent) (t : ℕ) → IsSome (server_at (with_server ss n new) t) → IsSome (server_at (with_server ss n (with_outbox xs new)) t)
there_with [] n new xs t h = h
there_with (s ∷ ss) n new xs t h =
    eq_cases (λ b. IsSome (server_at (if b then new ∷ ss else s ∷ with_server ss n new) t) → IsSome (server_at (if b then with_outbox xs new ∷ ss else s ∷ with_server ss n (with_outbox xs new)) t)) s.rest.number n
    (λ q. eq_cases (λ b. IsSome (if b then Some new else server_at ss t) → IsSome (if b then Some (with_outbox xs new) else server_at ss t)) new.rest.number t (λ a g. refl) (λ a g. g))
    (λ ne. eq_cases (λ b. IsSome (if b then Some s else server_at (with_server ss n new) t) → IsSome (if b then Some s else server_at (with_server ss n (with_outbox xs new)) t)) s.rest.number t (λ a g. g) (λ a g. there_with ss n new xs t g)) h

pub go_with : (ss : List Server) (n : ℕ) (new : Server) (ys : List Sent) (xs : List Sent) → GoTo (with_server ss n new) xs → GoTo (with_server ss n (with_outbox ys new)) xs
go_with ss n new ys [] g = tt
go_with ss n new ys (x ∷ xs) g = (there_with ss n new ys x.target g.0, go_with ss n new ys xs g.1)

-- it sees neither the order of things nor anything else of the servers
abbrev pub Unmoved : (Cluster → Type 0) → Type 0
Unmoved P = (k : Cluster) (a b : List Server) → Same (servers_things a) (servers_things b) → P (record k { servers = a }) → P (record k { servers = b })

module _ (P : Cluster → Type 0) (unmoved : Unmoved P) (k : Cluster) (e : Event) where
  abbrev Then : Cluster × EntryView → Type 0
  Then d = P d.0

  handed : (s : Server) → server_at k.servers e.server ≡ Some s → (o : Option (Server × EntryView))
      → Gives (λ (r : Server × EntryView). GoTo (with_server k.servers e.server r.0) (drop (length s.rest.outbox) r.0.rest.outbox)) o
      → Gives Then (option_map (λ r. (record k { servers = with_server k.servers e.server r.0 }, r.1)) o)
      → Gives Then (option_map (λ r. (record k { servers = hand_over_newer e.server (length s.rest.outbox) r.0 k.servers }, r.1)) o)
  handed s h None go g = tt
  handed s h (Some r) go g =
      unmoved k (with_server k.servers e.server r.0) (hand_over_newer e.server (length s.rest.outbox) r.0 k.servers)
      (λ f. sym (hand_over_newer_law f e.server (length s.rest.outbox) s r.0 k.servers h (go_with k.servers e.server r.0 (take (length s.rest.outbox) r.0.rest.outbox) (drop (length s.rest.outbox) r.0.rest.outbox) go))) g

  at_server : (o : Option Server) → server_at k.servers e.server ≡ o → SendsToServers k e
      → Gives Then (then_some o (λ s. option_map (λ d. (record k { servers = with_server k.servers e.server d.0 }, d.1)) (done_at k e.what s)))
      → Gives Then (then_some o (λ s. option_map (λ d. (record k { servers = hand_over_newer e.server (length s.rest.outbox) d.0 k.servers }, d.1)) (done_at k e.what s)))
  at_server None h go g = tt
  at_server (Some s) h go g = handed s h (done_at k e.what s) (go s h) g

  -- where the event leaves it at its server, it is so once its messages are handed over
  pub handed_on : SendsToServers k e → Gives Then (act_at k e) → Gives Then (apply k e)
  handed_on go g = at_server (server_at k.servers e.server) refl go g

pub handed_part : (Part : Cluster → Type 0) → ((c : Cluster) → Sums (things_of c) → Part c) → (k : Cluster) (e : Event) → IsSound k → FewEvents k → SendsToServers k e → Gives (λ (d : Cluster × EntryView). Part d.0) (apply k e)
handed_part Part has k e sound few go =
    let kept : Kept Sums = sums_kept in
    weaker (λ (d : Cluster × EntryView). Sums (things_of d.0)) (λ (d : Cluster × EntryView). Part d.0) _
    (handed_on (λ c. Sums (things_of c)) (λ c a b same g. kept.same (servers_things a) (servers_things b) same g) k e go (each_event_leaves k e sound few)) (λ d u. has d.0 u)
