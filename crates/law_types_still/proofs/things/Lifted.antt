-- Where an event leaves nothing of a weight at its server, it leaves nothing of it in the cluster, once its messages are handed over.
use Rattle.std.proofs.Common.{◌≡◌, true, ℕ, length, take, drop, Some, arith}
use Rattle.law_counts_things.specs.Below.journal.View.{EntryView}
use Rattle.law_counts_things.specs.Below.server_model.declared.event.Event.{Event}
use Rattle.law_counts_things.specs.Below.server_model.Servers.{Server, Cluster, server_at}
use Rattle.law_counts_things.specs.Below.server_model.Events.{enabled, does}
use Rattle.law_counts_things.specs.Below.server_model.Clusters.{with_server, done_at, apply}
use Rattle.law_counts_things.specs.Below.coherent_memory.Names.{tot}
use Rattle.law_counts_things.specs.Below.coherent_memory.Things.{Thing, server_things, things_of}
use Rattle.law_counts_things.specs.Below.coherent_memory.Coherent.{IsSound}
use Rattle.law_counts_things.specs.Below.law_counts_sums.Laws.{Gives, GoTo, FewEvents}
use Rattle.law_counts_things.proofs.Below.law_counts_sums.Results.{then_gives, over_gives, both_give, test_gives}
use Rattle.law_counts_things.proofs.Below.law_counts_sums.Events.{tot-server}
use Rattle.law_counts_things.proofs.Below.law_counts_sums.Applied.{go_with}
use Rattle.law_counts_things.proofs.Below.law_counts_sums.Handing.{hand_over_newer_law}
use Rattle.law_counts_things.proofs.Below.law_counts_sums.Sending.{each_event_sends}

-- where the entry is of that sort
module _ (f : Thing → ℕ) (Sort : EntryView → Type 0) where
  abbrev There : Server × EntryView → Type 0
  There r = Sort r.1 → tot f (server_things r.0) ≡ 0

  abbrev Leads : Cluster × EntryView → Type 0
  Leads d = Sort d.1 → tot f (things_of d.0) ≡ 0

  abbrev Goes : Cluster → Event → Server → Server × EntryView → Type 0
  Goes k e s r = GoTo (with_server k.servers e.server r.0) (drop (length s.rest.outbox) r.0.rest.outbox)

  pub lifted : (k : Cluster) (e : Event) → IsSound k → FewEvents k → tot f (things_of k) ≡ 0
      → ((s : Server) → server_at k.servers e.server ≡ Some s → enabled k.options s e.what ≡ true → tot f (server_things s) ≡ 0 → Gives There (does k.code k.options s e.what)) → Gives Leads (apply k e)
  lifted k e sound few none go =
      then_gives Leads (server_at k.servers e.server) _ (λ s here.
      over_gives (λ r. Goes k e s r × There r) Leads (done_at k e.what s) _
      (both_give (Goes k e s) There (λ r. Goes k e s r × There r) (done_at k e.what s) (each_event_sends k e sound few s here)
      (test_gives There (enabled k.options s e.what) (does k.code k.options s e.what) (λ on. go s here on (omega (arith, none, (tot-server f k.servers e.server s s here).0)))) (λ r a b. (a, b)))
      (λ r u sort.
      let older = length s.rest.outbox in
      let t = tot-server f k.servers e.server s r.0 here in
      let goes = go_with k.servers e.server r.0 (take older r.0.rest.outbox) (drop older r.0.rest.outbox) u.0 in
      omega (arith, none, hand_over_newer_law f e.server older s r.0 k.servers here goes, t.0, t.1, u.1 sort)))
