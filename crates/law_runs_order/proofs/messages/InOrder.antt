-- Clusters that are the same but for the order in which messages wait have the same things, and are coherent, both or none.
use Rattle.std.proofs.Common.{List, [], ◌∷◌, sym, ap, ◌∙◌}
use Rattle.law_runs_rounds.specs.Below.law_runs_coherent.Below.server_model.Servers.{Server}
use Rattle.law_runs_rounds.specs.rounds.Order.{AreSameServers}
use Rattle.law_runs_order.specs.things.SameThings.{with_messages, AreSameBeside}
use Rattle.law_runs_order.proofs.types.Coherent.{coherent_with_same_things}
use Rattle.law_runs_order.specs.messages.Laws.{ThingsInAnyOrder, CoherentInAnyOrder}
use Rattle.law_runs_order.proofs.messages.Inboxes.{servers_reordered}

same_beside : (ss zs : List Server) → AreSameServers ss zs → AreSameBeside ss zs
same_beside [] [] a = tt
same_beside (s ∷ ss) (z ∷ zs) a = (a.0.same ∙ ap (λ l. with_messages z.rest.inbox l s) (sym (ap (λ (y : Server). y.rest.outbox) a.0.same)), same_beside ss zs a.1)
same_beside [] (z ∷ zs) a = absurd a
same_beside (s ∷ ss) [] a = absurd a

pub same_things : ThingsInAnyOrder
same_things k z h = record { code = h.code; options = h.options; servers = same_beside k.servers z.servers h.servers; things = servers_reordered k.servers z.servers h.servers }

pub coherent_in_any_order : CoherentInAnyOrder
coherent_in_any_order k z h c = coherent_with_same_things k z (same_things k z h) c
