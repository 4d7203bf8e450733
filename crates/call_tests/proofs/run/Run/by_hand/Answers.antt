use Rattle.std.proofs.Common.{◌<◌, sym, ap, subst, arith}
use Rattle.std.specs.Arc.{arc_value}
use Rattle.coherent_types.specs.ClusterTypes.{IsCoherent}
use Rattle.cluster_core.specs.Views.{cluster_of, events_in, states}
use Rattle.call_tests.proofs.ReadyLemmas.{are_ready}
use Rattle.call_tests.proofs.run.Run.by_hand.Goals as goal

pub do_event-requires : goal.do_event-requires
do_event-requires g c =
    let vs = c.into_servers-servers.result.1.items in
    let is = c.into_servers-servers.ensures.servers in
    let coherent : IsCoherent (cluster_of vs) = subst IsCoherent (sym is) c.self.invariant.0 in
    let few : events_in (states vs) < 1000000000 = omega (arith, ap (λ k. events_in k.servers) is, c.events.ensures.sum) in
    are_ready (arc_value c.into_servers-servers.result.0) vs c.event_of-event.result.server c.event_of-event.result.what c.into_servers-servers.ensures.run coherent few
