use Rattle.std.proofs.Common.{◌≡◌, length, sym, ap, subst, ◌∙◌, arith}
use Rattle.std.specs.Arc.{arc_value}
use Rattle.server_model.specs.Clusters.{hand_over, outboxes}
use Rattle.cluster_core.specs.Views.{ClusterView, states, events_in, AreServersOf}
use Rattle.cluster_core.specs.Rooms.{HaveRoom}
use Rattle.cluster_core.specs.Handing.{handed}
use Rattle.cluster_core.proofs.RowLemmas.{then_same}
use Rattle.cluster_core.proofs.RoomLemmas.{grown_states, grown_run}
use Rattle.cluster_core.proofs.RunLemmas.{goes_on, cluster_with, on_err}
use Rattle.cluster_core.proofs.CountingLemmas.{room_for_all}
use Rattle.cluster_core.proofs.ReadyLemmas.{room_grown}
use Rattle.cluster_core.proofs.cluster.Cluster.hand_over.Goals as goal

pub invariant_of-self : goal.invariant_of-self
invariant_of-self c =
    let vs = c.self.inside.servers.items in
    let ws = c.make_room.new.servers.items in
    let grown = c.make_room.ensures.grown in
    (goes_on (arc_value c.self.inside.checked) vs ws (grown_run vs ws grown) c.self.invariant.0, omega (arith, c.self.invariant.1, ap events_in (grown_states vs ws grown)), λ e. room_grown 2 vs ws grown (c.self.invariant.2 e))

pub returns-in_err-make_room-clause-refused : goal.returns-in_err-make_room-clause-refused
returns-in_err-make_room-clause-refused c =
    let vs = c.self.inside.servers.items in
    let ws = c.make_room.new.servers.items in
    let grown = c.make_room.ensures.grown in
    on_err _ c.from_residual-in_err-make_room.result (cluster_with vs ws (states vs) (grown_run vs ws grown) (grown_states vs ws grown) ∙ ap (λ (v : ClusterView). v.state) c.self.view_is)

pub send_all-requires-clause-numbered : goal.send_all-requires-clause-numbered
send_all-requires-clause-numbered c =
    let run = grown_run c.self.inside.servers.items c.make_room.new.servers.items c.make_room.ensures.grown in
    let are : AreServersOf _ c.self.inside.servers.items = c.self.invariant.0 in
    run.numbered 0 are.numbered

pub send_all-requires-clause-room : goal.send_all-requires-clause-room
send_all-requires-clause-room c =
    let vs = c.self.inside.servers.items in
    let ws = c.make_room.new.servers.items in
    let all : c.in_ok-all.all ≡ length (outboxes (states ws)) =
    c.in_ok-all.ensures ∙ ap (λ l. length (outboxes (states l))) c.deref.ensures.value ∙ ap (λ l. length (outboxes l)) (sym (grown_states vs ws c.make_room.ensures.grown)) in
    room_for_all (outboxes (states ws)) ws (subst (λ n. HaveRoom n ws) all c.in_ok-make_room.ensures.room)

pub invariant_of-self-2 : goal.invariant_of-self-2
invariant_of-self-2 c =
    let p = arc_value c.self.inside.checked in
    let vs = c.self.inside.servers.items in
    let ws = c.make_room.new.servers.items in
    let grown = c.make_room.ensures.grown in
    (goes_on p ws c.send_all.new.servers.items c.send_all.ensures.run (goes_on p vs ws (grown_run vs ws grown) c.self.invariant.0), omega (arith, c.self.invariant.1, ap events_in (grown_states vs ws grown), c.send_all.ensures.events), λ e. absurd (cc e))

pub returns-clause-handed : goal.returns-clause-handed
returns-clause-handed c =
    let vs = c.self.inside.servers.items in
    let ws = c.make_room.new.servers.items in
    let grown = c.make_room.ensures.grown in
    let run = then_same vs ws c.send_all.new.servers.items (grown_run vs ws grown) c.send_all.ensures.run in
    cluster_with vs c.send_all.new.servers.items (handed (states vs)) run (c.send_all.ensures.handed ∙ ap handed (grown_states vs ws grown)) ∙ ap (λ (v : ClusterView). hand_over v.state) c.self.view_is

pub returns-clause-sent : goal.returns-clause-sent
returns-clause-sent c = c.send_all.ensures.sent
