use Rattle.std.proofs.Common.{◌≡◌, ◌<◌, length, slice_get, Some, sym, ap, ◌∙◌, arith}
use Rattle.std.specs.Prelude.{option_map}
use Rattle.server_model.specs.Servers.{Server, server_at}
use Rattle.cluster_core.specs.Views.{ClusterView, AreServersOf}
use Rattle.cluster_core.proofs.RowLemmas.{at_place}
use Rattle.cluster_core.proofs.RunLemmas.{server_there}
use Rattle.cluster_core.proofs.cluster.Cluster.retired.Goals as goal

pub returns : goal.returns
returns c =
    let are : AreServersOf _ c.self.inside.servers.items = c.self.invariant.0 in
    let options = ap (λ (v : ClusterView). v.state.options.servers) c.self.view_is in
    let inside : c.from.result < length c.self.inside.servers.items = omega (arith, c.requires.there, c.from.ensures, are.count, options) in
    let there : slice_get c.self.inside.servers.items c.args.server ≡ Some c.index.result.now =
    ap (slice_get c.self.inside.servers.items) (sym c.from.ensures) ∙ at_place c.self.inside.servers.items c.from.result c.index.result.now inside c.index.ensures in
    let here = server_there _ c.self.inside.servers.items c.args.server c.index.result.now are there in
    ap (λ (v : ClusterView). option_map (λ (s : Server). s.rest.partition.retired) (server_at v.state.servers c.args.server)) (sym c.self.view_is) ∙ ap (option_map (λ (s : Server). s.rest.partition.retired)) here ∙ ap Some (sym c.retired.ensures)
