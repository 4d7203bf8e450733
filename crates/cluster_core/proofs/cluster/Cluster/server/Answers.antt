use Rattle.std.proofs.Common.{◌≡◌, ◌≤◌, length, slice_get, Some, sym, ap, ◌∙◌, arith}
use Rattle.server_model.specs.Servers.{server_at}
use Rattle.cluster_core.specs.Views.{ClusterView, code_in, options_in, AreServersOf}
use Rattle.cluster_core.proofs.RowLemmas.{at_place, past_end}
use Rattle.cluster_core.proofs.RunLemmas.{keeps_at, server_there, no_server}
use Rattle.cluster_core.proofs.cluster.Cluster.server.Goals as goal

there : (c : goal.In-Some) → slice_get c.self.inside.servers.items c.args.no ≡ Some c.in-Some.server.now
there c =
    ap (slice_get c.self.inside.servers.items) (sym c.from.ensures) ∙ ap (λ l. slice_get l c.from.result) (sym c.deref.ensures.value)
    ∙ at_place c.deref.result.now c.from.result c.in-Some.server.now ((c.in-Some.ensures.lookup).3.0) ((c.in-Some.ensures.lookup).1)

pub returns-in-Some-clause-state : goal.returns-in-Some-clause-state
returns-in-Some-clause-state c =
    let are : AreServersOf _ c.self.inside.servers.items = c.self.invariant.0 in
    sym (ap (λ (v : ClusterView). server_at v.state.servers c.args.no) (sym c.self.view_is) ∙ server_there _ c.self.inside.servers.items c.args.no c.in-Some.server.now are (there c))

pub returns-in-Some-clause-kept : goal.returns-in-Some-clause-kept
returns-in-Some-clause-kept c =
    let are : AreServersOf _ c.self.inside.servers.items = c.self.invariant.0 in
    let kept = keeps_at c.self.inside.servers.items c.args.no c.in-Some.server.now (code_in c.self.inside.servers.items) (options_in c.self.inside.servers.items) are.alike (there c) in
    (kept.0 ∙ ap (λ (v : ClusterView). v.state.code) c.self.view_is, kept.1 ∙ ap (λ (v : ClusterView). v.state.options) c.self.view_is)

pub returns-in-None-clause-state : goal.returns-in-None-clause-state
returns-in-None-clause-state c =
    let are : AreServersOf _ c.self.inside.servers.items = c.self.invariant.0 in
    let past : length c.self.inside.servers.items ≤ c.args.no = omega (arith, (c.in-None.ensures.lookup).3, c.from.ensures, ap length c.deref.ensures.value) in
    sym (ap (λ (v : ClusterView). server_at v.state.servers c.args.no) (sym c.self.view_is) ∙ no_server _ c.self.inside.servers.items c.args.no are (past_end c.self.inside.servers.items c.args.no past))
