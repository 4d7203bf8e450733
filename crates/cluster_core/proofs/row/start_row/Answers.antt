use Rattle.std.proofs.Common.{◌≡◌, ◌++◌, [], ◌∷◌, ◌≤◌, sym, ap, subst, ◌∙◌, arith}
use Rattle.cluster_core.specs.Views.{states, AllKeep}
use Rattle.cluster_core.proofs.StartLemmas.{next_server, kept_push, all_servers}
use Rattle.cluster_core.proofs.row.start_row.Goals as goal

pub servers-preserved : goal.servers-preserved
servers-preserved c =
    let code = c.args.code.now.value.items in
    let items : c.push.new.self.items ≡ c.servers.servers.items ++ c.in_ok-new.field-0 ∷ [] = c.in_ok-push.ensures.items in (
      ap states items ∙ next_server code c.args.options.now c.servers.servers.items c.in_ok-new.field-0 c.servers.server c.servers.invariant.0 c.in_ok-new.ensures.state,
      subst (AllKeep code c.args.options.now) (sym items) (kept_push code c.args.options.now c.servers.servers.items c.in_ok-new.field-0 c.servers.invariant.1 c.in_ok-new.ensures.code c.in_ok-new.ensures.options),
    )

pub returns-clause-states : goal.returns-clause-states
returns-clause-states c =
    let past : c.args.options.now.servers ≤ c.servers.server = omega (arith, c.servers-test.false) in
    c.servers.invariant.0 ∙ all_servers c.args.code.now.value.items c.args.options.now c.servers.server past
