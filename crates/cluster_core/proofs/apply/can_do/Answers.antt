use Rattle.std.proofs.Common.{◌≡◌, ◌≤◌, length, slice_get, Some, sym, ap, ◌∙◌, arith}
use Rattle.cluster_core.specs.Applying.{can_do}
use Rattle.cluster_core.proofs.RowLemmas.{at_place, past_end}
use Rattle.cluster_core.proofs.apply.can_do.Goals as goal

pub returns-in-Some : goal.returns-in-Some
returns-in-Some c =
    let there : slice_get c.args.servers.now c.args.at ≡ Some c.in-Some.server.now =
    ap (slice_get c.args.servers.now) (sym c.from.ensures) ∙ at_place c.args.servers.now c.from.result c.in-Some.server.now ((c.in-Some.ensures.lookup).3.0) ((c.in-Some.ensures.lookup).1) in
    c.enabled.ensures ∙ ap (can_do c.args.what.now) (sym there)

pub returns-in-None : goal.returns-in-None
returns-in-None c =
    let past : length c.args.servers.now ≤ c.args.at = omega (arith, (c.in-None.ensures.lookup).3, c.from.ensures) in
    ap (can_do c.args.what.now) (sym (past_end c.args.servers.now c.args.at past))
