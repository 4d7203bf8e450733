use Rattle.std.proofs.Common.{◌<◌, slice_get, length, sym, ap, subst, refl, ◌∙◌, arith}
use Rattle.std.specs.Prelude.{IfSome}
use Rattle.cluster_core.proofs.RowLemmas.{at_place}
use Rattle.call_tests.specs.Ready.{IsReady}
use Rattle.call_tests.proofs.hand.act_at.Goals as goal

pub act-requires : goal.act-requires
act-requires c =
    let vs = c.args.servers.now.items in
    let inside : c.from.result < length vs = omega (arith, c.in-Some.ensures.variant.0 refl, c.args.servers.now.ok.0) in
    let there = ap (slice_get vs) (sym c.from.ensures) ∙ at_place vs c.from.result c.in-Some.server.now inside c.in-Some.ensures.value in
    subst (λ o. IfSome o (IsReady c.args.what.now)) there c.requires
