use Rattle.std.proofs.Common.{◌≡◌, nat_eq, false, true, sym, ap, ◌∙◌, arith}
use Rattle.std.specs.Prelude.{is_some}
use Rattle.std.proofs.lemmas.Bool.Decides.{nat_tests}
use Rattle.cluster_core.proofs.EndingLemmas.{stopped_by_count}
use Rattle.cluster_core.proofs.standing.is_stopped.Goals as goal

pub returns-then-active-eq0 : goal.returns-then-active-eq0
returns-then-active-eq0 c =
    let none : nat_eq c.active-active.result 0 ≡ true = grind (arith, nat_tests, c.if-active-eq0.true) in
    none ∙ sym (stopped_by_count c.args.server.now.state.threads c.active-active.result c.active-active.ensures true none)

pub returns-else-active-eq0 : goal.returns-else-active-eq0
returns-else-active-eq0 c =
    let some : nat_eq c.active-active.result 0 ≡ false = grind (arith, nat_tests, c.if-active-eq0.false) in
    c.is_some.ensures ∙ ap is_some c.waits_at.ensures ∙ sym (stopped_by_count c.args.server.now.state.threads c.active-active.result c.active-active.ensures false some)
