use Rattle.std.proofs.Common.{sym, subst}
use denote.Param.Send.{sendable}
use Rattle.std.specs.Prelude.{slice_index_or}
use Rattle.drust_run.specs.Desks.{IsReady, Works}
use Rattle.drust_run.proofs.Crosses.{desk_send}
use Rattle.drust_run.proofs.RoundLemmas.{ready_here, each_at}
use Rattle.drust_run.proofs.desks.at_work.Goals as goal

pub for_each_mut-requires-clause-accepts : goal.for_each_mut-requires-clause-accepts
for_each_mut-requires-clause-accepts g c κs within i p below is =
    subst (IsReady c.args.quantum) (sym is) (ready_here c.args.quantum c.args.desks.now i p.now below c.requires.ready)

pub returns : goal.returns
returns g c =
    let ds = c.args.desks.now in
    let es = c.for_each_mut.new.s in
    each_at c.args.quantum ds es (c.for_each_mut.auto.s) (λ i d within.
    let at = (c.for_each_mut.ensures i d within).1 in
    subst (λ x. Works c.args.quantum x (slice_index_or es i d)) at.argument_is (subst (Works c.args.quantum at.argument.now) at.left at.call))

pub for_each_mut-requires-send-T : goal.for_each_mut-requires-send-T
for_each_mut-requires-send-T g c κs within = let sent = desk_send in search sendable depth 20
