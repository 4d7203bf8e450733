use Rattle.std.proofs.Common.{rules}
use Rattle.tracer.proofs.FigureLemmas.{act_at}
use Rattle.tracer.proofs.figures.count_acts.Goals as goal

pub acts-preserved : goal.acts-preserved
acts-preserved c =
    let more = act_at c.args.figure c.args.acts.now c.acts.act-index c.act-item.result c.acts-test.true c.act-item.is in
    search (rules, more)
