use Rattle.std.proofs.Common.{refl, sym, ap, ◌∙◌}
use Rattle.drive_model.specs.Rounds.{rounds_from}
use Rattle.drust_run.specs.Drives.{run_of}
use Rattle.drust_run.proofs.rounds.run_rounds.Goals as goal

pub returns-clause-run : goal.returns-clause-run
returns-clause-run g c = record {
  code = c.in_ok-start.start.cluster.state.code;
  bare = c.in_ok-start.ensures.code;
  run = run_of c.in_ok-last.last;
  is = ap (rounds_from c.args.options.now.turns 1) (sym c.in_ok-start.ensures.start) ∙ c.in_ok-last.ensures.run;
  cluster = refl;
  entries = refl;
}

pub returns-clause-coherent : goal.returns-clause-coherent
returns-clause-coherent g c =
    let way = c.in_ok-last.ensures.way in
    c.coherent_in_any_order.ensures.coherent c.in_ok-last.last.cluster.state way.ran way.same way.coherent

pub returns-clause-sent : goal.returns-clause-sent
returns-clause-sent g c = let way = c.in_ok-last.ensures.way in way.sent
