use Rattle.std.proofs.Common.{◌≤◌, length, sym, ◌∙◌, arith}
use Rattle.cluster_core.specs.Views.{states}
use Rattle.cluster_core.proofs.RowLemmas.{states_long, then_same}
use Rattle.cluster_core.proofs.HandingLemmas.{enough_empty, all_handed}
use Rattle.cluster_core.proofs.CountingLemmas.{none_left}
use Rattle.cluster_core.proofs.sending.send_all.Goals as goal

pub servers-preserved : goal.servers-preserved
servers-preserved c =
    let run = c.send_from.ensures.run in record {
      handed = c.send_from.ensures.handed ∙ c.servers.invariant.handed;
      numbered = run.numbered 0 c.servers.invariant.numbered;
      before = c.send_from.ensures.empty;
      room = c.send_from.ensures.room;
      run = then_same c.args.servers.now.items c.servers.servers.items c.send_from.new.servers.items c.servers.invariant.run run;
      events = c.send_from.ensures.events ∙ c.servers.invariant.events;
      long = run.long ∙ c.servers.invariant.long;
    }

pub returns-clause-handed : goal.returns-clause-handed
returns-clause-handed c =
    let past : length (states c.servers.servers.items) ≤ c.servers.at = omega (arith, states_long c.servers.servers.items, c.servers.invariant.long, c.servers-test.false, c.len-at-end.ensures, c.args.servers.now.ok.0) in
    sym (all_handed (states c.servers.servers.items) (enough_empty c.servers.at (states c.servers.servers.items) past c.servers.invariant.before)) ∙ c.servers.invariant.handed

pub returns-clause-sent : goal.returns-clause-sent
returns-clause-sent c =
    let past : length (states c.servers.servers.items) ≤ c.servers.at = omega (arith, states_long c.servers.servers.items, c.servers.invariant.long, c.servers-test.false, c.len-at-end.ensures, c.args.servers.now.ok.0) in
    none_left (states c.servers.servers.items) (enough_empty c.servers.at (states c.servers.servers.items) past c.servers.invariant.before)
