use Rattle.law_runs_rounds.proofs.rounds.rounds_go_on.Goals as goal
use Rattle.law_counts_limits.proofs.limits.Numbers.{all_events}
use Rattle.law_runs_rounds.proofs.rounds.UnderWay.{Laws}
use Rattle.law_runs_rounds.proofs.rounds.GoOn.{rounds_go_on, balances_go_on, servers_can_work, balances_can_move}

pub returns : goal.returns
returns c =
    let laws : Laws = record {
      results = c.enabled_events_have_results.ensures;
      sends = c.events_send_few.ensures;
      counts = c.counts_are_small.ensures.counts;
      led = c.runs_from_starts.ensures.runs;
      counted = λ k. all_events k.servers;
    } in
    record { rounds = rounds_go_on laws; balances = balances_go_on laws c.balances_move.ensures; servers = servers_can_work laws; moves = balances_can_move laws c.balances_move.ensures }
