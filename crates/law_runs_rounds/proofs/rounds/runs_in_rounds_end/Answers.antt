use Rattle.law_runs_rounds.proofs.rounds.runs_in_rounds_end.Goals as goal
use Rattle.law_counts_limits.proofs.limits.Numbers.{all_events}
use Rattle.law_runs_rounds.proofs.rounds.UnderWay.{Laws}
use Rattle.law_runs_rounds.proofs.rounds.Ends.{rounds_end, ends_exact}

pub returns : goal.returns
returns c =
    let laws : Laws = record {
      results = c.enabled_events_have_results.ensures;
      sends = c.events_send_few.ensures;
      counts = c.counts_are_small.ensures.counts;
      led = c.runs_from_starts.ensures.runs;
      counted = λ k. all_events k.servers;
    } in
    record { ends = rounds_end laws c.starts_are_coherent.ensures c.going_goes_on.ensures.can c.balances_move.ensures; exact = ends_exact }
