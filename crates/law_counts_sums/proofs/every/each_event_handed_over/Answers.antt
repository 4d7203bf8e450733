use Rattle.coherent_memory.specs.Coherent.{OneHome, OneOwner, Users}
use Rattle.law_counts_sums.proofs.every.each_event_handed_over.Goals as goal
use Rattle.law_counts_sums.specs.Laws.{NotedAtHome, NotedGoOn, NumbersDiffer, OneAnswer, OneResult, OneState, OneTaskValue, PairsNoted, ServersDiffer, SharesCounted}
use Rattle.law_counts_sums.proofs.Owed.{owed_handed_over}
use Rattle.law_counts_sums.proofs.TurnEvents.{asking_applied, result_once}
use Rattle.law_counts_sums.proofs.Sending.{applied_part}

pub returns : goal.returns
returns c = record {
  home = applied_part OneHome (λ k g. record { home_of_each = g.home_of_each });
  owner = applied_part OneOwner (λ k g. record { owner_of_each = g.owner_of_each });
  states = applied_part OneState (λ k g. g.one_state);
  users = applied_part Users (λ k g. record { users_counted = g.users_counted });
  shares = applied_part SharesCounted (λ k g. g.shares_counted);
  tasks = applied_part OneTaskValue (λ k g. g.one_task_value);
  threads = applied_part NumbersDiffer (λ k g. g.numbers_differ);
  servers = applied_part ServersDiffer (λ k g. g.servers_differ);
  answers = asking_applied OneAnswer (λ k g. g.one_answer);
  pairs = asking_applied PairsNoted (λ k g. g.pairs_noted);
  going = asking_applied NotedGoOn (λ k g. g.noted_go_on);
  homes = asking_applied NotedAtHome (λ k g. g.noted_at_home);
  results = asking_applied OneResult result_once;
  owed = owed_handed_over;
}
