use Rattle.coherent_memory.specs.Coherent.{OneHome, OneOwner, Users}
use Rattle.law_counts_sums.proofs.every.each_event_keeps.Goals as goal
use Rattle.law_counts_sums.specs.Laws.{NotedAtHome, NotedGoOn, NumbersDiffer, OneAnswer, OneResult, OneState, OneTaskValue, PairsNoted, ServersDiffer, SharesCounted}
use Rattle.law_counts_sums.proofs.Owed.{owed_left}
use Rattle.law_counts_sums.proofs.TurnEvents.{asking_part, result_once}
use Rattle.law_counts_sums.proofs.Each.{each_part}

pub returns : goal.returns
returns c = record {
  home = each_part OneHome (λ k g. record { home_of_each = g.home_of_each });
  owner = each_part OneOwner (λ k g. record { owner_of_each = g.owner_of_each });
  states = each_part OneState (λ k g. g.one_state);
  users = each_part Users (λ k g. record { users_counted = g.users_counted });
  shares = each_part SharesCounted (λ k g. g.shares_counted);
  tasks = each_part OneTaskValue (λ k g. g.one_task_value);
  threads = each_part NumbersDiffer (λ k g. g.numbers_differ);
  servers = each_part ServersDiffer (λ k g. g.servers_differ);
  answers = asking_part OneAnswer (λ k g. g.one_answer);
  pairs = asking_part PairsNoted (λ k g. g.pairs_noted);
  going = asking_part NotedGoOn (λ k g. g.noted_go_on);
  homes = asking_part NotedAtHome (λ k g. g.noted_at_home);
  results = asking_part OneResult result_once;
  owed = owed_left;
}
