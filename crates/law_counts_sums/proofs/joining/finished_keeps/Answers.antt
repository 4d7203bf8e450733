use Rattle.coherent_memory.specs.Coherent.{OneHome, OneOwner, Users}
use Rattle.law_counts_sums.proofs.joining.finished_keeps.Goals as goal
use Rattle.law_counts_sums.specs.Laws.{NumbersDiffer, OneState, OneTaskValue, ServersDiffer, SharesCounted}
use Rattle.law_counts_sums.proofs.FinishSteps.{finished_part}

pub returns : goal.returns
returns c = record {
  home = finished_part OneHome (λ k g. record { home_of_each = g.home_of_each });
  owner = finished_part OneOwner (λ k g. record { owner_of_each = g.owner_of_each });
  states = finished_part OneState (λ k g. g.one_state);
  users = finished_part Users (λ k g. record { users_counted = g.users_counted });
  shares = finished_part SharesCounted (λ k g. g.shares_counted);
  tasks = finished_part OneTaskValue (λ k g. g.one_task_value);
  threads = finished_part NumbersDiffer (λ k g. g.numbers_differ);
  servers = finished_part ServersDiffer (λ k g. g.servers_differ);
}
