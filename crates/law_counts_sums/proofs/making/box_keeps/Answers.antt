use Rattle.coherent_memory.specs.Coherent.{OneHome, OneOwner, Users}
use Rattle.law_counts_sums.proofs.making.box_keeps.Goals as goal
use Rattle.law_counts_sums.specs.Laws.{NumbersDiffer, OneState, OneTaskValue, ServersDiffer, SharesCounted}
use Rattle.law_counts_sums.proofs.BoxSteps.{box_part}

pub returns : goal.returns
returns c = record {
  home = box_part OneHome (λ k g. record { home_of_each = g.home_of_each });
  owner = box_part OneOwner (λ k g. record { owner_of_each = g.owner_of_each });
  states = box_part OneState (λ k g. g.one_state);
  users = box_part Users (λ k g. record { users_counted = g.users_counted });
  shares = box_part SharesCounted (λ k g. g.shares_counted);
  tasks = box_part OneTaskValue (λ k g. g.one_task_value);
  threads = box_part NumbersDiffer (λ k g. g.numbers_differ);
  servers = box_part ServersDiffer (λ k g. g.servers_differ);
}
