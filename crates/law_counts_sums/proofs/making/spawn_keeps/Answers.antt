use Rattle.coherent_memory.specs.Coherent.{OneHome, OneOwner, Users}
use Rattle.law_counts_sums.proofs.making.spawn_keeps.Goals as goal
use Rattle.law_counts_sums.specs.Kinds.{step_spawn}
use Rattle.law_counts_sums.specs.Laws.{NumbersDiffer, OneState, OneTaskValue, ServersDiffer, SharesCounted}
use Rattle.law_counts_sums.proofs.StartSteps.{starts_part}

pub returns : goal.returns
returns c = record {
  home = starts_part step_spawn tt OneHome (λ k g. record { home_of_each = g.home_of_each });
  owner = starts_part step_spawn tt OneOwner (λ k g. record { owner_of_each = g.owner_of_each });
  states = starts_part step_spawn tt OneState (λ k g. g.one_state);
  users = starts_part step_spawn tt Users (λ k g. record { users_counted = g.users_counted });
  shares = starts_part step_spawn tt SharesCounted (λ k g. g.shares_counted);
  tasks = starts_part step_spawn tt OneTaskValue (λ k g. g.one_task_value);
  threads = starts_part step_spawn tt NumbersDiffer (λ k g. g.numbers_differ);
  servers = starts_part step_spawn tt ServersDiffer (λ k g. g.servers_differ);
}
