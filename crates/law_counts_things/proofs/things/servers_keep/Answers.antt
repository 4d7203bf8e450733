use Rattle.law_counts_things.proofs.things.servers_keep.Goals as goal
use Rattle.law_counts_things.proofs.things.Homes.{homes_stay}
use Rattle.law_counts_things.proofs.things.Queues.{queues_kept, shares_kept}

pub returns : goal.returns
returns c = record { at_their_home = homes_stay; queue_while_out = queues_kept; content_without_shares = shares_kept }
