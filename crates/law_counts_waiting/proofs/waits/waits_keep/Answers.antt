use Rattle.law_counts_waiting.proofs.waits.waits_keep.Goals as goal
use Rattle.law_counts_waiting.proofs.waits.Waiting.{phases_kept, gifts_kept}

pub returns : goal.returns
returns c = record { phases_stand = phases_kept; gifts_fit = gifts_kept }
