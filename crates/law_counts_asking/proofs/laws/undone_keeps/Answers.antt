use Rattle.law_counts_asking.proofs.laws.undone_keeps.Goals as goal
use Rattle.law_counts_asking.proofs.Undone.{phases_undone, gifts_undone}

pub returns : goal.returns
returns c = record { phases_stand = phases_undone; gifts_fit = gifts_undone }
