use Rattle.law_counts_sums.proofs.parts.handing_over_newer.Goals as goal
use Rattle.law_counts_sums.proofs.Handing.{hand_over_newer_law}

pub returns : goal.returns
returns c = hand_over_newer_law
