use Rattle.law_counts_asking.proofs.laws.pairs_keep.Goals as goal
use Rattle.law_counts_asking.proofs.BranchUnits.{units_kept}
use Rattle.law_counts_asking.proofs.PairsOver.{pairs_go_on_kept}
use Rattle.law_counts_asking.proofs.Parents.{parents_kept}

pub returns : goal.returns
returns c = record { pairs_go_on = pairs_go_on_kept; branches_give_unit = units_kept; parents_end = parents_kept }
