use Rattle.law_counts_things.proofs.names.askers_keep.Goals as goal
use Rattle.law_counts_things.proofs.names.Askers.{askers_stay, returns_kept}

pub returns : goal.returns
returns c = record { askers_stand = askers_stay; return_right = returns_kept }
