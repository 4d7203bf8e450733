use Rattle.law_copies_kept.proofs.objects.delivered_moves_keep_copies.Goals as goal
use Rattle.law_copies_kept.proofs.objects.Moves.{moves_keep}

pub returns : goal.returns
returns c = moves_keep
