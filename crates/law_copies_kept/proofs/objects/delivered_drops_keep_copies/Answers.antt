use Rattle.law_copies_kept.proofs.objects.delivered_drops_keep_copies.Goals as goal
use Rattle.law_copies_kept.proofs.objects.Drops.{drops_keep}

pub returns : goal.returns
returns c = drops_keep
