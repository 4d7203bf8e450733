use Rattle.law_copies_kept.proofs.objects.starts_keep_copies.Goals as goal
use Rattle.law_copies_kept.proofs.objects.Starts.{starts_keep}

pub returns : goal.returns
returns c = starts_keep
