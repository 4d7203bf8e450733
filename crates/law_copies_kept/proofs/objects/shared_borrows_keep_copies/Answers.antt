use Rattle.law_copies_kept.proofs.objects.shared_borrows_keep_copies.Goals as goal
use Rattle.law_copies_kept.proofs.objects.SharedBorrows.{shared_borrows_keep}

pub returns : goal.returns
returns c = shared_borrows_keep
