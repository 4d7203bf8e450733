use Rattle.law_copies_kept.proofs.objects.mutable_borrows_keep_copies.Goals as goal
use Rattle.law_copies_kept.proofs.objects.MutableBorrows.{mutable_borrows_keep}

pub returns : goal.returns
returns c = mutable_borrows_keep
