use Rattle.law_copies_kept.proofs.copies.copies_come_from_copies.Goals as goal
use Rattle.law_copies_kept.proofs.copies.KeptCopies.{come_from_copies}

pub returns : goal.returns
returns c = record { comes = come_from_copies }
