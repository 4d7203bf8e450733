use Rattle.law_copies_kept.proofs.references.reads_keep_copies.Goals as goal
use Rattle.law_copies_kept.proofs.references.ReadCopies.{reads_keep}

pub returns : goal.returns
returns c = record { reads = reads_keep }
