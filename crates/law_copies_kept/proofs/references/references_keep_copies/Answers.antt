use Rattle.law_copies_kept.proofs.references.references_keep_copies.Goals as goal
use Rattle.law_copies_kept.proofs.references.ReferenceCopies.{references_keep, variable_borrows_keep}

pub returns : goal.returns
returns c = record { go = references_keep; borrows = variable_borrows_keep }
