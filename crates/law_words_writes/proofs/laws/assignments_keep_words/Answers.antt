use Rattle.law_words_writes.proofs.laws.assignments_keep_words.Goals as goal
use Rattle.law_words_writes.proofs.Assignments.{assignments_keep}

pub returns : goal.returns
returns c = record { assigns = assignments_keep }
