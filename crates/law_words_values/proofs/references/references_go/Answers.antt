use Rattle.law_words_values.proofs.references.references_go.Goals as goal
use Rattle.law_words_values.proofs.references.RefEvents.{references_go}

pub returns : goal.returns
returns c = references_go
