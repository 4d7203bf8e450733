use Rattle.law_words_values.proofs.references.starts_leave_words.Goals as goal
use Rattle.law_words_values.proofs.references.StartEvents.{starts_leave_words}

pub returns : goal.returns
returns c = starts_leave_words
