use Rattle.law_words_values.proofs.references.holders_pass_no_unnamed_slot.Goals as goal
use Rattle.law_words_values.proofs.references.Unpassed.{unnamed_are_unpassed}

pub returns : goal.returns
returns c = unnamed_are_unpassed
