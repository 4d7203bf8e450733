use Rattle.law_words_kept.proofs.ends.ended_are_alone.Goals as goal
use Rattle.law_words_kept.proofs.ends.Alone.{ended_are_alone}

pub returns : goal.returns
returns c = ended_are_alone
