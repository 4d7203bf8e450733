use Rattle.law_words_kept.proofs.moves.ends_leave_words.Goals as goal
use Rattle.law_words_kept.proofs.moves.Ended.{ends_leave_words}
use Rattle.law_words_kept.proofs.moves.Example.{ends_apply}

pub returns : goal.returns
returns c = record { words = ends_leave_words; applies = ends_apply }
