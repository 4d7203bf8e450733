use Rattle.law_words_values.proofs.carried.moves_leave_words.Goals as goal
use Rattle.law_words_values.proofs.carried.Leaving.{moves_leave}

pub returns : goal.returns
returns c = record { moves = moves_leave }
