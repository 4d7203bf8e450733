use Rattle.law_words_writes.proofs.laws.moves_keep_words.Goals as goal
use Rattle.law_words_writes.proofs.Moves.{moves_keep}

pub returns : goal.returns
returns c = record { moves = moves_keep }
