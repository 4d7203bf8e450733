use Rattle.law_words_values.proofs.carried.locks_keep_words.Goals as goal
use Rattle.law_words_values.proofs.carried.Locks.{locks_keep}

pub returns : goal.returns
returns c = record { locks = locks_keep }
