use Rattle.law_words_borrows.proofs.laws.shared_borrows_keep_words.Goals as goal
use Rattle.law_words_borrows.proofs.Shares.{shared_borrows_keep}

pub returns : goal.returns
returns c = record { keep = shared_borrows_keep }
