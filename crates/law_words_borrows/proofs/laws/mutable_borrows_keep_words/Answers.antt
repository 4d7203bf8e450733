use Rattle.law_words_borrows.proofs.laws.mutable_borrows_keep_words.Goals as goal
use Rattle.law_words_borrows.proofs.Takes.{mutable_borrows_keep}

pub returns : goal.returns
returns c = record { keep = mutable_borrows_keep }
