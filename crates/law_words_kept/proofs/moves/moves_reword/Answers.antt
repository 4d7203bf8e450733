use Rattle.law_words_kept.proofs.moves.moves_reword.Goals as goal
use Rattle.law_words_kept.proofs.moves.Relaid.{relaid_rewords, renewals_reword}

pub returns : goal.returns
returns c = record { relaid = relaid_rewords; renewals = renewals_reword }
