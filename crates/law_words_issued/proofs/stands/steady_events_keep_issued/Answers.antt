use Rattle.law_words_issued.proofs.stands.steady_events_keep_issued.Goals as goal
use Rattle.law_words_issued.proofs.stands.Steady.{issued_steady}

pub returns : goal.returns
returns c = issued_steady
