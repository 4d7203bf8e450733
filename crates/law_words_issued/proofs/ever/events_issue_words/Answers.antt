use Rattle.law_words_issued.proofs.ever.events_issue_words.Goals as goal
use Rattle.law_words_issued.proofs.ever.Settled.{events_issue_words}

pub returns : goal.returns
returns c = events_issue_words
