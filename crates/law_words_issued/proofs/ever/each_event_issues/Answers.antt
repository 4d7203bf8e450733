use Rattle.law_words_issued.proofs.ever.each_event_issues.Goals as goal
use Rattle.law_words_issued.proofs.ever.Events.{each_event_issues}

pub returns : goal.returns
returns c = each_event_issues
