use Rattle.law_words_ends.proofs.variables.ends_at_hand_leave_words.Goals as goal
use Rattle.law_words_ends.proofs.variables.EndEvents.{ends_at_hand_leave_words}

pub returns : goal.returns
returns c = ends_at_hand_leave_words
