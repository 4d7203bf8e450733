use Rattle.law_words_paths.proofs.words.words_stay.Goals as goal
use Rattle.law_words_paths.proofs.words.OneMore.{one_more_stays}
use Rattle.law_words_paths.proofs.words.Unmoved.{unmoved_stays, untouched_stays}
use Rattle.law_words_paths.proofs.words.Fetches.{fetches_unmoved}
use Rattle.law_words_paths.proofs.words.Unseen.{evictions_unmoved}

pub returns-clause-unmoved : goal.returns-clause-unmoved
returns-clause-unmoved c = unmoved_stays

pub returns-clause-evictions : goal.returns-clause-evictions
returns-clause-evictions c = evictions_unmoved

pub returns-clause-fetches : goal.returns-clause-fetches
returns-clause-fetches c = fetches_unmoved

pub returns-clause-untouched : goal.returns-clause-untouched
returns-clause-untouched c = untouched_stays

pub returns-clause-one_more : goal.returns-clause-one_more
returns-clause-one_more c = one_more_stays
