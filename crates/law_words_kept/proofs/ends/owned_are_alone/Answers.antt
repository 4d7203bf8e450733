use Rattle.law_words_kept.proofs.ends.owned_are_alone.Goals as goal
use Rattle.law_words_kept.proofs.ends.Given.{given_up_may_be}
use Rattle.law_words_kept.proofs.ends.Owned.{owned_are_alone}

pub returns-clause-alone : goal.returns-clause-alone
returns-clause-alone c = owned_are_alone

pub returns-clause-given : goal.returns-clause-given
returns-clause-given c = given_up_may_be
