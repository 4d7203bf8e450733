use Rattle.fr_types.proofs.LoanLemmas.{first_later}
use Rattle.fr_types.proofs.loans.is_first.Goals as goal

pub returns-else-at-eq0 : goal.returns-else-at-eq0
returns-else-at-eq0 c = first_later c.args.us.now c.args.at c.requires.rising c.requires.here c.if-at-eq0.false
