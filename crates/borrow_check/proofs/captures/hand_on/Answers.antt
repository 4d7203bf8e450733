use Rattle.borrow_check.proofs.RuleLemmas.{put_long}
use Rattle.borrow_check.proofs.captures.hand_on.Goals as goal

pub returns-clause-same : goal.returns-clause-same
returns-clause-same c = put_long c.args.env.now c.put.new.self c.args.x _ c.in_ok-put.ensures.put
