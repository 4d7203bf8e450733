use Rattle.std.proofs.Common.{arith}
use Rattle.fr_types.proofs.LoanLemmas.{none}
use Rattle.fr_types.proofs.RenewLemmas.{low_seen}
use Rattle.fr_types.proofs.resolved.aim_at.Goals as goal

pub returns-then-us-eq1-clause-low : goal.returns-then-us-eq1-clause-low
returns-then-us-eq1-clause-low c = λ x h. low_seen x c.args.us.now none c.resolve.result (omega (arith, c.if-us-eq1.true)) c.resolve.ensures.slot c.resolve.ensures.stars h
