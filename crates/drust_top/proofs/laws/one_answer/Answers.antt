use Rattle.drust_top.proofs.OneAnswer.{one, runs, follows, loads}
use Rattle.drust_top.proofs.laws.one_answer.Goals as goal

pub returns : goal.returns
returns c = record { once = one; typed = runs; followed = follows; loaded = loads c.programs_are_sources.ensures.sources }
