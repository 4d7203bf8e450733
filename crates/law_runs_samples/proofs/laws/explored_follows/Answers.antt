use Rattle.law_runs_samples.proofs.Follow.{explored_follows}
use Rattle.law_runs_samples.proofs.laws.explored_follows.Goals as goal

pub returns : goal.returns
returns c = explored_follows c.all_runs_end_so.ensures c.programs_have_codes.ensures.programs c.same_plain.ensures.once c.locks_wait.ensures.all c.programs_run_right.ensures
