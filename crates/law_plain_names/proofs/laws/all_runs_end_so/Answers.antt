use Rattle.law_plain_names.proofs.laws.all_runs_end_so.Goals as goal
use Rattle.law_plain_names.proofs.Alike.{all_end_so}

pub returns : goal.returns
returns c = all_end_so
