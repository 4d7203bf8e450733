use Rattle.law_runs_whole.proofs.runs.runs_from_starts.Goals as goal
use Rattle.law_runs_whole.proofs.runs.Unlabelled.{undone_unlabelled}
use Rattle.law_runs_whole.proofs.runs.Following.{runs_lead}

pub returns : goal.returns
returns c = record { undone = undone_unlabelled; runs = runs_lead c.starts_are_coherent.ensures }
