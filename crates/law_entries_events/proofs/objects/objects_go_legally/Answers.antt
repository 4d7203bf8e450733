use Rattle.law_runs_whole.specs.Below.law_counts_sums.Kinds.{drop}
use Rattle.law_entries_events.proofs.objects.objects_go_legally.Goals as goal
use Rattle.law_entries_events.proofs.objects.Goes.{drops_legal}
use Rattle.law_entries_events.proofs.objects.Onward.{onward}

pub returns : goal.returns
returns c = record { legal = drops_legal; goes_on = onward drop drops_legal }
