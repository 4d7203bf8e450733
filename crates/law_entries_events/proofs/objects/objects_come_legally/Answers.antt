use Rattle.law_runs_whole.specs.Below.law_counts_sums.Kinds.{moved}
use Rattle.law_entries_events.proofs.objects.objects_come_legally.Goals as goal
use Rattle.law_entries_events.proofs.objects.Comes.{moves_legal}
use Rattle.law_entries_events.proofs.objects.Onward.{onward}

pub returns : goal.returns
returns c = let all = moves_legal c.events_keep_coherence.ensures in record { legal = all; goes_on = onward moved all }
