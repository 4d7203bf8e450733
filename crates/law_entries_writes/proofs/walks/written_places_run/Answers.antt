use Rattle.law_entries_writes.proofs.walks.written_places_run.Goals as goal
use Rattle.law_entries_writes.proofs.walks.Running.{places_run}

pub returns : goal.returns
returns c = places_run
