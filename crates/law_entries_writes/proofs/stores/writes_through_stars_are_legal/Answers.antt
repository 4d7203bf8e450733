use Rattle.law_entries_writes.proofs.stores.writes_through_stars_are_legal.Goals as goal
use Rattle.law_entries_writes.proofs.stores.Through.{through_legal}

pub returns : goal.returns
returns c = through_legal
