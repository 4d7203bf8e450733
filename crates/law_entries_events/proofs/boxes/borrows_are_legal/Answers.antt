use Rattle.law_entries_events.proofs.boxes.borrows_are_legal.Goals as goal
use Rattle.law_entries_events.proofs.boxes.Borrows.{shares_legal, borrows_legal}

pub returns : goal.returns
returns c = record { done = shares_legal; each = borrows_legal }
