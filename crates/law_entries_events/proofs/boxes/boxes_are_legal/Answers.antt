use Rattle.law_entries_events.proofs.boxes.boxes_are_legal.Goals as goal
use Rattle.law_entries_events.proofs.boxes.Boxes.{boxes_legal}

pub returns : goal.returns
returns c = boxes_legal
