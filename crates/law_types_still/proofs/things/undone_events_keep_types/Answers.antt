use Rattle.law_types_still.proofs.things.undone_events_keep_types.Goals as goal
use Rattle.law_types_still.proofs.things.Undone.{undone_types}

pub returns : goal.returns
returns c = undone_types
