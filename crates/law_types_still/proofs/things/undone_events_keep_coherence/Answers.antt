use Rattle.law_types_still.proofs.things.undone_events_keep_coherence.Goals as goal
use Rattle.law_types_still.proofs.things.Undone.{undone_coherence}

pub returns : goal.returns
returns c = undone_coherence
