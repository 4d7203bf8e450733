use Rattle.law_types_events.proofs.parts.parts_keep.Goals as goal
use Rattle.law_types_events.proofs.parts.Kept.{parts_kept}

pub returns : goal.returns
returns c = record { parts_are_typed = parts_kept }
