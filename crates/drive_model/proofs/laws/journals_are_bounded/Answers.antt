use Rattle.drive_model.proofs.laws.journals_are_bounded.Goals as goal
use Rattle.drive_model.proofs.Bounds.{journals_bounded}

pub returns : goal.returns
returns c = journals_bounded
