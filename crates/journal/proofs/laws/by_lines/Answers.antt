use Rattle.journal.proofs.WholeLines.{lines_only}
use Rattle.journal.proofs.laws.by_lines.Goals as goal

pub returns : goal.returns
returns c = lines_only
