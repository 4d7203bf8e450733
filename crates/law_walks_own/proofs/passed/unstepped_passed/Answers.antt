use Rattle.law_walks_own.proofs.passed.unstepped_passed.Goals as goal
use Rattle.law_walks_own.proofs.passed.Such.{such_uncopied}

pub returns : goal.returns
returns c = record { uncopied = such_uncopied }
