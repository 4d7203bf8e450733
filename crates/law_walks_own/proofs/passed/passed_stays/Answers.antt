use Rattle.law_walks_own.proofs.passed.passed_stays.Goals as goal
use Rattle.law_walks_own.proofs.passed.Copied.{new_uncopied}
use Rattle.law_walks_own.proofs.passed.Passed.{passed_uncopied}

pub returns : goal.returns
returns c = record { passed = passed_uncopied; new = new_uncopied }
