use Rattle.law_walks_own.proofs.passed.steps_uncopied.Goals as goal
use Rattle.law_walks_own.proofs.passed.Others.{others_passed}
use Rattle.law_walks_own.proofs.passed.Own.{own_uncopied, steps_bare}

pub returns : goal.returns
returns c = record { others = others_passed; own = own_uncopied; all = steps_bare }
