use Rattle.law_walks_own.proofs.passed.unstepped_uncopied.Goals as goal
use Rattle.law_walks_own.proofs.passed.Landed.{others_uncopied, unstepped_bare}

pub returns : goal.returns
returns c = record { others = others_uncopied; all = unstepped_bare }
