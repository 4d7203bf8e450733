use Rattle.law_walks_own.proofs.passed.each_event_uncopied.Goals as goal
use Rattle.law_copies_kept.specs.Below.coherent_memory.Coherent.{passed_not_copied}
use Rattle.law_walks_own.proofs.passed.Landed.{unstepped_bare}
use Rattle.law_walks_own.proofs.passed.Own.{steps_bare}
use Rattle.law_walks_own.proofs.passed.Walks.{each_event}

pub returns : goal.returns
returns c = each_event passed_not_copied steps_bare unstepped_bare
