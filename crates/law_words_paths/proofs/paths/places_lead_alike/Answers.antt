use Rattle.law_words_paths.proofs.paths.places_lead_alike.Goals as goal
use Rattle.law_words_paths.proofs.paths.Alike.{lead_alike, coherent_has_paths}
use Rattle.law_words_paths.proofs.paths.Example.{places_apply}

pub returns-clause-alike : goal.returns-clause-alike
returns-clause-alike c = lead_alike

pub returns-clause-coherent : goal.returns-clause-coherent
returns-clause-coherent c = coherent_has_paths

pub returns-clause-applies : goal.returns-clause-applies
returns-clause-applies c = places_apply
