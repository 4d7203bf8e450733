use Rattle.law_plain_names.proofs.laws.names_dont_matter.Goals as goal
use Rattle.law_plain_names.proofs.Places.{names_dont_matter}

pub returns : goal.returns
returns c = names_dont_matter
