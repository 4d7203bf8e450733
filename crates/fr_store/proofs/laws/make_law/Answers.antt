use Rattle.fr_store.proofs.laws.make_law.Goals as goal
use Rattle.fr_store.proofs.Changes.{make_object}

pub returns : goal.returns
returns c = record { typed = make_object }
