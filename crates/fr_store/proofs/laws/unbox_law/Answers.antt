use Rattle.fr_store.proofs.laws.unbox_law.Goals as goal
use Rattle.fr_store.proofs.Changes.{unbox_link}

pub returns : goal.returns
returns c = record { typed = unbox_link }
