use Rattle.fr_store.proofs.laws.set_law.Goals as goal
use Rattle.fr_store.proofs.Changes.{set}

pub returns : goal.returns
returns c = record { typed = set }
