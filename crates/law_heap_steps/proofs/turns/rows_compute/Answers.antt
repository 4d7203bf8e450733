use Rattle.std.proofs.Common.{refl}
use Rattle.law_heap_steps.proofs.turns.rows_compute.Goals as goal

pub returns : goal.returns
returns c = record { sound = refl; steps = refl }
