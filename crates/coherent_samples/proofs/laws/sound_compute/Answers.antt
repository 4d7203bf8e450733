use Rattle.std.proofs.Common.{refl}
use Rattle.coherent_samples.proofs.laws.sound_compute.Goals as goal

pub returns : goal.returns
returns c = record { starts = refl; starts_three = refl; runs = refl; waits = refl; lends_again = refl }
