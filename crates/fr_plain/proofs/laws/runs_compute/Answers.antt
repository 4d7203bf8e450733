use Rattle.std.proofs.Common.{refl}
use Rattle.fr_plain.proofs.laws.runs_compute.Goals as goal

pub returns : goal.returns
returns c = record { boxed = refl; lent_inside = refl; wraps = refl; twice_read = refl; deep = refl; written_over = refl; written_in = refl; again_lent = refl; moved_on = refl; turned = refl; left_first = refl }
