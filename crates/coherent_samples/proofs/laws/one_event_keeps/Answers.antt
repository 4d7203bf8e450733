use Rattle.std.proofs.Common.{refl}
use Rattle.coherent_samples.proofs.laws.one_event_keeps.Goals as goal

pub returns : goal.returns
returns c = record { middle_keeps = refl; busy_keeps = refl; relent_keeps = refl; ends_dirty_keeps = refl; older_stays = refl; pair_shown = refl }
