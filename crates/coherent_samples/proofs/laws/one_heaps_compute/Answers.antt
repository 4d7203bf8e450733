use Rattle.std.proofs.Common.{refl}
use Rattle.coherent_samples.proofs.laws.one_heaps_compute.Goals as goal

pub returns : goal.returns
returns c = record { box_written = refl; slot_lent = refl; copied_once = refl; comes_to_writer = refl; renewed_twice = refl; written_in_turns = refl; pairs_started = refl; box_labels = refl; copied_labels = refl; writer_labels = refl; turns_labels = refl }
