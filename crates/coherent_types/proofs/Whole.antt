-- Coherent clusters: no sentence that is counted is broken, by computing.
use Rattle.std.proofs.Common.{refl}
use Rattle.coherent_memory.specs.Below.server_model.Servers.{start_of}
use Rattle.sample_clusters.specs.Clusters.{boxed_code, options}
use Rattle.coherent_memory.specs.Coherent.{IsSound}
use Rattle.coherent_memory.proofs.Unbroken.{sound_law}
use Rattle.coherent_types.specs.Typed.{boxed_cluster}
use Rattle.coherent_types.specs.Paired.{paired_cluster}
use Rattle.coherent_types.specs.Locking.{locking_cluster}
use Rattle.coherent_types.specs.Whole.{CoherentCompute}
use Rattle.coherent_types.proofs.Start.{start_has_types}
use Rattle.coherent_types.proofs.Boxed.{boxed_has_types}
use Rattle.coherent_types.proofs.Paired.{pair_has_types}
use Rattle.coherent_types.proofs.Locking.{lock_has_types}

start_sound : IsSound (start_of boxed_code (options 1))
start_sound = sound_law.sound (start_of boxed_code (options 1)) refl

boxed_sound : IsSound boxed_cluster
boxed_sound = sound_law.sound boxed_cluster refl

paired_sound : IsSound paired_cluster
paired_sound = sound_law.sound paired_cluster refl

locked_sound : IsSound locking_cluster
locked_sound = sound_law.sound locking_cluster refl

pub coherent_compute : CoherentCompute
coherent_compute = record {
  starts = record { sound = start_sound; types = start_has_types };
  boxed = record { sound = boxed_sound; types = boxed_has_types };
  paired = record { sound = paired_sound; types = pair_has_types.typed };
  locked = record { sound = locked_sound; types = lock_has_types.typed };
}
