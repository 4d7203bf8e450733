use Rattle.std.proofs.Common.{refl}
use Rattle.coherent_types.proofs.laws.types_compute.Goals as goal
use Rattle.coherent_types.proofs.Start.{start_has_types}
use Rattle.coherent_types.proofs.Paired.{pair_has_types}
use Rattle.coherent_types.proofs.Locking.{lock_has_types}
use Rattle.coherent_types.proofs.Boxed.{boxed_has_types, boxed_is_reached}

pub returns-clause-whole : goal.returns-clause-whole
returns-clause-whole c = record { starts = start_has_types; reached = boxed_is_reached; boxed = boxed_has_types }

pub returns-clause-paired : goal.returns-clause-paired
returns-clause-paired c = pair_has_types

pub returns-clause-locked : goal.returns-clause-locked
returns-clause-locked c = lock_has_types

pub returns-clause-counted : goal.returns-clause-counted
returns-clause-counted c = record { pairs = refl; locks = refl; lent = refl }
