-- The plain value of an owned value: a box is known by its object, whatever its word.
use Rattle.heap_partition.specs.declared.value.Owned.{Owned}
use Rattle.heap_partition.specs.declared.value.Owned.TheVariants as owned
use Rattle.fr_base.specs.declared.label.Plain.{Plain}
use Rattle.fr_base.specs.declared.label.Plain.TheVariants as plain

abbrev pub plain_of : Owned → Plain
plain_of owned.Nothing = plain.Nothing
plain_of owned.Unit = plain.Unit
plain_of (owned.Int number) = plain.Int number
plain_of (owned.Box pointer) = plain.Box pointer.object
plain_of (owned.Mutex mutex) = plain.Mutex mutex
plain_of (owned.Task thread) = plain.Task thread
