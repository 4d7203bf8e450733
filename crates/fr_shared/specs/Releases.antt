-- What goes last with a dropped value.
use Rattle.fr_base.specs.declared.label.Plain.{Plain}
use Rattle.fr_base.specs.declared.label.Plain.TheVariants.{Task, Mutex}
use Rattle.fr_shared.specs.declared.heap.Released.{Released}
use Rattle.fr_shared.specs.declared.heap.Released.TheVariants as released

-- what a value that is no box lets go: a task its thread, and a mutex value one share
abbrev pub released_of : Plain → Released
released_of (Task t) = released.Task t
released_of (Mutex n) = released.Share n
released_of _ = released.Nothing
