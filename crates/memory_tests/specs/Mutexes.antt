-- What the tests of mutexes keep: that a content is out.
use Rattle.std.specs.Prelude.{Bool, false, Option, None, Some, is_none}
use Rattle.fr_base.specs.declared.name.MutexNo.{MutexNo}
use Rattle.mutex_home.specs.Mutexes.{Mutex, Mutexes, mutex_in}

abbrev pub out_of : Option Mutex → Bool
out_of None = false
out_of (Some x) = is_none x.content

-- the mutex is there, and its content is out
abbrev pub is_out : Mutexes → MutexNo → Bool
is_out ms m = out_of (mutex_in ms.there m)
