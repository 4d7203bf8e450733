-- One type for each object, each mutex and each thread's result (this project's rule), and when an owned value agrees with them.
use Rattle.std.specs.Prelude.{ℕ, Bool, true, false, Option, Some, None}
use Rattle.coherent_memory.specs.Below.fr_base.declared.name.ObjNo.{ObjNo}
use Rattle.coherent_memory.specs.Below.fr_base.declared.name.MutexNo.{MutexNo}
use Rattle.coherent_memory.specs.Below.heap_partition.declared.value.Owned.{Owned as Value}
use Rattle.coherent_memory.specs.Below.heap_partition.declared.value.Owned.TheVariants as owned
use Rattle.coherent_memory.specs.Below.fr_typing.Kinds.{Owned, unit, int, box, mutex, task, same_owned}
use Rattle.coherent_memory.specs.Below.fr_sound.Seen.{Gives}

-- what each object holds, each mutex holds as its content, and each thread ends with: the type of its code's result, whether it has ended or not
pub record NameTypes : Type 0 where
  pub object : ObjNo → Owned
  pub mutex : MutexNo → Owned
  pub result : ℕ → Owned

abbrev pub names_of : (ObjNo → Owned) → Gives → NameTypes
names_of object g = record { object = object; mutex = g.mutex; result = g.result }

-- an owned value of that type by the names in it; `Nothing`, from which a value moved away, is of any type
abbrev pub fits : NameTypes → Owned → Value → Bool
fits n o owned.Nothing = true
fits n unit owned.Unit = true
fits n int (owned.Int i) = true
fits n (box o) (owned.Box p) = same_owned (n.object p.object) o
fits n (mutex o) (owned.Mutex m) = same_owned (n.mutex m) o
fits n (task o) (owned.Task t) = same_owned (n.result t) o
fits n _ _ = false

abbrev pub is_there : Value → Bool
is_there owned.Nothing = false
is_there v = true

abbrev pub fits_some : NameTypes → Option Owned → Value → Bool
fits_some n None v = false
fits_some n (Some o) v = fits n o v

abbrev pub is_type : Option Owned → Owned → Bool
is_type None o = false
is_type (Some p) o = same_owned p o
