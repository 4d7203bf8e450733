-- Tests and sums that the laws of coherent memory are written with.
use Rattle.std.specs.Prelude.{◌≡◌, ◌⊎◌, ℕ, zero, suc, ◌==◌, Bool, true, false, List, [], ◌∷◌}
pub use Rattle.server_model.specs.Below.fr_base.Lists.{tot, one, is_in}
pub use Rattle.server_model.specs.Below.fr_base.Names.{same_object, same_mutex}
use Rattle.server_model.specs.Below.fr_base.declared.name.ObjNo.{ObjNo}
use Rattle.server_model.specs.Below.fr_base.declared.name.MutexNo.{MutexNo}
pub use Rattle.server_model.specs.Below.heap_partition.Same.{same_owned, same_cell}
use Rattle.server_model.specs.Below.heap_partition.declared.value.Owned.{Owned}
use Rattle.server_model.specs.Below.heap_partition.declared.value.Owned.TheVariants as owned

-- x is one of the list
abbrev pub Among : {A : Type 0} → A → List A → Type 0
Among x [] = ⊥
Among x (y ∷ ys) = (y ≡ x) ⊎ Among x ys

-- SUMS

-- one where it isn't so
abbrev pub other : Bool → ℕ
other true = 0
other false = 1

abbrev pub if_so : Bool → ℕ → ℕ
if_so true n = n
if_so false n = 0

-- some number isn't zero
abbrev pub some : ℕ → Bool
some zero = false
some (suc n) = true

-- WHAT A VALUE OWNS

abbrev pub boxes : ObjNo → Owned → ℕ
boxes o (owned.Box p) = one (same_object p.object o)
boxes o _ = 0

abbrev pub mutex_values : MutexNo → Owned → ℕ
mutex_values m (owned.Mutex n) = one (same_mutex n m)
mutex_values m _ = 0

abbrev pub task_values : ℕ → Owned → ℕ
task_values t (owned.Task u) = one (u == t)
task_values t _ = 0
