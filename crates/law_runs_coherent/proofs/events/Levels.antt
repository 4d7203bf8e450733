-- What an owned value names has a type of fewer levels.
use Rattle.std.proofs.Common.{◌≡◌, ℕ, suc, ◌<◌, true, List, [], ◌∷◌, refl, ap, arith}
use Rattle.coherent_memory.specs.Below.fr_base.declared.name.MutexNo.{MutexNo}
use Rattle.coherent_memory.specs.Below.fr_typing.Kinds.{Owned, unit, int, box, mutex, task, same_owned}
use Rattle.coherent_memory.specs.Below.fr_typing.Checks.{owned_levels}
use Rattle.coherent_memory.specs.Below.heap_partition.declared.value.BoxPtr.{BoxPtr}
use Rattle.coherent_memory.specs.Below.heap_partition.declared.value.Owned.{Owned as Value}
use Rattle.coherent_memory.specs.Below.heap_partition.declared.value.Owned.TheVariants as owned
use Rattle.coherent_memory.specs.OneHeap.{Node, object_n, mutex_n, task_n, Owner, inside}
use Rattle.coherent_memory.specs.Ranks.{Step, Falls}
use Rattle.law_counts_things.specs.Below.coherent_types.Names.{NameTypes, fits}

abbrev pub type_of : NameTypes → Node → Owned
type_of n (object_n o) = n.object o
type_of n (mutex_n m) = n.mutex m
type_of n (task_n t) = n.result t

abbrev pub level : NameTypes → Node → ℕ
level n a = owned_levels (type_of n a)

same_levels : (a b : Owned) → same_owned a b ≡ true → owned_levels a ≡ owned_levels b
same_levels unit unit e = refl
same_levels int int e = refl
same_levels (box a) (box b) e = ap suc (same_levels a b e)
same_levels (mutex a) (mutex b) e = ap suc (same_levels a b e)
same_levels (task a) (task b) e = ap suc (same_levels a b e)
same_levels a b e = absurd (cc e)

fewer_box : (n : NameTypes) (t : Owned) (p : BoxPtr) → fits n t (owned.Box p) ≡ true → owned_levels (n.object p.object) < owned_levels t
fewer_box n (box t) p e = let x = same_levels (n.object p.object) t e in omega (arith, x)
fewer_box n t p e = absurd (cc e)

fewer_mutex : (n : NameTypes) (t : Owned) (m : MutexNo) → fits n t (owned.Mutex m) ≡ true → owned_levels (n.mutex m) < owned_levels t
fewer_mutex n (mutex t) m e = let x = same_levels (n.mutex m) t e in omega (arith, x)
fewer_mutex n t m e = absurd (cc e)

fewer_task : (n : NameTypes) (t : Owned) (u : ℕ) → fits n t (owned.Task u) ≡ true → owned_levels (n.result u) < owned_levels t
fewer_task n (task t) u e = let x = same_levels (n.result u) t e in omega (arith, x)
fewer_task n t u e = absurd (cc e)

-- from an owner to what a value owns
abbrev pub own_steps : Owner → Value → List (Step Node)
own_steps (inside p) (owned.Box b) = record { from = p; to = object_n b.object } ∷ []
own_steps (inside p) (owned.Mutex m) = record { from = p; to = mutex_n m } ∷ []
own_steps (inside p) (owned.Task t) = record { from = p; to = task_n t } ∷ []
own_steps o v = []

-- the level falls where the value is of the owner's type
pub inside_falls : (n : NameTypes) (a : Node) (v : Value) → fits n (type_of n a) v ≡ true → Falls (level n) (own_steps (inside a) v)
inside_falls n a (owned.Box p) e = (fewer_box n (type_of n a) p e, tt)
inside_falls n a (owned.Mutex m) e = (fewer_mutex n (type_of n a) m e, tt)
inside_falls n a (owned.Task t) e = (fewer_task n (type_of n a) t e, tt)
inside_falls n a owned.Nothing e = tt
inside_falls n a owned.Unit e = tt
inside_falls n a (owned.Int i) e = tt
