-- No object, content or result owns itself, directly or through others (this project's rule).
use Rattle.std.specs.Prelude.{◌≡◌, ◌⊎◌, ℕ, true, false, reverse, List, [], ◌∷◌, Some}
use Rattle.coherent_memory.specs.Below.fr_base.declared.name.MutexNo.{MutexNo}
use Rattle.coherent_memory.specs.Below.heap_partition.declared.value.Cell.{Cell}
use Rattle.coherent_memory.specs.Below.heap_partition.declared.value.Owned.{Owned}
use Rattle.coherent_memory.specs.Below.thread_state.View.{is_over}
use Rattle.coherent_memory.specs.Below.thread_state.declared.value.Value.{Value}
use Rattle.coherent_memory.specs.Below.thread_state.declared.value.Value.TheVariants as value
use Rattle.coherent_memory.specs.Below.server_model.Servers.{Cluster}
use Rattle.coherent_memory.specs.Names.{Among}
use Rattle.coherent_memory.specs.Things.{as_content, as_result, holds, lies, flies}
use Rattle.coherent_memory.specs.Follow.{Standing}
use Rattle.coherent_memory.specs.Sight.{Sight, sight}
use Rattle.coherent_memory.specs.Walking.{instr_of}
use Rattle.coherent_memory.specs.Paths.{joined_thread}
use Rattle.coherent_memory.specs.Requests.{locked_mutex}
use Rattle.coherent_memory.specs.OneHeap.{Node, object_n, mutex_n, task_n, owns}
use Rattle.coherent_types.specs.ClusterTypes.{Types}

-- the value stands in a slot, and the mark of the mutex in the slot below it. The slots are listed the newest first
abbrev pub IsTop : MutexNo → List Value → Type 0
IsTop m [] = ⊥
IsTop m (u ∷ us) = u ≡ value.Held m

abbrev pub IsHeld : MutexNo → Owned → List Value → Type 0
IsHeld m v [] = ⊥
IsHeld m v (u ∷ us) = ((u ≡ value.Own v) × IsTop m us) ⊎ IsHeld m v us

-- what stands in an object's cell, as a mutex's content or as a thread's result, wherever that is
pub data Stands (s : Sight) : Node → Owned → Type 0 where
  lying : (r a : ℕ) (c : Cell) → Among (lies r a c) s.things → Stands s (object_n c.object) c.value
  flying : (w : ℕ) (c : Cell) → Among (flies w c) s.things → Stands s (object_n c.object) c.value
  -- at its home, or in a message
  content : (m : MutexNo) (v : Owned) → Among (holds (as_content m) v) s.things → Stands s (mutex_n m) v
  -- with a thread that has been granted it, or that holds it
  granted : (x : Standing) (m : MutexNo) (v : Owned) → Among x s.ground.threads → locked_mutex s x (instr_of s x) ≡ Some m → x.thread.gift ≡ Some v → Stands s (mutex_n m) v
  held : (x : Standing) (m : MutexNo) (v : Owned) → Among x s.ground.threads → is_over x.thread.phase ≡ false → IsHeld m v (reverse x.thread.slots) → Stands s (mutex_n m) v
  result : (t : ℕ) (v : Owned) → Among (holds (as_result t) v) s.things → Stands s (task_n t) v
  joined : (x : Standing) (t : ℕ) (v : Owned) → Among x s.ground.threads → joined_thread (instr_of s x) x.thread ≡ Some t → x.thread.gift ≡ Some v → Stands s (task_n t) v

-- directly, or through others
pub data OwnsInTheEnd (s : Sight) : Node → Node → Type 0 where
  directly : {a b : Node} {v : Owned} → Stands s a v → owns b v ≡ true → OwnsInTheEnd s a b
  through : {a b c : Node} {v : Owned} → Stands s a v → owns b v ≡ true → OwnsInTheEnd s b c → OwnsInTheEnd s a c

abbrev pub NoneOwnsItself : Type 0
NoneOwnsItself = (k : Cluster) → Types k → (a : Node) → OwnsInTheEnd (sight k) a a → ⊥
