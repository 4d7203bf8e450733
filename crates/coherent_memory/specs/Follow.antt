-- Where the places of threads lead in a cluster, whatever server an object lies at (Featherweight Rust's places, over the list of things).
use Rattle.std.specs.Prelude.{ℕ, zero, suc, ◌==◌, Bool, if◌then◌else◌, List, [], ◌∷◌, reverse, Option, Some, None, slice_get}
use Rattle.server_model.specs.Below.fr_base.declared.name.ObjNo.{ObjNo}
use Rattle.server_model.specs.Below.fr_base.declared.place.Lval.{Lval}
use Rattle.server_model.specs.Below.heap_partition.declared.value.Cell.{Cell}
use Rattle.server_model.specs.Below.heap_partition.declared.value.Owned.TheVariants as owned
use Rattle.server_model.specs.Below.thread_state.View.{ThreadState}
use Rattle.server_model.specs.Below.thread_state.declared.value.Value.{Value}
use Rattle.server_model.specs.Below.thread_state.declared.value.Value.TheVariants as value
use Rattle.coherent_memory.specs.Names.{same_object}
use Rattle.coherent_memory.specs.Things.{Location, at_slot, at_temp, in_cell, Thing, lies, flies, stands}

-- a thread, and the server that it stands at or goes to
pub record Standing : Type 0 where
  pub server : ℕ
  pub packed : Bool
  pub thread : ThreadState

-- the threads that stand somewhere, those in parcels too
abbrev pub threads_in : List Thing → List Standing
threads_in [] = []
threads_in (stands s p t ∷ b) = record { server = s; packed = p; thread = t } ∷ threads_in b
threads_in (x ∷ b) = threads_in b

abbrev pub thread_at : List Standing → ℕ → Option Standing
thread_at [] t = None
thread_at (x ∷ xs) t = if x.thread.number == t then Some x else thread_at xs t

-- the cells, in partitions and in messages
abbrev pub cells_in : List Thing → List Cell
cells_in [] = []
cells_in (lies s a c ∷ b) = c ∷ cells_in b
cells_in (flies w c ∷ b) = c ∷ cells_in b
cells_in (x ∷ b) = cells_in b

abbrev pub cell_of : List Cell → ObjNo → Option Cell
cell_of [] o = None
cell_of (c ∷ cs) o = if same_object c.object o then Some c else cell_of cs o

-- the threads and the cells of a cluster, where places are followed
pub record Ground : Type 0 where
  pub threads : List Standing
  pub cells : List Cell

abbrev pub ground_of : List Thing → Ground
ground_of b = record { threads = threads_in b; cells = cells_in b }

abbrev pub slot_of : Option Standing → ℕ → Option Value
slot_of None i = None
slot_of (Some x) i = slice_get x.thread.slots i

abbrev pub temp_of : Option Standing → ℕ → Option Value
temp_of None i = None
temp_of (Some x) i = slice_get x.thread.temps i

abbrev pub value_of : Option Cell → Option Value
value_of None = None
value_of (Some c) = Some (value.Own c.value)

-- what stands at a location
abbrev pub value_in : Ground → Location → Option Value
value_in g (at_slot t i) = slot_of (thread_at g.threads t) i
value_in g (at_temp t i) = temp_of (thread_at g.threads t) i
value_in g (in_cell o) = value_of (cell_of g.cells o)

abbrev pub value_behind : Ground → Option Location → Option Value
value_behind g None = None
value_behind g (Some l) = value_in g l

-- one star more: where a pointer leads
abbrev pub leads : ℕ → Option Value → Option Location
leads t (Some (value.Own (owned.Box p))) = Some (in_cell p.object)
leads t (Some (value.SharedSlot i)) = Some (at_slot t i)
leads t (Some (value.MutSlot i)) = Some (at_slot t i)
leads t (Some (value.Shared r)) = Some (in_cell r.object)
leads t (Some (value.Mut r)) = Some (in_cell r.object)
leads t _ = None

-- where a thread's place leads: a slot, and so many stars
abbrev pub locate : Ground → ℕ → ℕ → ℕ → Option Location
locate g t slot zero = Some (at_slot t slot)
locate g t slot (suc n) = leads t (value_behind g (locate g t slot n))

abbrev pub place_at : Ground → ℕ → Lval → Option Location
place_at g t w = locate g t w.slot w.depth

abbrev pub value_at : Ground → ℕ → Lval → Option Value
value_at g t w = value_behind g (place_at g t w)

-- the pointer that a star of a place follows: the first star, from 0, the one at the slot
abbrev pub hop_at : Ground → ℕ → Lval → ℕ → Option Value
hop_at g t w n = value_behind g (locate g t w.slot n)

abbrev pub hops_from : Ground → ℕ → Lval → ℕ → List (Option Value)
hops_from g t w zero = []
hops_from g t w (suc n) = hop_at g t w n ∷ hops_from g t w n

-- the pointers that the first so many stars of a place follow, in the order of the path
abbrev pub hops : Ground → ℕ → Lval → ℕ → List (Option Value)
hops g t w n = reverse (hops_from g t w n)
