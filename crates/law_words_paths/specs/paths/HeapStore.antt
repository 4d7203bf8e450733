-- PLACES IN THE ONE HEAP: a thread's place leads in a coherent cluster, star by star, to where it leads in the plain state that the cluster stands
-- for (this project's rule).
use Rattle.std.specs.Prelude.{◌≡◌, ℕ, Bool, false, Some, slice_get}
use Rattle.coherent_types.specs.Below.fr_base.declared.name.MutexNo.{MutexNo}
use Rattle.coherent_types.specs.Below.fr_base.declared.place.Lval.{Lval}
use Rattle.coherent_types.specs.Below.thread_state.View.{is_over}
use Rattle.coherent_types.specs.Below.thread_state.declared.value.Value.TheVariants as value
use Rattle.coherent_types.specs.Below.server_model.Servers.{Cluster}
use Rattle.coherent_types.specs.Below.fr_store.Keys.{Key, slot_k, temp_k}
use Rattle.coherent_types.specs.Below.fr_store.Store.{Location as StoreLocation, at_key, at_object, Store, Place as StorePlace, locate}
use Rattle.coherent_types.specs.Below.fr_store.Typed.{Exact, Resolves}
use Rattle.coherent_types.specs.Below.fr_sound.States.{store_of}
use Rattle.coherent_types.specs.Below.fr_code.Steps.{Place}
use Rattle.coherent_types.specs.Below.coherent_memory.Names.{Among}
use Rattle.coherent_types.specs.Below.coherent_memory.Things.{Location, at_slot, at_temp, in_cell, things_of}
use Rattle.coherent_types.specs.Below.coherent_memory.Balances.{Agree, AtMostOne}
use Rattle.coherent_types.specs.Below.coherent_memory.Weights.{cells, owners, is_thread}
use Rattle.coherent_types.specs.Below.coherent_memory.Coherent.{Holds, names_counted, counts_from_one, over_are_bare}
use Rattle.coherent_types.specs.Below.coherent_memory.Follow.{Standing, place_at}
use Rattle.coherent_types.specs.Below.coherent_memory.Sight.{sight}
use Rattle.coherent_types.specs.Below.coherent_memory.OneHeap.{one_heap}
use Rattle.coherent_types.specs.ClusterTypes.{Types, IsCoherent}

-- a location of the cluster, in the store
abbrev pub in_store : Location → StoreLocation
in_store (at_slot t i) = at_key (slot_k t i)
in_store (at_temp t i) = at_key (temp_k t i)
in_store (in_cell o) = at_object o

-- the one heap of a cluster that has types, as a store
abbrev pub heap_store : (k : Cluster) → Types k → Store
heap_store k t = store_of (λ (p : Place). p.temps) t.typing (one_heap k)

abbrev pub store_place : ℕ → Lval → StorePlace
store_place t w = record { key = slot_k t w.slot; depth = w.depth }

-- a thread that stands somewhere and goes on
pub record GoesOn (k : Cluster) (x : Standing) : Type 0 where
  pub among : Among x (sight k).ground.threads
  pub going : is_over x.thread.phase ≡ false

-- the slot isn't the mark of a lock
abbrev pub IsUnmarked : Standing → ℕ → Type 0
IsUnmarked x i = (m : MutexNo) → slice_get x.thread.slots i ≡ Some (value.Held m) → ⊥

-- what the laws of places ask of a cluster: its types, that threads are found by their numbers, which were given, that a thread that is over has nothing,
-- and that each object has one home and one owner. No word, no copy, no walk and no message counts, so it holds also between the small steps of an event
pub record HasPaths (k : Cluster) : Type 0 where
  pub types : Types k
  pub numbers_differ : AtMostOne is_thread (things_of k)
  pub names_counted : Holds k names_counted
  pub counts_from_one : Holds k counts_from_one
  pub over_are_bare : Holds k over_are_bare
  pub home_of_each : AtMostOne cells (things_of k)
  pub owner_of_each : Agree owners cells (things_of k)

-- a coherent cluster has it
abbrev pub CoherentHasPaths : Type 0
CoherentHasPaths = (k : Cluster) → IsCoherent k → HasPaths k

pub record PlacesLeadAlike : Type 0 where
  -- where a place leads in the cluster it leads in the one heap
  pub in_heap : (k : Cluster) (c : HasPaths k) (x : Standing) (w : Lval) (l : Location) → GoesOn k x → place_at (sight k).ground x.thread.number w ≡ Some l
      → locate (heap_store k c.types) (store_place x.thread.number w) ≡ Some (in_store l)
  -- a place that types resolve leads somewhere in the cluster, where it doesn't begin at a mark
  pub in_cluster : (k : Cluster) (c : HasPaths k) (x : Standing) (w : Lval) (only : Bool) (b : Key) (n : ℕ) (p : Exact) → GoesOn k x → IsUnmarked x w.slot
      → Resolves c.types.typing.exact only (slot_k x.thread.number w.slot) w.depth b n p → (l : Location) × (place_at (sight k).ground x.thread.number w ≡ Some l)
