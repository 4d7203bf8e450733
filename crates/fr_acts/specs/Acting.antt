-- What an act does to a thread's slots (the newest last) and to the heap, and where a place leads.
use Rattle.std.specs.Prelude.{ℕ, ◌≡◌, List, Option, Some, None}
use Rattle.fr_base.specs.declared.label.Label.{Label}
use Rattle.fr_plain.specs.declared.value.Value.{Value}
use Rattle.fr_plain.specs.Heap.{Heap}
use Rattle.fr_plain.specs.State.{State, Spot, in_slot, in_cell, Reached}
use Rattle.fr_plain.specs.Acts.{Act, Did, drops_last}
use Rattle.fr_shared.specs.declared.heap.Released.{Released}
use Rattle.fr_shared.specs.Releases.{released_of}
use Rattle.fr_acts.specs.declared.spot.Where.{Where}
use Rattle.fr_acts.specs.declared.spot.Where.TheVariants as where_
use Rattle.fr_acts.specs.SlotOrder.{newest_first}

-- a thread's slots, and the heap
abbrev pub state : ℕ → List Value → Heap → State
state t slots heap = record { thread = t; slots = newest_first slots; heap = heap }

abbrev pub did : Value → ℕ → List Value → Heap → List Label → Option Did
did v t slots heap labels = Some (record { value = v; state = state t slots heap; labels = labels })

-- what goes last with the value that the act drops
abbrev pub releases : Act → State → Released
releases a s = released_of (drops_last a s)

-- what stands where the code says
abbrev pub spot_of : Where → Spot
spot_of (where_.Slot i) = in_slot i
spot_of (where_.Cell o) = in_cell o

-- the place that was reached, and the loads on the way
abbrev pub IsReached : Option Reached → List Label → Option Where → Type 0
IsReached r labels None = r ≡ None
IsReached r labels (Some w) = r ≡ Some (record { spot = spot_of w; passed = labels })
