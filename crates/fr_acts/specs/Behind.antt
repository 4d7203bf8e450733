-- The mutex behind a place, and what is there.
use Rattle.std.specs.Prelude.{◌≡◌, Bool, List, Option, Some, None}
use Rattle.fr_base.specs.declared.label.Plain.{Plain}
use Rattle.fr_base.specs.declared.label.Plain.TheVariants as plain
use Rattle.fr_base.specs.declared.label.Label.{Label}
use Rattle.fr_base.specs.declared.name.MutexNo.{MutexNo}
use Rattle.fr_plain.specs.MachineThreads.{Mutex, Shared, mutex_there}
use Rattle.fr_plain.specs.declared.value.Value.{Value}
use Rattle.fr_plain.specs.declared.value.Value.TheVariants.{Own, ToSlot, ToObject}
use Rattle.fr_plain.specs.State.{Spot, in_slot, in_cell, Reached}
use Rattle.fr_acts.specs.declared.spot.Where.{Where}
use Rattle.fr_acts.specs.Acting.{spot_of}
use Rattle.fr_shared.specs.Shares.{content_in, can_share_in}

-- where a place leads, without the loads on the way
abbrev pub spot_in : Option Reached → Option Spot
spot_in None = None
spot_in (Some r) = Some r.spot

abbrev pub spots_of : Option Where → Option Spot
spots_of None = None
spots_of (Some w) = Some (spot_of w)

-- where a star more leads from a value
abbrev pub spot_after : Value → Option Spot
spot_after (Own (plain.Box o)) = Some (in_cell o)
spot_after (ToSlot i) = Some (in_slot i)
spot_after (ToObject o) = Some (in_cell o)
spot_after _ = None

-- the mutex that a value names
abbrev pub mutex_of : Value → Option MutexNo
mutex_of (Own (plain.Mutex n)) = Some n
mutex_of _ = None

-- the mutex's name alone
abbrev pub named : Option (MutexNo × List Label) → Option MutexNo
named None = None
named (Some p) = Some p.0

-- the mutex that was found, and the loads on the way to its value and of it
abbrev pub IsFound : Option (MutexNo × List Label) → List Label → Option MutexNo → Type 0
IsFound found labels None = found ≡ None
IsFound found labels (Some n) = found ≡ Some (n, labels)

-- the mutex, where it has a share
abbrev pub there_behind : List Mutex → Option (MutexNo × List Label) → Option Shared
there_behind ms None = None
there_behind ms (Some p) = mutex_there ms p.0

-- its content, where that is in
abbrev pub content_behind : List Mutex → Option (MutexNo × List Label) → Option Plain
content_behind ms found = content_in (there_behind ms found)

-- a share more of it can be counted
abbrev pub can_share_behind : List Mutex → Option (MutexNo × List Label) → Bool
can_share_behind ms found = can_share_in (there_behind ms found)
