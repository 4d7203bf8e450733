-- The state of each address, read off a partition.
use Rattle.std.specs.Prelude.{◌≡◌, ℕ, ◌+◌, ◌==◌, nat_lt, if◌then◌else◌, List, [], ◌∷◌, All, length, Option, Some, None, slice_index_or, zero, suc}
use Rattle.heap_partition.specs.declared.value.Cell.{Cell}
use Rattle.owner_box.specs.View.{PartitionState}
use Rattle.owner_box.specs.Partition.{IsTidy}

pub data AddressState : Type 0 where
  Unused : AddressState
  Live : (cell : Cell) → AddressState
  FreeFrom : (colour : ℕ) → AddressState
  Retired : AddressState

-- the colour from which an address is free, where it is
abbrev pub colour_at : List (ℕ × ℕ) → ℕ → Option ℕ
colour_at [] address = None
colour_at (pair ∷ rest) address = if pair.0 == address then Some pair.1 else colour_at rest address

-- an address that was used and has neither a cell nor a colour is retired
abbrev pub used_state : Option Cell → Option ℕ → AddressState
used_state (Some cell) colour = Live cell
used_state None (Some colour) = FreeFrom colour
used_state None None = Retired

abbrev pub state_of : PartitionState → ℕ → AddressState
state_of p address =
    if nat_lt address (length p.cells) then used_state (slice_index_or p.cells address None) (colour_at p.free address) else Unused

abbrev pub one_if_retired : AddressState → ℕ
one_if_retired Retired = 1
one_if_retired _ = 0

-- how many of the first addresses are retired
abbrev pub retired_among : PartitionState → ℕ → ℕ
retired_among p zero = 0
retired_among p (suc n) = retired_among p n + one_if_retired (state_of p n)

-- each free pair is the state of its address
abbrev pub FreePairsAreStates : Type 0
FreePairsAreStates = (p : PartitionState) → IsTidy p → All (λ pair. state_of p pair.0 ≡ FreeFrom pair.1) p.free

-- the retired number is the number of retired addresses
abbrev pub RetiredIsExact : Type 0
RetiredIsExact = (p : PartitionState) → IsTidy p → retired_among p (length p.cells) ≡ p.retired
