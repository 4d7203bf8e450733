-- The memory of one server, in the manner of DRust: an object is found by its address, a colour lives in pointers alone.
-- The rules of colours and retired addresses are this project's.
use Rattle.std.specs.Prelude.{◌≡◌, ℕ, ◌+◌, ◌<◌, ◌≤◌, ◌^◌, ◌==◌, if◌then◌else◌, List, [], ◌∷◌, ◌++◌, length, All, Option, Some, None, IsSome, slice_index_or, slice_set}
use Rattle.heap_partition.specs.declared.value.Cell.{Cell}
use Rattle.heap_partition.specs.declared.value.Owned.{Owned}
use Rattle.global_addr.specs.Words.{word_of, colour_of, server_of, address_of}
use Rattle.colour_retire.specs.Colours.{IsFreeList, picked, rest_of, free_after, retired_after}
use Rattle.owner_box.specs.View.{PartitionState}

-- a partition that was never used
abbrev pub started : ℕ → ℕ → PartitionState
started server limit = record { server = server; limit = limit; cells = []; free = []; retired = 0 }

-- the cell at the word's address; its colour plays no part
abbrev pub cell_of : PartitionState → ℕ → Option Cell
cell_of p word = slice_index_or p.cells (address_of word) None

-- the word is of this server and the limit, and its address is live
pub record LeadsTo (p : PartitionState) (word : ℕ) : Type 0 where
  pub here : server_of word ≡ p.server
  pub live : IsSome (cell_of p word)
  pub colour : colour_of word < p.limit

-- the word has the last colour
abbrev pub IsLast : PartitionState → ℕ → Type 0
IsLast p word = colour_of word + 1 ≡ p.limit

-- the address for the next object, and its colour there
abbrev pub next_place : PartitionState → ℕ × ℕ
next_place p = picked p.free (length p.cells)

-- the word of the next object
abbrev pub new_word : PartitionState → ℕ
new_word p = word_of (next_place p).1 p.server (next_place p).0

-- a cell put at an address that is vacant or the next one
abbrev pub put_cell : List (Option Cell) → ℕ → Cell → List (Option Cell)
put_cell cells address cell = if address == length cells then cells ++ Some cell ∷ [] else slice_set cells address (Some cell)

-- after an object was made of a cell
abbrev pub made : PartitionState → Cell → PartitionState
made p cell = record p { cells = put_cell p.cells (next_place p).0 cell; free = rest_of p.free }

abbrev pub with_value : Owned → Option Cell → Option Cell
with_value value None = None
with_value value (Some cell) = Some (record cell { value = value })

-- after the object at the word's address got a value
abbrev pub stored : PartitionState → ℕ → Owned → PartitionState
stored p word value = record p { cells = slice_set p.cells (address_of word) (with_value value (cell_of p word)) }

-- after the object at the word's address left
abbrev pub freed : PartitionState → ℕ → PartitionState
freed p word = record p {
  cells = slice_set p.cells (address_of word) None;
  free = free_after p.limit word p.free;
  retired = retired_after p.limit word p.retired;
}

abbrev pub made_again : PartitionState → Option Cell → PartitionState
made_again p None = p
made_again p (Some cell) = made p cell

-- after the object at the word's address left and was made again
abbrev pub renewed : PartitionState → ℕ → PartitionState
renewed p word = made_again (freed p word) (cell_of p word)

-- how many addresses are live
abbrev pub live_count : List (Option Cell) → ℕ
live_count [] = 0
live_count (None ∷ rest) = live_count rest
live_count (Some cell ∷ rest) = live_count rest + 1

-- a free address was used before, is vacant, and goes on from a colour between 1 and the limit
pub record IsFreeIn (limit : ℕ) (cells : List (Option Cell)) (pair : ℕ × ℕ) : Type 0 where
  pub used : pair.0 < length cells
  pub vacant : slice_index_or cells pair.0 None ≡ None
  pub colour : (1 ≤ pair.1) × (pair.1 < limit)

-- each address below the next one is live, or free once, or else retired, and the number of retired ones is exact
pub record AreStates (limit : ℕ) (cells : List (Option Cell)) (free : List (ℕ × ℕ)) (retired : ℕ) : Type 0 where
  pub free_in : All (IsFreeIn limit cells) free
  pub once : IsFreeList free
  pub counted : live_count cells + length free + retired ≡ length cells
  pub few : length cells ≤ 2 ^ 40
  pub limits : (1 ≤ limit) × (limit ≤ 65536)

abbrev pub IsTidy : PartitionState → Type 0
IsTidy p = AreStates p.limit p.cells p.free p.retired

-- room for what may be made, and to free what is live and what may be made
pub record HasRoom (cells : List (Option Cell)) (live room cell_room pair_room : ℕ) : Type 0 where
  pub count : live ≡ live_count cells
  pub for_cells : room ≤ cell_room
  pub for_pairs : room + live ≤ pair_room
