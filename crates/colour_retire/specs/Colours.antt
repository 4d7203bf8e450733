-- Free addresses and retired ones (this project's rule, in the manner of DRust): an address that is freed below the last
-- colour is used again from the next colour, and one that is freed at the last colour never again.
use Rattle.std.specs.Prelude.{◌≢◌, ℕ, ◌+◌, ◌-◌, ◌≤◌, ⊤, nat_lt, if◌then◌else◌, List, [], ◌∷◌, All}
use Rattle.global_addr.specs.Words.{colour_of, address_of}

-- a word's address with its colour
abbrev pub pair_of : ℕ → ℕ × ℕ
pair_of word = (address_of word, colour_of word)

-- no address is there twice, and none with colour 0
abbrev pub IsFreeList : List (ℕ × ℕ) → Type 0
IsFreeList [] = ⊤
IsFreeList (pair ∷ rest) = (1 ≤ pair.1) × All (λ other. other.0 ≢ pair.0) rest × IsFreeList rest

-- the address that was freed last, with its next colour; the next address at colour 0 where none is free
abbrev pub picked : List (ℕ × ℕ) → ℕ → ℕ × ℕ
picked [] next = (next, 0)
picked (pair ∷ rest) next = pair

abbrev pub rest_of : List (ℕ × ℕ) → List (ℕ × ℕ)
rest_of [] = []
rest_of (pair ∷ rest) = rest

-- the free pairs after the address of a word was freed, under a colour limit
abbrev pub free_after : ℕ → ℕ → List (ℕ × ℕ) → List (ℕ × ℕ)
free_after limit word free = if nat_lt (colour_of word + 1) limit then (address_of word, colour_of word + 1) ∷ free else free

-- the number of retired addresses after that
abbrev pub retired_after : ℕ → ℕ → ℕ → ℕ
retired_after limit word retired = if nat_lt (colour_of word + 1) limit then retired else retired + 1

-- the room after that: a pair takes one
abbrev pub freed_room : ℕ → ℕ → ℕ → ℕ
freed_room limit word room = if nat_lt (colour_of word + 1) limit then room - 1 else room

-- the room after a pick: a pair gives it back
abbrev pub picked_room : List (ℕ × ℕ) → ℕ → ℕ
picked_room [] room = room
picked_room (pair ∷ rest) room = room + 1
