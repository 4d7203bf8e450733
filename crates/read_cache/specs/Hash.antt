-- The hash of a word (this project's own).
use Rattle.std.specs.Prelude.{ℕ, ◌*◌, ◌/◌, ◌-◌, ◌^◌, List, bit_and, bit_xor}
use Rattle.std.specs.Int.{from_le_bytes, w64}

-- the two halves of the 128 bits of the product, joined
unfoldable pub folded : ℕ → ℕ → ℕ
folded a b = bit_xor (bit_and (a * b) (2 ^ 64 - 1)) (a * b / 2 ^ 64)

-- the state that takes in a number
abbrev pub mixed : ℕ → ℕ → ℕ
mixed state number = folded (bit_xor state number) 0x9e37_79b9_7f4a_7c15

-- the state that takes in the first eight bytes, the lowest first
abbrev pub written : ℕ → List ℕ → ℕ
written state bytes = mixed state (from_le_bytes w64 bytes)
