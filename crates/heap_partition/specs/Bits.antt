-- Masks of 64 bits as a list of bits.
use Rattle.std.specs.Prelude.{ℕ, ◌*◌, ◌/◌, ◌%◌, Bool, List, length, map, ◌==◌, slice_index}
use Rattle.std.specs.List.{range_with_len}
use Rattle.std.specs.Int.{bit_at}

-- bit n of the masks, from the lowest bit of the first
abbrev pub bit_of : List ℕ → ℕ → Bool
bit_of masks n = bit_at (slice_index masks (n / 64)) (n % 64) == 1

unfoldable pub bits_of : List ℕ → List Bool
bits_of masks = map (bit_of masks) (range_with_len 0 (64 * length masks))
