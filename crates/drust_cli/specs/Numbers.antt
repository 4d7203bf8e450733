-- The numbers of options (this project's rule): 1 to 20 decimal digits, in a range. Zeros in front count among the digits.
use Rattle.std.specs.Prelude.{ℕ, ◌&&◌, Bool, List, Option, Some, None, length, if◌then◌else◌, nat_le}
use Rattle.std.specs.List.{list_all}
use Rattle.std.specs.Str.Parse.{digits_value}

abbrev pub is_digit : ℕ → Bool
is_digit c = nat_le 48 c && nat_le c 57

-- 1 to 20 digits
abbrev pub is_number : List ℕ → Bool
is_number text = list_all is_digit text && (nat_le 1 (length text) && nat_le (length text) 20)

abbrev pub in_range : ℕ → ℕ → ℕ → Option ℕ
in_range low high n = if nat_le low n && nat_le n high then Some n else None

-- the number that the text spells, if it is one from low to high
abbrev pub number_of : List ℕ → ℕ → ℕ → Option ℕ
number_of text low high = if is_number text then in_range low high (digits_value 10 text) else None
