-- The parts of a pointer word (this project's layout): a word is colour * 2^48 + server * 2^40 + address, with the server
-- below 2^8 and the address below 2^40.
use Rattle.std.specs.Prelude.{ℕ, ◌+◌, ◌*◌, ◌/◌, ◌%◌, ◌^◌}

-- the word of a colour, a server and an address
abbrev pub word_of : ℕ → ℕ → ℕ → ℕ
word_of colour server address = colour * 2 ^ 48 + server * 2 ^ 40 + address

abbrev pub colour_of : ℕ → ℕ
colour_of w = w / 2 ^ 48

-- server and address together, as one number
abbrev pub spot_of : ℕ → ℕ
spot_of w = w % 2 ^ 48

abbrev pub server_of : ℕ → ℕ
server_of w = spot_of w / 2 ^ 40

abbrev pub address_of : ℕ → ℕ
address_of w = w % 2 ^ 40

-- the same spot with the next colour
abbrev pub next_word : ℕ → ℕ
next_word w = w + 2 ^ 48
