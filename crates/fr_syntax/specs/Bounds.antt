-- How many there can be at most (this project's rule).
use Rattle.std.specs.Prelude.{ℕ, ◌+◌, ◌^◌}

-- names, nodes and variables, so that a 32-bit number names each
abbrev pub most_numbered : ℕ
most_numbered = 2 ^ 28

-- bytes of a source: a token makes two nodes at most
abbrev pub most_bytes : ℕ
most_bytes = 67108864

-- tokens: one for each byte, and the end
abbrev pub most_tokens : ℕ
most_tokens = most_bytes + 1
