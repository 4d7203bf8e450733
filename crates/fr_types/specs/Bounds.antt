-- The limit of environments (this project's rule).
use Rattle.std.specs.Prelude.{ℕ}

-- how many slots an environment has at most, 2 ^ 28: a source has no more nodes
abbrev pub most_slots : ℕ
most_slots = 268435456
