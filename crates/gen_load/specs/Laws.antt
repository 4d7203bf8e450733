-- What holds of generated programs.
use Rattle.std.specs.Prelude.{ℕ, ◌<◌, ◌^◌, []}
use Rattle.fr_typing.specs.Kinds.{own, unit}
use Rattle.fr_typing.specs.Typing.{Types}
use Rattle.gen_load.specs.Programs.{program}

-- each one has a type, whatever its number and, below 2^64, its size
abbrev pub ProgramsAreTyped : Type 0
ProgramsAreTyped = (number size : ℕ) → size < 2 ^ 64 → Types [] (program number size) (own unit) []
