-- States of the code that are typed by a table (this project's rule).
use Rattle.std.specs.Prelude.{◌≡◌, Some}
use Rattle.fr_sound.specs.Entries.{Entry}
use Rattle.fr_sound.specs.States.{Typing, StateTypes}
use Rattle.fr_code.specs.Steps.{Place}
use Rattle.fr_code.specs.Machine.{CodeState}
use Rattle.fr_code.specs.CodeTypes.{Table}

-- the table has this entry at the thread's instruction
abbrev pub KnownAt : Table → Place → Entry → Type 0
KnownAt table p x = table p.pc ≡ Some x

-- what stands in the state has the types that the table has at the threads' instructions
abbrev pub CodeStateTypes : Table → Typing → CodeState → Type 0
CodeStateTypes table y a = StateTypes (KnownAt table) (λ (p : Place). p.temps) y a
