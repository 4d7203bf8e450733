-- Why a journal has no counts.
use Rattle.std.specs.Prelude.{◌≡◌, ℕ, ⊤, Option, Some}
use Rattle.coloured_heap.specs.declared.fault.LegalError.{LegalError}
use Rattle.coloured_heap.specs.declared.fault.LegalError.TheVariants.{IllegalAt, NoMemory}

-- the first entry that breaks a rule is the one that is named; want of memory may come at any time
abbrev pub Blames : LegalError → Option ℕ → Type 0
Blames (IllegalAt place) first = first ≡ Some place
Blames NoMemory first = ⊤
