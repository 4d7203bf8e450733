-- Why a text is refused.
use Rattle.std.specs.Prelude.{ℕ, List, ⊤}
use Rattle.journal.specs.declared.fault.OrderError.{OrderError}
use Rattle.journal.specs.declared.fault.OrderError.TheVariants.{BadOrder, NoMemory}
use Rattle.journal.specs.OrderText.{IsRefused}

-- the bytes from this place on are refused there, or there was no memory
abbrev pub IsRefusedOrNoMemory : ℕ → List ℕ → OrderError → Type 0
IsRefusedOrNoMemory place bytes (BadOrder fault) = IsRefused place bytes fault
IsRefusedOrNoMemory place bytes NoMemory = ⊤
