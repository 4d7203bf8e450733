-- The acts at mutexes.
use Rattle.std.specs.Prelude.{◌≡◌}
use Rattle.fr_base.specs.declared.place.Lval.{Lval}
use Rattle.fr_plain.specs.declared.value.Value.{Value}
use Rattle.fr_plain.specs.MachineActs.{Act, do_mutex, do_dup, do_lock, do_unlock}
use Rattle.law_plain_values.specs.acts.Positions.{Position}

-- a new mutex
abbrev pub IsMake : Act Position → Type 0
IsMake a = (v : Value) × (a ≡ do_mutex v)

-- one share more
abbrev pub IsDup : Act Position → Type 0
IsDup a = (w : Lval) × (a ≡ do_dup w)

-- a lock
abbrev pub IsLocking : Act Position → Type 0
IsLocking a = (w : Lval) × (a ≡ do_lock w)

-- an unlock
abbrev pub IsUnlocking : Act Position → Type 0
IsUnlocking a = a ≡ do_unlock
