-- The acts that change a thread's slots, or make an object.
use Rattle.std.specs.Prelude.{◌≡◌, true}
use Rattle.fr_base.specs.declared.place.Lval.{Lval}
use Rattle.fr_plain.specs.declared.value.Value.{Value}
use Rattle.fr_plain.specs.MachineActs.{Act, do_read, do_box}
use Rattle.law_plain_values.specs.acts.Positions.{Position}

-- a read that moves
abbrev pub IsMove : Act Position → Type 0
IsMove a = (w : Lval) × (a ≡ do_read w true)

-- `Box::new`
abbrev pub IsBox : Act Position → Type 0
IsBox a = (v : Value) × (a ≡ do_box v)
