use Rattle.std.proofs.Common.{◌≡◌, ◌^◌, ◌-◌, min, take}
use Rattle.fr_base.specs.Numbers.{number_value}
use Rattle.journal.proofs.cursor.number_of.Given as goal

abbrev pub invariant-loop-d : goal.invariant-loop-d
invariant-loop-d l = l.value ≡ min (number_value (take l.d-index l.text)) (2 ^ 64 - 1)
