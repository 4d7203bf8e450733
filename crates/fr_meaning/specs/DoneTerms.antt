-- What a term that is done means.
use Rattle.fr_base.specs.declared.label.Plain.TheVariants as plain
use Rattle.fr_plain.specs.declared.value.Value.{Value}
use Rattle.fr_plain.specs.declared.value.Value.TheVariants.{Own}
use Rattle.fr_plain.specs.Acts.{unit}
use Rattle.fr_plain.specs.Run.{Run, temp, unit_c, number}
use Rattle.fr_meaning.specs.declared.frame.Done.{Done}
use Rattle.fr_meaning.specs.declared.frame.Done.TheVariants as done

-- a term that is done
abbrev pub over : Done → Run
over done.Unit = unit_c
over (done.Number n) = number n
over (done.Temp v) = temp v

abbrev pub value_of : Done → Value
value_of done.Unit = unit
value_of (done.Number n) = Own (plain.Int n)
value_of (done.Temp v) = v
