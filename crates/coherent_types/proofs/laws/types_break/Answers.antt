use Rattle.std.proofs.Common.{refl}
use Rattle.coherent_types.proofs.laws.types_break.Goals as goal

pub returns : goal.returns
returns c = record {
  agree = refl;
  forms = refl;
  locked = refl;
  marks = refl;
  held = refl;
  holders = refl;
  reborrowed = refl;
  elsewhere = refl;
  views = refl;
  ends = refl;
}
