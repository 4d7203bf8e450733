use Rattle.std.proofs.Common.{arith}
use Rattle.fr_syntax.proofs.TreeLemmas.{length_meanings}
use Rattle.fr_forms.proofs.forming.captured_slot.Goals as goal

pub lval-requires : goal.lval-requires
lval-requires c = omega (arith, c.requires.here, length_meanings c.args.checked.now.arena)

pub takes-requires : goal.takes-requires
takes-requires c = omega (arith, c.requires.here, length_meanings c.args.checked.now.arena)
