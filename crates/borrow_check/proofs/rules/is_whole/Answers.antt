use Rattle.std.proofs.Common.{◌∙◌, refl, sym, ap}
use Rattle.fr_typing.specs.Checks.{is_whole}
use Rattle.fr_types.specs.Types.{piece_of}
use Rattle.fr_types.proofs.LookLemmas.{start_seen}
use Rattle.borrow_check.proofs.rules.is_whole.Goals as goal

pub returns : goal.returns
returns c = λ names.
    c.holds_whole.ensures ∙ sym (ap is_whole (start_seen names c.args.env.now c.args.slot (piece_of c.in-Some.part.now) (piece_of c.in-Some.part.now) c.requires.here c.in-Some.ensures.part refl))
