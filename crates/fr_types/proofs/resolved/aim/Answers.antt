use Rattle.std.proofs.Common.{ap, ◌∙◌, sym, subst}
use Rattle.fr_typing.specs.Places.{AreBelow, piece_places}
use Rattle.fr_types.specs.Types.{piece_of}
use Rattle.fr_types.specs.Bases.{base, aimed, target}
use Rattle.fr_types.proofs.resolved.aim.Goals as goal

pub returns-in-Whole-clause-low : goal.returns-in-Whole-clause-low
returns-in-Whole-clause-low c = λ x h. c.aim_type.ensures.low x (subst (λ p. AreBelow x (piece_places (piece_of p))) c.in-Whole.is h)

pub returns-in-Whole-clause-aimed : goal.returns-in-Whole-clause-aimed
returns-in-Whole-clause-aimed c = λ n vs h k.
    c.aim_type.ensures.aimed n vs (subst (λ p. AreBelow n (piece_places (piece_of p))) c.in-Whole.is h) k
    ∙ ap (λ p. aimed (base vs) (target (piece_of p))) (sym c.in-Whole.is)
