use Rattle.std.proofs.Common.{◌∙◌, sym, ap}
use Rattle.fr_typing.specs.Places.{found, star}
use Rattle.fr_types.specs.Types.{piece_of}
use Rattle.fr_types.proofs.InsideLemmas.{inside_step}
use Rattle.fr_types.proofs.place.+inside.Goals as goal

pub returns-in-Box-clause-part : goal.returns-in-Box-clause-part
returns-in-Box-clause-part t c =
    inside_step c.inside.result c.args.depth (piece_of c.args.part.now) (piece_of c.deref.result.now) c.if-depth-gt0.true
    (λ same look. ap (λ p. star same look (piece_of p)) c.in-Box.is ∙ ap (λ p. found (piece_of p)) (sym c.deref.ensures))
    c.inside.ensures.left c.inside.ensures.part
