use Rattle.std.proofs.Common.{◌∙◌, sym, ap}
use Rattle.fr_typing.specs.Kinds.{own, whole}
use Rattle.fr_typing.specs.Places.{found, star}
use Rattle.fr_types.specs.OwnedTypes.{owned_of}
use Rattle.fr_types.proofs.InsideLemmas.{inside_step}
use Rattle.fr_types.proofs.place.+inside_owned.Goals as goal

pub returns-in-Box-clause-part : goal.returns-in-Box-clause-part
returns-in-Box-clause-part t c =
    inside_step c.inside_owned.result c.args.depth (whole (own (owned_of c.args.o.now))) (whole (own (owned_of c.deref.result.now))) c.if-depth-gt0.true
    (λ same look. ap (λ o. star same look (whole (own (owned_of o)))) c.in-Box.is ∙ ap (λ o. found (whole (own (owned_of o)))) (sym c.deref.ensures))
    c.inside_owned.ensures.left c.inside_owned.ensures.part
