use Rattle.std.proofs.Common.{ap}
use Rattle.fr_typing.specs.Kinds.{own, whole}
use Rattle.fr_typing.specs.Places.{star}
use Rattle.fr_types.specs.OwnedTypes.{owned_of}
use Rattle.fr_types.specs.Types.{kind_of}
use Rattle.fr_types.proofs.InsideLemmas.{inside_step}
use Rattle.fr_types.proofs.place.inside_type.Goals as goal

pub returns-in-Box-clause-part : goal.returns-in-Box-clause-part
returns-in-Box-clause-part c =
    inside_step c.inside_owned.result c.args.depth (whole (kind_of c.args.t.now)) (whole (own (owned_of c.in-Box.o))) c.if-depth-gt0.true
    (λ same look. ap (λ t. star same look (whole (kind_of t))) c.in-Box.is) c.inside_owned.ensures.left c.inside_owned.ensures.part

pub returns-in-View-clause-part : goal.returns-in-View-clause-part
returns-in-View-clause-part c =
    inside_step c.inside_owned-in-View.result c.args.depth (whole (kind_of c.args.t.now)) (whole (own (owned_of c.in-View.o))) c.if-depth-gt0-2.true
    (λ same look. ap (λ t. star same look (whole (kind_of t))) c.in-View.is) c.inside_owned-in-View.ensures.left c.inside_owned-in-View.ensures.part
