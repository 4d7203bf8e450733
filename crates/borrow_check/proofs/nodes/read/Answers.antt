use Rattle.std.proofs.Common.{length, sym, subst}
use Rattle.std.specs.Prelude.{◌<◌}
use Rattle.fr_types.specs.Types.{kind_of}
use Rattle.borrow_check.proofs.RuleLemmas.{kind_below}
use Rattle.borrow_check.proofs.nodes.read.Goals as goal

pub returns-clause-below : goal.returns-clause-below
returns-clause-below c =
    kind_below c.in_ok-x.x.slot (length c.read_whole.new.env) (kind_of c.in_ok-x.t) (kind_of c.in_ok-t.t) c.in_ok-x.ensures.below
    (subst (λ n. c.in_ok-x.x.slot < n) (sym c.in_ok-t.ensures.same) c.in_ok-x.ensures.here) c.in_ok-t.ensures.kind
