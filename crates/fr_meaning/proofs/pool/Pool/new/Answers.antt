use Rattle.fr_syntax.specs.Meanings.{term_of}
use Rattle.fr_meaning.proofs.PoolLemmas.{root_starts}
use Rattle.fr_meaning.proofs.pool.Pool.new.Goals as goal

pub from_forms-requires-clause-typed : goal.from_forms-requires-clause-typed
from_forms-requires-clause-typed c =
    let h = c.forms_of.ensures.checked in
    root_starts c.in_ok-forms.forms.items (term_of c.args.checked.now.arena) h.checkable.block h.checkable.within.places h.typed c.in_ok-forms.ensures.root
