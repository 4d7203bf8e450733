use Rattle.std.proofs.Common.{Option}
use Rattle.fr_types.specs.declared.types.O.{O}
use Rattle.borrow_check.specs.Heaps.{owned_in}
use Rattle.borrow_check.proofs.HeapLemmas.{if_ok_map, shared_sent}
use Rattle.borrow_check.proofs.captures.view.Goals as goal

pub returns-in-Shared : goal.returns-in-Shared
returns-in-Shared c = λ names.
    if_ok_map _ _ c.heap_type.result
    (λ (o : Option O) h at. shared_sent names c.args.env.now c.args.slot c.args.by c.args.t.now c.in-Shared.field-0 (owned_in o) c.in-Par.is c.in-Shared.is c.requires.nested c.requires.here h at)
    (c.heap_type.ensures names)
