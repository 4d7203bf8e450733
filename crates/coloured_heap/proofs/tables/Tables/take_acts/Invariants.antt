use Rattle.std.proofs.Common.{◌≡◌, drop}
use Rattle.coloured_heap.specs.Heap.{Coloured}
use Rattle.coloured_heap.specs.Legal.{acts_after}
use Rattle.coloured_heap.specs.Tables.{Shows}
use Rattle.coloured_heap.specs.contracts.keys.WishPartialEq.TheImpl.{eq-value}
use Rattle.coloured_heap.proofs.tables.Tables.take_acts.Given as goal

abbrev pub invariant-acts : goal.invariant-acts
invariant-acts l = (s : Coloured) → Shows eq-value.it l.fn.self s → (x : Coloured) × Shows eq-value.it l.self x × (acts_after l.options l.entry l.act-items s ≡ acts_after l.options l.entry (drop l.act-index l.act-items) x)
