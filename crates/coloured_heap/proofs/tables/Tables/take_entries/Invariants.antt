use Rattle.std.proofs.Common.{◌≡◌, drop}
use Rattle.coloured_heap.specs.Heap.{Coloured}
use Rattle.coloured_heap.specs.Legal.{illegal_from}
use Rattle.coloured_heap.specs.Tables.{Shows}
use Rattle.coloured_heap.specs.contracts.keys.WishPartialEq.TheImpl.{eq-value}
use Rattle.coloured_heap.proofs.tables.Tables.take_entries.Given as goal

abbrev pub invariant-entries : goal.invariant-entries
invariant-entries l = ((s : Coloured) → Shows eq-value.it l.fn.self s → (x : Coloured) × Shows eq-value.it l.self x × (illegal_from l.options s 0 l.entry-items ≡ illegal_from l.options x l.entry-index (drop l.entry-index l.entry-items))) × (l.place ≡ l.entry-index)
