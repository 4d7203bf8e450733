use Rattle.coloured_heap.proofs.tables.Tables.asks_for_copy.Goals as goal

pub returns : goal.returns
returns c s h = (rw c.object_key.ensures at c.is_wished.ensures) s h
