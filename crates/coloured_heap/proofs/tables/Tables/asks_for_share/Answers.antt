use Rattle.coloured_heap.proofs.tables.Tables.asks_for_share.Goals as goal

pub returns : goal.returns
returns c s h = (rw (c.mutex_key.ensures, c.number.ensures.number) at c.is_wished.ensures) s h
