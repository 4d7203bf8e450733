use Rattle.coloured_heap.proofs.tables.Tables.send_share.Goals as goal

pub returns : goal.returns
returns c s h = (rw (c.mutex_key.ensures, c.number.ensures.number) at c.answer.ensures) s h
