use Rattle.coloured_heap.proofs.tables.Tables.grant.Goals as goal

pub returns : goal.returns
returns c s h = c.set_holder.ensures _ ((rw (c.mutex_key.ensures, c.number.ensures.number) at c.answer.ensures) s h)
