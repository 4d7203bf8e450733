use Rattle.coloured_heap.proofs.tables.Tables.send_object.Goals as goal

pub returns : goal.returns
returns c s h = c.change_object.ensures _ ((rw c.object_key.ensures at c.answer.ensures) s h)
